-- Document 02, §1: the bytes that a TCP link delivers, and where a packet stands in them.
use Rattle.std.specs.Prelude.{ℕ, zero, suc, ◌+◌, Bool, true, cond, ◌&&◌, List, [], ◌∷◌, length, drop, eqb, ltb, Option, None, Some}
use Rattle.sdcp_asks.specs.Asks.{front, data_length_of}

-- two byte strings are the same as far as both go
unfoldable pub agrees : List ℕ → List ℕ → Bool
agrees [] m = true
agrees (x ∷ l) [] = true
agrees (x ∷ l) (y ∷ m) = eqb x y && agrees l m

-- "the next bytes can begin 03h 0Bh "SONY""
abbrev pub can_begin : List ℕ → Bool
can_begin l = agrees l front

-- "It drops bytes one by one until the next bytes can begin 03h 0Bh "SONY"": so many
unfoldable pub noise : List ℕ → ℕ
noise [] = 0
noise (x ∷ l) = cond (can_begin (x ∷ l)) 0 (suc (noise l))

-- what stands behind the noise
abbrev pub sought : List ℕ → List ℕ
sought l = drop (noise l) l

-- "With a length over 499 just those 13 bytes are handed out as a message [..]. Other packets are handed out whole, addressed or not."
unfoldable pub size_of : ℕ → ℕ
size_of n = cond (ltb 499 n) 13 (13 + n)

abbrev pub size : List ℕ → ℕ
size l = size_of (data_length_of l)

-- "with 13 bytes it knows the length": how much stands whole at the front, 0 where it is not whole yet
unfoldable pub whole : List ℕ → ℕ
whole l = cond (ltb (length l) 13) 0 (cond (ltb (length l) (size l)) 0 (size l))

-- the same as the code says it: a length, or none
abbrev pub counted : ℕ → Option ℕ
counted zero = None
counted (suc n) = Some (suc n)
