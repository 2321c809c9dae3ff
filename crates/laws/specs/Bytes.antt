-- Bytes, texts, parts of a list, and bytes laid over an area.
use Rattle.std.specs.Prelude.{ℕ, ◌+◌, ◌<◌, ◌≡◌, Bool, true, false, cond, ◌&&◌, List, [], ◌∷◌, ◌++◌, length, get_or, take, drop, eqb, leb}
use Prim.Native.String.{String}
use Prim.Native.String.{[] as end, ◌∷◌ as then}
use Prim.Native.Char.{code}

-- every element is a byte
abbrev pub Bytes : List ℕ → Type 0
Bytes l = (i : ℕ) → get_or l i 0 < 256

-- the bytes of a text
abbrev pub ascii : String → List ℕ
ascii end = []
ascii (then c s) = code c ∷ ascii s

-- k elements from place n on
abbrev pub part : ℕ → ℕ → List ℕ → List ℕ
part n k l = take k (drop n l)

-- d with vs laid over it from place n on
abbrev pub over : List ℕ → ℕ → List ℕ → List ℕ
over d n vs = take n d ++ vs ++ drop (n + length vs) d

-- bytes laid over an area from a place on; an area too short for them is left as it is
unfoldable pub laid : List ℕ → ℕ → List ℕ → List ℕ
laid d n vs = cond (leb (n + length vs) (length d)) (over d n vs) d

-- "A reply fills the front of the area; bytes after it keep what they held."
abbrev pub sent : List ℕ → List ℕ → List ℕ
sent reply area = reply ++ drop (length reply) area

-- the same said of a call: n is the reply's length, and the area afterwards is the reply and what stood behind it
pub record Sent (reply : List ℕ) (n : ℕ) (area area' : List ℕ) : Type 0 where
  pub length_is : n ≡ length reply
  pub area_is : area' ≡ sent reply area

-- whether two lists are the same, byte for byte
abbrev pub same : List ℕ → List ℕ → Bool
same [] [] = true
same [] (y ∷ t) = false
same (x ∷ s) [] = false
same (x ∷ s) (y ∷ t) = eqb x y && same s t

-- whether s begins with p
abbrev pub begins : List ℕ → List ℕ → Bool
begins [] s = true
begins (x ∷ p) [] = false
begins (x ∷ p) (y ∷ s) = eqb x y && begins p s
