-- Document 01, "RS-232C (002, 004)": what 40h does to a W panel's white balance.
use Rattle.std.specs.Prelude.{ℕ, zero, suc, ◌-◌, ◌/◌, ◌%◌, cond, List, [], ◌∷◌, eqb, ltb, get_or, take, drop, ℤ, pos, negsuc, Option, Some, None}
use Rattle.panels.specs.declared.Balance.{Balance}

-- ---- 40h: "Mask bits 0 to 5 (house): R, G, B gain, R, G, B bias."
-- what a frame says of one of these six: a value, or nothing
abbrev pub Say : Type 0
Say = Option ℕ

-- "Values follow from the lowest marked bit up": what is said of n places, by a mask and its values
unfoldable pub decode : ℕ → ℕ → List ℕ → List Say
decode zero mask vs = []
decode (suc n) mask vs =
    cond (eqb (mask % 2) 1) (Some (get_or vs 0 0) ∷ decode n (mask / 2) (drop 1 vs)) (None ∷ decode n (mask / 2) vs)

-- "A gain is taken modulo 4096."
abbrev pub gain_of : ℕ → ℕ
gain_of v = v % 4096

-- "A bias is taken modulo 2048, and 1024 or more has 2048 subtracted: -1024 to 1023."
abbrev pub wrapped : ℕ → ℤ
wrapped r = cond (ltb r 1024) (pos r) (negsuc (2047 - r))

abbrev pub bias_of : ℕ → ℤ
bias_of v = wrapped (v % 2048)

abbrev pub put : {A : Type 0} → (ℕ → A) → Say → A → A
put f None old = old
put f (Some v) old = f v

-- each place by what is said of it
abbrev pub puts : {A : Type 0} → (ℕ → A) → List Say → List A → List A
puts f ss [] = []
puts f [] (x ∷ xs) = x ∷ xs
puts f (s ∷ ss) (x ∷ xs) = put f s x ∷ puts f ss xs

unfoldable pub balanced_by : ℕ → List ℕ → Balance → Balance
balanced_by mask vs b = record {
  gains = puts gain_of (take 3 (decode 6 mask vs)) b.gains;
  biases = puts bias_of (drop 3 (decode 6 mask vs)) b.biases;
}
