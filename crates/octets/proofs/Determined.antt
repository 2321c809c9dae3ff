-- Each promise at the door allows one outcome: its equations have the same right sides.
use mathlib.Core.Path.{◌≡◌, sym, ◌∙◌}
use mathlib.Core.Bool.{Bool}
use mathlib.Core.List.{List, [], ◌∷◌}
use Prim.Native.Nat.{ℕ, ◌≤◌}
use lib.Count.{ones}
use lib.Dec.{eqb}
use lib.ListN.{get_or}
use Rattle.laws.specs.Bytes.{laid}
use Rattle.laws.specs.Lists.{every, listed, within}
use Rattle.laws.specs.Numbers.{number, in_bytes}

pub all_are_one : (s : List ℕ) (b : ℕ) (r r' : Bool) → r ≡ every (eqb b) s → r' ≡ every (eqb b) s → r ≡ r'
all_are_one s b r r' p q = p ∙ sym q

pub is_listed_one : (l : List ℕ) (x : ℕ) (r r' : Bool) → r ≡ listed l x → r' ≡ listed l x → r ≡ r'
is_listed_one l x r r' p q = p ∙ sym q

pub are_within_one : (l m : List ℕ) (r r' : Bool) → r ≡ within l m → r' ≡ within l m → r ≡ r'
are_within_one l m r r' p q = p ∙ sym q

pub number2_one : (a b r r' : ℕ) → r ≡ number (a ∷ b ∷ []) → r' ≡ number (a ∷ b ∷ []) → r ≡ r'
number2_one a b r r' p q = p ∙ sym q

pub bytes2_one : (v : ℕ) (r r' : List ℕ) → r ≡ in_bytes 2 v → r' ≡ in_bytes 2 v → r ≡ r'
bytes2_one v r r' p q = p ∙ sym q

pub byte_at_one : (s : List ℕ) (i r r' : ℕ) → r ≡ get_or s i 0 → r' ≡ get_or s i 0 → r ≡ r'
byte_at_one s i r r' p q = p ∙ sym q

pub lay_one : (d s : List ℕ) (n : ℕ) (x x' : List ℕ) → x ≡ laid d n s → x' ≡ laid d n s → x ≡ x'
lay_one d s n x x' p q = p ∙ sym q

pub ones_of_one : (x r r' : ℕ) → (r ≡ ones x) × (r ≤ 8) → (r' ≡ ones x) × (r' ≤ 8) → r ≡ r'
ones_of_one x r r' p q = p.0 ∙ sym q.0
