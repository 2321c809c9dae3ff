-- The house's words for lists are the library's under other names: each pair goes down the same lists by the same tests.
use Rattle.std.proofs.Common.{ℕ, ◌≡◌, refl, sym, ap, ◌∙◌, Bool, ◌&&◌, List, [], ◌∷◌, ◌+◌, ◌≤◌, length, nat_eq, eqb, arith}
use Rattle.std.specs.Cmp.{nat_eq_equiv}
use Rattle.std.specs.Cmp.Lexicographic.{pointwise}
use Rattle.std.specs.Int.{from_be_bytes, to_be_bytes}
use Rattle.std.proofs.Common.{w16, w32}
use native.Mathlib.Nat.{div-one}
use Rattle.laws.specs.Numbers.{number, in_bytes}
use Rattle.std.specs.List.{list_all, list_any, starts_with}
use Rattle.std.proofs.lemmas.Slice.{put_mid-paste}
use borrow.Rule.Slice.PartMut.{put_mid}
use Rattle.laws.specs.Bytes.{same, begins, laid}
use Rattle.laws.specs.Lists.{every, listed}
use Rattle.laws.proofs.Areas.{laid_fits, paste_whole}

-- `s.iter().all(f)`
pub every_all : {A : Type 0} (f : A → Bool) (l : List A) → list_all f l ≡ every f l
every_all f [] = refl
every_all f (x ∷ l) = ap (λ (b : Bool). f x && b) (every_all f l)

-- `a == b` at bytes
pub same_pointwise : (l m : List ℕ) → pointwise nat_eq l m ≡ same l m
same_pointwise [] [] = refl
same_pointwise [] (y ∷ m) = refl
same_pointwise (x ∷ l) [] = refl
same_pointwise (x ∷ l) (y ∷ m) = ap (λ (b : Bool). eqb x y && b) (same_pointwise l m)

-- `s.starts_with(p)` at bytes
pub begins_starts : (p s : List ℕ) → starts_with nat_eq s p ≡ begins p s
begins_starts [] s = refl
begins_starts (x ∷ p) [] = refl
begins_starts (x ∷ p) (y ∷ s) = ap (λ (b : Bool). eqb x y && b) (begins_starts p s)

-- `l.contains(&x)`
pub listed_any : (l : List ℕ) (x : ℕ) → list_any (λ (y : ℕ). nat_eq y x) l ≡ listed l x
listed_any [] x = refl
listed_any (y ∷ l) x = rw (nat_eq_equiv.symm y x, listed_any l x) refl

-- `d[at..at + s.len()].copy_from_slice(s)`, where that part lies in d
pub laid_copied : (d : List ℕ) (at k : ℕ) (s v : List ℕ) → at + length s ≤ length d → k ≡ length s → v ≡ s → put_mid at k d v ≡ laid d at s
laid_copied d at k s v room n e =
    paste_whole d at s k _ (omega (arith, n)) (omega (arith, n)) (put_mid-paste at k d v s k e refl n) ∙ sym (laid_fits d at s room)

-- `u16::from_be_bytes`, `u32::from_be_bytes`
pub number_two : (a b : ℕ) → from_be_bytes w16 (a ∷ b ∷ []) ≡ number (a ∷ b ∷ [])
unfolding number
number_two a b = omega arith

pub number_four : (a b c d : ℕ) → from_be_bytes w32 (a ∷ b ∷ c ∷ d ∷ []) ≡ number (a ∷ b ∷ c ∷ d ∷ [])
unfolding number
number_four a b c d = omega arith

-- `v.to_be_bytes()` at a u16 and at a u32
pub in_two_bytes : (v : ℕ) → to_be_bytes w16 v ≡ in_bytes 2 v
unfolding in_bytes
in_two_bytes v = rw div-one

pub in_four_bytes : (v : ℕ) → to_be_bytes w32 v ≡ in_bytes 4 v
unfolding in_bytes
in_four_bytes v = rw div-one
