-- STATget's words, put behind `STATset `, set the value that they tell, and end bare: computed for every setting and every value it
-- may hold.
use Prim.Native.Nat.{ℕ, ◌+◌, ◌<◌, ◌≤◌}
use mathlib.Core.Path.{◌≡◌, refl, ap, subst, ◌∙◌}
use mathlib.Core.Bool.{Bool, true, false, not, ◌&&◌, ◌||◌}
use mathlib.Core.List.{List, ◌++◌}
use native.Mathlib.Omega.{arith}
use lib.Dec.{T, eqb, leb, eqb→eq}
use borrow.Author.Tests.{leb-true, ne_eqb}
use lib.ListN.{get_or}
use lib.IntN.{ℤ, pos, negsuc}
use Rattle.std.specs.Prelude.{Option, Some, None}
use Rattle.laws.specs.Bytes.{ascii, begins}
use Rattle.laws.specs.Lists.{every_below}
use Rattle.laws.proofs.Table.{below, sure, and_left, and_right}
use Rattle.decimals.specs.Decimals.{is_digit, decimal, leads_zero, is_numeral, up_to, in_digits, numeral}
use Rattle.panels.specs.Valid.{ok_shift}
use Rattle.laws.proofs.Conditions.{and_first}
use Rattle.settings.specs.Table.{most_shift, name_count, setting_count, tops}
use Rattle.setting_texts.specs.Names.{name_of, lead_of}
use Rattle.setting_words.specs.Names.{named_by, led_by, chosen_by}
use Rattle.trimming.proofs.Trimmed.{ends_bare, bare_trimmed}
use Rattle.vmc_asks.specs.Asks.{shift_order, value_order, read_set, read_get, read_words, read_data}
use Rattle.vmc_tells.specs.Texts.{value_words, shift_words, set_words, move_words}
use Rattle.vmc_asks.specs.declared.Order.{Order}
use Rattle.vmc_asks.specs.declared.Order.TheVariants.{Set, Shift, Reset, Get}

-- words that order o as they stand, and end with neither a space nor 00h
pub record Phrase (t : List ℕ) (o : Order) : Type 0 where
  pub orders : read_words t ≡ Some o
  pub ends_bare_holds : ends_bare t ≡ true

-- nothing is taken off such words
pub read_back : (t : List ℕ) (o : Order) → Phrase t o → read_data t ≡ Some o
unfolding read_data
read_back t o p = ap read_words (bare_trimmed t p.ends_bare_holds) ∙ p.orders

-- a computed test of words is one of both
both : (t : List ℕ) (o : Order) (f : Option Order → Bool) → ((x : Option Order) → T (f x) → x ≡ Some o) → T (f (read_words t) && ends_bare t) → Phrase t o
both t o f g h = record { orders = g (read_words t) (and_left (f (read_words t)) (ends_bare t) h); ends_bare_holds = sure (ends_bare t) (and_right (f (read_words t)) (ends_bare t) h) }

-- two signed numbers are the same
same_z : ℤ → ℤ → Bool
same_z (pos a) (pos b) = eqb a b
same_z (pos a) (negsuc b) = false
same_z (negsuc a) (pos b) = false
same_z (negsuc a) (negsuc b) = eqb a b

same_z_lem : (y z : ℤ) → T (same_z y z) → y ≡ z
unfolding same_z
same_z_lem (pos a) (pos b) t = ap pos (eqb→eq a b t)
same_z_lem (pos a) (negsuc b) t = absurd t
same_z_lem (negsuc a) (pos b) t = absurd t
same_z_lem (negsuc a) (negsuc b) t = ap negsuc (eqb→eq a b t)

is_set : ℕ → ℕ → Option Order → Bool
is_set k v (Some (Set j x)) = eqb j k && eqb x v
is_set k v (Some (Shift j z)) = false
is_set k v (Some Reset) = false
is_set k v (Some (Get j)) = false
is_set k v None = false

sets_back : ℕ → ℕ → Bool
sets_back k v = is_set k v (read_words (ascii "STATset " ++ set_words k v)) && ends_bare (ascii "STATset " ++ set_words k v)

all_set_back : ℕ → Bool
all_set_back k = every_below (get_or tops k 0 + 1) (sets_back k)

is_set_lem : (k v : ℕ) (o : Option Order) → T (is_set k v o) → o ≡ Some (Set k v)
unfolding is_set
is_set_lem k v (Some (Set j x)) t = ap (λ (y : ℕ). Some (Set y x)) (eqb→eq j k (and_left (eqb j k) (eqb x v) t)) ∙ ap (λ (y : ℕ). Some (Set k y)) (eqb→eq x v (and_right (eqb j k) (eqb x v) t))
is_set_lem k v (Some (Shift j z)) t = absurd t
is_set_lem k v (Some Reset) t = absurd t
is_set_lem k v (Some (Get j)) t = absurd t
is_set_lem k v None t = absurd t

-- the words that set a value are the order to set it
pub set_back : (k v : ℕ) → k < setting_count → v ≤ get_or tops k 0 → Phrase (ascii "STATset " ++ set_words k v) (Set k v)
unfolding is_set sets_back all_set_back read_words ends_bare read_set value_order up_to is_numeral leads_zero is_digit decimal in_digits numeral led_by chosen_by set_words value_words
set_back k v h l = both _ (Set k v) (is_set k v) (is_set_lem k v) (below (get_or tops k 0 + 1) (sets_back k) (below setting_count all_set_back tt k h) v (omega arith))

-- a shift, as its sign and its size less one below 0
is_shift : ℕ → ℤ → Option Order → Bool
is_shift axis z (Some (Set j x)) = false
is_shift axis z (Some (Shift j y)) = eqb j axis && same_z y z
is_shift axis z (Some Reset) = false
is_shift axis z (Some (Get j)) = false
is_shift axis z None = false

is_shift_lem : (axis : ℕ) (z : ℤ) (o : Option Order) → T (is_shift axis z o) → o ≡ Some (Shift axis z)
unfolding is_shift
is_shift_lem axis z (Some (Set j x)) t = absurd t
is_shift_lem axis z (Some (Shift j y)) t = ap (λ (n : ℕ). Some (Shift n y)) (eqb→eq j axis (and_left (eqb j axis) (same_z y z) t)) ∙ ap (λ (n : ℤ). Some (Shift axis n)) (same_z_lem y z (and_right (eqb j axis) (same_z y z) t))
is_shift_lem axis z (Some Reset) t = absurd t
is_shift_lem axis z (Some (Get j)) t = absurd t
is_shift_lem axis z None t = absurd t

moves_back : (ℕ → ℤ) → ℕ → ℕ → Bool
moves_back f axis n = is_shift axis (f n) (read_words (ascii "STATset " ++ move_words (setting_count + axis) (f n))) && ends_bare (ascii "STATset " ++ move_words (setting_count + axis) (f n))

-- every size of one sign, on both axes
all_move_back : (ℕ → ℤ) → ℕ → ℕ → Bool
all_move_back f sizes axis = every_below sizes (moves_back f axis)

pub move_back : (axis : ℕ) (z : ℤ) → axis < 2 → ok_shift z ≡ true → Phrase (ascii "STATset " ++ move_words (setting_count + axis) z) (Shift axis z)
unfolding ok_shift same_z is_shift moves_back all_move_back read_words ends_bare read_set value_order up_to is_numeral leads_zero is_digit decimal in_digits numeral led_by chosen_by shift_order move_words shift_words
move_back axis (pos n) h e = let l = leb-true n 30 e in both _ (Shift axis (pos n)) (is_shift axis (pos n)) (is_shift_lem axis (pos n)) (below 31 (moves_back pos axis) (below 2 (all_move_back pos 31) tt axis h) n (omega arith))
move_back axis (negsuc n) h e = let l = leb-true n 29 (and_first (leb n 29) true e) in both _ (Shift axis (negsuc n)) (is_shift axis (negsuc n)) (is_shift_lem axis (negsuc n)) (below 30 (moves_back negsuc axis) (below 2 (all_move_back negsuc 30) tt axis h) n (omega arith))

-- a shift may stand without its plus
plain_back : ℕ → ℕ → Bool
plain_back axis n = is_shift axis (pos n) (read_words (ascii "STATset " ++ lead_of (setting_count + axis) ++ numeral n)) && ends_bare (ascii "STATset " ++ lead_of (setting_count + axis) ++ numeral n)

all_plain_back : ℕ → Bool
all_plain_back axis = every_below 31 (plain_back axis)

pub plain_back_lem : (axis n : ℕ) → axis < 2 → n ≤ most_shift → Phrase (ascii "STATset " ++ lead_of (setting_count + axis) ++ numeral n) (Shift axis (pos n))
unfolding same_z is_shift plain_back all_plain_back read_words ends_bare read_set value_order up_to is_numeral leads_zero is_digit decimal in_digits numeral led_by chosen_by shift_order
plain_back_lem axis n h l = both _ (Shift axis (pos n)) (is_shift axis (pos n)) (is_shift_lem axis (pos n)) (below 31 (plain_back axis) (below 2 all_plain_back tt axis h) n (omega arith))

pub reset_back : Phrase (ascii "STATset RESET") Reset
unfolding read_words ends_bare read_set
reset_back = record { orders = refl; ends_bare_holds = refl }

-- each name asks for its value
is_get : ℕ → Option Order → Bool
is_get k (Some (Set j x)) = false
is_get k (Some (Shift j z)) = false
is_get k (Some Reset) = false
is_get k (Some (Get j)) = eqb j k
is_get k None = false

is_get_lem : (k : ℕ) (o : Option Order) → T (is_get k o) → o ≡ Some (Get k)
unfolding is_get
is_get_lem k (Some (Set j x)) t = absurd t
is_get_lem k (Some (Shift j z)) t = absurd t
is_get_lem k (Some Reset) t = absurd t
is_get_lem k (Some (Get j)) t = ap (λ (n : ℕ). Some (Get n)) (eqb→eq j k t)
is_get_lem k None t = absurd t

asks_back : ℕ → Bool
asks_back k = is_get k (read_words (ascii "STATget " ++ name_of k)) && ends_bare (ascii "STATget " ++ name_of k)

pub get_back : (k : ℕ) → k < name_count → Phrase (ascii "STATget " ++ name_of k) (Get k)
unfolding is_get asks_back read_words ends_bare read_get named_by
get_back k h = both _ (Get k) (is_get k) (is_get_lem k) (below name_count asks_back tt k h)

-- no name, with what parts it from its value, begins another
apart : ℕ → ℕ → Bool
apart k j = eqb j k || not (begins (lead_of j) (lead_of k))

all_apart : ℕ → Bool
all_apart k = every_below name_count (apart k)

pub none_begins : (k j : ℕ) → k < name_count → j < name_count → (j ≡ k → ⊥) → begins (lead_of j) (lead_of k) ≡ false
unfolding apart all_apart
none_begins k j h l d = other (begins (lead_of j) (lead_of k)) (subst (λ (b : Bool). T (b || not (begins (lead_of j) (lead_of k)))) (ne_eqb j k d) (below name_count (apart k) (below name_count all_apart tt k h) j l))
  where
    other : (b : Bool) → T (not b) → b ≡ false
    other true t = absurd t
    other false t = refl
