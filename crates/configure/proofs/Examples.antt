-- Configurations by computation: good ones, and one for each rule that a configuration can break.
use Prim.Native.Nat.{ℕ}
use mathlib.Core.Path.{◌≡◌, refl}
use mathlib.Core.List.{List, [], ◌∷◌, ◌++◌}
use lib.ListN.{replicate, set}
use Rattle.terms.specs.declared.Answer.TheVariants.{Done}
use Rattle.panels.specs.Records.{family_w, family_k, zero_panel, start_w, start_k}
use Rattle.panels.specs.Valid.{ok_shift, ok_gain, ok_bias, ok_inputs, ok_balance, ok_w, ok_input, ok_k, ok_ids, zero_ids, ok_family, ok_panel, share, distinct, valid}
use Rattle.configure.specs.Configure.{fresh_panel, asked_at, asked, refusal, configured}
use Rattle.panels.specs.declared.DisplayBox.{DisplayBox}
use mathlib.Core.Bool.{true, false}
use lib.IntN.{pos, negsuc}
use Rattle.panels.specs.declared.Panel.{Panel}
use Rattle.panels.specs.declared.WRecord.{WRecord}

-- W 1 1, K 0 0, W 99 99: a box of start values, with zeros in the unused places
three : List ℕ
three = family_w ∷ 1 ∷ 1 ∷ family_k ∷ 0 ∷ 0 ∷ family_w ∷ 99 ∷ 99 ∷ []

three_box : DisplayBox
three_box = record { count = 3; panels = fresh_panel family_w 1 1 ∷ fresh_panel family_k 0 0 ∷ fresh_panel family_w 99 99 ∷ replicate 5 zero_panel }

three_made : configured three ≡ record { answer = Done; made = three_box }
unfolding three three_box configured asked asked_at valid ok_panel ok_family ok_ids zero_ids ok_w ok_k ok_input ok_inputs ok_balance ok_gain ok_bias ok_shift share distinct
three_made = refl

-- the rules one by one: no panel, nine panels, part of a panel, another family, IDs 0 and 100, a K panel with an ID, a shared pair
none_refused : configured [] ≡ refusal
unfolding configured asked valid
none_refused = refl

nine_refused : configured (three ++ (family_w ∷ 1 ∷ 2 ∷ family_w ∷ 1 ∷ 3 ∷ family_w ∷ 1 ∷ 4 ∷ family_w ∷ 1 ∷ 5 ∷ family_w ∷ 1 ∷ 6 ∷ family_w ∷ 1 ∷ 7 ∷ [])) ≡ refusal
unfolding three configured asked valid
nine_refused = refl

part_refused : configured (three ++ (family_w ∷ [])) ≡ refusal
unfolding three configured asked valid
part_refused = refl

family_refused : configured (7 ∷ 1 ∷ 1 ∷ []) ≡ refusal
unfolding configured asked asked_at valid ok_panel ok_family
family_refused = refl

group_zero_refused : configured (family_w ∷ 0 ∷ 1 ∷ []) ≡ refusal
unfolding configured asked asked_at valid ok_panel ok_family ok_ids
group_zero_refused = refl

unit_hundred_refused : configured (family_w ∷ 1 ∷ 100 ∷ []) ≡ refusal
unfolding configured asked asked_at valid ok_panel ok_family ok_ids
unit_hundred_refused = refl

k_with_id_refused : configured (family_k ∷ 0 ∷ 1 ∷ []) ≡ refusal
unfolding configured asked asked_at valid ok_panel ok_family zero_ids
k_with_id_refused = refl

shared_refused : configured (family_w ∷ 1 ∷ 2 ∷ family_w ∷ 1 ∷ 2 ∷ []) ≡ refusal
unfolding configured asked asked_at valid ok_panel ok_family ok_ids ok_w ok_inputs ok_balance ok_gain ok_bias ok_shift share distinct
shared_refused = refl

-- a group is not taken for a unit: 1/2 and 2/1 are two pairs
crossed_made : configured (family_w ∷ 1 ∷ 2 ∷ family_w ∷ 2 ∷ 1 ∷ []) ≡ record { answer = Done; made = record { count = 2; panels = fresh_panel family_w 1 2 ∷ fresh_panel family_w 2 1 ∷ replicate 6 zero_panel } }
unfolding configured asked asked_at valid ok_panel ok_family ok_ids ok_w ok_inputs ok_balance ok_gain ok_bias ok_shift share distinct
crossed_made = refl

-- boxes that a host may hand in: a count of 200, VOLUME 255 in use, and VOLUME 255 in an unused place
count_judged : valid (record { count = 200; panels = replicate 8 (fresh_panel family_w 1 1) }) ≡ false
unfolding valid
count_judged = refl

loud : WRecord
loud = record {
  settings = set start_w.settings 2 255;
  shifts = start_w.shifts;
  spare = 0;
  inputs = start_w.inputs;
  balance = start_w.balance;
}

loud_panel : Panel
loud_panel = record { family = family_w; group = record { 0 = 1 }; unit = record { 0 = 1 }; spare = 9; w = loud; k = start_k }

volume_judged : valid (record { count = 1; panels = loud_panel ∷ replicate 7 zero_panel }) ≡ false
unfolding loud loud_panel valid ok_panel ok_family ok_ids ok_w
volume_judged = refl

unused_free : valid (record { count = 1; panels = fresh_panel family_w 1 1 ∷ replicate 7 loud_panel }) ≡ true
unfolding loud loud_panel valid ok_panel ok_family ok_ids ok_w ok_inputs ok_balance ok_gain ok_bias ok_shift share distinct
unused_free = refl

-- the ends of the signed ranges
shift_low : ok_shift (negsuc 29) ≡ true
unfolding ok_shift
shift_low = refl

shift_lower : ok_shift (negsuc 30) ≡ false
unfolding ok_shift
shift_lower = refl

bias_low : ok_bias (negsuc 1023) ≡ true
unfolding ok_bias
bias_low = refl

bias_high : ok_bias (pos 1024) ≡ false
unfolding ok_bias
bias_high = refl
