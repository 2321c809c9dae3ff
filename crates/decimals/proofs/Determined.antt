-- Each promise at the door allows one outcome: its equations have the same right sides.
use mathlib.Core.Path.{◌≡◌, sym, ◌∙◌}
use mathlib.Core.List.{List}
use Prim.Native.Nat.{ℕ, ◌+◌, ◌/◌, ◌%◌, ◌^◌}
use Rattle.decimals.specs.Decimals.{in_digits, read_digits, up_to, spelled}
use Rattle.decimals.specs.Plain.{width}
use Rattle.std.specs.Prelude.{Option, take}
use Rattle.decimals.specs.declared.Text.{Text}

pub read_digits_one : (p : List ℕ) (r r' : Option ℕ) → r ≡ read_digits p → r' ≡ read_digits p → r ≡ r'
read_digits_one p r r' e f = e ∙ sym f

pub plain_number_one : (s : List ℕ) (most : ℕ) (r r' : Option ℕ) → r ≡ up_to most s → r' ≡ up_to most s → r ≡ r'
plain_number_one s most r r' e f = e ∙ sym f

pub digits4_one : (v : ℕ) (r r' : List ℕ) → r ≡ in_digits 4 v → r' ≡ in_digits 4 v → r ≡ r'
digits4_one v r r' e f = e ∙ sym f

pub numeral_of_one : (v : ℕ) (r r' : Text 3) → r ≡ spelled v → r' ≡ spelled v → r ≡ r'
numeral_of_one v r r' e f = e ∙ sym f

pub as_slice_one : {n : ℕ} (t : Text n) (r r' : List ℕ) → r ≡ take t.len t.bytes → r' ≡ take t.len t.bytes → r ≡ r'
as_slice_one t r r' e f = e ∙ sym f

pub width_of_one : (v r r' : ℕ) → r ≡ width v → r' ≡ width v → r ≡ r'
width_of_one v r r' e f = e ∙ sym f

pub digit_at_one : (v n r r' : ℕ) → r ≡ 0x30 + v / 10 ^ n % 10 → r' ≡ 0x30 + v / 10 ^ n % 10 → r ≡ r'
digit_at_one v n r r' e f = e ∙ sym f
