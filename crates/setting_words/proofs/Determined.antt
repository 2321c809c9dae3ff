-- Each promise at the door allows one outcome: its equations have the same right sides.
use mathlib.Core.Path.{◌≡◌, sym, ◌∙◌}
use mathlib.Core.List.{List}
use Prim.Native.Nat.{ℕ}
use Rattle.std.specs.Prelude.{Option}
use Rattle.setting_words.specs.Names.{named_by, led_by, chosen_by}

pub named_one : (s : List ℕ) (r r' : Option ℕ) → r ≡ named_by s → r' ≡ named_by s → r ≡ r'
named_one s r r' p q = p ∙ sym q

pub led_one : (s : List ℕ) (r r' : Option ℕ) → r ≡ led_by s → r' ≡ led_by s → r ≡ r'
led_one s r r' p q = p ∙ sym q

pub chosen_one : (k : ℕ) (s : List ℕ) (r r' : Option ℕ) → r ≡ chosen_by k s → r' ≡ chosen_by k s → r ≡ r'
chosen_one k s r r' p q = p ∙ sym q
