-- A valid record stays valid: what an understood packet orders is in its range.
use mathlib.Core.Path.{◌≡◌, refl}
use mathlib.Core.Bool.{true}
use mathlib.Core.List.{List}
use Prim.Native.Nat.{ℕ}
use Rattle.std.specs.Prelude.{Option, Some, None}
use Rattle.turns.specs.Turns.{Turn, taken}
use Rattle.turns.proofs.Turns.{either}
use Rattle.panels.specs.Valid.{ok_w}
use Rattle.panels.specs.declared.WRecord.{WRecord}
use Rattle.vmc_asks.specs.declared.Order.{Order}
use Rattle.vmc_asks.specs.Asks.{read_data}
use Rattle.vmc.proofs.Validity.{carried_valid}
use Rattle.sdcp_asks.specs.Asks.{data_of, in_words, Heard}
use Rattle.sdcp.specs.Replies.{turned, turn_of}
-- ---- a valid record stays valid
use Rattle.sdcp_asks.proofs.Envelopes.{by_rungs}

-- what was heard leaves or makes a valid record
abbrev Keeps : List ℕ → WRecord → Heard → Type 0
Keeps m w h = ok_w w ≡ true → ok_w (turned m h w).after ≡ true

words_keep : (m d : List ℕ) (w : WRecord) (x : Option Order) → read_data d ≡ x → Keeps m w (in_words x)
unfolding turned
words_keep m d w (Some o) e v = carried_valid d o w e v
words_keep m d w None e v = v

pub turned_valid : (m : List ℕ) (w : WRecord) → ok_w w ≡ true → ok_w (turn_of m w).after ≡ true
unfolding turned
turned_valid m w = by_rungs (Keeps m w) m (λ v. v) (λ v. v) (λ h p e v. v) (λ h. words_keep m (data_of m) w (read_data (data_of m)) refl)

-- whatever the packet and the area
pub stays_valid : (room : ℕ) (m : List ℕ) (w : WRecord) → ok_w w ≡ true → ok_w (taken room (turn_of m) w).after ≡ true
stays_valid room m w v = either (λ (t : Turn WRecord). ok_w t.after ≡ true) room (turn_of m) w v (turned_valid m w v)
