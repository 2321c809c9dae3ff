-- A notice is sent only where a value changed: the reply compares the value before with the value after.
use mathlib.Core.Path.{◌≡◌, refl, sym, ap, ◌∙◌}
use mathlib.Core.Bool.{Bool, true, false, cond}
use mathlib.Core.List.{List, [], ◌∷◌}
use Prim.Native.Nat.{ℕ}
use native.Mathlib.Omega.{arith}
use lib.ListN.{length}
use Rattle.std.specs.Prelude.{Result, Ok, Err}
use Rattle.laws.specs.Bytes.{same}
use Rattle.laws.specs.Lists.{listed}
use Rattle.laws.proofs.Conditions.{false_true}
use Rattle.laws.proofs.Lists.{same_self}
use Rattle.panels.specs.declared.KRecord.{KRecord}
use Rattle.kjw_asks.specs.Frames.{letters_of}
use Rattle.kjw_values.specs.Values.{value_of}
use Rattle.kjw_asks.specs.Asks.{heard_of}
use Rattle.kjw.specs.Orders.{carried}
use Rattle.kjw.specs.Replies.{noticed, reply_of, decided, turn_of}
use Rattle.kjw_sets.specs.declared.State.{State}
use Rattle.kjw_sets.specs.declared.State.TheVariants.{Power, AudioMute, PictureMute, Volume, Input}
use Rattle.kjw_sets.specs.declared.Order.{Order}
use Rattle.kjw_sets.specs.declared.Order.TheVariants.{SetPower, TogglePower, SetAudioMute, ToggleAudioMute, SetPictureMute, TogglePictureMute, SetVolume, Louder, Softer, SetInput, SetScene, Pass, Ask}
use Rattle.kjw_asks.specs.declared.Fault.{Fault}
use Rattle.kjw_asks.specs.declared.Fault.TheVariants.{Refused, NotUnderstood}
use Rattle.kjw_tells.specs.declared.Reply.{Reply}
use Rattle.kjw_tells.specs.declared.Reply.TheVariants.{Silent, Rejected, Accepted, Changed, Value}
use Rattle.kjw_tells.proofs.Lengths.{length_of, bytes_length}
use Rattle.turns.specs.Turns.{Turn, taken}
use Rattle.turns.proofs.Turns.{either}

turned_length : (m : List ℕ) (k : KRecord) → length (turn_of m k).reply ≡ length_of (decided k (heard_of m)).reply
unfolding turn_of letters_of
turned_length m k = bytes_length (decided k (heard_of m)).reply (decided k (heard_of m)).k (letters_of m) refl

-- nothing, an answer, or an answer and a notice
pub reply_length : (m : List ℕ) (k : KRecord) → listed (0 ∷ 24 ∷ 48 ∷ []) (length (turn_of m k).reply) ≡ true
reply_length m k = ap (listed (0 ∷ 24 ∷ 48 ∷ [])) (turned_length m k) ∙ one_of (decided k (heard_of m)).reply
  where
    one_of : (r : Reply) → listed (0 ∷ 24 ∷ 48 ∷ []) (length_of r) ≡ true
    one_of Silent = refl
    one_of Rejected = refl
    one_of Accepted = refl
    one_of (Changed s) = refl
    one_of (Value s) = refl

-- a reply of 48 bytes tells a state whose value is not what it was
pub record Notice (k k' : KRecord) : Type 0 where
  pub state : State
  pub changed : value_of state k ≡ value_of state k' → ⊥

noticed_changed : (s : State) (k k' : KRecord) → length_of (noticed s k k') ≡ 48 → Notice k k'
unfolding noticed
noticed_changed s k k' = go (same (value_of s k) (value_of s k')) refl
  where
    go : (b : Bool) → same (value_of s k) (value_of s k') ≡ b → length_of (cond b Accepted (Changed s)) ≡ 48 → Notice k k'
    go true t e = absurd (omega arith)
    go false t e = record { state = s; changed = λ q. false_true (sym t ∙ ap (λ (v : List ℕ). same v (value_of s k')) q ∙ same_self (value_of s k')) }

reply_changed : (o : Order) (k k' : KRecord) → length_of (reply_of o k k') ≡ 48 → Notice k k'
unfolding reply_of
reply_changed (SetPower v) k k' e = noticed_changed Power k k' e
reply_changed TogglePower k k' e = noticed_changed Power k k' e
reply_changed (SetAudioMute v) k k' e = noticed_changed AudioMute k k' e
reply_changed ToggleAudioMute k k' e = noticed_changed AudioMute k k' e
reply_changed (SetPictureMute v) k k' e = noticed_changed PictureMute k k' e
reply_changed TogglePictureMute k k' e = noticed_changed PictureMute k k' e
reply_changed (SetVolume v) k k' e = noticed_changed Volume k k' e
reply_changed Louder k k' e = noticed_changed Volume k k' e
reply_changed Softer k k' e = noticed_changed Volume k k' e
reply_changed (SetInput kind port) k k' e = noticed_changed Input k k' e
reply_changed (SetScene v) k k' e = absurd (omega arith)
reply_changed Pass k k' e = absurd (omega arith)
reply_changed (Ask s) k k' e = absurd (omega arith)

turn_changed : (h : Result Order Fault) (k : KRecord) → length_of (decided k h).reply ≡ 48 → Notice k (decided k h).k
unfolding decided
turn_changed (Err (Refused a)) k e = absurd (omega arith)
turn_changed (Err NotUnderstood) k e = absurd (omega arith)
turn_changed (Ok o) k e = reply_changed o k (carried o k) e

pub notice_changed : (m : List ℕ) (k : KRecord) → length (turn_of m k).reply ≡ 48 → Notice k (turn_of m k).after
unfolding turn_of
notice_changed m k e = turn_changed (heard_of m) k (sym (turned_length m k) ∙ e)

-- so a panel that stays as it was has no notice
pub unchanged_silent : (m : List ℕ) (k : KRecord) → (turn_of m k).after ≡ k → length (turn_of m k).reply ≡ 48 → ⊥
unchanged_silent m k q e =
    let n = notice_changed m k e in
    n.changed (ap (value_of n.state) (sym q))

-- a panel that stays as it was has no notice
pub taken_silent : (room : ℕ) (m : List ℕ) (k : KRecord) → (taken room (turn_of m) k).after ≡ k → length (taken room (turn_of m) k).reply ≡ 48 → ⊥
taken_silent room m k = either (λ (t : Turn KRecord). t.after ≡ k → length t.reply ≡ 48 → ⊥) room (turn_of m) k (λ q e. omega arith) (unchanged_silent m k)
