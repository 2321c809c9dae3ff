-- The remote control's codes: the sixteen digits are read as one number, and the table says what its button asks.
use mathlib.Core.Path.{◌≡◌, refl, sym, ap, ◌∙◌}
use mathlib.Core.Bool.{Bool, true, false, cond, ◌&&◌}
use mathlib.Core.List.{List, [], ◌++◌, Memᴰ}
use Prim.Native.Nat.{ℕ, ◌≤◌}
use lib.ListN.{length}
use borrow.Author.Tests.{eq-eqb}
use Rattle.std.specs.Prelude.{Option, Some, None, Result, Ok, option_map, ok_or}
use Rattle.laws.specs.Bytes.{ascii, same}
use Rattle.laws.specs.Lists.{every, listed}
use Rattle.laws.proofs.Lists.{same_self}
use Rattle.terms.specs.declared.Answer.TheVariants.{Done}
use Rattle.terms.specs.declared.Answer.TheVariants as answers
use Rattle.turns.specs.Turns.{Turn, taken}
use Rattle.turns.proofs.Turns.{roomy}
use Rattle.decimals.specs.Decimals.{is_digit, decimal}
use Rattle.panels.specs.declared.KRecord.{KRecord}
use Rattle.remote.specs.Codes.{Code, codes, asked_in, button_of}
use Rattle.remote.specs.declared.Button.{Button}
use Rattle.remote.specs.declared.Button.TheVariants.{Idle, Louder, Softer, Mute, Picture, Power, Hdmi}
use Rattle.remote.proofs.Rules.{numbers, listed_asks, unlisted}
use Rattle.kjw_sets.specs.declared.State.{State}
use Rattle.kjw_sets.specs.declared.State.TheVariants as states
use Rattle.kjw_sets.specs.declared.Order.{Order}
use Rattle.kjw_asks.specs.declared.Fault.{Fault}
use Rattle.kjw_asks.specs.declared.Fault.TheVariants.{NotUnderstood}
use Rattle.kjw_sets.specs.Words.{state_letters}
use Rattle.kjw_codes.specs.Presses.{pressed, is_code, code_order}
use Rattle.kjw_asks.specs.Frames.{frame_of, type_control, type_answer, type_notice, letters_of}
use Rattle.kjw_asks.specs.Asks.{named_in, state_named, code_or_toggle, control_of, heard_of}
use Rattle.kjw_values.specs.Values.{value_of}
use Rattle.kjw_tells.specs.Texts.{accepted, rejected, bytes_of}
use Rattle.kjw_tells.specs.declared.Reply.TheVariants.{Accepted, Changed}
use Rattle.kjw.specs.Orders.{turned_over, louder, softer, with_power, with_amut, with_pmut, with_volume, with_input, carried}
use Rattle.kjw.specs.Replies.{noticed, reply_of, decided, turned, turn_of}
use Rattle.kjw.proofs.AskedBack.{heard_frame}

-- "IRCC controls, sixteen decimal digits"
abbrev pub code_frame : List ℕ → List ℕ
code_frame p = frame_of type_control (ascii "IRCC") p

abbrev answer : List ℕ → List ℕ
answer p = frame_of type_answer (ascii "IRCC") p

-- ---- what document 02 says of each button

-- "Volume Up and Down move by one and stop at 0 and 100; Mute flips AMUT; Picture Off flips PMUT; TV Power flips POWR; HDMI 1 to 4 choose
-- type 1 and that port. Other listed codes are answered and change nothing."
abbrev pub after_press : Button → KRecord → KRecord
after_press Idle k = k
after_press Louder k = with_volume (louder k.volume) k
after_press Softer k = with_volume (softer k.volume) k
after_press Mute k = with_amut (turned_over k.amut) k
after_press Picture k = with_pmut (turned_over k.pmut) k
after_press Power k = with_power (turned_over k.power) k
after_press (Hdmi port) k = with_input 1 port k

-- the state that a button can change
abbrev state_of : Button → Option State
state_of Idle = None
state_of Louder = Some states.Volume
state_of Softer = Some states.Volume
state_of Mute = Some states.AudioMute
state_of Picture = Some states.PictureMute
state_of Power = Some states.Power
state_of (Hdmi port) = Some states.Input

-- "A change is followed by the usual notice with the state's own letters."
abbrev notice : Option State → KRecord → KRecord → List ℕ
notice None k k' = []
notice (Some s) k k' = cond (same (value_of s k) (value_of s k')) [] (frame_of type_notice (state_letters s) (value_of s k'))

-- 0 with sixteen `0`, and a notice behind them
abbrev answered : KRecord → List ℕ → Turn KRecord
answered k' n = record { after = k'; answer = Done; reply = answer accepted ++ n }

-- what a button's code comes to
abbrev pub answered_as : Button → KRecord → Turn KRecord
answered_as b k = answered (after_press b k) (notice (state_of b) k (after_press b k))

-- 6 with sixteen F
abbrev pub refused_code : KRecord → Turn KRecord
refused_code k = record { after = k; answer = answers.NotUnderstood; reply = answer rejected }

-- ---- the reply to each button

with_notice : (s : State) (k k' : KRecord) → bytes_of (noticed s k k') k' (ascii "IRCC") ≡ answer accepted ++ notice (Some s) k k'
unfolding noticed bytes_of frame_of
with_notice s k k' = go (same (value_of s k) (value_of s k'))
  where
    go : (b : Bool)
        → bytes_of (cond b Accepted (Changed s)) k' (ascii "IRCC") ≡ answer accepted ++ cond b [] (frame_of type_notice (state_letters s) (value_of s k'))
    go true = refl
    go false = refl

replied : (s : State) (k k' : KRecord)
    → ◌≡◌ {A = Turn KRecord} (record { after = k'; answer = Done; reply = bytes_of (noticed s k k') k' (ascii "IRCC") }) (answered k' (notice (Some s) k k'))
replied s k k' = rw (with_notice s k k')

button_met : (b : Button) (k : KRecord) → turned (ascii "IRCC") (decided k (Ok (pressed b))) ≡ answered_as b k
unfolding decided carried reply_of bytes_of frame_of
button_met Idle k = refl
button_met Louder k = replied states.Volume k (after_press Louder k)
button_met Softer k = replied states.Volume k (after_press Softer k)
button_met Mute k = replied states.AudioMute k (after_press Mute k)
button_met Picture k = replied states.PictureMute k (after_press Picture k)
button_met Power k = replied states.Power k (after_press Power k)
button_met (Hdmi port) k = replied states.Input k (after_press (Hdmi port) k)

-- no change, no notice
none : (n : Option State) (k : KRecord) → notice n k k ≡ []
none None k = refl
none (Some s) k = rw (same_self (value_of s k))

quiet : (b : Button) (k : KRecord) → after_press b k ≡ k → answered_as b k ≡ answered k []
quiet b k e = ap (λ (k' : KRecord). answered k' (notice (state_of b) k k')) e ∙ ap (answered k) (none (state_of b) k)

-- ---- sixteen parameters behind IRCC, any panel, and any area that is long enough

module _ (p : List ℕ) (sixteen : length p ≡ 16) (room : ℕ) (enough : 512 ≤ room) (k : KRecord) where
  heard_code : heard_of (code_frame p) ≡ ok_or (code_order p) NotUnderstood
  unfolding control_of state_named named_in state_letters code_or_toggle
  heard_code = heard_frame type_control 73 82 67 67 p sixteen refl

  letters_code : letters_of (code_frame p) ≡ ascii "IRCC"
  unfolding letters_of frame_of
  letters_code = refl

  taken_code : (o : Option Order) → code_order p ≡ o → taken room (turn_of (code_frame p)) k ≡ turned (ascii "IRCC") (decided k (ok_or o NotUnderstood))
  unfolding turn_of
  taken_code o e =
      roomy room (turn_of (code_frame p)) k enough
      ∙ ap (λ (x : List ℕ). turned x (decided k (heard_of (code_frame p)))) letters_code
      ∙ ap (λ (x : Result Order Fault). turned (ascii "IRCC") (decided k x)) (heard_code ∙ ap (λ (x : Option Order). ok_or x NotUnderstood) e)

  -- "an unlisted code, or a parameter that isn't sixteen digits, is 6"
  pub code_refused : (every is_digit p && listed numbers (decimal p)) ≡ false → taken room (turn_of (code_frame p)) k ≡ refused_code k
  unfolding code_order is_code decided bytes_of
  code_refused e = taken_code None (rw (eq-eqb (length p) 16 sixteen) (go (every is_digit p) e))
    where
      go : (b : Bool) → (b && listed numbers (decimal p)) ≡ false → cond b (option_map pressed (button_of (decimal p))) None ≡ None
      go true f = ap (option_map pressed) (unlisted (decimal p) f)
      go false f = refl

  -- the parameters are digits
  module _ (digits : every is_digit p ≡ true) where
    -- the number that they write is a button's
    pub number_met : (b : Button) → button_of (decimal p) ≡ Some b → taken room (turn_of (code_frame p)) k ≡ answered_as b k
    unfolding code_order is_code
    number_met b e = let f : code_order p ≡ Some (pressed b) = rw (eq-eqb (length p) 16 sixteen, digits, e) in taken_code (Some (pressed b)) f ∙ button_met b k

    -- "every code in document 003's table"
    pub code_met : (c : Code) → Memᴰ c codes → decimal p ≡ c.code → taken room (turn_of (code_frame p)) k ≡ answered_as c.asks k
    code_met c m n = number_met c.asks (ap button_of n ∙ listed_asks c m)

    -- where the panel stays as it was, the answer comes alone
    pub unchanged_quiet : (c : Code) → Memᴰ c codes → decimal p ≡ c.code → after_press c.asks k ≡ k → taken room (turn_of (code_frame p)) k ≡ answered k []
    unchanged_quiet c m n u = code_met c m n ∙ quiet c.asks k u

    -- "Other listed codes are answered and change nothing."
    pub idle_leaves : (c : Code) → Memᴰ c codes → decimal p ≡ c.code → c.asks ≡ Idle → taken room (turn_of (code_frame p)) k ≡ answered k []
    idle_leaves c m n i = unchanged_quiet c m n (ap (λ (b : Button). after_press b k) i)

    -- "stop at 0 and 100": there Volume Up and Volume Down change nothing, so they have no notice
    pub at_the_stop : (decimal p ≡ 30 → k.volume ≡ 100 → taken room (turn_of (code_frame p)) k ≡ answered k []) × (decimal p ≡ 31 → k.volume ≡ 0 → taken room (turn_of (code_frame p)) k ≡ answered k [])
    unfolding button_of asked_in louder softer
    at_the_stop =
        let stops : (b : Button) → button_of (decimal p) ≡ Some b → after_press b k ≡ k → taken room (turn_of (code_frame p)) k ≡ answered k [] = λ b e u. number_met b e ∙ quiet b k u in (
          λ n v. stops Louder (ap button_of n) (ap (λ (x : ℕ). with_volume x k) (ap louder v ∙ sym v)),
          λ n v. stops Softer (ap button_of n) (ap (λ (x : ℕ). with_volume x k) (ap softer v ∙ sym v)),
        )
