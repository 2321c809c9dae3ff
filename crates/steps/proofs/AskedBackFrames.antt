-- KJW: what was said to be done is kept at the panel of the link, since that panel takes the turn that kjw's theorems are about.
use Prim.Native.Nat.{ℕ, suc, ◌≤◌}
use mathlib.Core.Path.{◌≡◌, refl, sym, ap, ◌∙◌}
use mathlib.Core.Bool.{true}
use mathlib.Core.List.{List, Memᴰ}
use lib.ListN.{length}
use borrow.Author.Tests.{eq-eqb}
use Rattle.std.specs.Prelude.{Some}
use Rattle.laws.specs.Bytes.{ascii}
use Rattle.laws.specs.Lists.{every}
use Rattle.decimals.specs.Decimals.{is_digit, decimal, in_digits}
use Rattle.terms.specs.declared.Answer.TheVariants.{Done}
use Rattle.turns.specs.Turns.{Turn, taken}
use Rattle.turns.proofs.Turns.{roomy}
use Rattle.panels.specs.declared.Panel.{Panel}
use Rattle.panels.specs.declared.KRecord.{KRecord}
use Rattle.panels.specs.declared.DisplayBox.{DisplayBox}
use Rattle.kjw_asks.specs.Frames.{frame_of, type_control, type_enquiry, type_answer, blank}
use Rattle.kjw_sets.specs.Words.{state_letters}
use Rattle.kjw_values.specs.Values.{value_of}
use Rattle.remote.specs.Codes.{Code, codes, asked_in, button_of}
use Rattle.remote.specs.declared.Button.{Button}
use Rattle.remote.specs.declared.Button.TheVariants.{Louder, Mute}
use Rattle.remote.proofs.Rules.{listed_asks}
use Rattle.kjw.specs.Orders.{turned_over, louder, with_power, with_amut, with_pmut}
use Rattle.kjw.specs.Replies.{turn_of}
use Rattle.kjw_sets.specs.declared.State.{State}
use Rattle.kjw_sets.specs.declared.State.TheVariants.{Volume}
use Rattle.kjw.proofs.AskedBack.{taken_kept, asked_reply, toggled_power, toggled_picture}
use Rattle.kjw.proofs.Codes.{code_frame, after_press, number_met}
use Rattle.steps.specs.Messages.{Message, kjw}
use Rattle.steps.specs.Addressing.{target, addressed}
use Rattle.steps.specs.Step.{turn, back_on, panel_at, step}
use Rattle.steps.specs.Run.{run}
use Rattle.steps.proofs.Stays.{sets_state, spared, value_lasts}
use Rattle.steps.proofs.Door.{by_kjw}
use Rattle.steps.proofs.Turns.{Reaches, has_room, done_reaches, takes, goes_back}

-- a frame that was answered 0, on the link of the panel at place i
module _ (b : DisplayBox) (i : ℕ) (m area : List ℕ) (d : (step b (kjw (suc i) m area)).answer ≡ Done) where
  came : Reaches b (kjw (suc i) m area) i
  unfolding addressed target
  came = done_reaches b (kjw (suc i) m area) i d (eq-eqb (suc i) (suc i) refl)

  done : (taken (length area) (turn_of m) (panel_at i b).k).answer ≡ Done
  unfolding turn
  done = sym (goes_back (by_kjw m) came).answer_is ∙ d

  after : (panel_at i (step b (kjw (suc i) m area)).box).k ≡ (taken (length area) (turn_of m) (panel_at i b).k).after
  unfolding turn
  after = ap (λ (p : Panel). p.k) (takes came)

-- an enquiry is answered with the value of its state
taken_asked : (room : ℕ) (s : State) (k : KRecord) → 512 ≤ room → (taken room (turn_of (frame_of type_enquiry (state_letters s) blank)) k).reply ≡ frame_of type_answer (state_letters s) (value_of s k)
taken_asked room s k h = ap (λ (t : Turn KRecord). t.reply) (roomy room (turn_of (frame_of type_enquiry (state_letters s) blank)) k h) ∙ asked_reply s k

-- that of the panel that it comes to
pub enquiry_asked : (b : DisplayBox) (i l : ℕ) (s : State) (area : List ℕ) → Reaches b (kjw l (frame_of type_enquiry (state_letters s) blank) area) i → (step b (kjw l (frame_of type_enquiry (state_letters s) blank) area)).back ≡ back_on area (frame_of type_answer (state_letters s) (value_of s (panel_at i b).k))
unfolding turn
enquiry_asked b i l s area r =
    let room = has_room (by_kjw (frame_of type_enquiry (state_letters s) blank)) r in
    (goes_back (by_kjw (frame_of type_enquiry (state_letters s) blank)) r).back_is ∙ ap (back_on area) (taken_asked (length area) s (panel_at i b).k room)

-- POWR, AMUT, PMUT, VOLU, INPT and SCEN: an enquiry that comes to the panel next, or after any messages of which none that is addressed to it sets the state, is answered with the control's own parameters
pub control_asked : (b : DisplayBox) (i l : ℕ) (s : State) (p area area' : List ℕ) (ms : List Message) → length p ≡ 16 → (step b (kjw (suc i) (frame_of type_control (state_letters s) p) area)).answer ≡ Done → spared (λ (m : Message). sets_state m s) i (step b (kjw (suc i) (frame_of type_control (state_letters s) p) area)).box ms ≡ true → Reaches (run (step b (kjw (suc i) (frame_of type_control (state_letters s) p) area)).box ms) (kjw l (frame_of type_enquiry (state_letters s) blank) area') i → (step (run (step b (kjw (suc i) (frame_of type_control (state_letters s) p) area)).box ms) (kjw l (frame_of type_enquiry (state_letters s) blank) area')).back ≡ back_on area' (frame_of type_answer (state_letters s) p)
control_asked b i l s p area area' ms h d n r =
    let control = frame_of type_control (state_letters s) p in
    let enquiry = frame_of type_enquiry (state_letters s) blank in
    let c = (step b (kjw (suc i) control area)).box in
    let room = has_room (by_kjw enquiry) r in
    let set =
    sym (taken_asked (length area') s (panel_at i c).k room)
    ∙ ap (λ (k : KRecord). (taken (length area') (turn_of enquiry) k).reply) (after b i control area d)
    ∙ taken_kept (length area) (length area') s p (panel_at i b).k h (done b i control area d) room in
    enquiry_asked (run c ms) i l s area' r
    ∙ ap (λ (v : List ℕ). back_on area' (frame_of type_answer (state_letters s) v)) (value_lasts s ms c i n)
    ∙ ap (back_on area') set

-- TPOW turns the power over
pub power_toggled : (b : DisplayBox) (i : ℕ) (area : List ℕ) → (step b (kjw (suc i) (frame_of type_control (ascii "TPOW") blank) area)).answer ≡ Done → (panel_at i (step b (kjw (suc i) (frame_of type_control (ascii "TPOW") blank) area)).box).k ≡ with_power (turned_over (panel_at i b).k.power) (panel_at i b).k
power_toggled b i area d =
    let m = frame_of type_control (ascii "TPOW") blank in
    let room = has_room (by_kjw m) (came b i m area d) in
    after b i m area d ∙ ap (λ (t : Turn KRecord). t.after) (roomy (length area) (turn_of m) (panel_at i b).k room) ∙ toggled_power (panel_at i b).k

-- TPMU turns the picture mute over
pub picture_toggled : (b : DisplayBox) (i : ℕ) (area : List ℕ) → (step b (kjw (suc i) (frame_of type_control (ascii "TPMU") blank) area)).answer ≡ Done → (panel_at i (step b (kjw (suc i) (frame_of type_control (ascii "TPMU") blank) area)).box).k ≡ with_pmut (turned_over (panel_at i b).k.pmut) (panel_at i b).k
picture_toggled b i area d =
    let m = frame_of type_control (ascii "TPMU") blank in
    let room = has_room (by_kjw m) (came b i m area d) in
    after b i m area d ∙ ap (λ (t : Turn KRecord). t.after) (roomy (length area) (turn_of m) (panel_at i b).k room) ∙ toggled_picture (panel_at i b).k

-- IRCC with sixteen digits, answered 0 on the link of the panel at place i
module _ (b : DisplayBox) (i : ℕ) (p area : List ℕ) (sixteen : length p ≡ 16) (digits : every is_digit p ≡ true) (d : (step b (kjw (suc i) (code_frame p) area)).answer ≡ Done) where
  abbrev after_code : DisplayBox
  after_code = (step b (kjw (suc i) (code_frame p) area)).box

  button_pressed : (u : Button) → button_of (decimal p) ≡ Some u → (panel_at i after_code).k ≡ after_press u (panel_at i b).k
  button_pressed u e =
      let room = has_room (by_kjw (code_frame p)) (came b i (code_frame p) area d) in
      after b i (code_frame p) area d ∙ ap (λ (t : Turn KRecord). t.after) (number_met p sixteen (length area) room (panel_at i b).k digits u e)

  -- whatever the row of the table, the panel is what document 02 says of its button
  pub code_pressed : (c : Code) → Memᴰ c codes → decimal p ≡ c.code → (panel_at i after_code).k ≡ after_press c.asks (panel_at i b).k
  code_pressed c m n = button_pressed c.asks (ap button_of n ∙ listed_asks c m)

  -- Mute turns the sound mute over
  pub muted_toggled : decimal p ≡ 32 → (panel_at i after_code).k ≡ with_amut (turned_over (panel_at i b).k.amut) (panel_at i b).k
  unfolding button_of asked_in
  muted_toggled n = button_pressed Mute (ap button_of n)

  -- an enquiry that comes to the panel next, or after any messages of which none that is addressed to it sets the state
  module _ (l : ℕ) (area' : List ℕ) (ms : List Message) (s : State) (n : spared (λ (m : Message). sets_state m s) i after_code ms ≡ true) (r : Reaches (run after_code ms) (kjw l (frame_of type_enquiry (state_letters s) blank) area') i) where
    button_asked : (k : KRecord) → (panel_at i after_code).k ≡ k → (step (run after_code ms) (kjw l (frame_of type_enquiry (state_letters s) blank) area')).back ≡ back_on area' (frame_of type_answer (state_letters s) (value_of s k))
    button_asked k e =
        enquiry_asked (run after_code ms) i l s area' r
        ∙ ap (λ (v : List ℕ). back_on area' (frame_of type_answer (state_letters s) v)) (value_lasts s ms after_code i n ∙ ap (value_of s) e)

    -- is answered with that panel's value
    pub code_asked : (c : Code) → Memᴰ c codes → decimal p ≡ c.code → (step (run after_code ms) (kjw l (frame_of type_enquiry (state_letters s) blank) area')).back ≡ back_on area' (frame_of type_answer (state_letters s) (value_of s (after_press c.asks (panel_at i b).k)))
    code_asked c m e = button_asked (after_press c.asks (panel_at i b).k) (code_pressed c m e)

  -- so behind Volume Up VOLU is answered with the volume one higher, or 100
  pub louder_asked : (l : ℕ) (area' : List ℕ) (ms : List Message) → decimal p ≡ 30 → spared (λ (m : Message). sets_state m Volume) i after_code ms ≡ true → Reaches (run after_code ms) (kjw l (frame_of type_enquiry (ascii "VOLU") blank) area') i → (step (run after_code ms) (kjw l (frame_of type_enquiry (ascii "VOLU") blank) area')).back ≡ back_on area' (frame_of type_answer (ascii "VOLU") (in_digits 16 (louder (panel_at i b).k.volume)))
  unfolding button_of asked_in state_letters value_of
  louder_asked l area' ms e n r = button_asked l area' ms Volume n r (after_press Louder (panel_at i b).k) (button_pressed Louder (ap button_of e))
