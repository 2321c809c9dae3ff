-- RS-232C: what was said to be done is kept at the panel of the link, since that panel takes the turn that rs232c's theorems are about.
use Prim.Native.Nat.{ℕ, suc, ◌+◌, ◌<◌}
use mathlib.Core.Path.{◌≡◌, refl, sym, ap, ◌∙◌}
use mathlib.Core.Bool.{true}
use mathlib.Core.List.{List}
use lib.IntN.{pos}
use lib.ListN.{length, get_or}
use borrow.Author.Tests.{eq-eqb}
use Rattle.std.specs.Prelude.{None}
use Rattle.terms.specs.declared.Answer.TheVariants.{Done}
use Rattle.turns.specs.Turns.{taken}
use Rattle.panels.specs.declared.Panel.{Panel}
use Rattle.panels.specs.declared.Balance.{Balance}
use Rattle.panels.specs.declared.WRecord.{WRecord}
use Rattle.panels.specs.declared.DisplayBox.{DisplayBox}
use Rattle.rs232c_asks.specs.Asks.{understood, heard_of, values_of}
use Rattle.rs232c_levels.specs.Levels.{Say, gain_of, bias_of, decode, put}
use Rattle.rs232c_tells.specs.Texts.{bytes_of, remote_of, sensed}
use Rattle.rs232c.specs.Replies.{turn_of}
use Rattle.rs232c_asks.specs.declared.Which.{Which}
use Rattle.rs232c_asks.specs.declared.Order.TheVariants.{Config, Select, Levels, Sense, Remote}
use Rattle.rs232c_tells.specs.declared.Reply.{Reply}
use Rattle.rs232c_tells.specs.declared.Reply.TheVariants.{State, Balances}
use Rattle.rs232c.proofs.AskedBack as serialBack
use Rattle.steps.specs.Messages.{Message, rs232c}
use Rattle.steps.specs.Addressing.{target, addressed}
use Rattle.steps.specs.Step.{turn, back_on, panel_at, step}
use Rattle.steps.specs.Run.{run}
use Rattle.steps.proofs.Stays.{bears, spared, balance_lasts}
use Rattle.steps.proofs.Door.{by_rs232c}
use Rattle.steps.proofs.Turns.{Reaches, has_room, done_reaches, takes, goes_back}
use Rattle.steps.proofs.Shapes.{Shaped, run_from, shaped}

-- a message that comes to the panel of its link: the record afterwards and the reply
after : {b : DisplayBox} {l i : ℕ} {m area : List ℕ} → Reaches b (rs232c l m area) i → (panel_at i (step b (rs232c l m area)).box).w ≡ (taken (length area) (turn_of m) (panel_at i b).w).after
unfolding turn
after r = ap (λ (p : Panel). p.w) (takes r)

replies : {b : DisplayBox} {l i : ℕ} {m area : List ℕ} (x : Reply) → Reaches b (rs232c l m area) i → (taken (length area) (turn_of m) (panel_at i b).w).reply ≡ bytes_of x → (step b (rs232c l m area)).back ≡ back_on area (bytes_of x)
unfolding turn
replies {m} {area} x r e = (goes_back (by_rs232c m) r).back_is ∙ ap (back_on area) e

-- 6Eh tells REMOTE as it stands in the record of the panel that it comes to, whoever set it
pub remote_asked_lem : (b : DisplayBox) (i l s : ℕ) (m area : List ℕ) → Reaches b (rs232c l m area) i → heard_of m ≡ understood s Remote → (step b (rs232c l m area)).back ≡ back_on area (bytes_of (State s (remote_of (panel_at i b).w)))
remote_asked_lem b i l s m area r e =
    let room = has_room (by_rs232c m) r in
    replies (State s (remote_of (panel_at i b).w)) r (serialBack.remote_brings (length area) s m (panel_at i b).w room e)

-- 61h that comes to the panel next, or after any messages without a 40h for it, brings what was said, and of what nothing was said, what the same
-- 61h brings of the box before
abbrev pub SensedLater : DisplayBox → DisplayBox → ℕ → List Say → Type 0
SensedLater b b' i said =
    (ms : List Message) → spared (bears 0x40) i b' ms ≡ true → (l s : ℕ) (which : Which) (m area : List ℕ)
    → Reaches b (rs232c l m area) i → Reaches (run b' ms) (rs232c l m area) i → heard_of m ≡ understood s (Sense which)
    → (before : List ℕ) × (behind : List ℕ) × ((step b (rs232c l m area)).back ≡ back_on area (bytes_of (Balances s which before))) × ((step (run b' ms) (rs232c l m area)).back ≡ back_on area (bytes_of (Balances s which behind))) × serialBack.AskedBack which said before behind

-- a message that was answered 0, on the link of the panel at place i
module _ (b : DisplayBox) (i s : ℕ) (m area : List ℕ) (d : (step b (rs232c (suc i) m area)).answer ≡ Done) where
  came : Reaches b (rs232c (suc i) m area) i
  unfolding addressed target
  came = done_reaches b (rs232c (suc i) m area) i d (eq-eqb (suc i) (suc i) refl)

  done : (taken (length area) (turn_of m) (panel_at i b).w).answer ≡ Done
  unfolding turn
  done = sym (goes_back (by_rs232c m) came).answer_is ∙ d

  -- 21h: the marked parts are as ordered, but for a connector that is OFF
  pub config_kept : (marks byte : ℕ) → heard_of m ≡ understood s (Config marks byte) → serialBack.Configured marks byte (panel_at i b).w.inputs (panel_at i (step b (rs232c (suc i) m area)).box).w.inputs
  config_kept marks byte e = rw (after came) (serialBack.config_kept (length area) s marks byte m (panel_at i b).w done e)

  levels_asked : (mask : ℕ) → heard_of m ≡ understood s (Levels mask) → length (panel_at i b).w.balance.gains ≡ 3 → length (panel_at i b).w.balance.biases ≡ 3 → SensedLater b (step b (rs232c (suc i) m area)).box i (decode 6 mask (values_of m))
  levels_asked mask e g h ms n l s' which m' area' r r' f =
      let room = has_room (by_rs232c m') r in
      let t = serialBack.levels_then_sense (length area) s mask m (panel_at i b).w g h done e (length area') s' which m' room f in
      let stays = balance_lasts ms (step b (rs232c (suc i) m area)).box i n ∙ ap (λ (w : WRecord). w.balance) (after came) in
      let told-then = serialBack.sense_brings (length area') s' which m' (panel_at i (run (step b (rs232c (suc i) m area)).box ms)).w room f in
      let told-now = serialBack.sense_brings (length area') s' which m' (taken (length area) (turn_of m) (panel_at i b).w).after room f in
      let q = told-then ∙ ap (λ (x : Balance). bytes_of (Balances s' which (sensed which x))) stays ∙ sym told-now ∙ t.3 in
      (t.0, t.1, replies (Balances s' which t.0) r t.2, replies (Balances s' which t.1) r' q, t.4)

-- the same in every box that a configuration and messages lead to
module _ (c : List ℕ) (before : List Message) (i s : ℕ) (m area : List ℕ) (d : (step (run_from c before) (rs232c (suc i) m area)).answer ≡ Done) where
  arrays : Shaped (panel_at i (run_from c before)).w
  arrays = shaped c before (came (run_from c before) i s m area d)

  -- 22h: its connector is as ordered, but for OFF where all others are OFF
  pub select_stands : (byte : ℕ) → heard_of m ≡ understood s (Select byte) → serialBack.Selected byte (panel_at i (run_from c before)).w.inputs (panel_at i (step (run_from c before) (rs232c (suc i) m area)).box).w.inputs
  select_stands byte e =
      let b = run_from c before in
      rw (after (came b i s m area d)) (serialBack.select_kept (length area) s byte m (panel_at i b).w arrays.on_10 (done b i s m area d) e)

  module _ (mask : ℕ) (e : heard_of m ≡ understood s (Levels mask)) where
    -- 40h: the record has what was said, and of what nothing was said, what it had
    pub levels_stands : (k : ℕ) → k < 3 → (get_or (panel_at i (step (run_from c before) (rs232c (suc i) m area)).box).w.balance.gains k 0 ≡ put gain_of (get_or (decode 6 mask (values_of m)) k None) (get_or (panel_at i (run_from c before)).w.balance.gains k 0)) × (get_or (panel_at i (step (run_from c before) (rs232c (suc i) m area)).box).w.balance.biases k (pos 0) ≡ put bias_of (get_or (decode 6 mask (values_of m)) (3 + k) None) (get_or (panel_at i (run_from c before)).w.balance.biases k (pos 0)))
    levels_stands k n =
        let b = run_from c before in
        rw (after (came b i s m area d)) (serialBack.levels_kept (length area) s mask m (panel_at i b).w arrays.gains_3 arrays.biases_3 (done b i s m area d) e k n)

    -- and 61h brings it
    pub levels_stands_asked : SensedLater (run_from c before) (step (run_from c before) (rs232c (suc i) m area)).box i (decode 6 mask (values_of m))
    levels_stands_asked = levels_asked (run_from c before) i s m area d mask e arrays.gains_3 arrays.biases_3
