-- The arrays of a W record have their lengths in every box that a configuration and messages lead to: a configuration gives them, and no order changes them.
use Prim.Native.Nat.{ℕ, zero, suc, ◌/◌, ◌%◌, ◌<◌}
use mathlib.Core.Path.{◌≡◌, refl, ap, ◌∙◌}
use mathlib.Core.Bool.{◌&&◌}
use mathlib.Core.List.{List, [], ◌∷◌}
use lib.Dec.{eqb, ltb}
use native.Mathlib.Omega.{arith}
use lib.ListN.{length, get_or, set, take, drop, length-set}
use Rattle.laws.specs.Lists.{every, places}
use Rattle.laws.proofs.Conditions.{choose}
use Rattle.std.specs.Prelude.{Result, Ok, Err}
use Rattle.terms.specs.declared.Answer.{Answer}
use Rattle.terms.specs.declared.Answer.TheVariants.{Done}
use Rattle.settings.specs.Table.{place_count}
use Rattle.turns.specs.Turns.{Turn}
use Rattle.turns.proofs.Turns.{either as behind}
use Rattle.panels.specs.Records.{start_w, zero_panel, past_end}
use Rattle.configure.specs.Configure.{asked_at, asked, refusal, configured}
use Rattle.panels.specs.Valid.{valid}
use Rattle.panels.specs.declared.Panel.{Panel}
use Rattle.panels.specs.declared.WRecord.{WRecord}
use Rattle.panels.specs.declared.DisplayBox.{DisplayBox}
use Rattle.configure.specs.declared.Configured.{Configured}
use Rattle.vmc.specs.Orders as words
use Rattle.vmc.proofs.Flip.{assigned_length}
use Rattle.vmc_asks.specs.declared.Order as wordOrder
use Rattle.vmc_asks.specs.declared.Order.TheVariants.{Set, Shift, Reset, Get}
use Rattle.rs232c_asks.specs.Asks as serialAsks
use Rattle.rs232c.specs.Orders as serialOrders
use Rattle.rs232c_levels.specs.Levels as serialLevels
use Rattle.rs232c_inputs.specs.Inputs as serialInputs
use Rattle.rs232c_asks.specs.Commands.{connector_of, act_of}
use Rattle.rs232c.specs.Replies as serial
use Rattle.rs232c_asks.specs.declared.Order as serialOrder
use Rattle.rs232c_asks.specs.declared.Order.TheVariants.{Config, Select, Levels, Sense, Remote}
use Rattle.sdcp_asks.specs.Asks.{heard_of, cast_of}
use Rattle.sdcp.specs.Replies as packets
use Rattle.sdcp_asks.specs.Asks as packetAsks
use Rattle.sdcp_asks.specs.declared.Fault.TheVariants as packetIs
use Rattle.steps.specs.Messages.{Message, rs232c, kjw, tcp, udp}
use Rattle.steps.specs.Step.{turn, panel_at, step}
use Rattle.steps.specs.Run.{run}
use Rattle.steps.proofs.Turns.{Reaches, reaches_inside, either}
use Rattle.steps.proofs.Validity.{places_kept}
use Rattle.steps.proofs.Alone.{eight_places}

pub record Shaped (w : WRecord) : Type 0 where
  pub settings_19 : length w.settings ≡ place_count
  pub shifts_2 : length w.shifts ≡ 2
  pub on_10 : length w.inputs.on ≡ 10
  pub gains_3 : length w.balance.gains ≡ 3
  pub biases_3 : length w.balance.biases ≡ 3

-- ---- an order keeps the lengths

words_keep : (o : wordOrder.Order) (w : WRecord) → Shaped w → Shaped (words.carried o w)
unfolding words.carried
words_keep (Set k v) w s = record { settings_19 = assigned_length k v w.settings ∙ s.settings_19; shifts_2 = s.shifts_2; on_10 = s.on_10; gains_3 = s.gains_3; biases_3 = s.biases_3 }
words_keep (Shift axis z) w s = record { settings_19 = s.settings_19; shifts_2 = length-set w.shifts axis z ∙ s.shifts_2; on_10 = s.on_10; gains_3 = s.gains_3; biases_3 = s.biases_3 }
words_keep Reset w s = record { settings_19 = s.settings_19; shifts_2 = refl; on_10 = s.on_10; gains_3 = s.gains_3; biases_3 = s.biases_3 }
words_keep (Get k) w s = s

on_keeps : (byte : ℕ) (on : List ℕ) → length on ≡ 10 → length (serialInputs.on_after byte on) ≡ 10
unfolding serialInputs.on_after serialInputs.turned_off
on_keeps byte on e =
    let place = serialInputs.place_of (connector_of byte) in
    let P : List ℕ → Type 0 = λ (l : List ℕ). length l ≡ 10 in
    choose P (eqb (act_of byte) 1) _ _
    (λ f. choose P (every (eqb 0) (set on place 0)) on (set on place 0) (λ g. e) (λ g. length-set on place 0 ∙ e))
    (λ f. choose P (eqb (act_of byte) 2) (set on place 1) _ (λ g. length-set on place 1 ∙ e) (λ g. refl))

puts_length : {A : Type 0} (f : ℕ → A) (ss : List serialLevels.Say) (l : List A) → length (serialLevels.puts f ss l) ≡ length l
puts_length f ss [] = refl
puts_length f [] (x ∷ l) = refl
puts_length f (s ∷ ss) (x ∷ l) = ap suc (puts_length f ss l)

serial_keep : (o : serialOrder.Order) (vs : List ℕ) (w : WRecord) → Shaped w → Shaped (serialOrders.carried o vs w)
unfolding serialOrders.carried serialLevels.balanced_by
serial_keep (Config marks byte) vs w s = record { settings_19 = s.settings_19; shifts_2 = s.shifts_2; on_10 = s.on_10; gains_3 = s.gains_3; biases_3 = s.biases_3 }
serial_keep (Select byte) vs w s = record { settings_19 = s.settings_19; shifts_2 = s.shifts_2; on_10 = on_keeps byte w.inputs.on s.on_10; gains_3 = s.gains_3; biases_3 = s.biases_3 }
serial_keep (Levels mask) vs w s = record {
  settings_19 = s.settings_19;
  shifts_2 = s.shifts_2;
  on_10 = s.on_10;
  gains_3 = puts_length serialLevels.gain_of (take 3 (serialLevels.decode 6 mask vs)) w.balance.gains ∙ s.gains_3;
  biases_3 = puts_length serialLevels.bias_of (drop 3 (serialLevels.decode 6 mask vs)) w.balance.biases ∙ s.biases_3;
}
serial_keep (Sense which) vs w s = s
serial_keep Remote vs w s = s

serial_replied : (x : ℕ) (o : Result serialOrder.Order Answer) (vs : List ℕ) (w : WRecord) → Shaped w → Shaped (serial.replied x o vs w).after
serial_replied x (Ok o) vs w s = serial_keep o vs w s
serial_replied x (Err a) vs w s = s

serial_turned : (h : serialAsks.Heard) (vs : List ℕ) (w : WRecord) → Shaped w → Shaped (serial.turned h vs w).after
unfolding serial.turned
serial_turned (Err a) vs w s = s
serial_turned (Ok x) vs w s = serial_replied x.source x.order vs w s

packet_turned : (m : List ℕ) (h : packetAsks.Heard) (w : WRecord) → Shaped w → Shaped (packets.turned m h w).after
unfolding packets.turned
packet_turned m (Err (packetIs.Refused a)) w s = s
packet_turned m (Err (packetIs.Broken p)) w s = s
packet_turned m (Err packetIs.NotUnderstood) w s = s
packet_turned m (Ok o) w s = words_keep o w s

turn_shaped : (m : Message) (p : Panel) → Shaped p.w → Shaped (turn m p).after.w
unfolding turn
turn_shaped (rs232c l m area) p s = behind (λ (t : Turn WRecord). Shaped t.after) (length area) (serial.turn_of m) p.w s (serial_turned (serialAsks.heard_of m) (serialAsks.values_of m) p.w s)
turn_shaped (kjw l m area) p s = s
turn_shaped (tcp l m area) p s = behind (λ (t : Turn WRecord). Shaped t.after) (length area) (packets.turn_of m) p.w s (packet_turned m (heard_of m) p.w s)
turn_shaped (udp m) p s = packet_turned m (cast_of m) p.w s

-- ---- and so do runs

run_shaped : (ms : List Message) (b : DisplayBox) (i : ℕ) → Shaped (panel_at i b).w → Shaped (panel_at i (run b ms)).w
run_shaped [] b i s = s
run_shaped (m ∷ ms) b i s = run_shaped ms (step b m).box i (either (λ (p : Panel). Shaped p.w) b m i s (turn_shaped m (panel_at i b) s))

start_shaped : Shaped start_w
start_shaped = record { settings_19 = refl; shifts_2 = refl; on_10 = refl; gains_3 = refl; biases_3 = refl }

zero_shaped : Shaped zero_panel.w
zero_shaped = record { settings_19 = refl; shifts_2 = refl; on_10 = refl; gains_3 = refl; biases_3 = refl }

asked_shaped : (c : List ℕ) (i : ℕ) → Shaped (asked_at c i).w
unfolding asked_at
asked_shaped c i = choose (λ (p : Panel). Shaped p.w) (ltb i (length c / 3)) _ zero_panel (λ e. start_shaped) (λ e. zero_shaped)

configured_shaped : (c : List ℕ) (i : ℕ) → i < 8 → Shaped (panel_at i (configured c).made).w
unfolding configured asked
configured_shaped c i h = choose (λ (r : Configured). Shaped (panel_at i r.made).w) (eqb (length c % 3) 0 && valid (asked c)) (record { answer = Done; made = asked c }) refusal (λ e. made i h) (λ e. none i h)
  where
    made : (i : ℕ) → i < 8 → Shaped (get_or (places 8 0 (asked_at c)) i past_end).w
    made zero h = asked_shaped c 0
    made (suc zero) h = asked_shaped c 1
    made (suc (suc zero)) h = asked_shaped c 2
    made (suc (suc (suc zero))) h = asked_shaped c 3
    made (suc (suc (suc (suc zero)))) h = asked_shaped c 4
    made (suc (suc (suc (suc (suc zero))))) h = asked_shaped c 5
    made (suc (suc (suc (suc (suc (suc zero)))))) h = asked_shaped c 6
    made (suc (suc (suc (suc (suc (suc (suc zero))))))) h = asked_shaped c 7
    made (suc (suc (suc (suc (suc (suc (suc (suc i)))))))) h = absurd (omega arith)

    none : (i : ℕ) → i < 8 → Shaped (get_or refusal.made.panels i past_end).w
    none zero h = zero_shaped
    none (suc zero) h = zero_shaped
    none (suc (suc zero)) h = zero_shaped
    none (suc (suc (suc zero))) h = zero_shaped
    none (suc (suc (suc (suc zero)))) h = zero_shaped
    none (suc (suc (suc (suc (suc zero))))) h = zero_shaped
    none (suc (suc (suc (suc (suc (suc zero)))))) h = zero_shaped
    none (suc (suc (suc (suc (suc (suc (suc zero))))))) h = zero_shaped
    none (suc (suc (suc (suc (suc (suc (suc (suc i)))))))) h = absurd (omega arith)

-- the box that a configuration and messages lead to
abbrev pub run_from : List ℕ → List Message → DisplayBox
run_from c ms = run (configured c).made ms

run_places : (ms : List Message) (b : DisplayBox) → length (run b ms).panels ≡ length b.panels
run_places [] b = refl
run_places (m ∷ ms) b = run_places ms (step b m).box ∙ places_kept b m

-- in every such box a panel that a message comes to has its arrays
pub shaped : (c : List ℕ) (ms : List Message) {m : Message} {i : ℕ} → Reaches (run_from c ms) m i → Shaped (panel_at i (run_from c ms)).w
shaped c ms {m} {i} r =
    let h = reaches_inside r in
    run_shaped ms (configured c).made i (configured_shaped c i (omega (arith, run_places ms (configured c).made, eight_places c)))
