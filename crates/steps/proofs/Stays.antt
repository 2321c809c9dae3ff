-- What was not ordered stays: every panel takes its turn or is left, and a turn changes only what its message sets.
use Prim.Native.Nat.{ℕ}
use mathlib.Core.Path.{◌≡◌, refl, sym, ap, ◌∙◌}
use mathlib.Core.Bool.{Bool, true, false, cond, not, ◌&&◌, ◌||◌}
use mathlib.Core.List.{List, [], ◌∷◌}
use lib.Dec.{eqb}
use lib.ListN.{length, get_or}
use borrow.Author.Tests.{eqb-false, not-true}
use Rattle.std.specs.Prelude.{Ok, Err}
use Rattle.laws.specs.Lists.{every}
use Rattle.laws.proofs.Conditions.{false_true, and_first, and_second}
use Rattle.turns.specs.Turns.{Turn, taken}
use Rattle.turns.proofs.Turns.{either as behind}
use Rattle.panels.specs.declared.Panel.{Panel}
use Rattle.panels.specs.declared.WRecord.{WRecord}
use Rattle.panels.specs.declared.DisplayBox.{DisplayBox}
use Rattle.vmc.specs.Orders.{says_of}
use Rattle.vmc_asks.specs.declared.Order.TheVariants.{Get}
use Rattle.vmc.proofs.AskedBack as word_back
use Rattle.vmc.proofs.Stays as wordStays
use Rattle.rs232c.proofs.Stays as serialStays
use Rattle.rs232c.specs.Replies as serial
use Rattle.kjw_values.specs.Values.{value_of}
use Rattle.kjw_asks.specs.Asks as frameAsks
use Rattle.kjw_sets.specs.declared.State.{State}
use Rattle.kjw.proofs.Stays as frameStays
use Rattle.sdcp_asks.specs.Asks.{heard_of, cast_of, Heard}
use Rattle.sdcp.specs.Replies as packets
use Rattle.sdcp_asks.specs.declared.Fault.TheVariants.{Refused, Broken, NotUnderstood}
use Rattle.steps.specs.Messages.{Message, rs232c, kjw, tcp, udp, Name, names}
use Rattle.steps.specs.Addressing.{addressed}
use Rattle.steps.specs.Step.{turn, panel_at, step}
use Rattle.steps.specs.Run.{run, kept}
use Rattle.steps.proofs.Turns.{either, unmeant}
use Rattle.steps.proofs.Validity.{names_kept}

-- what was heard is an order that sets name j
abbrev pub orders_it : Heard → ℕ → Bool
orders_it (Err (Refused a)) j = false
orders_it (Err (Broken p)) j = false
orders_it (Err NotUnderstood) j = false
orders_it (Ok o) j = word_back.touches o j

-- a message that sets name j at the panels that it is addressed to: an SDCP packet with such an order
abbrev pub sets : Message → ℕ → Bool
sets (rs232c l m area) j = false
sets (kjw l m area) j = false
sets (tcp l m area) j = orders_it (heard_of m) j
sets (udp m) j = orders_it (cast_of m) j

-- a message that may change a panel's connectors and preset, or its white balance: RS-232C with the codes 21h and 22h, or 40h
abbrev pub bears : ℕ → Message → Bool
bears code (rs232c l m area) = eqb (get_or m 4 0) code
bears code (kjw l m area) = false
bears code (tcp l m area) = false
bears code (udp m) = false

-- a message that sets a KJW state at the panel of its link
abbrev pub sets_state : Message → State → Bool
sets_state (rs232c l m area) s = false
sets_state (kjw l m area) s = frameStays.sets_state (frameAsks.heard_of m) s
sets_state (tcp l m area) s = false
sets_state (udp m) s = false

-- what of a W record no packet changes, and what only an order that sets it does
record Left (h : Heard) (w w' : WRecord) : Type 0 where
  told_stays : (j : ℕ) → orders_it h j ≡ false → says_of (Get j) w' ≡ says_of (Get j) w
  spare_stays : w'.spare ≡ w.spare
  inputs_stay : w'.inputs ≡ w.inputs
  balance_stays : w'.balance ≡ w.balance

unmoved : (h : Heard) (w : WRecord) → Left h w w
unmoved h w = record { told_stays = λ j n. refl; spare_stays = refl; inputs_stay = refl; balance_stays = refl }

turned_left : (m : List ℕ) (h : Heard) (w : WRecord) → Left h w (packets.turned m h w).after
unfolding packets.turned
turned_left m (Err (Refused a)) w = unmoved (Err (Refused a)) w
turned_left m (Err (Broken p)) w = unmoved (Err (Broken p)) w
turned_left m (Err NotUnderstood) w = unmoved (Err NotUnderstood) w
turned_left m (Ok o) w =
    let s = wordStays.stays o w in
    record { told_stays = s.told_stays; spare_stays = s.spare_stays; inputs_stay = s.inputs_stay; balance_stays = s.balance_stays }

packet_left : (room : ℕ) (m : List ℕ) (w : WRecord) → Left (heard_of m) w (taken room (packets.turn_of m) w).after
packet_left room m w = behind (λ (t : Turn WRecord). Left (heard_of m) w t.after) room (packets.turn_of m) w (unmoved (heard_of m) w) (turned_left m (heard_of m) w)

-- STATget reads the settings and the shifts alone
same_told : (j : ℕ) (w w' : WRecord) → w'.settings ≡ w.settings → w'.shifts ≡ w.shifts → says_of (Get j) w' ≡ says_of (Get j) w
unfolding says_of
same_told j w w' e f = rw (e, f)

turn_told : (m : Message) (p : Panel) (j : ℕ) → sets m j ≡ false → says_of (Get j) (turn m p).after.w ≡ says_of (Get j) p.w
unfolding turn
turn_told (rs232c l m area) p j n =
    let s = serialStays.stays (length area) m p.w in
    same_told j p.w (taken (length area) (serial.turn_of m) p.w).after s.settings_stay s.shifts_stay
turn_told (kjw l m area) p j n = refl
turn_told (tcp l m area) p j n = (packet_left (length area) m p.w).told_stays j n
turn_told (udp m) p j n = (turned_left m (cast_of m) p.w).told_stays j n

-- whatever the box, the message and the place: what STATget tells of name j stays, but for an order that sets it
pub told_stays : (b : DisplayBox) (m : Message) (i j : ℕ) → sets m j ≡ false → says_of (Get j) (panel_at i (step b m).box).w ≡ says_of (Get j) (panel_at i b).w
told_stays b m i j n = either (λ (p : Panel). says_of (Get j) p.w ≡ says_of (Get j) (panel_at i b).w) b m i refl (turn_told m (panel_at i b) j n)

turn_inputs : (m : Message) (p : Panel) → bears 0x21 m ≡ false → bears 0x22 m ≡ false → (turn m p).after.w.inputs ≡ p.w.inputs
unfolding turn
turn_inputs (rs232c l m area) p n n' = (serialStays.stays (length area) m p.w).inputs_stay (eqb-false (get_or m 4 0) 0x21 n) (eqb-false (get_or m 4 0) 0x22 n')
turn_inputs (kjw l m area) p n n' = refl
turn_inputs (tcp l m area) p n n' = (packet_left (length area) m p.w).inputs_stay
turn_inputs (udp m) p n n' = (turned_left m (cast_of m) p.w).inputs_stay

-- the connectors and the preset stay, but for 21h and 22h
pub inputs_stay : (b : DisplayBox) (m : Message) (i : ℕ) → bears 0x21 m ≡ false → bears 0x22 m ≡ false → (panel_at i (step b m).box).w.inputs ≡ (panel_at i b).w.inputs
inputs_stay b m i n n' = either (λ (p : Panel). p.w.inputs ≡ (panel_at i b).w.inputs) b m i refl (turn_inputs m (panel_at i b) n n')

turn_balance : (m : Message) (p : Panel) → bears 0x40 m ≡ false → (turn m p).after.w.balance ≡ p.w.balance
unfolding turn
turn_balance (rs232c l m area) p n = (serialStays.stays (length area) m p.w).balance_stays (eqb-false (get_or m 4 0) 0x40 n)
turn_balance (kjw l m area) p n = refl
turn_balance (tcp l m area) p n = (packet_left (length area) m p.w).balance_stays
turn_balance (udp m) p n = (turned_left m (cast_of m) p.w).balance_stays

-- the white balance stays, but for 40h
pub balance_stays : (b : DisplayBox) (m : Message) (i : ℕ) → bears 0x40 m ≡ false → (panel_at i (step b m).box).w.balance ≡ (panel_at i b).w.balance
balance_stays b m i n = either (λ (p : Panel). p.w.balance ≡ (panel_at i b).w.balance) b m i refl (turn_balance m (panel_at i b) n)

turn_value : (m : Message) (p : Panel) (s : State) → sets_state m s ≡ false → value_of s (turn m p).after.k ≡ value_of s p.k
unfolding turn
turn_value (rs232c l m area) p s n = refl
turn_value (kjw l m area) p s n = frameStays.stays (length area) m s p.k n
turn_value (tcp l m area) p s n = refl
turn_value (udp m) p s n = refl

-- the value of a KJW state stays, but for a control that sets it
pub value_stays : (b : DisplayBox) (m : Message) (i : ℕ) (s : State) → sets_state m s ≡ false → value_of s (panel_at i (step b m).box).k ≡ value_of s (panel_at i b).k
value_stays b m i s n = either (λ (p : Panel). value_of s p.k ≡ value_of s (panel_at i b).k) b m i refl (turn_value m (panel_at i b) s n)

turn_spares : (m : Message) (p : Panel) → ((turn m p).after.spare ≡ p.spare) × ((turn m p).after.w.spare ≡ p.w.spare)
unfolding turn
turn_spares (rs232c l m area) p = (refl, (serialStays.stays (length area) m p.w).spare_stays)
turn_spares (kjw l m area) p = (refl, refl)
turn_spares (tcp l m area) p = (refl, (packet_left (length area) m p.w).spare_stays)
turn_spares (udp m) p = (refl, (turned_left m (cast_of m) p.w).spare_stays)

-- the spare bytes, which stand where C would pad, stay whatever comes
pub spares_stay : (b : DisplayBox) (m : Message) (i : ℕ)
    → ((panel_at i (step b m).box).spare ≡ (panel_at i b).spare) × ((panel_at i (step b m).box).w.spare ≡ (panel_at i b).w.spare)
spares_stay b m i =
    either (λ (p : Panel). (p.spare ≡ (panel_at i b).spare) × (p.w.spare ≡ (panel_at i b).w.spare)) b m i (refl, refl) (turn_spares m (panel_at i b))

-- ---- over a run

-- none of the messages that are addressed to place i, as addressing stands when each comes, is one that sets
abbrev pub spared : (Message → Bool) → ℕ → DisplayBox → List Message → Bool
spared sets i b [] = true
spared sets i b (m ∷ ms) = not (addressed (names b) m i && sets m) && spared sets i (step b m).box ms

module _ {A : Type 0} (f : Panel → A) (sets : Message → Bool) (s : (b : DisplayBox) (m : Message) (i : ℕ) → sets m ≡ false → f (panel_at i (step b m).box) ≡ f (panel_at i b)) where
  one_stays : (b : DisplayBox) (m : Message) (i : ℕ) → (addressed (names b) m i && sets m) ≡ false → f (panel_at i (step b m).box) ≡ f (panel_at i b)
  one_stays b m i = go (addressed (names b) m i) refl
    where
      go : (x : Bool) → addressed (names b) m i ≡ x → (x && sets m) ≡ false → f (panel_at i (step b m).box) ≡ f (panel_at i b)
      go true e n = s b m i n
      go false e n = ap f (unmeant b m i e)

  -- what stays at each message that does not set it stays over any run in which none that is addressed to the panel does
  run_stays : (ms : List Message) (b : DisplayBox) (i : ℕ) → spared sets i b ms ≡ true → f (panel_at i (run b ms)) ≡ f (panel_at i b)
  run_stays [] b i e = refl
  run_stays (m ∷ ms) b i e =
      let quiet = not (addressed (names b) m i && sets m) in
      run_stays ms (step b m).box i (and_second quiet (spared sets i (step b m).box ms) e)
      ∙ one_stays b m i (not-true (addressed (names b) m i && sets m) (and_first quiet (spared sets i (step b m).box ms) e))

-- what STATget tells of name j
pub told_lasts : (j : ℕ) (ms : List Message) (b : DisplayBox) (i : ℕ) → spared (λ (m : Message). sets m j) i b ms ≡ true → says_of (Get j) (panel_at i (run b ms)).w ≡ says_of (Get j) (panel_at i b).w
told_lasts j ms b i e = run_stays (λ (p : Panel). says_of (Get j) p.w) (λ (m : Message). sets m j) (λ c m k n. told_stays c m k j n) ms b i e

-- the white balance
pub balance_lasts : (ms : List Message) (b : DisplayBox) (i : ℕ) → spared (bears 0x40) i b ms ≡ true → (panel_at i (run b ms)).w.balance ≡ (panel_at i b).w.balance
balance_lasts ms b i e = run_stays (λ (p : Panel). p.w.balance) (bears 0x40) balance_stays ms b i e

pub neither : (x y : Bool) → (x || y) ≡ false → (x ≡ false) × (y ≡ false)
neither true y n = absurd (false_true (sym n))
neither false y n = (refl, n)

-- the connectors and the preset
pub inputs_last : (ms : List Message) (b : DisplayBox) (i : ℕ) → spared (λ (m : Message). bears 0x21 m || bears 0x22 m) i b ms ≡ true → (panel_at i (run b ms)).w.inputs ≡ (panel_at i b).w.inputs
inputs_last ms b i e =
    run_stays (λ (p : Panel). p.w.inputs) (λ (m : Message). bears 0x21 m || bears 0x22 m)
    (λ c m k n. inputs_stay c m k (neither (bears 0x21 m) (bears 0x22 m) n).0 (neither (bears 0x21 m) (bears 0x22 m) n).1) ms b i e

-- the value of a KJW state
pub value_lasts : (s : State) (ms : List Message) (b : DisplayBox) (i : ℕ) → spared (λ (m : Message). sets_state m s) i b ms ≡ true → value_of s (panel_at i (run b ms)).k ≡ value_of s (panel_at i b).k
value_lasts s ms b i e = run_stays (λ (p : Panel). value_of s p.k) (λ (m : Message). sets_state m s) (λ c m k n. value_stays c m k s n) ms b i e

-- that none of the messages addressed to a place sets is said of those that are kept for it
pub spared_is : (f : Message → Bool) (i : ℕ) (ms : List Message) (b : DisplayBox) → spared f i b ms ≡ every (λ (m : Message). not (f m)) (kept i (names b) ms)
spared_is f i [] b = refl
spared_is f i (m ∷ ms) b =
    ap (λ (t : Bool). not (addressed (names b) m i && f m) && t) (spared_is f i ms (step b m).box ∙ ap (λ (ns : List Name). every (λ (x : Message). not (f x)) (kept i ns ms)) (names_kept b m))
    ∙ go (addressed (names b) m i)
  where
    go : (x : Bool)
        → (not (x && f m) && every (λ (y : Message). not (f y)) (kept i (names b) ms)) ≡ every (λ (y : Message). not (f y)) (cond x (m ∷ kept i (names b) ms) (kept i (names b) ms))
    go true = refl
    go false = refl
