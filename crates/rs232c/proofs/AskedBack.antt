-- What was set is asked back, and the rest stays: an order that is answered 0 is carried out on the record, and 61h and 6Eh read that record.
use mathlib.Core.Path.{◌≡◌, refl, sym, ap, ◌∙◌}
use mathlib.Core.Bool.{Bool, true, false, cond}
use mathlib.Core.List.{List}
use Prim.Native.Nat.{ℕ, zero, suc, ◌+◌, ◌-◌, ◌%◌, ◌<◌, ◌≤◌}
use native.Mathlib.Omega.{arith}
use lib.Dec.{eqb, ltb}
use lib.IntN.{pos, negsuc}
use lib.ListN.{length, get_or, take, drop, set, replicate}
use lib.Seq.{get_or-take, get_or-drop, get_or-set_same, get_or-set_other}
use borrow.Author.Tests.{le-ltb, eqb-false, ne_eqb}
use Rattle.std.specs.Prelude.{Some, None}
use Rattle.terms.specs.declared.Answer.TheVariants.{Done}
use Rattle.turns.specs.Turns.{Turn, taken}
use Rattle.turns.proofs.Turns.{done_room}
use Rattle.panels.specs.declared.Inputs.{Inputs}
use Rattle.panels.specs.declared.Balance.{Balance}
use Rattle.panels.specs.declared.WRecord.{WRecord}
use Rattle.rs232c_asks.specs.Asks.{understood, heard_of, values_of}
use Rattle.rs232c_levels.specs.Levels.{Say, gain_of, bias_of, decode, put, balanced_by}
use Rattle.rs232c.specs.Orders.{carried}
use Rattle.rs232c_inputs.specs.Inputs.{place_of, used_after, preset_after, configured_by, turned_off, on_after, selected_by}
use Rattle.rs232c_asks.specs.Commands.{connector_marked, preset_marked, connector_of, preset_of, act_of, select_good}
use Rattle.rs232c_tells.specs.Texts.{bytes_of, gain_bits, bias_bits, three_by, sensed, remote_of, reply_to}
use Rattle.rs232c.specs.Replies.{turned, turn_of}
use Rattle.rs232c_asks.specs.declared.Which.{Which}
use Rattle.rs232c_asks.specs.declared.Which.TheVariants.{Gains, Biases}
use Rattle.rs232c_asks.specs.declared.Order.{Order}
use Rattle.rs232c_asks.specs.declared.Order.TheVariants.{Config, Select, Levels, Sense, Remote}
use Rattle.rs232c_tells.specs.declared.Reply.TheVariants.{State, Balances}
use Rattle.rs232c_asks.proofs.Known.{understood_known}
use Rattle.rs232c_levels.proofs.Decode.{puts_at}
use Rattle.rs232c_inputs.proofs.Switches.{place_good, act_good, off_other, off_done, off_last}

-- ---- an order that is answered 0 is carried out

abbrev pub obeyed : ℕ → Order → List ℕ → WRecord → Turn WRecord
obeyed s o m w = record { after = carried o (values_of m) w; answer = Done; reply = bytes_of (reply_to s o w) }

-- with an area of 512 bytes what is understood is carried out
pub with_room : (room s : ℕ) (o : Order) (m : List ℕ) (w : WRecord) → 512 ≤ room → heard_of m ≡ understood s o → taken room (turn_of m) w ≡ obeyed s o m w
unfolding taken turned
with_room room s o m w r e = rw (le-ltb room 512 r, e)

-- 0: "carried out": what is understood and answered 0 comes to what its definition says
pub done : (room s : ℕ) (o : Order) (m : List ℕ) (w : WRecord) → (taken room (turn_of m) w).answer ≡ Done → heard_of m ≡ understood s o → taken room (turn_of m) w ≡ obeyed s o m w
done room s o m w d e = with_room room s o m w (done_room room (turn_of m) w d) e

-- ---- 40h, then 61h

-- "A gain is taken modulo 4096": at place k the value that the mask says of it, and where it says none, what stood there
gain_kept : (mask k : ℕ) (vs : List ℕ) (b : Balance) → length b.gains ≡ 3 → k < 3 → get_or (balanced_by mask vs b).gains k 0 ≡ put gain_of (get_or (decode 6 mask vs) k None) (get_or b.gains k 0)
unfolding balanced_by
gain_kept mask k vs b h i =
    puts_at gain_of (take 3 (decode 6 mask vs)) b.gains k 0 (omega arith)
    ∙ ap (λ (s : Say). put gain_of s (get_or b.gains k 0)) (get_or-take 3 (decode 6 mask vs) k None i)

-- "A bias is taken modulo 2048, and 1024 or more has 2048 subtracted": the biases stand behind the three gains
bias_kept : (mask k : ℕ) (vs : List ℕ) (b : Balance) → length b.biases ≡ 3 → k < 3 → get_or (balanced_by mask vs b).biases k (pos 0) ≡ put bias_of (get_or (decode 6 mask vs) (3 + k) None) (get_or b.biases k (pos 0))
unfolding balanced_by
bias_kept mask k vs b h i =
    puts_at bias_of (drop 3 (decode 6 mask vs)) b.biases k (pos 0) (omega arith)
    ∙ ap (λ (s : Say). put bias_of s (get_or b.biases k (pos 0))) (get_or-drop 3 (decode 6 mask vs) k None)

-- the bits of what is kept are those that were sent
gain_bits_lem : (v : ℕ) → gain_bits (gain_of v) ≡ v % 4096
gain_bits_lem v = omega arith

bias_bits_lem : (v : ℕ) → bias_bits (bias_of v) ≡ v % 2048
unfolding bias_bits
bias_bits_lem v = go (ltb (v % 2048) 1024)
  where
    go : (b : Bool) → bias_bits (cond b (pos (v % 2048)) (negsuc (2047 - v % 2048))) ≡ v % 2048
    go true = omega arith
    go false = omega arith

three_at : {A : Type 0} (f : A → ℕ) (l : List A) (d : A) (k : ℕ) → k < 3 → get_or (three_by f l d) k 0 ≡ f (get_or l k d)
three_at f l d zero h = refl
three_at f l d (suc zero) h = refl
three_at f l d (suc (suc zero)) h = refl
three_at f l d (suc (suc (suc k))) h = absurd (omega arith)

-- a place that was put by what is said, read by f: what is said modulo n, where f reads what g made of it so
three_back : {A : Type 0} (f : A → ℕ) (g : ℕ → A) (n : ℕ) → ((v : ℕ) → f (g v) ≡ v % n) → (l l' : List A) (d : A) (k : ℕ) (s : Say) → k < 3 → get_or l' k d ≡ put g s (get_or l k d) → get_or (three_by f l' d) k 0 ≡ put (λ (v : ℕ). v % n) s (get_or (three_by f l d) k 0)
three_back f g n e l l' d k s i p = three_at f l' d k i ∙ ap f p ∙ through s ∙ ap (put (λ (v : ℕ). v % n) s) (sym (three_at f l d k i))
  where
    through : (s : Say) → f (put g s (get_or l k d)) ≡ put (λ (v : ℕ). v % n) s (f (get_or l k d))
    through None = refl
    through (Some v) = e v

-- "1 gains, 2 biases": the place of a mask that R, G and B have, k being 0, 1 and 2, and what its value is taken modulo
abbrev pub place_at : Which → ℕ → ℕ
place_at Gains k = k
place_at Biases k = 3 + k

abbrev pub range_of : Which → ℕ
range_of Gains = 4096
range_of Biases = 2048

-- what 61h brings before a 40h and behind it: at each place what was said, and where nothing was said, the same
pub record AskedBack (which : Which) (ss : List Say) (before behind : List ℕ) : Type 0 where
  pub brings : (k : ℕ) → k < 3 → get_or behind k 0 ≡ put (λ (v : ℕ). v % range_of which) (get_or ss (place_at which k) None) (get_or before k 0)

-- the eleven bits of a bias and the twelve of a gain come back as they were sent
pub balance_back : (which : Which) (mask : ℕ) (vs : List ℕ) (b : Balance) → length b.gains ≡ 3 → length b.biases ≡ 3 → AskedBack which (decode 6 mask vs) (sensed which b) (sensed which (balanced_by mask vs b))
unfolding sensed
balance_back Gains mask vs b g h = record {
  brings = λ k i. three_back gain_bits gain_of 4096 gain_bits_lem b.gains (balanced_by mask vs b).gains 0 k (get_or (decode 6 mask vs) k None) i (gain_kept mask k vs b g i);
}
balance_back Biases mask vs b g h = record {
  brings = λ k i. three_back bias_bits bias_of 2048 bias_bits_lem b.biases (balanced_by mask vs b).biases (pos 0) k (get_or (decode 6 mask vs) (3 + k) None) i (bias_kept mask k vs b h i);
}

-- 61h, "Reply 71h, that byte, then R, G, B": those of the record
pub sense_brings : (room s : ℕ) (which : Which) (m : List ℕ) (w : WRecord) → 512 ≤ room → heard_of m ≡ understood s (Sense which) → (taken room (turn_of m) w).reply ≡ bytes_of (Balances s which (sensed which w.balance))
unfolding reply_to
sense_brings room s which m w r e = ap (λ (t : Turn WRecord). t.reply) (with_room room s (Sense which) m w r e)

module _ (room s mask : ℕ) (m : List ℕ) (w : WRecord) (g : length w.balance.gains ≡ 3) (h : length w.balance.biases ≡ 3) (d : (taken room (turn_of m) w).answer ≡ Done) (e : heard_of m ≡ understood s (Levels mask)) where
  levels_after : (taken room (turn_of m) w).after.balance ≡ balanced_by mask (values_of m) w.balance
  unfolding carried
  levels_after = ap (λ (t : Turn WRecord). t.after.balance) (done room s (Levels mask) m w d e)

  -- 40h answered 0: the record has what was said, and of what nothing was said, what it had
  pub levels_kept : (k : ℕ) → k < 3 → (get_or (taken room (turn_of m) w).after.balance.gains k 0 ≡ put gain_of (get_or (decode 6 mask (values_of m)) k None) (get_or w.balance.gains k 0)) × (get_or (taken room (turn_of m) w).after.balance.biases k (pos 0) ≡ put bias_of (get_or (decode 6 mask (values_of m)) (3 + k) None) (get_or w.balance.biases k (pos 0)))
  levels_kept k i =
      (ap (λ (b : Balance). get_or b.gains k 0) levels_after ∙ gain_kept mask k (values_of m) w.balance g i, ap (λ (b : Balance). get_or b.biases k (pos 0)) levels_after ∙ bias_kept mask k (values_of m) w.balance h i)

  -- 40h answered 0, then 61h: it brings what was said, and of what nothing was said, what the same 61h brings without the 40h
  pub levels_then_sense : (room' s' : ℕ) (which : Which) (m' : List ℕ) → 512 ≤ room' → heard_of m' ≡ understood s' (Sense which) → (before : List ℕ) × (behind : List ℕ) × ((taken room' (turn_of m') w).reply ≡ bytes_of (Balances s' which before)) × ((taken room' (turn_of m') (taken room (turn_of m) w).after).reply ≡ bytes_of (Balances s' which behind)) × AskedBack which (decode 6 mask (values_of m)) before behind
  levels_then_sense room' s' which m' r f =
      let b = w.balance in
      let again = sense_brings room' s' which m' (taken room (turn_of m) w).after r f ∙ ap (λ (x : Balance). bytes_of (Balances s' which (sensed which x))) levels_after in
      (sensed which b, sensed which (balanced_by mask (values_of m) b), sense_brings room' s' which m' w r f, again, balance_back which mask (values_of m) b g h)

-- ---- 6Eh

-- 6Eh, "Reply 7Eh with 1 where REMOTE is ON, else 0": the record's own REMOTE
pub remote_brings : (room s : ℕ) (m : List ℕ) (w : WRecord) → 512 ≤ room → heard_of m ≡ understood s Remote → (taken room (turn_of m) w).reply ≡ bytes_of (State s (remote_of w))
unfolding reply_to
remote_brings room s m w r e = ap (λ (t : Turn WRecord). t.reply) (with_room room s Remote m w r e)

-- ---- 21h

-- what the inputs are behind a 21h: "A part not marked is neither checked nor applied."
pub record Configured (marks byte : ℕ) (i i' : Inputs) : Type 0 where
  -- a marked connector that is ON is in use
  pub connector_on : connector_marked marks ≡ true → get_or i.on (place_of (connector_of byte)) 0 ≡ 1 → i'.used ≡ connector_of byte
  -- "A connector that is OFF is ignored": the one exception
  pub connector_off : connector_marked marks ≡ true → (get_or i.on (place_of (connector_of byte)) 0 ≡ 1 → ⊥) → i'.used ≡ i.used
  pub connector_unmarked : connector_marked marks ≡ false → i'.used ≡ i.used
  -- "the preset still applied"
  pub preset_marked_holds : preset_marked marks ≡ true → i'.preset ≡ preset_of byte
  pub preset_unmarked : preset_marked marks ≡ false → i'.preset ≡ i.preset
  pub switches_stay : i'.on ≡ i.on

configured : (marks byte : ℕ) (i : Inputs) → Configured marks byte i (configured_by marks byte i)
unfolding used_after preset_after
configured marks byte i = record {
  connector_on = λ e p. rw (e, p);
  connector_off = λ e n. rw (e, ne_eqb (get_or i.on (place_of (connector_of byte)) 0) 1 n);
  connector_unmarked = λ e. rw e;
  preset_marked_holds = λ e. rw e;
  preset_unmarked = λ e. rw e;
  switches_stay = refl;
}

-- 21h answered 0: the marked parts are as ordered, but for a connector that is OFF
pub config_kept : (room s marks byte : ℕ) (m : List ℕ) (w : WRecord) → (taken room (turn_of m) w).answer ≡ Done → heard_of m ≡ understood s (Config marks byte) → Configured marks byte w.inputs (taken room (turn_of m) w).after.inputs
unfolding carried
config_kept room s marks byte m w d e = rw (done room s (Config marks byte) m w d e) (configured marks byte w.inputs)

-- ---- 22h

-- what the inputs are behind a 22h
pub record Selected (byte : ℕ) (i i' : Inputs) : Type 0 where
  -- "2 ON"
  pub turned_on : act_of byte ≡ 2 → get_or i'.on (place_of (connector_of byte)) 0 ≡ 1
  -- "1 OFF", where another is not OFF
  pub turned_off_holds : act_of byte ≡ 1 → (k : ℕ) → (k ≡ place_of (connector_of byte) → ⊥) → (get_or i.on k 0 ≡ 0 → ⊥) → get_or i'.on (place_of (connector_of byte)) 0 ≡ 0
  -- the one exception (002 and 004, Input Select): where all others are OFF, nothing changed
  pub last_stays : act_of byte ≡ 1 → ((k : ℕ) → (k ≡ place_of (connector_of byte) → ⊥) → get_or i.on k 0 ≡ 0) → i'.on ≡ i.on
  -- "3 ALL RESET, which turns all ten ON"
  pub all_on : act_of byte ≡ 3 → i'.on ≡ replicate 10 1
  pub others_stay : (act_of byte ≡ 3 → ⊥) → (k : ℕ) → (k ≡ place_of (connector_of byte) → ⊥) → get_or i'.on k 0 ≡ get_or i.on k 0
  pub used_stays : i'.used ≡ i.used
  pub preset_stays : i'.preset ≡ i.preset

selected : (byte : ℕ) (i : Inputs) → length i.on ≡ 10 → select_good byte ≡ true → Selected byte i (selected_by byte i)
unfolding on_after
selected byte i l g = record {
  turned_on = λ e. rw e (get_or-set_same i.on place 1 0 (inside (λ f. omega arith)));
  turned_off_holds = λ e. rw e (off_done i.on place (inside (λ f. omega arith)));
  last_stays = λ e. rw e (off_last i.on place (inside (λ f. omega arith)));
  all_on = λ e. rw e;
  others_stay = λ n k h. go n k h (eqb (act_of byte) 1) (eqb (act_of byte) 2) refl refl;
  used_stays = refl;
  preset_stays = refl;
}
  where
    place : ℕ
    place = place_of (connector_of byte)

    inside : (act_of byte ≡ 3 → ⊥) → place < length i.on
    inside n = let h = place_good byte n g in omega arith

    go : (act_of byte ≡ 3 → ⊥) → (k : ℕ) → (k ≡ place → ⊥) → (a b : Bool) → eqb (act_of byte) 1 ≡ a → eqb (act_of byte) 2 ≡ b → get_or (cond a (turned_off i.on place) (cond b (set i.on place 1) (replicate 10 1))) k 0 ≡ get_or i.on k 0
    go n k h true b p q = off_other i.on place k h
    go n k h false true p q = get_or-set_other i.on place k 1 0 h
    go n k h false false p q = absurd (omega (arith, n, act_good byte g, eqb-false (act_of byte) 1 p, eqb-false (act_of byte) 2 q))

-- 22h answered 0: its connector is as ordered, but for OFF where all others are OFF
pub select_kept : (room s byte : ℕ) (m : List ℕ) (w : WRecord) → length w.inputs.on ≡ 10 → (taken room (turn_of m) w).answer ≡ Done → heard_of m ≡ understood s (Select byte) → Selected byte w.inputs (taken room (turn_of m) w).after.inputs
unfolding carried
select_kept room s byte m w l d e = rw (done room s (Select byte) m w d e) (selected byte w.inputs l (understood_known m s (Select byte) e).2)

-- "The connector in use may be turned OFF and stays in use.": an OFF for it that is answered 0, where another is not OFF
pub in_use_off : (room s byte : ℕ) (m : List ℕ) (w : WRecord) → length w.inputs.on ≡ 10 → (taken room (turn_of m) w).answer ≡ Done → heard_of m ≡ understood s (Select byte) → act_of byte ≡ 1 → connector_of byte ≡ w.inputs.used → (k : ℕ) → (k ≡ place_of w.inputs.used → ⊥) → (get_or w.inputs.on k 0 ≡ 0 → ⊥) → (get_or (taken room (turn_of m) w).after.inputs.on (place_of w.inputs.used) 0 ≡ 0) × ((taken room (turn_of m) w).after.inputs.used ≡ w.inputs.used)
in_use_off room s byte m w l d e a u k n h =
    let kept = select_kept room s byte m w l d e in
    let off = kept.turned_off_holds a k in
    ((rw u at off) n h, kept.used_stays)

-- ---- it stays

-- what no message changes, and what only its own command does
pub record Stays (code : ℕ) (w w' : WRecord) : Type 0 where
  pub settings_stay : w'.settings ≡ w.settings
  pub shifts_stay : w'.shifts ≡ w.shifts
  pub spare_stays : w'.spare ≡ w.spare
  pub inputs_stay : (code ≡ 0x21 → ⊥) → (code ≡ 0x22 → ⊥) → w'.inputs ≡ w.inputs
  pub balance_stays : (code ≡ 0x40 → ⊥) → w'.balance ≡ w.balance
