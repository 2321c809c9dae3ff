-- A valid record stays valid: what an understood order puts into the record is in its range.
use mathlib.Core.Path.{◌≡◌, refl}
use mathlib.Core.Bool.{Bool, true, false, cond, ◌&&◌}
use mathlib.Core.List.{List, [], ◌∷◌}
use Prim.Native.Nat.{ℕ, zero, suc, ◌-◌, ◌%◌, ◌≤◌}
use native.Mathlib.Omega.{arith}
use lib.Dec.{eqb, ltb, leb, lit≤}
use lib.IntN.{pos, negsuc}
use lib.ListN.{get_or, set, replicate, take, drop}
use borrow.Author.Tests.{le-leb, ltb-true, ltb-false}
use Rattle.std.specs.Prelude.{Some, None, Result, Ok, Err}
use Rattle.terms.specs.declared.Answer.{Answer}
use Rattle.laws.specs.Lists.{every, listed, within}
use Rattle.laws.proofs.Conditions.{and_first, and_second, and_both}
use Rattle.laws.proofs.Lists.{within_set}
use Rattle.turns.specs.Turns.{Turn, taken}
use Rattle.turns.proofs.Turns.{either}
use Rattle.panels.specs.Records.{connectors, presets}
use Rattle.panels.specs.Valid.{ok_gain, ok_bias, ok_inputs, ok_balance, ok_w}
use Rattle.panels.proofs.Ranges.{InRange, parts, whole}
use Rattle.panels.specs.declared.Inputs.{Inputs}
use Rattle.panels.specs.declared.Balance.{Balance}
use Rattle.panels.specs.declared.WRecord.{WRecord}
use Rattle.rs232c_asks.specs.Asks.{code_of, data_of, Heard, heard_of, values_of}
use Rattle.rs232c_asks.proofs.Known.{KnownBy, KnownOrder, Known, heard_known}
use Rattle.rs232c_levels.specs.Levels.{Say, gain_of, bias_of, puts, decode, balanced_by}
use Rattle.rs232c.specs.Orders.{carried}
use Rattle.rs232c_inputs.specs.Inputs.{place_of, used_after, preset_after, configured_by, turned_off, on_after, selected_by}
use Rattle.rs232c_asks.specs.Commands.{connector_marked, preset_marked, connector_of, preset_of, connector_good, preset_good, config_good, act_of}
use Rattle.rs232c.specs.Replies.{replied, turned, turn_of}
use Rattle.rs232c_asks.specs.declared.Order.{Order}
use Rattle.rs232c_asks.specs.declared.Order.TheVariants.{Config, Select, Levels, Sense, Remote}

-- ---- the inputs

used_listed : (marks byte : ℕ) (i : Inputs) → connector_good marks byte ≡ true → listed connectors i.used ≡ true → listed connectors (used_after marks byte i) ≡ true
unfolding connector_good used_after
used_listed marks byte i g h = go (connector_marked marks) (eqb (get_or i.on (place_of (connector_of byte)) 0) 1) g
  where
    go : (a b : Bool) → cond a (listed connectors (connector_of byte)) true ≡ true → listed connectors (cond a (cond b (connector_of byte) i.used) i.used) ≡ true
    go true true e = e
    go true false e = h
    go false b e = h

preset_listed : (marks byte : ℕ) (i : Inputs) → preset_good marks byte ≡ true → listed presets i.preset ≡ true → listed presets (preset_after marks byte i) ≡ true
unfolding preset_good preset_after
preset_listed marks byte i g h = go (preset_marked marks) g
  where
    go : (a : Bool) → cond a (listed presets (preset_of byte)) true ≡ true → listed presets (cond a (preset_of byte) i.preset) ≡ true
    go true e = e
    go false e = h

one_at : (n k : ℕ) → 1 ≤ get_or (replicate n 1) k 1
one_at zero k = lit≤ tt
one_at (suc n) zero = lit≤ tt
one_at (suc n) (suc k) = one_at n k

zero_at : (n k : ℕ) → 0 ≤ get_or (replicate n 1) k 0
zero_at n k = omega arith

on_within : (byte : ℕ) (on : List ℕ) → within on (replicate 10 1) ≡ true → within (on_after byte on) (replicate 10 1) ≡ true
unfolding on_after turned_off
on_within byte on h = go (eqb (act_of byte) 1) (eqb (act_of byte) 2) (every (eqb 0) (set on (place_of (connector_of byte)) 0))
  where
    go : (a b c : Bool) → within (cond a (cond c on (set on (place_of (connector_of byte)) 0)) (cond b (set on (place_of (connector_of byte)) 1) (replicate 10 1))) (replicate 10 1) ≡ true
    go true b true = h
    go true b false = within_set on (replicate 10 1) (place_of (connector_of byte)) 0 h (zero_at 10 (place_of (connector_of byte)))
    go false true c = within_set on (replicate 10 1) (place_of (connector_of byte)) 1 h (one_at 10 (place_of (connector_of byte)))
    go false false c = refl

-- ---- the white balance

puts_kept : {A : Type 0} (f : ℕ → A) (ok : A → Bool) (ss : List Say) (l : List A) → ((v : ℕ) → ok (f v) ≡ true) → every ok l ≡ true → every ok (puts f ss l) ≡ true
puts_kept f ok ss [] g e = refl
puts_kept f ok [] (x ∷ l) g e = e
puts_kept f ok (None ∷ ss) (x ∷ l) g e = and_both (ok x) (every ok (puts f ss l)) (and_first (ok x) (every ok l) e) (puts_kept f ok ss l g (and_second (ok x) (every ok l) e))
puts_kept f ok (Some v ∷ ss) (x ∷ l) g e = and_both (ok (f v)) (every ok (puts f ss l)) (g v) (puts_kept f ok ss l g (and_second (ok x) (every ok l) e))

gain_ok : (v : ℕ) → ok_gain (gain_of v) ≡ true
unfolding ok_gain
gain_ok v = le-leb (v % 4096) 4095 (omega arith)

bias_ok : (v : ℕ) → ok_bias (bias_of v) ≡ true
unfolding ok_bias
bias_ok v = go (ltb (v % 2048) 1024) refl
  where
    go : (b : Bool) → ltb (v % 2048) 1024 ≡ b → ok_bias (cond b (pos (v % 2048)) (negsuc (2047 - v % 2048))) ≡ true
    go true e = let h = ltb-true (v % 2048) 1024 e in le-leb (v % 2048) 1023 (omega arith)
    go false e = let h = ltb-false (v % 2048) 1024 e in and_both (leb (2047 - v % 2048) 1023) true (le-leb (2047 - v % 2048) 1023 (omega arith)) refl

-- ---- the record

config_ok : (marks byte : ℕ) (i : Inputs) → config_good marks byte ≡ true → ok_inputs i ≡ true → ok_inputs (configured_by marks byte i) ≡ true
unfolding config_good ok_inputs
config_ok marks byte i g e =
    let a = and_first (listed connectors i.used && listed presets i.preset) (within i.on (replicate 10 1)) e in
    rw (
      used_listed marks byte i (and_first (connector_good marks byte) (preset_good marks byte) g) (and_first (listed connectors i.used) (listed presets i.preset) a),
      preset_listed marks byte i (and_second (connector_good marks byte) (preset_good marks byte) g) (and_second (listed connectors i.used) (listed presets i.preset) a),
    )
    (and_second (listed connectors i.used && listed presets i.preset) (within i.on (replicate 10 1)) e)

select_ok : (byte : ℕ) (i : Inputs) → ok_inputs i ≡ true → ok_inputs (selected_by byte i) ≡ true
unfolding ok_inputs
select_ok byte i e =
    and_both (listed connectors i.used && listed presets i.preset) (within (on_after byte i.on) (replicate 10 1))
    (and_first (listed connectors i.used && listed presets i.preset) (within i.on (replicate 10 1)) e)
    (on_within byte i.on (and_second (listed connectors i.used && listed presets i.preset) (within i.on (replicate 10 1)) e))

levels_ok : (mask : ℕ) (vs : List ℕ) (b : Balance) → ok_balance b ≡ true → ok_balance (balanced_by mask vs b) ≡ true
unfolding ok_balance balanced_by
levels_ok mask vs b e =
    and_both (every ok_gain (puts gain_of (take 3 (decode 6 mask vs)) b.gains)) (every ok_bias (puts bias_of (drop 3 (decode 6 mask vs)) b.biases))
    (puts_kept gain_of ok_gain (take 3 (decode 6 mask vs)) b.gains gain_ok (and_first (every ok_gain b.gains) (every ok_bias b.biases) e))
    (puts_kept bias_of ok_bias (drop 3 (decode 6 mask vs)) b.biases bias_ok (and_second (every ok_gain b.gains) (every ok_bias b.biases) e))

carried_ok : (code : ℕ) (bytes : List ℕ) (o : Order) (vs : List ℕ) (w : WRecord) → KnownBy code bytes o → InRange w → InRange (carried o vs w)
unfolding carried
carried_ok code bytes (Config marks byte) vs w k r = record { settings_ok = r.settings_ok; shifts_ok = r.shifts_ok; inputs_ok = config_ok marks byte w.inputs k.2 r.inputs_ok; balance_ok = r.balance_ok }
carried_ok code bytes (Select byte) vs w k r = record { settings_ok = r.settings_ok; shifts_ok = r.shifts_ok; inputs_ok = select_ok byte w.inputs r.inputs_ok; balance_ok = r.balance_ok }
carried_ok code bytes (Levels mask) vs w k r = record { settings_ok = r.settings_ok; shifts_ok = r.shifts_ok; inputs_ok = r.inputs_ok; balance_ok = levels_ok mask vs w.balance r.balance_ok }
carried_ok code bytes (Sense which) vs w k r = r
carried_ok code bytes Remote vs w k r = r

replied_ok : (code : ℕ) (bytes : List ℕ) (s : ℕ) (o : Result Order Answer) (vs : List ℕ) (w : WRecord) → KnownOrder code bytes o → InRange w → InRange (replied s o vs w).after
replied_ok code bytes s (Ok o) vs w k r = carried_ok code bytes o vs w k r
replied_ok code bytes s (Err a) vs w k r = r

turned_ok : (code : ℕ) (bytes : List ℕ) (h : Heard) (vs : List ℕ) (w : WRecord) → Known code bytes h → InRange w → InRange (turned h vs w).after
unfolding turned
turned_ok code bytes (Err a) vs w k r = r
turned_ok code bytes (Ok x) vs w k r = replied_ok code bytes x.source x.order vs w k r

-- a valid record stays valid, whatever the message and the area
pub stays_valid : (room : ℕ) (m : List ℕ) (w : WRecord) → ok_w w ≡ true → ok_w (taken room (turn_of m) w).after ≡ true
stays_valid room m w e =
    either (λ (t : Turn WRecord). ok_w t.after ≡ true) room (turn_of m) w e
    (whole (turn_of m w).after (turned_ok (code_of m) (data_of m) (heard_of m) (values_of m) w (heard_known m) (parts w e)))
