-- Every answer but 0 leaves the record, byte counts 0, 1 and 2 never pass, and what the document refuses is refused: by the cases of what a message asks.
use mathlib.Core.Path.{◌≡◌, refl, sym}
use mathlib.Core.Bool.{Bool, true, false, cond, not, ◌||◌, or-true, and-false}
use mathlib.Core.List.{List, [], ◌∷◌}
use Prim.Native.Nat.{ℕ, ◌<◌, ◌≤◌}
use native.Mathlib.Omega.{arith}
use lib.ListN.{length, get_or}
use lib.Dec.{eqb, ltb}
use borrow.Author.Tests.{lt-ltb, le-ltb, ne_eqb}
use Rattle.std.specs.Prelude.{Option, None, Result, Ok, Err}
use Rattle.laws.specs.Lists.{listed}
use Rattle.laws.proofs.Conditions.{false_true}
use Rattle.terms.specs.Answers.{number_of}
use Rattle.terms.specs.declared.Answer.{Answer}
use Rattle.terms.specs.declared.Answer.TheVariants.{WrongLength, NotForUs, PartWrong}
use Rattle.terms.specs.declared.Part.{Part}
use Rattle.terms.specs.declared.Part.TheVariants.{Count}
use Rattle.turns.specs.Turns.{taken}
use Rattle.turns.proofs.Turns.{refusal_leaves as leaves}
use Rattle.panels.specs.Records.{connectors, presets}
use Rattle.panels.specs.declared.WRecord.{WRecord}
use Rattle.rs232c_asks.specs.Commands.{connector_marked, preset_marked, connector_of, preset_of, act_of, connector_good, preset_good, config_good, select_good}
use Rattle.rs232c_asks.specs.Asks.{count_of, destination_of, source_of, first, second, is_foreign, config_command, select_command, command_of, ordered, Heard, from_source, not_understood, broken, heard_of, values_of}
use Rattle.rs232c_tells.specs.Texts.{bytes_of}
use Rattle.rs232c.specs.Replies.{replied, turned, turn_of}
use Rattle.rs232c_asks.specs.declared.Order.{Order}
use Rattle.rs232c_tells.specs.declared.Reply.TheVariants.{Nak}
use Rattle.rs232c_asks.proofs.Envelopes.{count_told}

reply_leaves : (s : ℕ) (o : Result Order Answer) (vs : List ℕ) (w : WRecord) → (number_of (replied s o vs w).answer ≡ 0 → ⊥) → (replied s o vs w).after ≡ w
reply_leaves s (Ok o) vs w n = absurd (n refl)
reply_leaves s (Err a) vs w n = refl

turn_leaves : (h : Heard) (vs : List ℕ) (w : WRecord) → (number_of (turned h vs w).answer ≡ 0 → ⊥) → (turned h vs w).after ≡ w
unfolding turned
turn_leaves (Err a) vs w n = refl
turn_leaves (Ok x) vs w n = reply_leaves x.source x.order vs w n

-- every answer but 0 leaves the record as it was
pub refusal_leaves : (room : ℕ) (m : List ℕ) (w : WRecord) → (number_of (taken room (turn_of m) w).answer ≡ 0 → ⊥) → (taken room (turn_of m) w).after ≡ w
refusal_leaves room m w = leaves room (turn_of m) w (turn_leaves (heard_of m) (values_of m) w)

-- "So counts 0, 1 and 2 never pass."
pub small_counts_broken : (m : List ℕ) → 6 ≤ length m → is_foreign m ≡ false → count_of m < 3 → heard_of m ≡ broken (source_of m) Count
small_counts_broken m h f k = count_told m h f (λ e. omega arith)

-- the same at the door, with room for a reply: the record is left, the answer is 13 and NAK goes to the source
pub small_counts_told : (room : ℕ) (m : List ℕ) (w : WRecord) → 512 ≤ room → 6 ≤ length m → is_foreign m ≡ false → count_of m < 3 → taken room (turn_of m) w ≡ record { after = w; answer = PartWrong Count; reply = bytes_of (Nak (source_of m)) }
unfolding taken turned
small_counts_told room m w r h f k = rw (le-ltb room 512 r, small_counts_broken m h f k)

-- document 02, §8, "The bytes sent to the console stay as they were": NAK to the source, whatever the part
pub broken_nak : (s : ℕ) (p : Part) (vs : List ℕ) (w : WRecord) → (turned (broken s p) vs w).reply ≡ bytes_of (Nak s)
unfolding turned
broken_nak s p vs w = refl

-- "Under 6 bytes: 3."
pub short_refused : (m : List ℕ) → length m < 6 → heard_of m ≡ Err WrongLength
unfolding heard_of
short_refused m h = rw (lt-ltb (length m) 6 h)

-- "First byte not 02h, destination not 01h, or source outside 41h to 7Fh: 4."
pub foreign_refused : (m : List ℕ) → 6 ≤ length m → is_foreign m ≡ true → heard_of m ≡ Err NotForUs
unfolding heard_of
foreign_refused m h f = rw (le-ltb (length m) 6 h, f)

pub first_foreign : (m : List ℕ) → (get_or m 0 0 ≡ 2 → ⊥) → is_foreign m ≡ true
unfolding is_foreign
first_foreign m n = rw (ne_eqb (get_or m 0 0) 2 n)

pub destination_foreign : (m : List ℕ) → (destination_of m ≡ 1 → ⊥) → is_foreign m ≡ true
unfolding is_foreign
destination_foreign m n = rw (ne_eqb (destination_of m) 1 n, or-true (not (eqb (get_or m 0 0) 2)))

pub low_source_foreign : (m : List ℕ) → source_of m < 0x41 → is_foreign m ≡ true
unfolding is_foreign
low_source_foreign m h = rw (lt-ltb (source_of m) 0x41 h, or-true (not (eqb (get_or m 0 0) 2) || not (eqb (destination_of m) 1)))

pub high_source_foreign : (m : List ℕ) → 0x7f < source_of m → is_foreign m ≡ true
unfolding is_foreign
high_source_foreign m h = rw (lt-ltb 0x7f (source_of m) h) (or-true (not (eqb (get_or m 0 0) 2) || not (eqb (destination_of m) 1) || ltb (source_of m) 0x41))

-- Where there is no order the answer is 6, and that goes to the source.
abbrev pub Six : ℕ → Option Order → Type 0
Six source o = (o ≡ None) × (from_source source (ordered o) ≡ not_understood source)

six : (source : ℕ) {o : Option Order} → o ≡ None → Six source o
six source e = (e, rw e)

-- "any other code [..]: 6"
pub other_code : (source code : ℕ) (bytes : List ℕ) → listed (0x21 ∷ 0x22 ∷ 0x40 ∷ 0x61 ∷ 0x6e ∷ []) code ≡ false → Six source (command_of code bytes)
unfolding command_of
other_code source code bytes n = six source (rungs (eqb code 0x21) (eqb code 0x22) (eqb code 0x40) (eqb code 0x61) (eqb code 0x6e) _ _ _ _ _ None n)
  where
    rungs : (a b c d e : Bool) (p q r s t u : Option Order) → (a || (b || (c || (d || (e || false))))) ≡ false → cond a p (cond b q (cond c r (cond d s (cond e t u)))) ≡ u
    rungs true b c d e p q r s t u n = absurd (false_true (sym n))
    rungs false true c d e p q r s t u n = absurd (false_true (sym n))
    rungs false false true d e p q r s t u n = absurd (false_true (sym n))
    rungs false false false true e p q r s t u n = absurd (false_true (sym n))
    rungs false false false false true p q r s t u n = absurd (false_true (sym n))
    rungs false false false false false p q r s t u n = refl

-- "A marked code not listed: 6."
pub connector_unlisted : (source : ℕ) (bytes : List ℕ) → connector_marked (first bytes) ≡ true → listed connectors (connector_of (second bytes)) ≡ false
    → Six source (config_command bytes)
unfolding config_command config_good connector_good
connector_unlisted source bytes m u = six source (rw (m, u, and-false (eqb (length bytes) 2)))

pub preset_unlisted : (source : ℕ) (bytes : List ℕ) → preset_marked (first bytes) ≡ true → listed presets (preset_of (second bytes)) ≡ false
    → Six source (config_command bytes)
unfolding config_command config_good preset_good
preset_unlisted source bytes m u = six source (rw (m, u, and-false (connector_good (first bytes) (second bytes)), and-false (eqb (length bytes) 2)))

-- "Act 0, or an unlisted connector with act 1 or 2: 6."
pub act_zero : (source : ℕ) (bytes : List ℕ) → act_of (first bytes) ≡ 0 → Six source (select_command bytes)
unfolding select_command select_good
act_zero source bytes a = six source (rw (a, and-false (eqb (length bytes) 1)))

pub unlisted_not_selected : (source : ℕ) (bytes : List ℕ) → (act_of (first bytes) ≡ 3 → ⊥) → listed connectors (connector_of (first bytes)) ≡ false
    → Six source (select_command bytes)
unfolding select_command select_good
unlisted_not_selected source bytes a u = six source (rw (ne_eqb (act_of (first bytes)) 3 a, u, either_way (eqb (act_of (first bytes)) 0) false, and-false (eqb (length bytes) 1)))
  where
    either_way : (b : Bool) (x : Bool) → cond b x x ≡ x
    either_way true x = refl
    either_way false x = refl
