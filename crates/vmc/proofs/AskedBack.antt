-- What STATget tells is the record's own value: its words set it again, a set is told next, and no other order changes what is told.
use Prim.Native.Nat.{ℕ, ◌+◌, ◌-◌, ◌<◌}
use mathlib.Core.Path.{◌≡◌, refl, sym, ap, subst, ◌∙◌}
use mathlib.Core.Bool.{Bool, true, false, cond}
use mathlib.Core.List.{List, ◌++◌}
use native.Mathlib.Omega.{arith}
use borrow.Author.Tests.{ne_eqb, eqb-true, eqb-false, lt-ltb, le-ltb, ltb-true, ltb-false}
use lib.Dec.{eqb, leb, ltb}
use lib.IntN.{ℤ, pos}
use lib.ListN.{length, get_or, set, get_or-replicate}
use lib.Seq.{get_or-set_same, set-get_or}
use Rattle.std.specs.Prelude.{Some}
use Rattle.laws.specs.Bytes.{ascii}
use Rattle.laws.proofs.Lists.{every_at}
use Rattle.settings.specs.Table.{flip_place, no_flip, place_count, name_count, setting_count}
use Rattle.panels.specs.Valid.{ok_shift, ok_w}
use Rattle.panels.specs.declared.WRecord.{WRecord}
use Rattle.panels.proofs.Ranges.{parts}
use Rattle.trimming.proofs.Trimmed.{ends_bare, bare_behind}
use Rattle.vmc.specs.Orders.{with_settings, with_shifts, flip_of, flipped_to, flip_says, assigned, value_at, carried, says_of}
use Rattle.vmc_asks.specs.Asks.{read_data}
use Rattle.vmc_tells.specs.Texts.{text_of, move_words}
use Rattle.vmc_asks.specs.declared.Order.{Order}
use Rattle.vmc_asks.specs.declared.Order.TheVariants.{Set, Shift, Reset, Get}
use Rattle.vmc_tells.specs.declared.Says.TheVariants.{Value, Offset}
use Rattle.vmc.proofs.Flip.{is_flip, flip_from, flip_below, says_it, says_not, says_on, to_on, to_none, flip_value, flip_assigned, value_fits, assigned_back, assigned_at, alters}
use Rattle.vmc.proofs.ReadBack.{Phrase, read_back, set_back, move_back}
use Rattle.vmc.proofs.Validity.{understood_fits}

-- ---- the words that go back

-- the order to set the value that name k has
abbrev pub present : ℕ → WRecord → Order
present k w = cond (ltb k setting_count) (Set k (value_at k w.settings)) (Shift (k - setting_count) (get_or w.shifts (k - setting_count) (pos 0)))

told_phrase : (k : ℕ) (w : WRecord) → ok_w w ≡ true → length w.shifts ≡ 2 → k < name_count → Phrase (ascii "STATset " ++ text_of (says_of (Get k) w)) (present k w)
unfolding says_of text_of
told_phrase k w v t h = go (ltb k setting_count) refl
  where
    value : ℕ
    value = value_at k w.settings

    offset : ℤ
    offset = get_or w.shifts (k - setting_count) (pos 0)

    go : (b : Bool) → ltb k setting_count ≡ b → Phrase (ascii "STATset " ++ text_of (cond b (Value k value) (Offset k offset))) (cond b (Set k value) (Shift (k - setting_count) offset))
    go true e = set_back k value (ltb-true k setting_count e) (value_fits k w.settings (ltb-true k setting_count e) (parts w v).settings_ok)
    go false e =
        let l = ltb-false k setting_count e in
        let q : k ≡ setting_count + (k - setting_count) = omega arith in
        subst (λ (j : ℕ). Phrase (ascii "STATset " ++ move_words j offset) (Shift (k - setting_count) offset)) (sym q) (move_back (k - setting_count) offset (omega arith) (every_at ok_shift w.shifts (k - setting_count) (pos 0) (parts w v).shifts_ok (omega arith)))

-- each STATget's words, put behind `STATset `, are understood and order the present value
pub told_back : (k : ℕ) (w : WRecord) → ok_w w ≡ true → length w.shifts ≡ 2 → k < name_count → read_data (ascii "STATset " ++ text_of (says_of (Get k) w)) ≡ Some (present k w)
told_back k w v t h = read_back _ (present k w) (told_phrase k w v t h)

-- Document 02, §2: "our own replies still end bare"
pub told_bare : (k : ℕ) (w : WRecord) → ok_w w ≡ true → length w.shifts ≡ 2 → k < name_count → ends_bare (text_of (says_of (Get k) w)) ≡ true
told_bare k w v t h = bare_behind (ascii "STATset ") _ (told_phrase k w v t h).ends_bare_holds

-- and that order leaves the record as it is
pub present_leaves : (k : ℕ) (w : WRecord) → carried (present k w) w ≡ w
unfolding carried
present_leaves k w = go (ltb k setting_count) refl
  where
    go : (b : Bool) → ltb k setting_count ≡ b → carried (cond b (Set k (value_at k w.settings)) (Shift (k - setting_count) (get_or w.shifts (k - setting_count) (pos 0)))) w ≡ w
    go true e = ap (with_settings w) (assigned_back k w.settings (ltb-true k setting_count e))
    go false e = ap (with_shifts w) (set-get_or w.shifts (k - setting_count) (pos 0))

-- ---- asked back

-- of a setting the value behind its name is told
setting_says : (k : ℕ) (w : WRecord) → k < setting_count → says_of (Get k) w ≡ Value k (value_at k w.settings)
unfolding says_of
setting_says k w h = ap (λ (b : Bool). cond b (Value k (value_at k w.settings)) (Offset k (get_or w.shifts (k - setting_count) (pos 0)))) (lt-ltb k setting_count h)

-- a value that was set is told
pub set_told : (d : List ℕ) (k v : ℕ) (w : WRecord) → read_data d ≡ Some (Set k v) → length w.settings ≡ place_count → says_of (Get k) (carried (Set k v) w) ≡ Value k v
unfolding carried
set_told d k v w e s =
    let f = understood_fits d (Set k v) e in
    setting_says k (carried (Set k v) w) f.0 ∙ ap (Value k) (assigned_at k v w.settings f.0 f.1 s)

-- a shift that was set is told
pub shift_told : (d : List ℕ) (axis : ℕ) (z : ℤ) (w : WRecord) → read_data d ≡ Some (Shift axis z) → length w.shifts ≡ 2 → says_of (Get (setting_count + axis)) (carried (Shift axis z) w) ≡ Offset (setting_count + axis) z
unfolding says_of carried
shift_told d axis z w e s =
    let h = (understood_fits d (Shift axis z) e).0 in
    let q : setting_count + axis - setting_count ≡ axis = omega arith in
    rw (le-ltb (setting_count + axis) setting_count (omega arith), q, get_or-set_same w.shifts axis z (pos 0) (omega arith))

-- "RESET (both shifts to 0, house)": both are told 0
pub reset_told : (axis : ℕ) (w : WRecord) → axis < 2 → says_of (Get (setting_count + axis)) (carried Reset w) ≡ Offset (setting_count + axis) (pos 0)
unfolding says_of carried
reset_told axis w h =
    let q : setting_count + axis - setting_count ≡ axis = omega arith in
    rw (le-ltb (setting_count + axis) setting_count (omega arith), q, get_or-replicate 2 axis (pos 0) (pos 0) h)

-- ---- one flip: document 02, §4

-- "a single flip": at most one word says ON, whatever the record
pub one_flip : (j k : ℕ) (w : WRecord) → is_flip j ≡ true → is_flip k ≡ true → value_at j w.settings ≡ 1 → value_at k w.settings ≡ 1 → j ≡ k
one_flip j k w f g p q =
    let l = flip_from j f in
    let m = flip_from k g in
    let x = says_on (flip_of j) (get_or w.settings flip_place 0) (sym (flip_value j w.settings l) ∙ p) in
    let y = says_on (flip_of k) (get_or w.settings flip_place 0) (sym (flip_value k w.settings m) ∙ q) in
    let z : flip_of j ≡ flip_of k = sym x ∙ y in
    omega (arith, z, l, m)

-- "ON for a flip word makes it the panel's flip": it says ON, and the other two say OFF
pub flip_on : (k j : ℕ) (w : WRecord) → is_flip k ≡ true → is_flip j ≡ true → length w.settings ≡ place_count → value_at j (carried (Set k 1) w).settings ≡ cond (eqb j k) 1 0
unfolding carried
flip_on k j w f g s = rw (flip_assigned k 1 w.settings (flip_from k f) (flip_below k f), flip_value j (set w.settings flip_place (flipped_to (flip_of k) 1 (get_or w.settings flip_place 0))) (flip_from j g), get_or-set_same w.settings flip_place (flipped_to (flip_of k) 1 (get_or w.settings flip_place 0)) 0 (omega arith), to_on (flip_of k) (get_or w.settings flip_place 0)) (go (eqb j k) refl)
  where
    go : (b : Bool) → eqb j k ≡ b → flip_says (flip_of j) (flip_of k) ≡ cond b 1 0
    go true e = says_it (flip_of j) (flip_of k) (ap flip_of (sym (eqb-true j k e)))
    go false e =
        let n = eqb-false j k e in
        let l = flip_from j g in
        let m = flip_from k f in
        says_not (flip_of j) (flip_of k) (λ z. n (omega (arith, z, l, m)))

-- so the other two are told OFF
pub others_told : (k j : ℕ) (w : WRecord) → is_flip k ≡ true → is_flip j ≡ true → (j ≡ k → ⊥) → length w.settings ≡ place_count → says_of (Get j) (carried (Set k 1) w) ≡ Value j 0
others_told k j w f g n s = setting_says j (carried (Set k 1) w) (flip_below j g) ∙ ap (Value j) (flip_on k j w f g s ∙ rw (ne_eqb j k n))

-- "OFF for it makes the flip none if that word's flip was in force"
pub flip_off : (k : ℕ) (w : WRecord) → is_flip k ≡ true → length w.settings ≡ place_count → value_at k w.settings ≡ 1 → get_or (carried (Set k 0) w).settings flip_place 0 ≡ no_flip
unfolding carried
flip_off k w f s p =
    let l = flip_from k f in
    let x = says_on (flip_of k) (get_or w.settings flip_place 0) (sym (flip_value k w.settings l) ∙ p) in
    rw (flip_assigned k 0 w.settings l (flip_below k f), to_none (flip_of k) (get_or w.settings flip_place 0) x) (get_or-set_same w.settings flip_place no_flip 0 (omega arith))

-- "and changes nothing otherwise"
pub flip_idle : (k : ℕ) (w : WRecord) → is_flip k ≡ true → value_at k w.settings ≡ 0 → carried (Set k 0) w ≡ w
unfolding carried
flip_idle k w f p =
    let e : assigned k (value_at k w.settings) w.settings ≡ w.settings = assigned_back k w.settings (flip_below k f) in
    ap (with_settings w) (subst (λ (v : ℕ). assigned k v w.settings ≡ w.settings) p e)

-- ---- it stays

-- an order that sets name j
abbrev pub touches : Order → ℕ → Bool
touches (Set k v) j = alters k v j
touches (Shift axis z) j = eqb j (setting_count + axis)
touches Reset j = leb setting_count j
touches (Get k) j = false

-- what no order changes, and what only an order that sets it does
pub record Stays (o : Order) (w w' : WRecord) : Type 0 where
  pub told_stays : (j : ℕ) → touches o j ≡ false → says_of (Get j) w' ≡ says_of (Get j) w
  pub spare_stays : w'.spare ≡ w.spare
  pub inputs_stay : w'.inputs ≡ w.inputs
  pub balance_stays : w'.balance ≡ w.balance
