-- Document 01, "SDCP and VMC", and document 02, §4: what an order does to a W panel's record, and what it is told.
use Rattle.std.specs.Prelude.{ℕ, ◌+◌, ◌-◌, cond, List, get_or, set, replicate, eqb, ltb, ℤ, pos}
use Rattle.settings.specs.Table.{flip_place, no_flip, setting_count}
use Rattle.panels.specs.declared.WRecord.{WRecord}
use Rattle.vmc_asks.specs.declared.Order.{Order}
use Rattle.vmc_asks.specs.declared.Order.TheVariants.{Set, Shift, Reset, Get}
use Rattle.vmc_tells.specs.declared.Says.{Says}
use Rattle.vmc_tells.specs.declared.Says.TheVariants.{Bare, Value, Offset}

abbrev pub with_settings : WRecord → List ℕ → WRecord
with_settings w s = record { settings = s; shifts = w.shifts; spare = w.spare; inputs = w.inputs; balance = w.balance }

abbrev pub with_shifts : WRecord → List ℤ → WRecord
with_shifts w z = record { settings = w.settings; shifts = z; spare = w.spare; inputs = w.inputs; balance = w.balance }

-- Document 02, §4, "a single flip: none, H, V or HV": FLIPH is flip 1, FLIPV 2, FLIPHV 3
abbrev pub flip_of : ℕ → ℕ
flip_of k = k - flip_place + 1

-- "ON for a flip word makes it the panel's flip; OFF for it makes the flip none if that word's flip was in force, and changes nothing
-- otherwise": the flip after OFF (0) or ON for a word, from the word's flip and the one in force
abbrev pub flipped_to : ℕ → ℕ → ℕ → ℕ
flipped_to flip v inForce = cond (eqb v 0) (cond (eqb inForce flip) no_flip inForce) flip

-- "STATget of a flip word says ON for the one in force"
abbrev pub flip_says : ℕ → ℕ → ℕ
flip_says flip inForce = cond (eqb inForce flip) 1 0

-- the settings with name k at a value: the table's names have a place each, the flip words share one, and no other name has any
abbrev pub assigned : ℕ → ℕ → List ℕ → List ℕ
assigned k v s =
    cond (ltb k flip_place) (set s k v)
    (cond (ltb k setting_count) (set s flip_place (flipped_to (flip_of k) v (get_or s flip_place 0)))
    s)

-- the value behind name k
abbrev pub value_at : ℕ → List ℕ → ℕ
value_at k s = cond (ltb k flip_place) (get_or s k 0) (flip_says (flip_of k) (get_or s flip_place 0))

-- a set stands in the record; "RESET (both shifts to 0, house)"; a question changes nothing
unfoldable pub carried : Order → WRecord → WRecord
carried (Set k v) w = with_settings w (assigned k v w.settings)
carried (Shift axis z) w = with_shifts w (set w.shifts axis z)
carried Reset w = with_shifts w (replicate 2 (pos 0))
carried (Get k) w = w

-- a set's "OK carries no data"; STATget's carries the present value
unfoldable pub says_of : Order → WRecord → Says
says_of (Set k v) w = Bare
says_of (Shift axis z) w = Bare
says_of Reset w = Bare
says_of (Get k) w = cond (ltb k setting_count) (Value k (value_at k w.settings)) (Offset k (get_or w.shifts (k - setting_count) (pos 0)))
