-- Document 01, "RS-232C (002, 004)": the commands, and what each does to a W panel's record.
use Rattle.std.specs.Prelude.{ℕ, List}
use Rattle.panels.specs.declared.Inputs.{Inputs}
use Rattle.panels.specs.declared.Balance.{Balance}
use Rattle.panels.specs.declared.WRecord.{WRecord}
use Rattle.rs232c_asks.specs.declared.Order.{Order}
use Rattle.rs232c_asks.specs.declared.Order.TheVariants.{Config, Select, Levels, Sense, Remote}
use Rattle.rs232c_inputs.specs.Inputs.{configured_by, selected_by}
use Rattle.rs232c_levels.specs.Levels.{balanced_by}

abbrev pub with_inputs : WRecord → Inputs → WRecord
with_inputs w i = record { settings = w.settings; shifts = w.shifts; spare = w.spare; inputs = i; balance = w.balance }

abbrev pub with_balance : WRecord → Balance → WRecord
with_balance w b = record { settings = w.settings; shifts = w.shifts; spare = w.spare; inputs = w.inputs; balance = b }

-- an order carried out, with the values that follow a mask; 61h and 6Eh ask and change nothing
unfoldable pub carried : Order → List ℕ → WRecord → WRecord
carried (Config marks byte) vs w = with_inputs w (configured_by marks byte w.inputs)
carried (Select byte) vs w = with_inputs w (selected_by byte w.inputs)
carried (Levels mask) vs w = with_balance w (balanced_by mask vs w.balance)
carried (Sense which) vs w = w
carried Remote vs w = w
