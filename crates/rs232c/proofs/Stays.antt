-- What an order does not name stays: each order changes its own part of the record alone.
use mathlib.Core.Path.{◌≡◌, refl}
use mathlib.Core.List.{List}
use Prim.Native.Nat.{ℕ}
use Rattle.std.specs.Prelude.{Result, Ok, Err}
use Rattle.terms.specs.declared.Answer.{Answer}
use Rattle.turns.specs.Turns.{Turn, taken}
use Rattle.turns.proofs.Turns.{either}
use Rattle.panels.specs.declared.Inputs.{Inputs}
use Rattle.panels.specs.declared.WRecord.{WRecord}
use Rattle.rs232c_asks.specs.Asks.{code_of, data_of, Heard, heard_of, values_of}
use Rattle.rs232c.specs.Orders.{with_inputs, carried}
use Rattle.rs232c_inputs.specs.Inputs.{configured_by, selected_by}
use Rattle.rs232c.specs.Replies.{replied, turned, turn_of}
use Rattle.rs232c_asks.specs.declared.Order.TheVariants.{Config, Select, Levels, Sense, Remote}
use Rattle.rs232c_asks.specs.declared.Order.{Order}
use Rattle.rs232c_asks.proofs.Known.{KnownOrder, Known, heard_known}
use Rattle.rs232c.proofs.AskedBack.{Stays}

unmoved : (code : ℕ) (w : WRecord) → Stays code w w
unmoved code w = record { settings_stay = refl; shifts_stay = refl; spare_stays = refl; inputs_stay = λ n n'. refl; balance_stays = λ n. refl }

inputs_move : (code : ℕ) (w : WRecord) (i : Inputs) → ((code ≡ 0x21 → ⊥) → (code ≡ 0x22 → ⊥) → ⊥) → Stays code w (with_inputs w i)
inputs_move code w i c = record { settings_stay = refl; shifts_stay = refl; spare_stays = refl; inputs_stay = λ n n'. absurd (c n n'); balance_stays = λ n. refl }

replied_stays : (code : ℕ) (bytes : List ℕ) (s : ℕ) (o : Result Order Answer) (vs : List ℕ) (w : WRecord) → KnownOrder code bytes o → Stays code w (replied s o vs w).after
unfolding carried
replied_stays code bytes s (Err a) vs w k = unmoved code w
replied_stays code bytes s (Ok (Config marks byte)) vs w k = inputs_move code w (configured_by marks byte w.inputs) (λ n n'. n k.0)
replied_stays code bytes s (Ok (Select byte)) vs w k = inputs_move code w (selected_by byte w.inputs) (λ n n'. n' k.0)
replied_stays code bytes s (Ok (Levels mask)) vs w k =
    record { settings_stay = refl; shifts_stay = refl; spare_stays = refl; inputs_stay = λ n n'. refl; balance_stays = λ n. absurd (n k.0) }
replied_stays code bytes s (Ok (Sense which)) vs w k = unmoved code w
replied_stays code bytes s (Ok Remote) vs w k = unmoved code w

turned_stays : (code : ℕ) (bytes : List ℕ) (h : Heard) (vs : List ℕ) (w : WRecord) → Known code bytes h → Stays code w (turned h vs w).after
unfolding turned
turned_stays code bytes (Err a) vs w k = unmoved code w
turned_stays code bytes (Ok x) vs w k = replied_stays code bytes x.source x.order vs w k

-- whatever the message and the area: what its command does not name stays
pub stays : (room : ℕ) (m : List ℕ) (w : WRecord) → Stays (code_of m) w (taken room (turn_of m) w).after
stays room m w =
    either (λ (t : Turn WRecord). Stays (code_of m) w t.after) room (turn_of m) w (unmoved (code_of m) w)
    (turned_stays (code_of m) (data_of m) (heard_of m) (values_of m) w (heard_known m))
