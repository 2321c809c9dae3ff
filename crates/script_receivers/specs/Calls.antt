-- For the contracts of the code alone: one call of the receiver with what is left of a piece, and all of them before `held` is written.
use Rattle.std.specs.Prelude.{ℕ, ◌+◌, ◌≡◌, Bool, not, List, [], ◌∷◌, map, eqb, length, drop}
use Rattle.panels.specs.declared.DisplayBox.{DisplayBox}
use Rattle.receiver.specs.declared.Receiver.{Receiver}
use Rattle.receiver.specs.Calls.{Given, given}
use Rattle.receiver.specs.Pieces.{fed}
use Rattle.steps.specs.Run.{run}
use Rattle.script_text.specs.Puts.{Puts}
use Rattle.script_answers.specs.Answers.{Effect}
use Rattle.script_receivers.specs.Receivers.{LinkEffect, packet_message, packeted, packets_text}
use Rattle.script_receivers.specs.declared.Between.{Between}

-- what is handed out goes to the box; nothing does nothing
unfoldable pub handed_on : ℕ → List ℕ → DisplayBox → List ℕ → Effect
handed_on link area b [] = record { box = b; text = [] }
handed_on link area b (x ∷ packet) = packeted link area b (x ∷ packet)

-- the call with what is left of the piece
abbrev pub called_by : Between → List ℕ → Given
called_by f piece = given f.receiver (drop f.taken piece)

-- the promise of one call: what it hands out is handed on, its text stands behind what was put before, and it says whether it handed out
pub record CallsOnce (link : ℕ) (area : List ℕ) (f : Between) (piece out : List ℕ) (g : Between) (out' : List ℕ) (more : Bool) : Type 0 where
  pub box_is : g.made ≡ (handed_on link area f.made (called_by f piece).packet).box
  pub receiver_is : g.receiver ≡ (called_by f piece).after
  pub taken_is : g.taken ≡ f.taken + (called_by f piece).taken
  pub text_is : Puts (handed_on link area f.made (called_by f piece).packet).text out f.len out' g.len
  pub more_is : more ≡ not (eqb (length (called_by f piece).packet) 0)

-- all packets of a piece
unfoldable pub packets_done : ℕ → List ℕ → DisplayBox → Receiver → List ℕ → LinkEffect
packets_done link area b r piece = record {
  box = run b (map (packet_message link area) (fed r piece).packets);
  receiver = (fed r piece).after;
  text = packets_text link area b (fed r piece).packets;
}
