-- Document 02, §1: "Demand 3 speaks of packets after this cutting." What reaches the box, in its order: whole messages, and pieces of the
-- bytes of TCP links, of which the box hears the packets.
use Rattle.std.specs.Prelude.{ℕ, suc, cond, List, [], ◌∷◌, ◌++◌, eqb}
use Rattle.steps.specs.Messages.{Message, tcp}
use Rattle.receiver.specs.declared.Receiver.{Receiver}
use Rattle.receiver.specs.Pieces.{fed}

-- "Whole-message entry stays."; a piece comes on a link, with the areas that are lent for the packets in it, the first, the second and so on
pub data Event : Type 0 where
  message : Message → Event
  piece : ℕ → List ℕ → (ℕ → List ℕ) → Event

-- "a receiver for each TCP link": with another for link l
abbrev pub with_receiver : ℕ → Receiver → (ℕ → Receiver) → ℕ → Receiver
with_receiver l r rs k = cond (eqb k l) r (rs k)

-- the packets that were handed out on a link as messages, from the k-th area on
abbrev pub as_messages : ℕ → (ℕ → List ℕ) → ℕ → List (List ℕ) → List Message
as_messages l areas k [] = []
as_messages l areas k (o ∷ os) = tcp l o (areas k) ∷ as_messages l areas (suc k) os

-- the messages after the cutting
abbrev pub messages_in : (ℕ → Receiver) → List Event → List Message
messages_in rs [] = []
messages_in rs (message m ∷ es) = m ∷ messages_in rs es
messages_in rs (piece l p areas ∷ es) = as_messages l areas 0 (fed (rs l) p).packets ++ messages_in (with_receiver l (fed (rs l) p).after rs) es

-- and the receivers
abbrev pub receivers_after : (ℕ → Receiver) → List Event → ℕ → Receiver
receivers_after rs [] = rs
receivers_after rs (message m ∷ es) = receivers_after rs es
receivers_after rs (piece l p areas ∷ es) = receivers_after (with_receiver l (fed (rs l) p).after rs) es
