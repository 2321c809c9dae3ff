-- Document 02, §1: a host's life call by call. "takes pieces cut anywhere and gives whole packets, one a call"; "each piece's rest being given until a
-- call hands out nothing". Each message is a step, and nothing here knows of a list of messages.
use Rattle.std.specs.Prelude.{ℕ, ◌+◌, ◌≡◌, cond, List, [], ◌∷◌, drop}
use Rattle.panels.specs.declared.DisplayBox.{DisplayBox}
use Rattle.steps.specs.Messages.{Message, tcp, Name}
use Rattle.steps.specs.Addressing.{addressed}
use Rattle.steps.specs.Run.{Got, got_by, after}
use Rattle.receiver.specs.declared.Receiver.{Receiver}
use Rattle.receiver.specs.Calls.{given}
use Rattle.cuts.specs.Events.{Event, message, piece, with_receiver}

-- the areas behind the first n
abbrev pub areas_behind : ℕ → (ℕ → List ℕ) → ℕ → List ℕ
areas_behind n areas k = areas (n + k)

-- from receivers and a box, these events get this and leave those receivers and that box: a whole message is a step; a piece of which a call hands out
-- nothing leaves its receiver alone changed; one of which it hands out a packet is a step with that packet, and its rest is a piece again
pub data Lives : (ℕ → Receiver) → DisplayBox → List Event → List Got → (ℕ → Receiver) → DisplayBox → Type 0 where
  ends : {rs : ℕ → Receiver} {b : DisplayBox} → Lives rs b [] [] rs b
  whole : {rs ss : ℕ → Receiver} {b b' : DisplayBox} {es : List Event} {gs : List Got} (m : Message)
      → Lives rs (after b m) es gs ss b' → Lives rs b (message m ∷ es) (got_by b m ∷ gs) ss b'
  none : {rs ss : ℕ → Receiver} {b b' : DisplayBox} {es : List Event} {gs : List Got} (l : ℕ) (p : List ℕ) (areas : ℕ → List ℕ)
      → (given (rs l) p).packet ≡ []
      → Lives (with_receiver l (given (rs l) p).after rs) b es gs ss b' → Lives rs b (piece l p areas ∷ es) gs ss b'
  some : {rs ss : ℕ → Receiver} {b b' : DisplayBox} {es : List Event} {gs : List Got} (l : ℕ) (p : List ℕ) (areas : ℕ → List ℕ)
      → ((given (rs l) p).packet ≡ [] → ⊥)
      → Lives (with_receiver l (given (rs l) p).after rs) (after b (tcp l (given (rs l) p).packet (areas 0)))
      (piece l (drop (given (rs l) p).taken p) (areas_behind 1 areas) ∷ es) gs ss b'
      → Lives rs b (piece l p areas ∷ es) (got_by b (tcp l (given (rs l) p).packet (areas 0)) ∷ gs) ss b'

-- what each message of a run got
abbrev pub got_all : DisplayBox → List Message → List Got
got_all b [] = []
got_all b (m ∷ ms) = got_by b m ∷ got_all (after b m) ms

-- what the messages that are addressed to place i got
abbrev pub for_place : ℕ → List Name → List Message → List Got → List Got
for_place i ns [] gs = []
for_place i ns (m ∷ ms) [] = []
for_place i ns (m ∷ ms) (g ∷ gs) = cond (addressed ns m i) (g ∷ for_place i ns ms gs) (for_place i ns ms gs)
