-- Worked examples, computed: what a receiver hands out of a few bytes, and what it holds then.
use Prim.Native.Nat.{ℕ}
use mathlib.Core.Path.{◌≡◌, refl}
use mathlib.Core.List.{List, [], ◌∷◌, ◌++◌}
use Rattle.laws.specs.Bytes.{ascii}
use Rattle.laws.specs.Numbers.{number}
use Rattle.sdcp_asks.specs.Asks.{front}
use Rattle.receiver.specs.declared.Receiver.{Receiver}
use Rattle.receiver.specs.Stream.{agrees, noise, size_of, whole}
use Rattle.receiver.specs.Calls.{holding, held_in, handed, given}
use Rattle.receiver.specs.Pieces.{Fed, fed_by, fed}

-- what a piece computes with: a proof that unfolds `opened` unfolds all that is named here
unfoldable pub opened : Receiver → List ℕ → Fed
unfolding number agrees noise size_of whole holding held_in handed given fed_by
opened r p = fed r p

abbrev empty : Receiver
empty = holding []

-- a packet of two data bytes for a group and a unit, and a header with a data length of 500
abbrev packet : ℕ → ℕ → List ℕ
packet g u = front ++ g ∷ u ∷ 0 ∷ 0xb0 ∷ 0 ∷ 0 ∷ 2 ∷ ascii "AB"

abbrev header : List ℕ
header = front ++ 0 ∷ 0 ∷ 0 ∷ 0xb0 ∷ 0 ∷ 0x01 ∷ 0xf4 ∷ []

-- "Other packets are handed out whole, addressed or not": by TCP 5/FFh addresses nobody
pub for_nobody : fed empty (packet 5 0xff) ≡ record { packets = packet 5 0xff ∷ []; after = empty }
unfolding opened
for_nobody = refl

-- of an overlong header "just those 13 bytes are handed out [..], and it searches on" behind them
pub overlong : fed empty (header ++ packet 1 1) ≡ record { packets = header ∷ packet 1 1 ∷ []; after = empty }
unfolding opened
overlong = refl

-- 03h begins a packet only until the next byte says otherwise
pub dropped_late : (held_in (given empty (0x07 ∷ 0x03 ∷ [])).after ≡ 0x03 ∷ []) × (held_in (given (holding (0x03 ∷ [])) (0x03 ∷ 0x0b ∷ [])).after ≡ 0x03 ∷ 0x0b ∷ [])
unfolding opened
dropped_late = (refl, refl)

-- "bytes held are read before the piece": a packet among them is handed out, and no byte of the piece is taken
pub held_first : ((given (holding (0x07 ∷ packet 1 1 ++ header)) (0x07 ∷ [])).packet ≡ packet 1 1) × ((given (holding (0x07 ∷ packet 1 1 ++ header)) (0x07 ∷ [])).taken ≡ 0)
unfolding opened
held_first = (refl, refl)
