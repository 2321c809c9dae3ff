-- Document 02, §1: one call of a receiver.
use Rattle.std.specs.Prelude.{ℕ, zero, suc, ◌+◌, ◌-◌, ◌≡◌, cond, List, [], ◌++◌, length, take, drop, replicate, leb}
use Rattle.laws.specs.Bytes.{sent}
use Rattle.receiver.specs.declared.Receiver.{Receiver}
use Rattle.receiver.specs.declared.Received.{Received}
use Rattle.receiver.specs.Stream.{noise, sought, whole, counted}

-- "It holds at most 512 bytes": a receiver that holds these, and "its store is 0 behind the bytes held"
abbrev pub padded : List ℕ → List ℕ
padded l = l ++ replicate (512 - length l) 0

unfoldable pub holding : List ℕ → Receiver
holding l = record { held = length l; store = padded l }

-- the bytes that a receiver holds: "one that claims to hold more is emptied first"
unfoldable pub held_in : Receiver → List ℕ
held_in r = cond (leb r.held 512) (take r.held r.store) []

-- what a call gives: the receiver after it, how many bytes of the piece it took, and what it hands out, no bytes where that is nothing
pub record Given : Type 0 where
  pub after : Receiver
  pub taken : ℕ
  pub packet : List ℕ

-- of the bytes held and then the piece, j are noise, and behind these so many stand whole
-- none: it "hands out nothing" and "has taken the whole piece"
-- some: "a call takes no byte past what it hands out", and what was held behind that is held on
unfoldable pub handed : ℕ → ℕ → List ℕ → List ℕ → Given
handed zero j held piece = record { after = holding (drop j (held ++ piece)); taken = length piece; packet = [] }
handed (suc n) j held piece = record {
  after = holding (drop (j + suc n) held);
  taken = j + suc n - length held;
  packet = take (suc n) (drop j (held ++ piece));
}

-- "bytes held are read before the piece"
unfoldable pub given : Receiver → List ℕ → Given
given r piece = handed (whole (sought (held_in r ++ piece))) (noise (held_in r ++ piece)) (held_in r) piece

-- the promise: the receiver after the call, the bytes taken, and what is handed out at the front of its area, all else there as it was
pub record Receives (g : Given) (area : List ℕ) (r : Received) (area' : List ℕ) : Type 0 where
  pub after_is : r.after ≡ g.after
  pub taken_is : r.taken ≡ g.taken
  pub len_is : r.len ≡ counted (length g.packet)
  pub area_is : area' ≡ sent g.packet area
