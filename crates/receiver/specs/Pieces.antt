-- Document 02, §1: many calls. "The packets, replies and receiver state at the end are the same for every cutting into one piece or
-- more, each piece's rest being given until a call hands out nothing".
use Rattle.std.specs.Prelude.{ℕ, zero, suc, ◌≡◌, cond, List, [], ◌∷◌, ◌++◌, eqb, length, drop}
use Rattle.receiver.specs.declared.Receiver.{Receiver}
use Rattle.receiver.specs.Calls.{held_in, given}

-- "each piece's rest being given until a call hands out nothing": the receiver, the piece, what was handed out of it, the receiver at its end
pub data Feeds : Receiver → List ℕ → List (List ℕ) → Receiver → Type 0 where
  last : {r : Receiver} {p : List ℕ} → (given r p).packet ≡ [] → Feeds r p [] (given r p).after
  more : {r s : Receiver} {p : List ℕ} {os : List (List ℕ)} → ((given r p).packet ≡ [] → ⊥) → Feeds (given r p).after (drop (given r p).taken p) os s → Feeds r p ((given r p).packet ∷ os) s

-- "every cutting into one piece or more"
pub data Cuts : Receiver → List (List ℕ) → List (List ℕ) → Receiver → Type 0 where
  one : {r s : Receiver} {p : List ℕ} {os : List (List ℕ)} → Feeds r p os s → Cuts r (p ∷ []) os s
  more : {r s t : Receiver} {p q : List ℕ} {ps os us : List (List ℕ)} → Feeds r p os s → Cuts s (q ∷ ps) us t → Cuts r (p ∷ q ∷ ps) (os ++ us) t

-- the bytes of pieces
abbrev pub joined : List (List ℕ) → List ℕ
joined [] = []
joined (p ∷ ps) = p ++ joined ps

-- ---- a piece, the same as a function: a call that hands out leaves fewer bytes, so as many calls as there are bytes are enough

pub record Fed : Type 0 where
  pub packets : List (List ℕ)
  pub after : Receiver

abbrev pub and_that : List ℕ → Fed → Fed
and_that o f = record { packets = o ∷ f.packets; after = f.after }

unfoldable pub fed_by : ℕ → Receiver → List ℕ → Fed
fed_by zero r p = record { packets = []; after = (given r p).after }
fed_by (suc n) r p =
    cond (eqb (length (given r p).packet) 0)
    (record { packets = []; after = (given r p).after })
    (and_that (given r p).packet (fed_by n (given r p).after (drop (given r p).taken p)))

abbrev pub fed : Receiver → List ℕ → Fed
fed r p = fed_by (length (held_in r ++ p)) r p
