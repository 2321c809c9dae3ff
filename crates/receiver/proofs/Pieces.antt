-- A piece's rest is given until a call hands out nothing: one way only, and to an end, since each packet leaves fewer bytes.
use Prim.Native.Nat.{ℕ, zero, suc, ◌-◌, ◌≤◌}
use native.Mathlib.Omega.{arith}
use mathlib.Core.Path.{◌≡◌, refl, ap, ◌∙◌}
use mathlib.Core.List.{List, [], ◌∷◌, ◌++◌}
use lib.ListN.{length, drop, length-drop}
use borrow.Author.Tests.{ne_eqb}
use Rattle.receiver.specs.declared.Receiver.{Receiver}
use Rattle.receiver.specs.Stream.{noise, sought}
use Rattle.receiver.specs.Calls.{held_in, given}
use Rattle.receiver.specs.Pieces.{Feeds, Cuts, Fed, and_that, fed_by, fed}
use Rattle.receiver.specs.Pieces.Feeds.{last, more}
use Rattle.receiver.specs.Pieces.Cuts.{one, more as further}
use Rattle.receiver.proofs.Calls.{packet_le, searches_on, zeros_behind}

pub feeds_one : {r s t : Receiver} {p : List ℕ} {os us : List (List ℕ)} → Feeds r p os s → Feeds r p us t → (os ≡ us) × (s ≡ t)
feeds_one (last e) (last f) = (refl, refl)
feeds_one (last e) (more f g) = absurd (f e)
feeds_one (more e a) (last f) = absurd (e f)
feeds_one (more {r = r} {p = p} e a) (more f b) = let i = feeds_one a b in (ap ((given r p).packet ∷◌) i.0, i.1)

-- ---- the function gives the relation

pub fed_is : {f g : Fed} → (f.packets ≡ g.packets) × (f.after ≡ g.after) → f ≡ g
fed_is {f} {g} e = ap (λ (os : List (List ℕ)). record { packets = os; after = f.after }) e.0 ∙ ap (λ (s : Receiver). record { packets = g.packets; after = s }) e.1

abbrev Done : ℕ → Receiver → List ℕ → Type 0
Done n r p = Feeds r p (fed_by n r p).packets (fed_by n r p).after

module _ (r : Receiver) (p : List ℕ) where
  -- the bytes that a call leaves
  pub leaves : length (held_in (given r p).after ++ drop (given r p).taken p) ≤ length (held_in r ++ p) - length (given r p).packet
  leaves = omega (arith, ap length (searches_on r p), length-drop (length (given r p).packet) (sought (held_in r ++ p)), length-drop (noise (held_in r ++ p)) (held_in r ++ p))

  done_last : (n : ℕ) → (given r p).packet ≡ [] → Done n r p
  unfolding fed_by
  done_last zero e = last e
  done_last (suc n) e = rw e (last e)

  done_more : (n : ℕ) → ((given r p).packet ≡ [] → ⊥) → Done n (given r p).after (drop (given r p).taken p) → Done (suc n) r p
  unfolding fed_by
  done_more n e f = rw (ne_eqb (length (given r p).packet) 0 (λ z. e (no_bytes (given r p).packet z))) (more e f)
    where
      no_bytes : (l : List ℕ) → length l ≡ 0 → l ≡ []
      no_bytes [] z = refl
      no_bytes (x ∷ l) z = absurd (omega arith)

fed_by_lem : (n : ℕ) (r : Receiver) (p : List ℕ) → length (held_in r ++ p) ≤ n → Done n r p
fed_by_lem zero r p h = go (given r p).packet refl
  where
    go : (o : List ℕ) → (given r p).packet ≡ o → Done zero r p
    go [] e = done_last r p zero e
    go (x ∷ o) e = absurd (omega (arith, packet_le r p, ap length e))
fed_by_lem (suc n) r p h = go (given r p).packet refl (fed_by_lem n (given r p).after (drop (given r p).taken p))
  where
    go : (o : List ℕ) → (given r p).packet ≡ o → (length (held_in (given r p).after ++ drop (given r p).taken p) ≤ n → Done n (given r p).after (drop (given r p).taken p)) → Done (suc n) r p
    go [] e ih = done_last r p (suc n) e
    go (x ∷ o) e ih = done_more r p n (λ z. omega (arith, ap length e, ap length z)) (ih (omega (arith, leaves r p, ap length e)))

pub fed_feeds : (r : Receiver) (p : List ℕ) → Feeds r p (fed r p).packets (fed r p).after
fed_feeds r p = fed_by_lem (length (held_in r ++ p)) r p (omega arith)

-- one call of it: the last one hands out nothing, and each one before it leaves the rest to the others
pub fed_last : (r : Receiver) (p : List ℕ) → (given r p).packet ≡ [] → fed r p ≡ record { packets = []; after = (given r p).after }
fed_last r p e = fed_is (feeds_one (fed_feeds r p) (last e))

pub fed_more : (r : Receiver) (p : List ℕ) → ((given r p).packet ≡ [] → ⊥) → fed r p ≡ and_that (given r p).packet (fed (given r p).after (drop (given r p).taken p))
fed_more r p e = fed_is (feeds_one (fed_feeds r p) (more e (fed_feeds (given r p).after (drop (given r p).taken p))))

-- what is held at its end
feeds_held : {r s : Receiver} {p : List ℕ} {os : List (List ℕ)} → Feeds r p os s → s.held ≤ 512
feeds_held (last {r = r} {p = p} e) = (zeros_behind r p).0
feeds_held (more e f) = feeds_held f

pub fed_held : (r : Receiver) (p : List ℕ) → (fed r p).after.held ≤ 512
fed_held r p = feeds_held (fed_feeds r p)

-- so every cutting into one piece or more can be given
pub cuts_end : (r : Receiver) (p : List ℕ) (ps : List (List ℕ)) → (os : List (List ℕ)) × ((s : Receiver) × Cuts r (p ∷ ps) os s)
cuts_end r p [] = ((fed r p).packets, ((fed r p).after, one (fed_feeds r p)))
cuts_end r p (q ∷ ps) = let c = cuts_end (fed r p).after q ps in ((fed r p).packets ++ c.0, (c.1.0, further (fed_feeds r p) c.1.1))
