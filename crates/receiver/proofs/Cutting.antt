-- The packets and the receiver at the end are the same for every cutting: each piece is read on from what the one before it left.
use Prim.Native.Nat.{ℕ}
use mathlib.Core.Path.{◌≡◌, refl, sym, ap, subst, ◌∙◌}
use mathlib.Core.List.{List, [], ◌∷◌, ◌++◌, append_assoc, append-nil}
use lib.ListN.{length, drop}
use Rattle.receiver.specs.declared.Receiver.{Receiver}
use Rattle.receiver.specs.Stream.{sought}
use Rattle.receiver.specs.Calls.{holding, held_in, given}
use Rattle.receiver.specs.Pieces.{Feeds, Cuts, joined, fed}
use Rattle.receiver.specs.Pieces.Feeds.{last, more}
use Rattle.receiver.specs.Pieces.Cuts.{one, more as further}
use Rattle.receiver.proofs.Reading.{ReadAs, one_reading, read_on}
use Rattle.receiver.proofs.Reading.ReadAs.{rest, next}
use Rattle.receiver.proofs.Calls.{by_call_lem, some_length, some_bytes, held_all, searches_on, after_holds}
use Rattle.receiver.proofs.Pieces.{fed_feeds, fed_is}

-- ---- a call reads the stream

module _ (r : Receiver) (p : List ℕ) where
  reads_last : (given r p).packet ≡ [] → ReadAs (held_in r ++ p) [] (held_in (given r p).after)
  reads_last = by_call_lem r p (λ g. g.packet ≡ [] → ReadAs (held_in r ++ p) [] (held_in g.after)) (λ e z. rest e (sym (held_all r p e))) (λ n e z. absurd (some_bytes r p n e z))

  reads_more : (os : List (List ℕ)) (t : List ℕ) → ((given r p).packet ≡ [] → ⊥) → ReadAs (held_in (given r p).after ++ drop (given r p).taken p) os t → ReadAs (held_in r ++ p) ((given r p).packet ∷ os) t
  reads_more os t = by_call_lem r p
      (λ g. held_in g.after ++ drop g.taken p ≡ drop (length g.packet) (sought (held_in r ++ p)) → (g.packet ≡ [] → ⊥)
      → ReadAs (held_in g.after ++ drop g.taken p) os t → ReadAs (held_in r ++ p) (g.packet ∷ os) t)
      (λ e s n a. absurd (n refl))
      (λ n e s f a. next n e refl (subst (λ (x : List ℕ). ReadAs x os t) (s ∙ ap (λ (k : ℕ). drop k (sought (held_in r ++ p))) (some_length r p n e)) a))
      (searches_on r p)

-- ---- and so do pieces

-- packets and receiver are what the stream says
abbrev Read : List ℕ → List (List ℕ) → Receiver → Type 0
Read l os s = ReadAs l os (held_in s) × (s ≡ holding (held_in s))

feeds_read : {r s : Receiver} {p : List ℕ} {os : List (List ℕ)} → Feeds r p os s → Read (held_in r ++ p) os s
feeds_read (last {r = r} {p = p} e) = (reads_last r p e, after_holds r p)
feeds_read (more {r = r} {s = s} {p = p} {os = os} e f) = let a = feeds_read f in (reads_more r p os (held_in s) e a.0, a.1)

cuts_read_on : {s t : Receiver} {q : List ℕ} {ps us : List (List ℕ)} (l : List ℕ) (os : List (List ℕ)) → Read l os s → Cuts s (q ∷ ps) us t → Read (l ++ joined (q ∷ ps)) (os ++ us) t
cuts_read_on l os a (one {p = p} {os = us} f) =
    let b = feeds_read f in
    rw (append-nil p) (read_on p _ us a.0 b.0, b.1)
cuts_read_on l os a (further {s = s} {p = p} {q = q} {ps = ps} {os = us} {us = vs} f g) =
    let b = feeds_read f in
    let ih = cuts_read_on (l ++ p) (os ++ us) (read_on p (held_in s) us a.0 b.0, b.1) g in
    rw (append_assoc l p (joined (q ∷ ps)), append_assoc os us vs) at ih

cuts_read : {r t : Receiver} {ps os : List (List ℕ)} → Cuts r ps os t → Read (held_in r ++ joined ps) os t
cuts_read (one {p = p} f) = rw (append-nil p) (feeds_read f)
cuts_read {r} (further {t = t} {p = p} {q = q} {ps = ps} {os = os} {us = us} f g) =
    subst (λ (x : List ℕ). Read x (os ++ us) t) (append_assoc (held_in r) p (joined (q ∷ ps))) (cuts_read_on (held_in r ++ p) os (feeds_read f) g)

-- any receiver, and any two cuttings of the same bytes into one piece or more
pub cutting : {r s t : Receiver} {ps qs xs ys : List (List ℕ)} → Cuts r ps xs s → Cuts r qs ys t → joined ps ≡ joined qs → (xs ≡ ys) × (s ≡ t)
cutting {r} {s} {t} {ps} {qs} {xs} {ys} a b e =
    let x = cuts_read a in
    let y = cuts_read b in
    let o = one_reading (subst (λ (l : List ℕ). ReadAs (held_in r ++ l) xs (held_in s)) e x.0) y.0 in
    (o.0, x.1 ∙ ap holding o.1 ∙ sym y.1)

-- the same of the function: two pieces are one, cut
pub fed_on : (r : Receiver) (p q : List ℕ) → fed r (p ++ q) ≡ record { packets = (fed r p).packets ++ (fed (fed r p).after q).packets; after = (fed (fed r p).after q).after }
fed_on r p q = fed_is (cutting (one (fed_feeds r (p ++ q))) (further (fed_feeds r p) (one (fed_feeds (fed r p).after q))) (append-nil (p ++ q) ∙ sym (ap (p ++◌) (append-nil q))))
