-- Demand 3 over the packets after the cutting: the messages are a run's, so the law of every run holds of them; and where a piece is cut,
-- the messages are the same.
use Prim.Native.Nat.{ℕ, suc, ◌+◌, ◌<◌}
use mathlib.Core.Path.{◌≡◌, refl, sym, ap, ◌∙◌}
use mathlib.Core.Bool.{Bool, true, false, cond}
use mathlib.Core.List.{List, [], ◌∷◌, ◌++◌, append_assoc, append-nil}
use native.Mathlib.Omega.{arith}
use lib.Dec.{eqb}
use lib.ListN.{length}
use borrow.Author.Tests.{eq-eqb, ne_eqb}
use Rattle.panels.specs.declared.DisplayBox.{DisplayBox}
use Rattle.configure.specs.Configure.{configured}
use Rattle.steps.specs.Messages.{Message, tcp, names}
use Rattle.steps.specs.Step.{panel_at, step}
use Rattle.steps.specs.Run.{run, kept, replies}
use Rattle.steps.proofs.Alone.{eight_places, demand_3}
use Rattle.receiver.specs.declared.Receiver.{Receiver}
use Rattle.receiver.specs.Pieces.{Fed, fed}
use Rattle.receiver.proofs.Pieces.{feeds_one, fed_feeds}
use Rattle.receiver.proofs.Cutting.{fed_on}
use Rattle.cuts.specs.Exchanges.{Wired, Exchange, Exchanges}
use Rattle.cuts.specs.Events.{Event, message, piece, with_receiver, as_messages, messages_in, receivers_after}
use Rattle.cuts.proofs.Cutting.{room, box_after, of_piece}

-- two lives of one box, with any receivers, whole messages and pieces on any links mixed: where the messages after the cutting are the
-- same for a place, the panel there and the replies are the same
pub demand_3_cut : (b : DisplayBox) (i : ℕ) (rs rs' : ℕ → Receiver) (es es' : List Event) → i < length b.panels
    → kept i (names b) (messages_in rs es) ≡ kept i (names b) (messages_in rs' es')
    → (panel_at i (run b (messages_in rs es)) ≡ panel_at i (run b (messages_in rs' es'))) × (replies i b (messages_in rs es) ≡ replies i b (messages_in rs' es'))
demand_3_cut b i rs rs' es es' h k = demand_3 b i (messages_in rs es) (messages_in rs' es') h k

-- the same of every box that a configuration gives, and of each of its eight places
pub demand_3_cut_configured : (c : List ℕ) (i : ℕ) (rs rs' : ℕ → Receiver) (es es' : List Event) → i < 8
    → kept i (names (configured c).made) (messages_in rs es) ≡ kept i (names (configured c).made) (messages_in rs' es')
    → (panel_at i (run (configured c).made (messages_in rs es)) ≡ panel_at i (run (configured c).made (messages_in rs' es')))
    × (replies i (configured c).made (messages_in rs es) ≡ replies i (configured c).made (messages_in rs' es'))
demand_3_cut_configured c i rs rs' es es' h k = demand_3_cut (configured c).made i rs rs' es es' (rw (eight_places c) h) k

-- ---- a piece is a run over its packets

after_runs : (l : ℕ) (b : DisplayBox) (k : ℕ) (os : List (List ℕ)) → box_after l b os ≡ run b (as_messages l (λ (j : ℕ). room) k os)
after_runs l b k [] = refl
after_runs l b k (o ∷ os) = after_runs l (step b (tcp l o room)).box (suc k) os

-- what an exchange of packets leaves is what the run over them leaves, whatever the areas were, if they were long enough
pub piece_runs : {l : ℕ} {w w' : Wired} {p : List ℕ} {xs : List Exchange} → Exchanges l w p xs w'
    → (w'.box ≡ run w.box (messages_in (λ (k : ℕ). w.receiver) (piece l p (λ (k : ℕ). room) ∷ []))) × (w'.receiver ≡ (fed w.receiver p).after)
piece_runs {l} {w} {w'} {p} e =
    let c = of_piece l e in
    let o = feeds_one c.fed (fed_feeds w.receiver p) in (
      c.box_is ∙ after_runs l w.box 0 c.os ∙ ap (λ (os : List (List ℕ)). run w.box (as_messages l (λ (j : ℕ). room) 0 os)) o.0 ∙ ap (run w.box) (sym (append-nil (as_messages l (λ (j : ℕ). room) 0 (fed w.receiver p).packets))),
      o.1,
    )

-- ---- a piece that is cut

-- the areas behind the first n
abbrev pub behind : ℕ → (ℕ → List ℕ) → ℕ → List ℕ
behind n areas k = areas (n + k)

messages_join : (l : ℕ) (areas : ℕ → List ℕ) (k : ℕ) (os us : List (List ℕ)) → as_messages l areas k (os ++ us) ≡ as_messages l areas k os ++ as_messages l areas (k + length os) us
messages_join l areas k [] us = let e : k ≡ k + 0 = omega arith in ap (λ (n : ℕ). as_messages l areas n us) e
messages_join l areas k (o ∷ os) us =
    let e : suc k + length os ≡ k + suc (length os) = omega arith in
    ap (tcp l o (areas k) ∷◌) (messages_join l areas (suc k) os us ∙ ap (λ (n : ℕ). as_messages l areas (suc k) os ++ as_messages l areas n us) e)

pub messages_behind : (l : ℕ) (areas : ℕ → List ℕ) (n k : ℕ) (os : List (List ℕ)) → as_messages l areas (n + k) os ≡ as_messages l (behind n areas) k os
messages_behind l areas n k [] = refl
messages_behind l areas n k (o ∷ os) =
    let e : suc (n + k) ≡ n + suc k = omega arith in
    ap (tcp l o (areas (n + k)) ∷◌) (ap (λ (j : ℕ). as_messages l areas j os) e ∙ messages_behind l areas n (suc k) os)

-- a receiver that is put in is its own link's, and every other link keeps its own
pub own_receiver : (l : ℕ) (r : Receiver) (rs : ℕ → Receiver) → with_receiver l r rs l ≡ r
own_receiver l r rs = rw (eq-eqb l l refl)

pub other_receivers : (l : ℕ) (r : Receiver) (rs : ℕ → Receiver) (k : ℕ) → (k ≡ l → ⊥) → with_receiver l r rs k ≡ rs k
other_receivers l r rs k n = rw (ne_eqb k l n)

-- receivers that are the same at each link hand out the same messages
pub with_same : (rs rs' : ℕ → Receiver) → ((k : ℕ) → rs k ≡ rs' k) → (l : ℕ) (r r' : Receiver) → r ≡ r' → (k : ℕ)
    → with_receiver l r rs k ≡ with_receiver l r' rs' k
with_same rs rs' same l r r' e k = rw (e, same k)

pub messages_same : (rs rs' : ℕ → Receiver) → ((k : ℕ) → rs k ≡ rs' k) → (es : List Event) → messages_in rs es ≡ messages_in rs' es
messages_same rs rs' e [] = refl
messages_same rs rs' e (message m ∷ es) = ap (m ∷◌) (messages_same rs rs' e es)
messages_same rs rs' e (piece l p areas ∷ es) =
    let a = ap (λ (r : Receiver). (fed r p).after) (e l) in
    let i = messages_same (with_receiver l (fed (rs l) p).after rs) (with_receiver l (fed (rs' l) p).after rs') (with_same rs rs' e l (fed (rs l) p).after (fed (rs' l) p).after a) es in
    ap (λ (r : Receiver). as_messages l areas 0 (fed r p).packets ++ messages_in (with_receiver l (fed (rs l) p).after rs) es) (e l) ∙ ap (as_messages l areas 0 (fed (rs' l) p).packets ++◌) i

pub receivers_same : (rs rs' : ℕ → Receiver) → ((k : ℕ) → rs k ≡ rs' k) → (es : List Event) (k : ℕ) → receivers_after rs es k ≡ receivers_after rs' es k
receivers_same rs rs' e [] k = e k
receivers_same rs rs' e (message m ∷ es) k = receivers_same rs rs' e es k
receivers_same rs rs' e (piece l p areas ∷ es) k =
    receivers_same (with_receiver l (fed (rs l) p).after rs) (with_receiver l (fed (rs' l) p).after rs') (with_same rs rs' e l (fed (rs l) p).after (fed (rs' l) p).after (ap (λ (r : Receiver). (fed r p).after) (e l))) es k

-- the messages of events are those of the first of them, and then those of the rest
messages_on : (rs : ℕ → Receiver) (ds es : List Event) → messages_in rs (ds ++ es) ≡ messages_in rs ds ++ messages_in (receivers_after rs ds) es
messages_on rs [] es = refl
messages_on rs (message m ∷ ds) es = ap (m ∷◌) (messages_on rs ds es)
messages_on rs (piece l p areas ∷ ds) es =
    ap (as_messages l areas 0 (fed (rs l) p).packets ++◌) (messages_on (with_receiver l (fed (rs l) p).after rs) ds es)
    ∙ sym (append_assoc (as_messages l areas 0 (fed (rs l) p).packets) (messages_in (with_receiver l (fed (rs l) p).after rs) ds) (messages_in (receivers_after (with_receiver l (fed (rs l) p).after rs) ds) es))

-- a receiver put in twice is the last one
pub with_twice : (l : ℕ) (a t : Receiver) (rs : ℕ → Receiver) (k : ℕ) → with_receiver l t rs k ≡ with_receiver l t (with_receiver l a rs) k
with_twice l a t rs k = go (eqb k l)
  where
    go : (b : Bool) → cond b t (rs k) ≡ cond b t (cond b a (rs k))
    go true = refl
    go false = refl

cut_first : (rs : ℕ → Receiver) (es : List Event) (l : ℕ) (p q : List ℕ) (areas : ℕ → List ℕ) → messages_in rs (piece l (p ++ q) areas ∷ es) ≡ messages_in rs (piece l p areas ∷ piece l q (behind (length (fed (rs l) p).packets) areas) ∷ es)
cut_first rs es l p q areas =
    let os = (fed (rs l) p).packets in
    let a = (fed (rs l) p).after in
    let us = (fed a q).packets in
    let t = (fed a q).after in
    let own : with_receiver l a rs l ≡ a = rw (eq-eqb l l refl) in
    let n : 0 + length os ≡ length os + 0 = omega arith in
    ap (λ (f : Fed). as_messages l areas 0 f.packets ++ messages_in (with_receiver l f.after rs) es) (fed_on (rs l) p q)
    ∙ ap (◌++ messages_in (with_receiver l t rs) es) (messages_join l areas 0 os us ∙ ap (λ (k : ℕ). as_messages l areas 0 os ++ as_messages l areas k us) n ∙ ap (as_messages l areas 0 os ++◌) (messages_behind l areas (length os) 0 us))
    ∙ append_assoc (as_messages l areas 0 os) (as_messages l (behind (length os) areas) 0 us) (messages_in (with_receiver l t rs) es)
    ∙ ap (λ (ms : List Message). as_messages l areas 0 os ++ (as_messages l (behind (length os) areas) 0 us ++ ms)) (messages_same (with_receiver l t rs) (with_receiver l t (with_receiver l a rs)) (with_twice l a t rs) es)
    ∙ ap (λ (r : Receiver). as_messages l areas 0 os ++ (as_messages l (behind (length os) areas) 0 (fed r q).packets ++ messages_in (with_receiver l (fed r q).after (with_receiver l a rs)) es)) (sym own)

-- wherever a piece is cut in a life, the messages are the same: each packet has its area, and what comes before and behind stays
pub recut : (rs : ℕ → Receiver) (ds es : List Event) (l : ℕ) (p q : List ℕ) (areas : ℕ → List ℕ)
    → messages_in rs (ds ++ piece l (p ++ q) areas ∷ es) ≡ messages_in rs (ds ++ piece l p areas ∷ piece l q (behind (length (fed (receivers_after rs ds l) p).packets) areas) ∷ es)
recut rs ds es l p q areas =
    let n = length (fed (receivers_after rs ds l) p).packets in
    messages_on rs ds (piece l (p ++ q) areas ∷ es) ∙ ap (messages_in rs ds ++◌) (cut_first (receivers_after rs ds) es l p q areas) ∙ sym (messages_on rs ds (piece l p areas ∷ piece l q (behind n areas) ∷ es))

cut_receivers : (rs : ℕ → Receiver) (es : List Event) (l : ℕ) (p q : List ℕ) (areas areas' : ℕ → List ℕ) (k : ℕ)
    → receivers_after rs (piece l (p ++ q) areas ∷ es) k ≡ receivers_after rs (piece l p areas ∷ piece l q areas' ∷ es) k
cut_receivers rs es l p q areas areas' k =
    let a = (fed (rs l) p).after in
    let t = (fed a q).after in
    ap (λ (f : Fed). receivers_after (with_receiver l f.after rs) es k) (fed_on (rs l) p q)
    ∙ receivers_same (with_receiver l t rs) (with_receiver l t (with_receiver l a rs)) (with_twice l a t rs) es k
    ∙ ap (λ (r : Receiver). receivers_after (with_receiver l (fed r q).after (with_receiver l a rs)) es k) (sym (own_receiver l a rs))

receivers_on : (rs : ℕ → Receiver) (ds es : List Event) → receivers_after rs (ds ++ es) ≡ receivers_after (receivers_after rs ds) es
receivers_on rs [] es = refl
receivers_on rs (message m ∷ ds) es = receivers_on rs ds es
receivers_on rs (piece l p areas ∷ ds) es = receivers_on (with_receiver l (fed (rs l) p).after rs) ds es

-- and so is every receiver
pub recut_receivers : (rs : ℕ → Receiver) (ds es : List Event) (l : ℕ) (p q : List ℕ) (areas : ℕ → List ℕ) (k : ℕ)
    → receivers_after rs (ds ++ piece l (p ++ q) areas ∷ es) k
    ≡ receivers_after rs (ds ++ piece l p areas ∷ piece l q (behind (length (fed (receivers_after rs ds l) p).packets) areas) ∷ es) k
recut_receivers rs ds es l p q areas k =
    let n = length (fed (receivers_after rs ds l) p).packets in
    let cut : List Event = piece l p areas ∷ piece l q (behind n areas) ∷ es in
    let whole : List Event = piece l (p ++ q) areas ∷ es in
    ap (λ (ss : ℕ → Receiver). ss k) (receivers_on rs ds whole)
    ∙ cut_receivers (receivers_after rs ds) es l p q areas (behind n areas) k
    ∙ sym (ap (λ (ss : ℕ → Receiver). ss k) (receivers_on rs ds cut))
