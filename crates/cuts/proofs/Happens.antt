-- A life by its calls: whole messages are steps, and a piece is given to its link's receiver, the rest of it again, until a call hands out
-- nothing, each packet being a step at once. What that leaves and gets is the run over `messages_in`.
use Prim.Native.Nat.{ℕ, ◌<◌}
use mathlib.Core.Path.{◌≡◌, refl, sym, ap, subst, ◌∙◌}
use mathlib.Core.Bool.{cond}
use mathlib.Core.List.{List, [], ◌∷◌, ◌++◌}
use lib.ListN.{drop}
use Rattle.panels.specs.declared.DisplayBox.{DisplayBox}
use Rattle.configure.specs.Configure.{configured}
use Rattle.steps.specs.Messages.{Message, tcp, Name, names}
use Rattle.steps.specs.Addressing.{addressed}
use Rattle.steps.specs.Step.{panel_at}
use Rattle.steps.specs.Run.{Got, got_by, after, run, kept, replies}
use Rattle.steps.proofs.Alone.{demand_3_configured}
use Rattle.steps.proofs.Validity.{names_kept}
use Rattle.receiver.specs.declared.Receiver.{Receiver}
use Rattle.receiver.specs.Calls.{given}
use Rattle.receiver.specs.Pieces.{Fed, Feeds, fed}
use Rattle.receiver.specs.Pieces.Feeds.{last as fed-end, more as fed_on}
use Rattle.receiver.proofs.Pieces.{fed_last, fed_more, fed_feeds}
use Rattle.cuts.specs.Events.{Event, message, piece, with_receiver, as_messages, messages_in, receivers_after}
use Rattle.cuts.specs.Lives.{Lives, ends, whole, none, some, areas_behind, got_all, for_place}
use Rattle.cuts.proofs.Lives.{messages_behind, messages_same, receivers_same, own_receiver, with_twice}

module _ (rs : ℕ → Receiver) (es : List Event) (l : ℕ) (p : List ℕ) (areas : ℕ → List ℕ) where
  messages_none : (given (rs l) p).packet ≡ [] → messages_in rs (piece l p areas ∷ es) ≡ messages_in (with_receiver l (given (rs l) p).after rs) es
  messages_none e = ap (λ (f : Fed). as_messages l areas 0 f.packets ++ messages_in (with_receiver l f.after rs) es) (fed_last (rs l) p e)

  receivers_none : (given (rs l) p).packet ≡ [] → (k : ℕ)
      → receivers_after rs (piece l p areas ∷ es) k ≡ receivers_after (with_receiver l (given (rs l) p).after rs) es k
  receivers_none e k = ap (λ (f : Fed). receivers_after (with_receiver l f.after rs) es k) (fed_last (rs l) p e)

  messages_some : ((given (rs l) p).packet ≡ [] → ⊥)
      → messages_in rs (piece l p areas ∷ es)
      ≡ tcp l (given (rs l) p).packet (areas 0) ∷ messages_in (with_receiver l (given (rs l) p).after rs) (piece l (drop (given (rs l) p).taken p) (areas_behind 1 areas) ∷ es)
  messages_some n =
      let r = (given (rs l) p).after in
      let q = drop (given (rs l) p).taken p in
      let x : Message = tcp l (given (rs l) p).packet (areas 0) in
      let t = (fed r q).after in
      ap (λ (f : Fed). as_messages l areas 0 f.packets ++ messages_in (with_receiver l f.after rs) es) (fed_more (rs l) p n)
      ∙ ap (λ (ms : List Message). x ∷ (ms ++ messages_in (with_receiver l t rs) es)) (messages_behind l areas 1 0 (fed r q).packets)
      ∙ ap (λ (ms : List Message). x ∷ (as_messages l (areas_behind 1 areas) 0 (fed r q).packets ++ ms)) (messages_same (with_receiver l t rs) (with_receiver l t (with_receiver l r rs)) (with_twice l r t rs) es)
      ∙ ap (λ (y : Receiver). x ∷ (as_messages l (areas_behind 1 areas) 0 (fed y q).packets ++ messages_in (with_receiver l (fed y q).after (with_receiver l r rs)) es)) (sym (own_receiver l r rs))

  receivers_some : ((given (rs l) p).packet ≡ [] → ⊥) → (k : ℕ)
      → receivers_after rs (piece l p areas ∷ es) k
      ≡ receivers_after (with_receiver l (given (rs l) p).after rs) (piece l (drop (given (rs l) p).taken p) (areas_behind 1 areas) ∷ es) k
  receivers_some n k =
      let r = (given (rs l) p).after in
      let q = drop (given (rs l) p).taken p in
      let t = (fed r q).after in
      ap (λ (f : Fed). receivers_after (with_receiver l f.after rs) es k) (fed_more (rs l) p n)
      ∙ receivers_same (with_receiver l t rs) (with_receiver l t (with_receiver l r rs)) (with_twice l r t rs) es k
      ∙ ap (λ (y : Receiver). receivers_after (with_receiver l (fed y q).after (with_receiver l r rs)) es k) (sym (own_receiver l r rs))

-- a life by its calls is a run over the messages after the cutting: box, what each message got, and every receiver
pub record Lived (rs : ℕ → Receiver) (b : DisplayBox) (es : List Event) (gs : List Got) (ss : ℕ → Receiver) (b' : DisplayBox) : Type 0 where
  pub box_is : b' ≡ run b (messages_in rs es)
  pub gots_are : gs ≡ got_all b (messages_in rs es)
  pub receivers_are : (k : ℕ) → ss k ≡ receivers_after rs es k

pub lived : {rs ss : ℕ → Receiver} {b b' : DisplayBox} {es : List Event} {gs : List Got} → Lives rs b es gs ss b' → Lived rs b es gs ss b'
lived ends = record { box_is = refl; gots_are = refl; receivers_are = λ k. refl }
lived (whole {b = b} m f) =
    let h = lived f in
    record { box_is = h.box_is; gots_are = ap (got_by b m ∷◌) h.gots_are; receivers_are = h.receivers_are }
lived (none {rs = rs} {b = b} {es = es} l p areas e f) =
    let h = lived f in
    let m = messages_none rs es l p areas e in
    record {
      box_is =
          h.box_is ∙ ap (run b) (sym m);
      gots_are = h.gots_are ∙ ap (got_all b) (sym m);
      receivers_are = λ k. h.receivers_are k
          ∙ sym (receivers_none rs es l p areas e k);
    }
lived (some {rs = rs} {b = b} {es = es} l p areas n f) =
    let h = lived f in
    let x : Message = tcp l (given (rs l) p).packet (areas 0) in
    let m = messages_some rs es l p areas n in
    record {
      box_is =
          h.box_is ∙ ap (run b) (sym m);
      gots_are = ap (got_by b x ∷◌) h.gots_are ∙ ap (got_all b) (sym m);
      receivers_are = λ k. h.receivers_are k
          ∙ sym (receivers_some rs es l p areas n k);
    }

-- these are the replies of demand 3
pub heard_for : (i : ℕ) (ms : List Message) (b : DisplayBox) → for_place i (names b) ms (got_all b ms) ≡ replies i b ms
heard_for i [] b = refl
heard_for i (m ∷ ms) b =
    ap (λ (gs : List Got). cond (addressed (names b) m i) (got_by b m ∷ gs) gs) (ap (λ (ns : List Name). for_place i ns ms (got_all (after b m) ms)) (sym (names_kept b m)) ∙ heard_for i ms (after b m))

-- demand 3 of two lives, call by call, from any configuration
pub demand_3_lived : (c : List ℕ) (i : ℕ) {rs rs' ss ss' : ℕ → Receiver} {b b' : DisplayBox} {es es' : List Event} {gs gs' : List Got}
    → i < 8
    → Lives rs (configured c).made es gs ss b
    → Lives rs' (configured c).made es' gs' ss' b'
    → kept i (names (configured c).made) (messages_in rs es) ≡ kept i (names (configured c).made) (messages_in rs' es')
    → (panel_at i b ≡ panel_at i b')
    × (for_place i (names (configured c).made) (messages_in rs es) gs ≡ for_place i (names (configured c).made) (messages_in rs' es') gs')
demand_3_lived c i {rs} {rs'} {es = es} {es' = es'} h x y k =
    let a = lived x in
    let z = lived y in
    let ns = names (configured c).made in
    let d = demand_3_configured c i (messages_in rs es) (messages_in rs' es') h k in (
      ap (panel_at i) a.box_is ∙ d.0 ∙ sym (ap (panel_at i) z.box_is),
      ap (for_place i ns (messages_in rs es)) a.gots_are ∙ heard_for i (messages_in rs es) (configured c).made ∙ d.1
          ∙ sym (ap (for_place i ns (messages_in rs' es')) z.gots_are ∙ heard_for i (messages_in rs' es') (configured c).made),
    )

-- what the same events leave is one thing: the box, what each message got, and every receiver
pub lives_one : {rs ss ss' : ℕ → Receiver} {b b' b'' : DisplayBox} {es : List Event} {gs gs' : List Got}
    → Lives rs b es gs ss b'
    → Lives rs b es gs' ss' b''
    → (b' ≡ b'') × (gs ≡ gs') × ((k : ℕ) → ss k ≡ ss' k)
lives_one x y =
    let a = lived x in
    let z = lived y in
    (a.box_is ∙ sym z.box_is, a.gots_are ∙ sym z.gots_are, λ k. a.receivers_are k ∙ sym (z.receivers_are k))

-- ---- every life can be had: of any receivers, box and events

abbrev Some : (ℕ → Receiver) → DisplayBox → List Event → Type 0
Some rs b es = (gs : List Got) × (ss : ℕ → Receiver) × (b' : DisplayBox) × Lives rs b es gs ss b'

piece_lives : {r s : Receiver} {p : List ℕ} {os : List (List ℕ)} (l : ℕ) (es : List Event) → ((rs : ℕ → Receiver) (b : DisplayBox) → Some rs b es)
    → Feeds r p os s → (areas : ℕ → List ℕ) (rs : ℕ → Receiver) (b : DisplayBox) → rs l ≡ r → Some rs b (piece l p areas ∷ es)
piece_lives {p = p} l es on (fed-end e) areas rs b q =
    let t = on (with_receiver l (given (rs l) p).after rs) b in
    (t.0, t.1, t.2, none l p areas (ap (λ (x : Receiver). (given x p).packet) q ∙ e) t.3)
piece_lives {p = p} l es on (fed_on n f) areas rs b q =
    let x = tcp l (given (rs l) p).packet (areas 0) in
    let own = own_receiver l (given (rs l) p).after rs in
    let t = subst (λ (y : Receiver). (cs : List Event) → cs ≡ piece l (drop (given y p).taken p) (areas_behind 1 areas) ∷ es → Some (with_receiver l (given (rs l) p).after rs) (after b x) cs) (sym q)
    (λ cs c. subst (Some (with_receiver l (given (rs l) p).after rs) (after b x)) (sym c) (piece_lives l es on f (areas_behind 1 areas) (with_receiver l (given (rs l) p).after rs) (after b x) (own ∙ ap (λ (y : Receiver). (given y p).after) q))) _ refl in
    (got_by b x ∷ t.0, t.1, t.2, some l p areas (λ z. n (sym (ap (λ (y : Receiver). (given y p).packet) q) ∙ z)) t.3)

pub lives_end : (es : List Event) (rs : ℕ → Receiver) (b : DisplayBox) → (gs : List Got) × (ss : ℕ → Receiver) × (b' : DisplayBox) × Lives rs b es gs ss b'
lives_end [] rs b = ([], rs, b, ends)
lives_end (message m ∷ es) rs b = let t = lives_end es rs (after b m) in (got_by b m ∷ t.0, t.1, t.2, whole m t.3)
lives_end (piece l p areas ∷ es) rs b = piece_lives l es (λ ss c. lives_end es ss c) (fed_feeds (rs l) p) areas rs b refl
