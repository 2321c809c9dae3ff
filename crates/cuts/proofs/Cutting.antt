-- "The packets, replies and receiver state at the end are the same for every cutting": what comes of a piece is decided by what its
-- receiver hands out, and that is the same for every cutting.
use Prim.Native.Nat.{ℕ}
use mathlib.Core.Path.{◌≡◌, refl, sym, ap, ◌∙◌}
use mathlib.Core.List.{List, [], ◌∷◌, ◌++◌}
use native.Mathlib.Omega.{arith}
use lib.ListN.{replicate}
use Rattle.panels.specs.declared.DisplayBox.{DisplayBox}
use Rattle.steps.specs.Messages.{tcp}
use Rattle.steps.specs.Step.{step}
use Rattle.receiver.specs.declared.Receiver.{Receiver}
use Rattle.receiver.specs.Pieces.{Feeds, Cuts, joined}
use Rattle.receiver.specs.Pieces.Feeds.{last as fed_last, more as fed_more}
use Rattle.receiver.specs.Pieces.Cuts.{one as cut-one, more as cut-more}
use Rattle.receiver.proofs.Pieces as pieces
use Rattle.receiver.proofs.Cutting as receiver
use Rattle.cuts.specs.Exchanges.{Wired, packet_out, Exchange, exchanged, Exchanges, CutExchanges}
use Rattle.cuts.specs.Exchanges.Exchanges.{last, more}
use Rattle.cuts.specs.Exchanges.CutExchanges.{one, more as further}
use Rattle.cuts.proofs.Areas.{step_same, exchange_same}

-- an area that is long enough
abbrev pub room : List ℕ
room = replicate 512 0

module _ (l : ℕ) where
  -- what the box does with packets, one after the other
  abbrev pub exchanges_of : DisplayBox → List (List ℕ) → List Exchange
  exchanges_of b [] = []
  exchanges_of b (o ∷ os) = exchanged o (step b (tcp l o room)) ∷ exchanges_of (step b (tcp l o room)).box os

  abbrev pub box_after : DisplayBox → List (List ℕ) → DisplayBox
  box_after b [] = b
  box_after b (o ∷ os) = box_after (step b (tcp l o room)).box os

  exchanges_on : (b : DisplayBox) (os us : List (List ℕ)) → exchanges_of b (os ++ us) ≡ exchanges_of b os ++ exchanges_of (box_after b os) us
  exchanges_on b [] us = refl
  exchanges_on b (o ∷ os) us = ap (exchanged o (step b (tcp l o room)) ∷◌) (exchanges_on (step b (tcp l o room)).box os us)

  box_on : (b : DisplayBox) (os us : List (List ℕ)) → box_after b (os ++ us) ≡ box_after (box_after b os) us
  box_on b [] us = refl
  box_on b (o ∷ os) us = box_on (step b (tcp l o room)).box os us

  -- what comes of pieces: their packets, and what the box does with these
  pub record Comes (Fed : List (List ℕ) → Receiver → Type 0) (w : Wired) (xs : List Exchange) (w' : Wired) : Type 0 where
    pub os : List (List ℕ)
    pub fed : Fed os w'.receiver
    pub exchanges_are : xs ≡ exchanges_of w.box os
    pub box_is : w'.box ≡ box_after w.box os

  pub of_piece : {w w' : Wired} {p : List ℕ} {xs : List Exchange} → Exchanges l w p xs w' → Comes (Feeds w.receiver p) w xs w'
  of_piece (last e) = record { os = []; fed = fed_last e; exchanges_are = refl; box_is = refl }
  of_piece (more {w = w} {p = p} {xs = xs} area h e f) =
      let o = packet_out w p in
      let s = of_piece f in
      let b = (step_same l o area room h (omega arith) w.box).box_same in
      record {
        os = o ∷ s.os;
        fed = fed_more e s.fed;
        exchanges_are = ap (◌∷ xs) (exchange_same l o area room h (omega arith) w.box) ∙ ap (exchanged o (step w.box (tcp l o room)) ∷◌) (s.exchanges_are ∙ ap (λ (c : DisplayBox). exchanges_of c s.os) b);
        box_is = s.box_is ∙ ap (λ (c : DisplayBox). box_after c s.os) b;
      }

  of_cutting : {w w' : Wired} {ps : List (List ℕ)} {xs : List Exchange} → CutExchanges l w ps xs w' → Comes (Cuts w.receiver ps) w xs w'
  of_cutting (one g) = let s = of_piece g in record { os = s.os; fed = cut-one s.fed; exchanges_are = s.exchanges_are; box_is = s.box_is }
  of_cutting (further {w = w} {xs = xs} {ys = ys} g c) =
      let s = of_piece g in
      let t = of_cutting c in
      record {
        os = s.os ++ t.os;
        fed = cut-more s.fed t.fed;
        exchanges_are = ap (◌++ ys) s.exchanges_are ∙ ap (exchanges_of w.box s.os ++◌) (t.exchanges_are ∙ ap (λ (b : DisplayBox). exchanges_of b t.os) s.box_is) ∙ sym (exchanges_on w.box s.os t.os);
        box_is = t.box_is ∙ ap (λ (b : DisplayBox). box_after b t.os) s.box_is ∙ sym (box_on w.box s.os t.os);
      }

-- any receiver, box and link, any two cuttings of the same bytes into one piece or more, and at each packet any area that is long enough
pub cutting : {l : ℕ} {w x y : Wired} {ps qs : List (List ℕ)} {xs ys : List Exchange} → CutExchanges l w ps xs x → CutExchanges l w qs ys y → joined ps ≡ joined qs → (xs ≡ ys) × (x ≡ y)
cutting {l} {w} {x} {y} a b e =
    let s = of_cutting l a in
    let t = of_cutting l b in
    let c = receiver.cutting s.fed t.fed e in (
      s.exchanges_are ∙ ap (exchanges_of l w.box) c.0 ∙ sym t.exchanges_are,
      ap (λ (r : Receiver). record { receiver = r; box = x.box }) c.1 ∙ ap (λ (d : DisplayBox). record { receiver = y.receiver; box = d }) (s.box_is ∙ ap (box_after l w.box) c.0 ∙ sym t.box_is),
    )

-- ---- every cutting can be given

pub gives : {l : ℕ} {r s : Receiver} {p : List ℕ} {os : List (List ℕ)} (b : DisplayBox) → Feeds r p os s → Exchanges l (record { receiver = r; box = b }) p (exchanges_of l b os) (record { receiver = s; box = box_after l b os })
gives b (fed_last e) = last e
gives b (fed_more e f) = more room (omega arith) e (gives _ f)

gives_cutting : {l : ℕ} {r s : Receiver} {ps os : List (List ℕ)} (b : DisplayBox) → Cuts r ps os s → (xs : List Exchange) × ((w : Wired) × CutExchanges l (record { receiver = r; box = b }) ps xs w)
gives_cutting {l} b (cut-one {os = os} f) = (exchanges_of l b os, (_, one (gives b f)))
gives_cutting {l} b (cut-more {os = os} f c) = let t = gives_cutting (box_after l b os) c in (exchanges_of l b os ++ t.0, (t.1.0, further (gives b f) t.1.1))

pub cutting_ends : (l : ℕ) (w : Wired) (p : List ℕ) (ps : List (List ℕ)) → (xs : List Exchange) × ((w' : Wired) × CutExchanges l w (p ∷ ps) xs w')
cutting_ends l w p ps = gives_cutting w.box (pieces.cuts_end w.receiver p ps).1.1
