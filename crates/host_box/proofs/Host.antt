-- What a host may count on at every way number: each is one of the four steps or no way at all, and each of these keeps it.
use mathlib.Core.Path.{◌≡◌, refl, sym, ap, ◌∙◌}
use mathlib.Core.Bool.{Bool, true, false, cond}
use mathlib.Core.List.{List, []}
use Prim.Native.Nat.{ℕ, ◌<◌}
use native.Mathlib.Omega.{arith}
use lib.Dec.{ltb}
use lib.ListN.{length, get_or}
use borrow.Author.Tests.{eqb-false, ltb-true, ltb-false}
use Rattle.laws.specs.Lists.{listed}
use Rattle.laws.proofs.Conditions.{choose}
use Rattle.terms.specs.Answers.{number_of, answer_place}
use Rattle.terms.specs.declared.Answer.{Answer}
use Rattle.terms.specs.declared.Answer.TheVariants.{AreaTooSmall, NoSuchPanel, WrongLength, NotForUs}
use Rattle.terms.proofs.Answers.{place_none}
use Rattle.panels.specs.Records.{zero_panel}
use Rattle.panels.specs.Valid.{valid}
use Rattle.panels.specs.declared.DisplayBox.{DisplayBox}
use Rattle.steps.specs.Messages.{Message, rs232c, kjw, tcp, udp}
use Rattle.steps.specs.Step.{message_answers, to_nobody, Outcome, Back, back, step}
use Rattle.steps.proofs.Numbered as steps
use Rattle.steps.proofs.Placed.{places_in, placed}
use Rattle.steps.proofs.Door.{Lends, by_rs232c, by_kjw, by_tcp_lem}
use Rattle.steps.proofs.Validity.{bad_kept}
use Rattle.steps.proofs.Refusals.{refused_leaves, udp_quiet, early_quiet, none_sent, too_small, bad_lent, bad_udp, bad_quiet}
use Rattle.host_box.specs.Called.{Called, in_numbers, no_way, way_of, called_by, called, numbers_of, panel_behind}
use Rattle.addresses.specs.declared.Line.TheVariants.{Rs232c, Kjw, Tcp}
use Rattle.ways_in.specs.Promise.{with_area, unanswered}
use Rattle.ways_in.specs.declared.Way.{Way}
use Rattle.ways_in.specs.declared.Way.TheVariants.{By, Udp}
use Rattle.std.specs.Prelude.{Option, Some, None}
use Rattle.host_box.specs.declared.Outcome.{Outcome as Told}

-- a message with a link, in numbers
abbrev lent : Outcome → Called
lent o = in_numbers (with_area o)

module _ (b : DisplayBox) (way link : ℕ) (m area : List ℕ) where
  by_entry : (P : Called → Type 0) → ((msg : Message) → Lends link area msg → P (lent (step b msg))) → P (in_numbers (unanswered (step b (udp m)) area)) → P (no_way b area) → (e : Option Way) → P (called_by e b link m area)
  by_entry P on alone none (Some (By Rs232c)) = on (rs232c link m area) (by_rs232c m)
  by_entry P on alone none (Some (By Kjw)) = on (kjw link m area) (by_kjw m)
  by_entry P on alone none (Some (By Tcp)) = on (tcp link m area) (by_tcp_lem m)
  by_entry P on alone none (Some Udp) = alone
  by_entry P on alone none None = none

  -- what holds of each way, and of no way, holds of the call
  at_every : (P : Called → Type 0) → ((msg : Message) → Lends link area msg → P (lent (step b msg))) → P (in_numbers (unanswered (step b (udp m)) area)) → P (no_way b area) → P (called b way link m area)
  unfolding called
  at_every P on alone none = by_entry P on alone none (way_of way)

  -- a refused message leaves every bit of the box
  pub refused_keeps : ((called b way link m area).answer ≡ 0 → ⊥) → (called b way link m area).box ≡ b
  refused_keeps = at_every (λ (c : Called). (c.answer ≡ 0 → ⊥) → c.box ≡ b) (λ msg k. refused_leaves b msg) (refused_leaves b (udp m)) (λ h. refl)

  -- so what was not done has the very box that was handed in, and a host that keeps its own has the same
  pub undone_keeps : (t : Told) → t ≡ numbers_of (called b way link m area) → t.done ≡ false → t.after ≡ b
  undone_keeps t e d = ap (λ (x : Told). x.after) e ∙ refused_keeps (eqb-false (called b way link m area).answer 0 (sym (ap (λ (x : Told). x.done) e) ∙ d))

  -- the answer to a message is one of the numbers that a message can be answered with
  pub numbered : listed message_answers (called b way link m area).answer ≡ true
  numbered = at_every (λ (c : Called). listed message_answers c.answer ≡ true) (λ msg k. steps.numbered b msg) (steps.numbered b (udp m)) refl

  -- document 02, §8, "With each goes the place of the first byte of the guilty field": number and length fix it, whatever the number of the way
  placed_by : (e : Option Way) → (called_by e b link m area).place ≡ get_or (places_in (length m)) (called_by e b link m area).answer 0
  placed_by (Some (By Rs232c)) = placed b (rs232c link m area)
  placed_by (Some (By Kjw)) = placed b (kjw link m area)
  placed_by (Some (By Tcp)) = placed b (tcp link m area)
  placed_by (Some Udp) = placed b (udp m)
  placed_by None = refl

  pub call_placed : (called b way link m area).place ≡ get_or (places_in (length m)) (called b way link m area).answer 0
  unfolding called
  call_placed = placed_by (way_of way)

  -- "other answers have place 0": those whose number is under 9
  pub other_place : (called b way link m area).answer < 9 → (called b way link m area).place ≡ 0
  other_place =
      at_every (λ (c : Called). c.answer < 9 → c.place ≡ 0) (λ msg k. place_none (step b msg).answer) (place_none (step b (udp m)).answer)
      (λ h. refl)

  -- the box and the area as they came, no place and no reply
  abbrev Untouched : Called → Type 0
  Untouched c = (c.box ≡ b) × ((c.place ≡ 0) × ((c.len ≡ 0) × (c.area ≡ area)))

  untouched : (msg : Message) → Lends link area msg → (step b msg).box ≡ b → answer_place (step b msg).answer ≡ 0 → (step b msg).back ≡ back msg [] → Untouched (lent (step b msg))
  untouched msg k p n q = let e = q ∙ none_sent link area msg k in (p, (n, (ap (λ (x : Back). x.len) e, ap (λ (x : Back). x.area) e)))

  untouched_udp : (step b (udp m)).box ≡ b → answer_place (step b (udp m)).answer ≡ 0 → Untouched (in_numbers (unanswered (step b (udp m)) area))
  untouched_udp p n = (p, (n, (ap (λ (x : Back). x.len) (udp_quiet b m), refl)))

  -- "none" as the reply and "unchanged" stand beside the answers 1 to 4: box and area are as they came, whatever the number of the way
  pub early_untouched : ((called b way link m area).answer ≡ 0 → ⊥) → (called b way link m area).answer < 5 → Untouched (called b way link m area)
  early_untouched =
      at_every (λ (c : Called). (c.answer ≡ 0 → ⊥) → c.answer < 5 → Untouched c) (λ msg k z h. untouched msg k (refused_leaves b msg z) (place_none (step b msg).answer (omega arith)) (early_quiet b msg z h))
      (λ z h. untouched_udp (refused_leaves b (udp m) z) (place_none (step b (udp m)).answer (omega arith)))
      (λ z h. (refl, (refl, (refl, refl))))

  -- a box that breaks the rules answers 1 to 4, which have no place
  bad_place : (msg : Message) → Lends link area msg → valid b ≡ false → answer_place (step b msg).answer ≡ 0
  bad_place msg k v = go (ltb (length area) 512) refl
    where
      go : (t : Bool) → ltb (length area) 512 ≡ t → answer_place (step b msg).answer ≡ 0
      go true e = ap (λ (o : Outcome). answer_place o.answer) (too_small b link area msg k (ltb-true (length area) 512 e))
      go false e = ap (λ (o : Outcome). answer_place o.answer) (bad_lent b link area msg v k (ltb-false (length area) 512 e))

  bad_place_udp : valid b ≡ false → answer_place (step b (udp m)).answer ≡ 0
  unfolding to_nobody
  bad_place_udp v =
      ap (λ (o : Outcome). answer_place o.answer) (bad_udp b m v)
      ∙ choose (λ (a : Answer). answer_place a ≡ 0) (ltb (length m) 13) WrongLength NotForUs (λ e. refl) (λ e. refl)

  -- "A box handed in that breaks these rules [..] is [..] given back as it came", bit for bit, whatever the way
  pub garbage : valid b ≡ false → Untouched (called b way link m area)
  garbage v =
      at_every Untouched (λ msg k. untouched msg k (bad_kept b msg v) (bad_place msg k v) (bad_quiet b msg v))
      (untouched_udp (bad_kept b (udp m) v) (bad_place_udp v)) (refl, (refl, (refl, refl)))

  -- with an answer's number, the box and the area as they came, no place and no reply are all that a call gives
  abbrev pub as_it_came : ℕ → Called
  as_it_came n = record { box = b; answer = n; place = 0; len = 0; area = area }

  came : (c : Called) → Untouched c → c ≡ as_it_came c.answer
  came c (e, (f, (g, h))) =
      ap (λ (x : DisplayBox). record { box = x; answer = c.answer; place = c.place; len = c.len; area = c.area }) e
      ∙ ap (λ (x : ℕ). record { box = b; answer = c.answer; place = x; len = c.len; area = c.area }) f
      ∙ ap (λ (x : ℕ). record { box = b; answer = c.answer; place = 0; len = x; area = c.area }) g
      ∙ ap (λ (x : List ℕ). record { box = b; answer = c.answer; place = 0; len = 0; area = x }) h

  -- so a call that is answered 1 to 4 gives its answer alone
  pub early_as_it_came : ((called b way link m area).answer ≡ 0 → ⊥) → (called b way link m area).answer < 5
      → called b way link m area ≡ as_it_came (called b way link m area).answer
  early_as_it_came z h = came (called b way link m area) (early_untouched z h)

  -- "A box of no panels answers 3 or 4 to UDP, and 2 to other messages once check 1 is passed."
  abbrev pub no_panels_say : Option Way → ℕ
  no_panels_say (Some (By line)) = cond (ltb (length area) 512) 1 2
  no_panels_say (Some Udp) = cond (ltb (length m) 13) 3 4
  no_panels_say None = 2

  bad_answer : (msg : Message) → Lends link area msg → valid b ≡ false → (step b msg).answer ≡ cond (ltb (length area) 512) AreaTooSmall NoSuchPanel
  bad_answer msg k v = go (ltb (length area) 512) refl
    where
      go : (t : Bool) → ltb (length area) 512 ≡ t → (step b msg).answer ≡ cond t AreaTooSmall NoSuchPanel
      go true e = ap (λ (o : Outcome). o.answer) (too_small b link area msg k (ltb-true (length area) 512 e))
      go false e = ap (λ (o : Outcome). o.answer) (bad_lent b link area msg v k (ltb-false (length area) 512 e))

  bad_number : (msg : Message) → Lends link area msg → valid b ≡ false → number_of (step b msg).answer ≡ cond (ltb (length area) 512) 1 2
  bad_number msg k v = ap number_of (bad_answer msg k v) ∙ go (ltb (length area) 512)
    where
      go : (t : Bool) → number_of (cond t AreaTooSmall NoSuchPanel) ≡ cond t 1 2
      go true = refl
      go false = refl

  bad_number_udp : valid b ≡ false → number_of (step b (udp m)).answer ≡ cond (ltb (length m) 13) 3 4
  unfolding to_nobody
  bad_number_udp v = ap (λ (o : Outcome). number_of o.answer) (bad_udp b m v) ∙ go (ltb (length m) 13)
    where
      go : (t : Bool) → number_of (cond t WrongLength NotForUs) ≡ cond t 3 4
      go true = refl
      go false = refl

  bad_said : valid b ≡ false → (e : Option Way) → (called_by e b link m area).answer ≡ no_panels_say e
  bad_said v (Some (By Rs232c)) = bad_number (rs232c link m area) (by_rs232c m) v
  bad_said v (Some (By Kjw)) = bad_number (kjw link m area) (by_kjw m) v
  bad_said v (Some (By Tcp)) = bad_number (tcp link m area) (by_tcp_lem m) v
  bad_said v (Some Udp) = bad_number_udp v
  bad_said v None = refl

  -- such a box "is answered as a box of no panels", and that is all that the call gives
  pub garbage_answered : valid b ≡ false → called b way link m area ≡ as_it_came (no_panels_say (way_of way))
  unfolding called
  garbage_answered v = came (called b way link m area) (garbage v) ∙ ap as_it_came (bad_said v (way_of way))

-- and it shows no panel
pub garbage_panel : (b : DisplayBox) (link : ℕ) → valid b ≡ false → panel_behind b link ≡ zero_panel
unfolding panel_behind
garbage_panel b link v = rw v

-- "none by UDP": at way 4 there is no reply and the area is as it came, whatever the answer
pub udp_untouched : (b : DisplayBox) (link : ℕ) (m area : List ℕ) → ((called b 4 link m area).len ≡ 0) × ((called b 4 link m area).area ≡ area)
unfolding called way_of
udp_untouched b link m area = (ap (λ (x : Back). x.len) (udp_quiet b m), refl)
