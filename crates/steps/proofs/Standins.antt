-- Document 01, "Promises at the door": the stand-ins that demand 2 shuts out, each by what a short run through `configured` and `step` shows.
use Prim.Native.Nat.{ℕ}
use mathlib.Core.Path.{◌≡◌, refl, sym, ap, ◌∙◌}
use mathlib.Core.List.{List, [], ◌∷◌, ◌++◌}
use native.Mathlib.Omega.{arith}
use lib.Dec.{eqb}
use lib.ListN.{get_or, take}
use Rattle.laws.specs.Bytes.{ascii}
use Rattle.laws.proofs.Conditions.{choose}
use Rattle.terms.specs.Answers.{number_of}
use Rattle.terms.specs.declared.Answer.TheVariants.{Done}
use Rattle.panels.specs.declared.DisplayBox.{DisplayBox}
use Rattle.steps.specs.Messages.{Message, names}
use Rattle.steps.specs.Step.{panel_at, door, Back, back, Outcome, own_turn, passed, refused, step}
use Rattle.steps.specs.Run.{run}
use Rattle.steps.proofs.Opened.{opened}
use Rattle.steps.proofs.Bench.{box, lent, area_of, packet, on_tcp, volume40}

abbrev volume100 : Message
volume100 = on_tcp 0x12 "STATset VOLUME 100"

abbrev volume_asked : Message
volume_asked = on_tcp 0x0e "STATget VOLUME"

-- the volume of the panel at place 0
abbrev volume : DisplayBox → ℕ
volume b = get_or (panel_at 0 b).w.settings 2 0

-- the reply: so many bytes at the area's front as the length says
abbrev pub reply_of : Outcome → List ℕ
reply_of o = take o.back.len o.back.area

-- what the run shows
pub record Shown : Type 0 where
  -- VOLUME 100 is answered 0
  pub obeys : (step box volume100).answer ≡ Done
  -- the set stands in the record
  pub starts : volume box ≡ 30
  pub stands : volume (step box volume40).box ≡ 40
  -- two STATgets after different sets, and STATget after a second set
  pub first_told : reply_of (step (run box (volume40 ∷ [])) volume_asked) ≡ packet 0x00 0x00 0x01 0x00 0x09 (ascii "VOLUME 40")
  pub other_told : reply_of (step (run box (volume100 ∷ [])) volume_asked) ≡ packet 0x00 0x00 0x01 0x00 0x0a (ascii "VOLUME 100")
  pub second_told : reply_of (step (run box (volume40 ∷ volume100 ∷ [])) volume_asked) ≡ packet 0x00 0x00 0x01 0x00 0x0a (ascii "VOLUME 100")
  -- the length is that of the bytes at the area's front, and behind them is what was lent
  pub written : (step (run box (volume40 ∷ [])) volume_asked).back ≡ record { len = 22; area = packet 0x00 0x00 0x01 0x00 0x09 (ascii "VOLUME 40") ++ lent 490 }

-- computed
pub shown : Shown
unfolding opened
shown = record { obeys = refl; starts = refl; stands = refl; first_told = refl; other_told = refl; second_told = refl; written = refl }

-- ---- what is offered for the step, and is the step, is none of the stand-ins
module _ (way : DisplayBox → Message → Outcome) (meets : (b : DisplayBox) (m : Message) → way b m ≡ step b m) where
  -- one that refuses everything
  pub not_refusing : ((b : DisplayBox) (m : Message) → (way b m).answer ≡ Done → ⊥) → ⊥
  not_refusing n = n box volume100 (ap (λ (o : Outcome). o.answer) (meets box volume100) ∙ shown.obeys)

  -- one whose reply never varies, whatever was set before
  pub not_constant : ((b b' : DisplayBox) (m : Message) → reply_of (way b m) ≡ reply_of (way b' m)) → ⊥
  not_constant n =
      let b = run box (volume40 ∷ []) in
      let b' = run box (volume100 ∷ []) in
      let e = sym shown.first_told ∙ ap reply_of (sym (meets b volume_asked)) ∙ n b b' volume_asked ∙ ap reply_of (meets b' volume_asked) ∙ shown.other_told in
      let z : ◌≡◌ {A = ℕ} 0x09 0x0a = ap (λ (l : List ℕ). get_or l 12 0) e in
      omega arith

  -- one that does nothing
  pub not_idle : ((b : DisplayBox) (m : Message) → (way b m).box ≡ b) → ⊥
  not_idle n =
      let e : volume (step box volume40).box ≡ volume box = ap (λ (o : Outcome). volume o.box) (sym (meets box volume40)) ∙ ap volume (n box volume40) in
      let z : ◌≡◌ {A = ℕ} 40 30 = sym shown.stands ∙ e ∙ shown.starts in
      omega arith

  -- one that obeys the first message and then only says OK: a question brings what it would have brought before the second
  pub not_once : ((b : DisplayBox) (m m' ask : Message) → reply_of (way (way (way b m).box m').box ask) ≡ reply_of (way (way b m).box ask)) → ⊥
  not_once n =
      let e = n box volume40 volume100 volume_asked in
      let f : reply_of (step (run box (volume40 ∷ volume100 ∷ [])) volume_asked) ≡ reply_of (step (run box (volume40 ∷ [])) volume_asked) = simp meets at e in
      let z : ◌≡◌ {A = ℕ} 0x0a 0x09 = ap (λ (l : List ℕ). get_or l 12 0) (sym shown.second_told ∙ f ∙ shown.first_told) in
      omega arith

  -- one that returns a reply length and writes nothing
  pub not_unwritten : ((b : DisplayBox) (m : Message) → (way b m).back.area ≡ area_of m) → ⊥
  not_unwritten n =
      let b = run box (volume40 ∷ []) in
      let e = ap (λ (o : Outcome). o.back.area) (meets b volume_asked) ∙ ap (λ (r : Back). r.area) shown.written in
      let z : ◌≡◌ {A = ℕ} 0xee 0x03 = ap (λ (l : List ℕ). get_or l 0 0) (sym (n b volume_asked) ∙ e) in
      omega arith

  -- and whatever the box and the message, the length is that of a reply that stands at the area's front
  pub writes : (b : DisplayBox) (m : Message) → (reply : List ℕ) × ((way b m).back ≡ back m reply)
  unfolding step
  writes b m =
      let t : (reply : List ℕ) × ((step b m).back ≡ back m reply) = choose (λ (o : Outcome). (reply : List ℕ) × (o.back ≡ back m reply)) (eqb (number_of (door (names b) m)) 0) (passed (names b) b m) (refused b m (door (names b) m)) (λ e. ((own_turn (names b) b m).reply, refl)) (λ e. ([], refl)) in
      (t.0, ap (λ (o : Outcome). o.back) (meets b m) ∙ t.1)
