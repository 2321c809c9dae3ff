-- A host's calls are a run of the step: each call is one message, or none; so what is proved of every run holds of its box and of what its calls got.
use mathlib.Core.Path.{◌≡◌, refl, sym, ap, ◌∙◌}
use mathlib.Core.Bool.{Bool, true, false, cond, ◌&&◌}
use lib.Dec.{leb}
use mathlib.Core.List.{List, [], ◌∷◌}
use Prim.Native.Nat.{ℕ, suc, ◌-◌, ◌<◌}
use native.Mathlib.Omega.{arith}
use lib.ListN.{length}
use Rattle.laws.proofs.Lists.{same_self}
use Rattle.terms.specs.Answers.{number_of, answer_place}
use Rattle.panels.specs.declared.DisplayBox.{DisplayBox}
use Rattle.configure.specs.Configure.{configured}
use Rattle.steps.specs.Messages.{Message, rs232c, kjw, tcp, udp, names}
use Rattle.steps.specs.Addressing.{addressed}
use Rattle.steps.specs.Step.{Outcome, panel_at, step}
use Rattle.steps.specs.Run.{Got, got_by, run, kept, replies}
use Rattle.steps.proofs.Alone.{eight_places, demand_3}
use Rattle.steps.proofs.Validity.{names_kept, valid_kept, bad_kept}
use Rattle.steps.proofs.Door.{by_door}
use Rattle.panels.specs.Records.{zero_panel}
use Rattle.panels.specs.Valid.{valid}
use Rattle.panels.specs.declared.Panel.{Panel}
use Rattle.host_box.specs.Called.{way_of, called_by, called, panel_behind}
use Rattle.host_box.specs.Life.{Call, after_call, life, and_by, and_that, messages_of, is_for_by, CallGot, with_area, without_area, got_through, gots}
use Rattle.addresses.specs.declared.Line.TheVariants.{Rs232c, Kjw, Tcp}
use Rattle.ways_in.specs.declared.Way.{Way}
use Rattle.ways_in.specs.declared.Way.TheVariants.{By, Udp}
use Rattle.std.specs.Prelude.{Option, Some, None}

-- ---- the box

-- one call, by where its number leads
by_entry : (b : DisplayBox) (rest : List Message) (k : Call) (e : Option Way) → run (called_by e b k.link k.message k.area).box rest ≡ run b (and_by e k rest)
by_entry b rest k (Some (By line)) = refl
by_entry b rest k (Some Udp) = refl
by_entry b rest k None = refl

one_call : (b : DisplayBox) (rest : List Message) (k : Call) → run (after_call b k) rest ≡ run b (and_that k rest)
unfolding called
one_call b rest k = by_entry b rest k (way_of k.way)

pub life_is_run : (b : DisplayBox) (ks : List Call) → life b ks ≡ run b (messages_of ks)
life_is_run b [] = refl
life_is_run b (k ∷ ks) = life_is_run (after_call b k) ks ∙ one_call b (messages_of ks) k

-- ---- what the calls got

-- what a host is told of what a message got
abbrev pub told : Message → Got → CallGot
told (rs232c l m area) g = with_area (number_of g.answer) (answer_place g.answer) g.back.len g.back.area
told (kjw l m area) g = with_area (number_of g.answer) (answer_place g.answer) g.back.len g.back.area
told (tcp l m area) g = with_area (number_of g.answer) (answer_place g.answer) g.back.len g.back.area
told (udp m) g = without_area (number_of g.answer) (answer_place g.answer) g.back.len true

abbrev pub told_all : List Message → List Got → List CallGot
told_all [] gs = []
told_all (m ∷ ms) [] = []
told_all (m ∷ ms) (g ∷ gs) = told m g ∷ told_all ms gs

module _ (i : ℕ) where
  abbrev pub ToldIn : DisplayBox → List Message → List CallGot → Type 0
  ToldIn b ms gs = gs ≡ told_all (kept i (names b) ms) (replies i b ms)

  -- a message that got this stands in front
  in_front_lem : (b : DisplayBox) (m : Message) (ms : List Message) (g : CallGot) (gs : List CallGot) → g ≡ told m (got_by b m) → ToldIn (step b m).box ms gs → ToldIn b (m ∷ ms) (cond (addressed (names b) m i) (g ∷ gs) gs)
  in_front_lem b m ms g gs e r = go (addressed (names b) m i) (rw (names_kept b m) at r)
    where
      b' : DisplayBox
      b' = (step b m).box

      go : (x : Bool) → gs ≡ told_all (kept i (names b) ms) (replies i b' ms) → cond x (g ∷ gs) gs ≡ told_all (cond x (m ∷ kept i (names b) ms) (kept i (names b) ms)) (cond x (got_by b m ∷ replies i b' ms) (replies i b' ms))
      go true q = ap (λ (y : CallGot). y ∷ gs) e ∙ ap (λ (ys : List CallGot). told m (got_by b m) ∷ ys) q
      go false q = q

  got_by_entry : (b : DisplayBox) (k : Call) (ms : List Message) (ks : List Call) (e : Option Way) → ((c : DisplayBox) → ToldIn c ms (gots i c ks)) → ToldIn b (and_by e k ms) (cond (is_for_by e i (names b) k) (got_through e k.area (called_by e b k.link k.message k.area) ∷ gots i (called_by e b k.link k.message k.area).box ks) (gots i (called_by e b k.link k.message k.area).box ks))
  got_by_entry b k ms ks (Some (By Rs232c)) r = in_front_lem b (rs232c k.link k.message k.area) ms _ _ refl (r (step b (rs232c k.link k.message k.area)).box)
  got_by_entry b k ms ks (Some (By Kjw)) r = in_front_lem b (kjw k.link k.message k.area) ms _ _ refl (r (step b (kjw k.link k.message k.area)).box)
  got_by_entry b k ms ks (Some (By Tcp)) r = in_front_lem b (tcp k.link k.message k.area) ms _ _ refl (r (step b (tcp k.link k.message k.area)).box)
  got_by_entry b k ms ks (Some Udp) r =
      let o = step b (udp k.message) in
      in_front_lem b (udp k.message) ms _ _ (ap (without_area (number_of o.answer) (answer_place o.answer) o.back.len) (same_self k.area)) (r o.box)
  got_by_entry b k ms ks None r = r b

  -- what a host's calls got is what the messages of the run got
  pub gots_told : (ks : List Call) (b : DisplayBox) → ToldIn b (messages_of ks) (gots i b ks)
  unfolding called
  gots_told [] b = refl
  gots_told (k ∷ ks) b = got_by_entry b k (messages_of ks) ks (way_of k.way) (λ c. gots_told ks c)

-- ---- demand 3 of a host's box

-- two lives with the same messages to a panel leave it the same record, and each call for it got the same: answer, place, length, and every byte
-- of the area, or by UDP an area as it came
pub lives_alone : (b : DisplayBox) (i : ℕ) (ks ls : List Call) → i < length b.panels
    → kept i (names b) (messages_of ks) ≡ kept i (names b) (messages_of ls)
    → (panel_at i (life b ks) ≡ panel_at i (life b ls)) × (gots i b ks ≡ gots i b ls)
lives_alone b i ks ls h e =
    let same = demand_3 b i (messages_of ks) (messages_of ls) h e in (
      ap (panel_at i) (life_is_run b ks) ∙ same.0 ∙ sym (ap (panel_at i) (life_is_run b ls)),
      gots_told i ks b
          ∙ ap (λ (ms : List Message). told_all ms (replies i b (messages_of ks))) e
          ∙ ap (told_all (kept i (names b) (messages_of ls))) same.1
          ∙ sym (gots_told i ls b),
    )

-- the same of every box that a configuration gives, and of each of its eight places
pub lives_alone_configured : (c : List ℕ) (i : ℕ) (ks ls : List Call) → i < 8
    → kept i (names (configured c).made) (messages_of ks) ≡ kept i (names (configured c).made) (messages_of ls)
    → (panel_at i (life (configured c).made ks) ≡ panel_at i (life (configured c).made ls)) × (gots i (configured c).made ks ≡ gots i (configured c).made ls)
lives_alone_configured c i ks ls h e = lives_alone (configured c).made i ks ls (rw (eight_places c) h) e

-- ---- what the host is shown

run_valid : (ms : List Message) (b : DisplayBox) → valid b ≡ true → valid (run b ms) ≡ true
run_valid [] b v = v
run_valid (m ∷ ms) b v = run_valid ms (step b m).box (valid_kept b m v)

bad_run : (ms : List Message) (b : DisplayBox) → valid b ≡ false → run b ms ≡ b
bad_run [] b v = refl
bad_run (m ∷ ms) b v = ap (λ (c : DisplayBox). run c ms) (bad_kept b m v) ∙ bad_run ms b v

valid_run : (ms : List Message) (b : DisplayBox) → valid (run b ms) ≡ valid b
valid_run ms b = go (valid b) refl
  where
    go : (v : Bool) → valid b ≡ v → valid (run b ms) ≡ valid b
    go true e = run_valid ms b e ∙ sym e
    go false e = ap valid (bad_run ms b e)

count_run : (ms : List Message) (b : DisplayBox) → (run b ms).count ≡ b.count
count_run [] b = refl
count_run (m ∷ ms) b = count_run ms (step b m).box ∙ by_door (λ (o : Outcome). o.box.count ≡ b.count) b m (λ e. refl) (λ e. refl)

shows : (b c : DisplayBox) (i : ℕ) → valid b ≡ valid c → b.count ≡ c.count → panel_at i b ≡ panel_at i c → panel_behind b (suc i) ≡ panel_behind c (suc i)
unfolding panel_behind
shows b c i v n p =
    let k : suc i - 1 ≡ i = omega arith in
    ap (λ (j : ℕ). cond (valid b && leb 1 (suc i) && leb (suc i) b.count) (panel_at j b) zero_panel) k
    ∙ ap (λ (x : Panel). cond (valid b && leb 1 (suc i) && leb (suc i) b.count) x zero_panel) p
    ∙ ap (λ (t : Bool). cond (t && leb 1 (suc i) && leb (suc i) b.count) (panel_at i c) zero_panel) v
    ∙ ap (λ (x : ℕ). cond (valid c && leb 1 (suc i) && leb (suc i) x) (panel_at i c) zero_panel) n
    ∙ ap (λ (j : ℕ). cond (valid c && leb 1 (suc i) && leb (suc i) c.count) (panel_at j c) zero_panel) (sym k)

-- and `box_panel_at` shows the same panel after both lives
pub lives_shown : (b : DisplayBox) (i : ℕ) (ks ls : List Call) → i < length b.panels
    → kept i (names b) (messages_of ks) ≡ kept i (names b) (messages_of ls)
    → panel_behind (life b ks) (suc i) ≡ panel_behind (life b ls) (suc i)
lives_shown b i ks ls h e =
    let x = life_is_run b ks in
    let y = life_is_run b ls in
    shows (life b ks) (life b ls) i
    (ap valid x ∙ valid_run (messages_of ks) b ∙ sym (ap valid y ∙ valid_run (messages_of ls) b))
    (ap (λ (c : DisplayBox). c.count) x ∙ count_run (messages_of ks) b ∙ sym (ap (λ (c : DisplayBox). c.count) y ∙ count_run (messages_of ls) b))
    (lives_alone b i ks ls h e).0

-- the panel that is shown behind a link in use of a box that keeps the rules is the record at its place
pub shown : (b : DisplayBox) (i : ℕ) → (valid b && leb 1 (suc i) && leb (suc i) b.count) ≡ true → panel_behind b (suc i) ≡ panel_at i b
unfolding panel_behind
shown b i v = let k : suc i - 1 ≡ i = omega arith in ap (λ (t : Bool). cond t (panel_at (suc i - 1) b) zero_panel) v ∙ ap (λ (j : ℕ). panel_at j b) k
