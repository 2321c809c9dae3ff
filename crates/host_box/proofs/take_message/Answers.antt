-- `take_message` hands the message to the way in that has its number.
use Prim.Native.Nat.{ℕ}
use mathlib.Core.Path.{◌≡◌, sym, ap, ◌∙◌}
use mathlib.Core.Bool.{Bool, false}
use mathlib.Core.List.{List}
use Rattle.terms.specs.Answers.{number_of, answer_place}
use Rattle.panels.specs.declared.DisplayBox.{DisplayBox}
use Rattle.ways_in.specs.Promise.{outcome_of, came_by}
use Rattle.ways_in.specs.declared.Way.{Way}
use Rattle.ways_in.specs.declared.Outcome.{Outcome as Held}
use Rattle.host_box.specs.Called.{Called, way_of, called_by, called, numbers_of}
use Rattle.host_box.specs.declared.AnswerNumbers.{AnswerNumbers}
use Rattle.std.specs.Prelude.{Option, Some, None}
use Rattle.host_box.specs.declared.Outcome.{Outcome}
use Rattle.host_box.proofs.take_message.Goals as goal

-- what a call is, by where its number leads
leads : (b : DisplayBox) (n link : ℕ) (m area : List ℕ) (e f : Option Way) → e ≡ way_of n → e ≡ f → called b n link m area ≡ called_by f b link m area
unfolding called
leads b n link m area e f p q = ap (λ (x : Option Way). called_by x b link m area) (sym p ∙ q)

-- an outcome with its answer in numbers
abbrev told : DisplayBox → ℕ → Bool → AnswerNumbers → Outcome
told b len done n = record { after = b; answer = n.number; place = n.place; len = len; done = done }

abbrev in_numbers : Held → Outcome
in_numbers t = told t.after t.len t.done (record { number = number_of t.answer; place = answer_place t.answer })

through : (b : DisplayBox) (n link : ℕ) (m area : List ℕ) (e : Option Way) (w : Way) (t : Held) (area' : List ℕ) (r : Outcome) → e ≡ way_of n
    → e ≡ Some w → (t ≡ outcome_of (came_by w b link m area)) × (area' ≡ (came_by w b link m area).area) → r ≡ in_numbers t
    → (r ≡ numbers_of (called b n link m area)) × (area' ≡ (called b n link m area).area)
through b n link m area e w t area' r p q s k =
    let c = leads b n link m area e (Some w) p q in
    (k ∙ ap in_numbers s.0 ∙ ap numbers_of (sym c), s.1 ∙ ap (λ (x : Called). x.area) (sym c))

pub returns-in-Some : goal.returns-in-Some
returns-in-Some c =
    let a = c.args in
    let t = c.take-t in
    let y = c.way_of in
    let is = ap (told t.result.after t.result.len t.result.done) c.answer_numbers-n.ensures in
    through a.b a.way a.link a.m.now a.area.now y.result _ t.result _ _ y.ensures c.in-Some.is t.ensures is

pub returns-in-None : goal.returns-in-None
returns-in-None c =
    let a = c.args in
    let y = c.way_of in
    let w = leads a.b a.way a.link a.m.now a.area.now y.result None y.ensures c.in-None.is in
    (ap (told a.b 0 false) c.answer_numbers-n-in-None.ensures ∙ ap numbers_of (sym w), ap (λ (x : Called). x.area) (sym w))
