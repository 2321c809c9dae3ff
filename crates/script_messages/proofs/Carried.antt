-- What a way in promises is what a line writes: the step's box, answer, reply and area.
use Prim.Native.Nat.{ℕ}
use mathlib.Core.Path.{◌≡◌, ap, ◌∙◌}
use mathlib.Core.List.{List}
use Rattle.terms.specs.declared.Answer.{Answer}
use Rattle.panels.specs.declared.DisplayBox.{DisplayBox}
use Rattle.steps.specs.Messages.{Message, udp}
use Rattle.steps.specs.Step.{step}
use Rattle.ways_in.specs.Promise.{Steps, message_of, outcome_of, came_by}
use Rattle.ways_in.specs.declared.Way.TheVariants.{By, Udp}
use Rattle.ways_in.specs.declared.Outcome.{Outcome}
use Rattle.script_answers.specs.Answers.{writes, answer_text, replied}
use Rattle.script_messages.specs.Messages.{stepped, spread}
use Rattle.addresses.specs.declared.Line.{Line}

-- what went back by a link is the step's
pub carried_text : {b : DisplayBox} {m : Message} {t : Outcome} {area' : List ℕ} → Steps b m t area' → writes t.after (replied t.answer t.len area') ≡ stepped (step b m)
unfolding stepped
carried_text {b} {m} {t} {area'} s =
    ap (λ (x : DisplayBox). writes x (replied t.answer t.len area')) s.after_is
    ∙ ap (λ (x : Answer). writes (step b m).box (replied x t.len area')) s.answer_is
    ∙ ap (λ (x : ℕ). writes (step b m).box (replied (step b m).answer x area')) s.length_is
    ∙ ap (λ (x : List ℕ). writes (step b m).box (replied (step b m).answer (step b m).back.len x)) s.area_is

-- what `take` promises of a message with a link
pub linked_steps : (b : DisplayBox) (line : Line) (l : ℕ) (m area : List ℕ) (t : Outcome) (area' : List ℕ) → (t ≡ outcome_of (came_by (By line) b l m area)) × (area' ≡ (came_by (By line) b l m area).area) → Steps b (message_of line l m area) t area'
linked_steps b line l m area t area' s = record {
  after_is = ap (λ (x : Outcome). x.after) s.0;
  answer_is = ap (λ (x : Outcome). x.answer) s.0;
  length_is = ap (λ (x : Outcome). x.len) s.0;
  done_is = ap (λ (x : Outcome). x.done) s.0;
  area_is = s.1;
}

-- and by UDP only the answer is written
pub spread_text : (b : DisplayBox) (l : ℕ) (m area : List ℕ) (t : Outcome) → t ≡ outcome_of (came_by Udp b l m area) → writes t.after (answer_text t.answer) ≡ spread (step b (udp m))
unfolding spread
spread_text b l m area t s = ap (λ (x : Outcome). writes x.after (answer_text x.answer)) s

-- equal parts make equal messages
pub carried_same : (b : DisplayBox) (by : Line) {l l' : ℕ} {m m' a a' : List ℕ} → l ≡ l' → m ≡ m' → a ≡ a' → stepped (step b (message_of by l m a)) ≡ stepped (step b (message_of by l' m' a'))
carried_same b by {l} {l'} {m} {m'} {a} {a'} e f g =
    ap (λ (x : ℕ). stepped (step b (message_of by x m a))) e
    ∙ ap (λ (x : List ℕ). stepped (step b (message_of by l' x a))) f
    ∙ ap (λ (x : List ℕ). stepped (step b (message_of by l' m' x))) g
