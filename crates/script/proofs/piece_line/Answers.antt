-- `piece_line` puts the box and that link's receiver back, and leaves the other receivers.
use Prim.Native.Nat.{ℕ}
use mathlib.Core.Path.{◌≡◌, ap, subst, ◌∙◌}
use mathlib.Core.List.{List}
use lib.ListN.{set}
use Rattle.panels.specs.declared.DisplayBox.{DisplayBox}
use Rattle.receiver.specs.declared.Receiver.{Receiver}
use Rattle.script_receivers.specs.Receivers.{Links, pieced_by}
use Rattle.script_receivers.specs.declared.Linked.{Linked}
use Rattle.script.specs.Answers.{receiver_at, on_link, Leaves}
use Rattle.script.specs.declared.Held.{Held}
use Rattle.script.specs.Answers.{Left}
use Rattle.script.proofs.piece_line.Goals as goal

-- what the piece does at place i is what it does at that place
module _ (s : Held) (line : List ℕ) {i k : ℕ} {a : Linked} {out out' : List ℕ} (e : i ≡ k) (o : Links (pieced_by s.made (receiver_at i s) line) a out out') where
  abbrev stored : Left
  stored = record { after = record { made = a.after; receivers = set s.receivers i a.receiver }; len = a.len }

  at_place : Leaves (on_link k s (pieced_by s.made (receiver_at k s) line)) stored out out'
  unfolding on_link
  at_place = subst (λ (j : ℕ). Leaves (on_link j s (pieced_by s.made (receiver_at j s) line)) stored out out') e (record {
    held_is =
        ap (λ (b : DisplayBox). record { made = b; receivers = set s.receivers i a.receiver }) o.box_is
        ∙ ap (λ (r : Receiver). record { made = (pieced_by s.made (receiver_at i s) line).box; receivers = set s.receivers i r }) o.receiver_is;
    text_is = o.text_is;
  })

pub returns : goal.returns
returns c = at_place c.args.s c.args.line.now c.place_in-i.ensures.0 c.answer_piece-a.ensures
