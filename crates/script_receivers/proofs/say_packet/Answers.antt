-- `say_packet` puts the packet's line, and the box's line behind it.
use borrow.Rule.Slice.PartMut.{put_mid}
use native.Mathlib.Omega.{arith}
use mathlib.Core.Path.{ap, ◌∙◌}
use mathlib.Core.List.{List, ◌++◌}
use Prim.Native.Nat.{ℕ, ◌+◌, ◌-◌, ◌≤◌}
use lib.ListN.{length, take, drop}
use Rattle.steps.specs.Step.{Outcome, step}
use Rattle.script_text.specs.Puts.{Puts}
use Rattle.script_text.proofs.Puts.{puts_as, puts_then, puts_end, puts_length}
use Rattle.script_text.proofs.Behind.{puts_behind}
use Rattle.script_write.proofs.Lent.{throughout}
use Rattle.script_answers.specs.Answers.{writes}
use Rattle.script_messages.specs.Messages.{stepped}
use Rattle.script_receivers.specs.Receivers.{packet_message, packeted}
use Rattle.script_receivers.proofs.say_packet.Goals as goal

-- two texts and one in what is left of the area
module _ {s t d e f : List ℕ} {n m : ℕ} (p : Puts s d 0 e n) (q : Puts t e n f m) where
  inside : m ≤ length f
  inside =
      let k = puts_end p (omega arith) in
      let l = puts_length p in
      let h = puts_end q (omega (arith, k, l)) in
      let i = puts_length q in
      omega (arith, h, i)

  module _ {u g : List ℕ} {k : ℕ} (r : Puts u (take (length f - m) (drop m f)) 0 g k) where
    all : Puts (s ++ t ++ u) d 0 (put_mid m (length f - m) f g) (m + k)
    all = puts_then (puts_then p q) (puts_behind f m inside r)

    fits : m + k ≤ length d
    fits = puts_end all (omega arith)

pub slice_bounds-carry-count : goal.slice_bounds-carry-count
slice_bounds-carry-count c = inside c.put_bytes_text-a.ensures c.put-e.ensures

pub slice_bounds-carry-start : goal.slice_bounds-carry-start
slice_bounds-carry-start c = inside c.put_bytes_text-a.ensures c.put-e.ensures

pub overflow_add-result : goal.overflow_add-result
overflow_add-result c =
    let h = fits c.put_bytes_text-a.ensures c.put-e.ensures c.carry-t.ensures.answers.text_is in
    omega (arith, h)

pub returns : goal.returns
unfolding packeted stepped writes
returns c =
    let a = c.args in
    let o = c.carry-t.ensures.answers in
    let lent = ap (λ (l : List ℕ). step a.b (packet_message a.link l a.packet.now)) (throughout a.room 1024 165 c.requires) in
    record {
      box_is = o.box_is ∙ ap (λ (s : Outcome). s.box) lent;
      text_is = all c.put_bytes_text-a.ensures c.put-e.ensures (puts_as (ap (λ (s : Outcome). (stepped s).text) lent) o.text_is);
    }
