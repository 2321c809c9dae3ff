-- `run_line` puts what the piece has of the line into the store, and answers the store's front where the line ended.
use native.Mathlib.Omega.{arith}
use mathlib.Core.Path.{◌≡◌, refl, sym}
use Prim.Native.Nat.{ℕ, ◌+◌, ◌-◌, ◌≤◌}
use lib.ListN.{length, take, drop}
use mathlib.Core.Bool.{true, false}
use mathlib.Core.List.{List}
use borrow.Author.Tests.{not-true, not-false}
use lib.Seq.{length-take-le}
use Rattle.script_text.proofs.Puts.{puts_none, puts_end, puts_length}
use Rattle.script_pieces.specs.Parts.{Takes}
use Rattle.script_pieces.specs.declared.Part.{Part}
use borrow.Rule.Slice.PartMut.{put_mid}
use Rattle.script.specs.Answers.{Leaves}
use Rattle.script.specs.Answers.{Left}
use Rattle.script.specs.Answers.{answered}
use Rattle.script_run.specs.declared.Progress.{Progress}
use Rattle.script_run.specs.Lines.{part_done, RunsLine}
use Rattle.script_text.proofs.Behind.{puts_behind}
use Rattle.script_run.proofs.run_line.Goals as goal

-- what is kept stands inside the store
inside : {piece store store' : List ℕ} {at kept : ℕ} {r : Part} → Takes piece at kept store r store'
    → kept ≤ length store → r.kept ≤ length store'
inside t h = let l = puts_length t.kept_is in let k = puts_end t.kept_is h in omega (arith, l, k)

-- the piece ended before the line: nothing is answered
begun : {piece store store' area : List ℕ} (p : Progress) {part : Part} → Takes piece p.next p.kept store part store' → part.ended ≡ false
    → RunsLine p piece store area (record { held = p.held; kept = part.kept; next = part.next; len = p.len }) store' area
unfolding part_done
begun {piece} {store} {store'} {area} p {part} t e = record {
  part = part;
  part_is = t;
  held_is = rw e refl;
  text_is = rw e (puts_none area p.len);
  kept_is = rw e refl;
  next_is = refl;
}

-- the line ended: it is answered, and its text is put behind the others
ended : {piece store store' area area' : List ℕ} (p : Progress) {part : Part} {a : Left} → p.len ≤ length area
    → Takes piece p.next p.kept store part store' → part.ended ≡ true
    → Leaves (answered p.held (take part.kept store')) a (take (length area - p.len) (drop p.len area)) area'
    → RunsLine p piece store area (record { held = a.after; kept = 0; next = part.next; len = p.len + a.len })
    store' (put_mid p.len (length area - p.len) area area')
unfolding part_done
ended {piece} {store} {store'} {area} p {part} h t e q = record {
  part = part;
  part_is = t;
  held_is = rw e q.held_is;
  text_is = rw e (puts_behind area p.len h q.text_is);
  kept_is = rw e refl;
  next_is = refl;
}

pub returns-then-not-part : goal.returns-then-not-part
returns-then-not-part c = begun c.args.p c.take_part-part.ensures (not-true c.take_part-part.result.ended c.if-not-part.true)

pub slice_bounds-answer_line-end : goal.slice_bounds-answer_line-end
slice_bounds-answer_line-end c = inside c.take_part-part.ensures c.requires.0

pub slice_bounds-answer_line-end-2 : goal.slice_bounds-answer_line-end-2
slice_bounds-answer_line-end-2 c = sym (length-take-le _ _ (inside c.take_part-part.ensures c.requires.0))

pub overflow_add-result : goal.overflow_add-result
overflow_add-result c =
    let h = puts_end (puts_behind c.args.area.now c.args.p.len c.requires.1 c.answer_line-a.ensures.text_is) c.requires.1 in
    omega (arith, h)

pub returns : goal.returns
returns c = ended c.args.p c.requires.1 c.take_part-part.ensures (not-false c.take_part-part.result.ended c.if-not-part.false) c.answer_line-a.ensures
