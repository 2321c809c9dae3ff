use mathlib.Core.List.{[], ◌∷◌}
use Prim.Native.Nat.{◌+◌}
use lib.ListN.{drop, get_or}
use Rattle.decimals.specs.Plain.{plain}
use Rattle.script_forms.specs.Forms.{numbers_text}
use Rattle.script_text.proofs.Puts.{under_first, under_next, under_none}
use Rattle.script_forms.proofs.Forms.{form_behind, form_byte, form_mark}
use Rattle.script_forms.proofs.put_numbers.Goals as goal
use Rattle.script_forms.proofs.put_numbers.Goals.{then-x-eq35, else-x-eq35}

pub loop-x-init : goal.loop-x-init
loop-x-init c = rw c.iter-left.ensures.rest (under_first (numbers_text c.args.form.now c.args.numbers.now) c.args.out.now c.args.at)

pub loop-x-preserved : goal.loop-x-preserved
loop-x-preserved c =
    let form = c.args.form.now in
    let i = c.loop-x.x-index in
    elim c.if-x-eq35.branch [
      | then-x-eq35 w ↦
          let number = w.next_number in
          rw (w.out-is, w.to-is, w.left-is) (under_next (plain number.result) (numbers_text (drop (i + 1) form) number.new.left.rest.now) c.loop-x.invariant (form_mark form i _ _ _ c.loop-x-test.true w.if-x-eq35.true number.ensures.value number.ensures.rest) w.put_number-to.ensures)
      | else-x-eq35 w ↦
          rw (w.out-is, w.to-is, w.left-is) (under_next (get_or form i 0 ∷ []) (numbers_text (drop (i + 1) form) c.loop-x.left.rest.now) c.loop-x.invariant (form_byte form i _ c.loop-x-test.true w.if-x-eq35.false) w.put-to.ensures)
    ]

pub returns : goal.returns
returns c = under_none c.loop-x.invariant (form_behind c.args.form.now c.loop-x.left.rest.now c.loop-x.x-index c.loop-x-test.false)
