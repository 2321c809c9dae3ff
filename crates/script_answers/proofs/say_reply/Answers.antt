-- `say_reply` puts the front of the area as the reply, looks at the rest, and ends the text.
use Prim.Native.Nat.{ℕ, ◌-◌, ◌≤◌}
use mathlib.Core.Path.{◌≡◌, sym, ap, ◌∙◌}
use mathlib.Core.List.{List}
use lib.ListN.{take, drop, length, length-append, length-drop, length-take, take-append-drop}
use lib.Seq.{take_all, take_at, drop_at}
use native.Mathlib.Omega.{arith}
use Rattle.script_text.proofs.Puts.{puts_then}
use Rattle.script_answers.specs.Answers.{writes, replied}
use Rattle.script_answers.proofs.say_reply.Goals as goal

-- an area parts at the end of its front
fits : {n : ℕ} (k : ℕ) (s : List ℕ) → n ≡ length (take k s) → n ≤ length s
fits k s e =
    let l = ap length (take-append-drop k s) in
    let m = length-append (take k s) (drop k s) in
    omega (arith, e, l, m)

front : {n : ℕ} (k : ℕ) (s : List ℕ) → n ≡ length (take k s) → take n s ≡ take k s
front {n} k s e = rw (take-append-drop k s) at (take_at (take k s) (drop k s) n (sym e))

rest : {n : ℕ} (k : ℕ) (s : List ℕ) → n ≡ length (take k s) → take (length s - n) (drop n s) ≡ drop k s
rest {n} k s e =
    take_all (length s - n) (drop n s) (let l = length-drop n s in omega (arith, l))
    ∙ (rw (take-append-drop k s) at (drop_at (take k s) (drop k s) n (sym e)))

pub returns : goal.returns
unfolding writes replied
returns c =
    let e = c.ended.ensures in
    let s = c.args.area.now in
    let k = c.args.len in
    let n = c.min-n.ensures ∙ sym (length-take k s) in
    let text = rw (c.number.ensures, c.place.ensures, front k s n, rest k s n) at c.put_reply-at.ensures in
    record { box_is = e.box_is; text_is = puts_then text e.text_is }
