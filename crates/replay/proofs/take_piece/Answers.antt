use Rattle.std.proofs.Common.{◌≡◌, ℕ, ◌+◌, ◌-◌, ◌<◌, ◌≤◌, List, ◌++◌, length, take, drop, Result, Ok, Err, OnErr, sym, ap, ◌∙◌, subst, append_assoc, arith, rules}
use lib.ListN.{length-drop}
use lib.Seq.{take-add}
use Rattle.script.specs.declared.Held.{Held}
use Rattle.laws.proofs.Lists.{rest}
use Rattle.script_run.specs.Calls.{Reached}
use Rattle.script_run.specs.Pieces.{Runs}
use Rattle.script_run.specs.declared.Progress.{Progress}
use Rattle.script_run.proofs.Moves.{next_inside, moves_on}
use Rattle.script_run.proofs.Whole.{reached_on}
use Rattle.replay.proofs.take_piece.Goals as goal

-- a call on what is left of the piece
module _ (piece : List ℕ) (at : ℕ) {b : Held} {store area store' area' : List ℕ} {kept : ℕ} {r : Progress} (q : Runs b store kept (take (length piece - at) (drop at piece)) area r store' area') where
  inside : at ≤ length piece → at + r.next ≤ length piece
  inside h =
      let n = next_inside q in
      let l = ap length (rest piece at) ∙ length-drop at piece in
      omega (arith, n, l, h)

  further : at < length piece → 24576 ≤ length area → 0 < r.next
  further h i = let l = ap length (rest piece at) ∙ length-drop at piece in moves_on q (omega (arith, l, h)) i

  reached : (bytes : List ℕ) → Reached (bytes ++ take at piece) b store kept → Reached (bytes ++ take (at + r.next) piece) r.held store' r.kept
  reached bytes h =
      let e : take (at + r.next) piece ≡ take at piece ++ take r.next (take (length piece - at) (drop at piece)) = take-add at r.next piece ∙ ap (λ (s : List ℕ). take at piece ++ take r.next s) (sym (rest piece at)) in
      subst (λ (s : List ℕ). Reached s r.held store' r.kept) (append_assoc bytes (take at piece) (take r.next (take (length piece - at) (drop at piece))) ∙ ap (λ (s : List ℕ). bytes ++ s) (sym e)) (reached_on h q)

-- what holds whatever came of a call holds where it failed
failed : {T E : Type 0} (r : Result T E) (P : Type 0) → P → OnErr r P
failed (Ok x) P p = tt
failed (Err e) P p = p

-- the text cannot be written: the store is what the calls so far leave, the last one too
pub returns-in_err-write_all-clause-err : goal.returns-in_err-write_all-clause-err
returns-in_err-write_all-clause-err g c =
    let l = c.loop-at in
    let a = c.args in
    let r = c.run_piece-q in
    failed c.from_residual.result _ (λ (bytes : List ℕ) (s : Reached bytes a.p.held a.store.now a.p.kept). (l.at + r.result.next, r.result.held, r.result.kept, reached a.piece.now l.at r.ensures bytes (l.invariant.2 bytes s)))

pub overflow_add-at : goal.overflow_add-at
overflow_add-at g c =
    let h = inside c.args.piece.now c.loop-at.at c.run_piece-q.ensures c.loop-at.invariant.0 in
    omega (arith, h)

pub loop-at-smaller : goal.loop-at-smaller
loop-at-smaller g c =
    let l = c.loop-at in
    let h = inside c.args.piece.now l.at c.run_piece-q.ensures l.invariant.0 in
    let n = further c.args.piece.now l.at c.run_piece-q.ensures c.loop-at-test.true (let e = l.invariant.1 in let r = c.requires.1 in omega (arith, e, r)) in
    omega (arith, h, n)

pub loop-at-preserved : goal.loop-at-preserved
loop-at-preserved g c =
    let l = c.loop-at in
    let a = c.args in
    let h = inside a.piece.now l.at c.run_piece-q.ensures l.invariant.0 in
    (h, search rules, λ (bytes : List ℕ) (s : Reached bytes a.p.held a.store.now a.p.kept). reached a.piece.now l.at c.run_piece-q.ensures bytes (l.invariant.2 bytes s))
