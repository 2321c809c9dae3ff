-- `take_part` finds the line's end, puts what stands before it into the store, and looks whether the piece goes on.
use Prim.Native.Nat.{ℕ, ◌+◌, ◌-◌, ◌<◌, ◌≤◌}
use mathlib.Core.Path.{◌≡◌, sym, subst, ap, ◌∙◌}
use mathlib.Core.List.{List}
use native.Mathlib.Omega.{arith}
use native.Mathlib.Nat.{add-zero}
use lib.ListN.{length, take, drop, length-drop}
use Rattle.laws.proofs.Lists.{rest}
use Rattle.script_words.specs.Words.{before, line_of}
use Rattle.script_words.proofs.Words.{before_fits}
use Rattle.script_text.specs.Puts.{Puts}
use Rattle.script_text.proofs.Puts.{puts_none}
use Rattle.script_pieces.specs.Parts.{end_of}
use Rattle.script_pieces.proofs.Parts.{line_part, line_past, next_here, next_behind}
use Rattle.script_pieces.proofs.take_part.Goals as goal

-- how far the line goes in what is left of the piece
size : (p : List ℕ) (from r : ℕ) → r ≡ length (before 0x0a (take (length p - from) (drop from p))) → r ≡ length (line_of (drop from p))
size p from r e = e ∙ ap (λ (s : List ℕ). length (line_of s)) (rest p from)

-- what was put is the line
line : (p : List ℕ) (from r : ℕ) → r ≡ length (line_of (drop from p)) → take ((from + r) - from) (drop from p) ≡ line_of (drop from p)
line p from r e = ap (λ (k : ℕ). take ((from + k) - from) (drop from p)) e ∙ line_part p from

pub returns-then-piece-from : goal.returns-then-piece-from
returns-then-piece-from c =
    let a = c.args in
    let p = a.piece.now in
    let h : length p ≤ a.from = c.if-piece-from.true in
    let none = line_past p a.from h in
    let e : end_of a.from p ≡ a.from = ap (λ (t : List ℕ). a.from + length t) none ∙ add-zero a.from in
    let n = next_here p a.from (omega (arith, h, e)) in
    record {
      kept_is = subst (λ (t : List ℕ). Puts t a.store.now a.kept a.store.now a.kept) (sym none) (puts_none a.store.now a.kept);
      next_is = sym (n.0 ∙ e);
      ended_is = sym n.1;
    }

pub returns-then-end-piece : goal.returns-then-end-piece
returns-then-end-piece c =
    let a = c.args in
    let p = a.piece.now in
    let b = c.length_before in
    let u = c.put-kept in
    let z = size p a.from b.result b.ensures.0 in
    let e : a.from + b.result ≡ end_of a.from p = ap (λ (k : ℕ). a.from + k) z in
    let t : a.from + b.result ≡ length p = c.if-end-piece.true in
    let n = next_here p a.from (omega (arith, e, t)) in
    record {
      kept_is = subst (λ (l : List ℕ). Puts l a.store.now a.kept u.new.out u.result) (line p a.from b.result z) u.ensures;
      next_is = e ∙ sym n.0;
      ended_is = sym n.1;
    }

pub returns : goal.returns
returns c =
    let a = c.args in
    let p = a.piece.now in
    let b = c.length_before in
    let u = c.put-kept in
    let z = size p a.from b.result b.ensures.0 in
    let e : a.from + b.result ≡ end_of a.from p = ap (λ (k : ℕ). a.from + k) z in
    let t : a.from + b.result ≡ length p → ⊥ = c.if-end-piece.false in
    let i : a.from < length p = c.if-piece-from.false in
    let f = before_fits 0x0a (drop a.from p) in
    let d = length-drop a.from p in
    let n = next_behind p a.from (omega (arith, e, t, i, f, d, z)) in
    record {
      kept_is = subst (λ (l : List ℕ). Puts l a.store.now a.kept u.new.out u.result) (line p a.from b.result z) u.ensures;
      next_is = let m = n.0 in omega (arith, e, m);
      ended_is = sym n.1;
    }
