-- `answer_piece` gives the receiver the piece that the line writes, and each packet an area of A5h.
use native.Mathlib.Omega.{arith}
use Prim.Native.Nat.{ℕ}
use mathlib.Core.Path.{◌≡◌, ap, subst, ◌∙◌}
use mathlib.Core.List.{List}
use Rattle.panels.specs.declared.DisplayBox.{DisplayBox}
use Rattle.receiver.specs.declared.Receiver.{Receiver}
use Rattle.script_words.specs.Words.{number_at, bytes_at}
use Rattle.script_words.proofs.Laws.{number_most}
use Rattle.script_write.proofs.Lent.{front}
use Rattle.script_answers.specs.Answers.{filler}
use Rattle.script_receivers.specs.Receivers.{LinkEffect, pieced, pieced_by, Links}
use Rattle.script_receivers.proofs.answer_piece.Goals as goal

-- the words of the line make the effect
by_words : (b : DisplayBox) (r : Receiver) (line : List ℕ) {l n : ℕ} {p : List ℕ} → l ≡ number_at 8 1 line
    → n ≡ number_at 1024 2 line → p ≡ bytes_at 3 line → pieced l (filler n) b r p ≡ pieced_by b r line
unfolding pieced_by
by_words b r line {l} {n} {p} e f g =
    ap (λ (x : ℕ). pieced x (filler n) b r p) e
    ∙ ap (λ (x : ℕ). pieced (number_at 8 1 line) (filler x) b r p) f
    ∙ ap (λ (x : List ℕ). pieced (number_at 8 1 line) (filler (number_at 1024 2 line)) b r x) g

pub link_piece-requires : goal.link_piece-requires
link_piece-requires c =
    let e = c.number_at-room.ensures in
    let m = number_most 1024 2 c.args.line.now in
    omega (arith, e, m)

pub returns : goal.returns
returns c =
    let a = c.args in
    let r = c.link_piece in
    let e = by_words a.b a.r a.line.now c.number_at-link.ensures c.number_at-room.ensures (front c.bytes_at-n.ensures) in
    subst (λ (o : LinkEffect). Links o r.result a.out.now r.new.out) e r.ensures
