-- `place_in` is the link less 1; a link is at most 8.
use native.Mathlib.Omega.{arith}
use Prim.Native.Nat.{ℕ, ◌-◌}
use mathlib.Core.Path.{ap, ◌∙◌}
use Rattle.script_words.proofs.Laws.{number_most}
use Rattle.script.proofs.place_in.Goals as goal

pub returns : goal.returns
returns c =
    let e = c.saturating_sub.ensures in
    let n = c.number_at-link.ensures in
    let m = number_most 8 1 c.args.line.now in
    (e ∙ ap (λ (n : ℕ). n - 1) n, omega (arith, e, n, m))
