-- `digit_at` is one of the ten digits, counted from the last; a word has no digit past the tenth.
use Prim.Native.Nat.{ℕ, ◌+◌, ◌-◌, ◌/◌, ◌%◌, ◌^◌}
use mathlib.Core.Path.{ap, ◌∙◌}
use mathlib.Core.List.{List}
use native.Mathlib.Omega.{arith}
use lib.ListN.{get_or}
use Rattle.decimals.proofs.Decimals.{digits_at}
use Rattle.decimals.proofs.digit_at.Goals as goal

pub returns : goal.returns
returns c =
    let s = c in
    ap (λ (l : List ℕ). get_or l (9 - s.args.n) 0) c.ten_digits-d.ensures
    ∙ digits_at 10 (9 - s.args.n) s.args.v (omega arith)
    ∙ ap (λ (j : ℕ). 0x30 + s.args.v / 10 ^ j % 10) (omega arith)
