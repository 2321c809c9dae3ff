-- `no_panels` makes a box of nothing asked for, which is refused with the box of no panels.
use mathlib.Core.Path.{◌≡◌, refl, ap, ◌∙◌}
use mathlib.Core.List.{[]}
use Rattle.panels.specs.Valid.{valid}
use Rattle.configure.specs.Configure.{asked, refusal, configured}
use Rattle.configure.specs.declared.Configured.{Configured}
use Rattle.script_run.proofs.no_panels.Goals as goal

nothing_asked : configured [] ≡ refusal
unfolding configured asked valid
nothing_asked = refl

pub returns : goal.returns
returns c = ap (λ (r : Configured). r.made) (c.configure.ensures ∙ nothing_asked)
