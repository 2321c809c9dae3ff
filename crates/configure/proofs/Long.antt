-- More than 24 bytes break a rule: they are a broken panel or more than eight of them.
use Prim.Native.Nat.{ℕ, ◌/◌, ◌%◌, ◌<◌}
use mathlib.Core.Path.{◌≡◌, refl, sym, ◌∙◌}
use mathlib.Core.Bool.{Bool, true, false, ◌&&◌}
use mathlib.Core.List.{List}
use lib.ListN.{length}
use lib.Dec.{eqb}
use borrow.Author.Tests.{le-leb, lt-leb, eqb-true}
use native.Mathlib.Omega.{arith}
use Rattle.panels.specs.Valid.{valid}
use Rattle.configure.specs.Configure.{asked, refusal, configured}
use Rattle.configure.specs.declared.Configured.{Configured}

too_long : (c : List ℕ) → 24 < length c → (eqb (length c % 3) 0 && valid (asked c)) ≡ false
unfolding valid asked
too_long c h = go (eqb (length c % 3) 0) refl
  where
    go : (b : Bool) → eqb (length c % 3) 0 ≡ b → (b && valid (asked c)) ≡ false
    go true e =
        let z = eqb-true (length c % 3) 0 e in
        rw (le-leb 1 (length c / 3) (omega arith), lt-leb (length c / 3) 8 (omega arith))
    go false e = refl

pub long_refused : (c : List ℕ) (r : Configured) → r ≡ refusal → 24 < length c → r ≡ configured c
unfolding configured
long_refused c r e h = e ∙ sym (rw (too_long c h))
