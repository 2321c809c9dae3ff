use Prim.Native.Nat.{ℕ, ◌/◌, ◌<◌}
use mathlib.Core.Path.{◌≡◌, sym, ap, ◌∙◌}
use mathlib.Core.List.{List}
use lib.ListN.{length, get_or}
use lib.Seq.{ext_get_or}
use native.Mathlib.Omega.{arith}
use native.Mathlib.Nat.{zero-add}
use Rattle.laws.specs.Lists.{places}
use Rattle.laws.proofs.Lists.{places_at, places_length}
use Rattle.panels.specs.Records.{past_end}
use Rattle.configure.specs.Configure.{asked, asked_at}
use Rattle.panels.specs.declared.Panel.{Panel}
use Rattle.configure.proofs.asked_box.Goals as goal
use Rattle.configure.proofs.asked_box.Invariants.{filled}

whole : (c : List ℕ) (ps : List Panel) (i : ℕ) → length ps ≡ 8 → i ≡ length c / 3 → ((k : ℕ) → k < 8 → get_or ps k past_end ≡ filled c i k) → ps ≡ places 8 0 (asked_at c)
unfolding asked_at
whole c ps i l e all =
    ext_get_or past_end ps (places 8 0 (asked_at c)) (l ∙ sym (places_length 8 0 (asked_at c)))
    (λ k h.
    let m : k < 8 = omega arith in
    all k m ∙ rw e (sym (places_at 8 0 k (asked_at c) past_end m ∙ ap (asked_at c) (zero-add k))))

pub returns : goal.returns
unfolding asked
returns c =
    let v = c.loop-i.invariant.1.1 in
    rw (whole c.args.c.now c.loop-i.panels c.loop-i.i v.1.0 (omega arith) v.1.1)
