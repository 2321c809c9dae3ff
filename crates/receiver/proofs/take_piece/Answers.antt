-- The bytes of the store that are claimed are those held, and none where more than 512 are claimed.
use Prim.Native.Nat.{ℕ, ◌+◌, ◌-◌, ◌≤◌, ◌<◌}
use borrow.Author.Rules.{rules}
use native.Mathlib.Omega.{arith}
use mathlib.Core.Path.{◌≡◌, refl, ap, ◌∙◌}
use mathlib.Core.Logic.{◌⊎◌, inl, inr}
use mathlib.Core.List.{List, []}
use lib.ListN.{length, take}
use denote.Bor.{Bor}
use Rattle.std.specs.Prelude.{Option, None, Some}
use Rattle.std.specs.Option.{MatchOption, unwrap_or}
use Rattle.std.specs.List.{slice_range}
use Rattle.receiver.specs.declared.Receiver.{Receiver}
use Rattle.receiver.specs.Calls.{held_in}
use Rattle.receiver.proofs.Calls.{holds, claims_more}
use Rattle.receiver.proofs.Taking.{takes_held}
use Rattle.receiver.proofs.take_piece.Goals as goal

held_or_none : (r : Receiver) (o : Option (Bor (List ℕ))) (d : Bor (List ℕ)) → length r.store ≡ 512 → d.now ≡ []
    → MatchOption o ((r.held < 0) ⊎ (length r.store < r.held)) (λ x. (0 ≤ r.held) × (r.held ≤ length r.store) × (x.now ≡ slice_range r.store 0 r.held) × (length x.now + 0 ≡ r.held))
    → (unwrap_or o d).now ≡ held_in r
held_or_none r (Some x) d l e h =
    let z : r.held - 0 ≡ r.held = omega arith in
    h.2 ∙ ap (λ (k : ℕ). take k r.store) z ∙ holds r (omega (arith, h.1, l))
held_or_none r None d l e (inl z) = absurd (omega arith)
held_or_none r None d l e (inr z) = e ∙ claims_more r (omega arith)

pub returns : goal.returns
returns c =
    let a = c.args in
    takes_held a.r c.unwrap_or-held.result.now a.piece.now a.packet.now _ c.take.result (ap (λ (b : Bor (List ℕ)). b.now) c.unwrap_or-held.ensures ∙ held_or_none a.r c.get.result _ (search rules) refl c.get.ensures.lookup.0) c.take.ensures
