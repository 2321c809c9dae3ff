-- Document 02, §5: a question by UDP that passes the envelope is answered 8, changes no panel and draws no reply, for 8 is then the first check
-- that applies.
use Prim.Native.Nat.{ℕ, ◌≤◌}
use mathlib.Core.Path.{◌≡◌, refl, sym, ap, ◌∙◌}
use mathlib.Core.Bool.{Bool, true, false}
use mathlib.Core.List.{List}
use native.Mathlib.Omega.{arith}
use lib.ListN.{length}
use Rattle.laws.proofs.Conditions.{false_true}
use Rattle.terms.specs.Answers.{number_of}
use Rattle.terms.specs.declared.Answer.{Answer}
use Rattle.terms.specs.declared.Answer.TheVariants.{StatusByBroadcast}
use Rattle.std.specs.Prelude.{Ok}
use Rattle.panels.specs.declared.DisplayBox.{DisplayBox}
use Rattle.vmc_asks.specs.Asks.{asks_status}
use Rattle.sdcp_asks.specs.Asks.{is_ours, envelope_of, data_of}
use Rattle.sdcp_asks.proofs.Cast.{cast_status}
use Rattle.sdcp.specs.Replies.{answer_of}
use Rattle.steps.specs.Messages.{udp, names}
use Rattle.steps.specs.Addressing.{addressed, any_called}
use Rattle.steps.specs.Step.{Back, door, refused, step}
use Rattle.steps.proofs.Addressed.{foreign_udp}
use Rattle.steps.proofs.Refusals.{refused_leaves, udp_quiet}
use Rattle.steps.proofs.Only.{uncalled}

module _ (b : DisplayBox) (m : List ℕ) (i : ℕ) (a : addressed (names b) (udp m) i ≡ true) where
  -- somebody is addressed, so the packet is ours
  ours : is_ours m ≡ true
  ours = go (is_ours m) refl
    where
      go : (o : Bool) → is_ours m ≡ o → o ≡ true
      go true e = refl
      go false e = absurd (false_true (sym (foreign_udp (names b) m i e) ∙ a))

  -- and somebody is called
  some : any_called m (names b) ≡ true
  unfolding addressed
  some = go (any_called m (names b)) refl
    where
      go : (c : Bool) → any_called m (names b) ≡ c → c ≡ true
      go true e = refl
      go false e = absurd (false_true (sym (uncalled m (names b) e i) ∙ a))

  answered : 13 ≤ length m → envelope_of m ≡ Ok tt → asks_status (data_of m) ≡ true → (step b (udp m)).answer ≡ StatusByBroadcast
  unfolding step door
  answered h w e = rw some (ap answer_of (cast_status m h ours w e))

  -- whatever the box, and whatever follows the word: "no panel changes and no reply is sent"
  pub status_refused : 13 ≤ length m → envelope_of m ≡ Ok tt → asks_status (data_of m) ≡ true → step b (udp m) ≡ refused b (udp m) StatusByBroadcast
  status_refused h w e =
      let n = ap number_of (answered h w e) in
      ap (λ (x : DisplayBox). record { box = x; answer = (step b (udp m)).answer; back = (step b (udp m)).back }) (refused_leaves b (udp m) (λ z. omega (arith, n, z)))
      ∙ ap (λ (x : Answer). record { box = b; answer = x; back = (step b (udp m)).back }) (answered h w e)
      ∙ ap (λ (x : Back). record { box = b; answer = StatusByBroadcast; back = x }) (udp_quiet b m)
