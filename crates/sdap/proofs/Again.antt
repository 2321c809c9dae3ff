-- What the round trips ask of the fields is not asked of too few: whatever is read of bytes fits, so that the two ways join.
use Prim.Native.Nat.{ℕ, zero, suc, ◌+◌, ◌^◌, ◌<◌, ◌≤◌}
use mathlib.Core.Path.{◌≡◌, refl, sym, ap, subst, ◌∙◌}
use mathlib.Core.Bool.{true}
use mathlib.Core.List.{List, [], ◌∷◌}
use native.Mathlib.Omega.{arith}
use lib.Dec.{ltb, lit<}
use lib.ListN.{length, get_or, take}
use borrow.Author.Tests.{eq-eqb}
use Rattle.laws.specs.Lists.{every}
use Rattle.laws.specs.Bytes.{Bytes, part, sent}
use Rattle.laws.specs.Numbers.{number}
use Rattle.laws.proofs.Bytes.{bytes_are}
use Rattle.laws.proofs.Lists.{part_length, part_bytes}
use Rattle.laws.proofs.Numbers.{number_fits}
use Rattle.terms.specs.Answers.{number_of}
use Rattle.terms.specs.declared.Answer.{Answer}
use Rattle.sdap.specs.Layout.{fields_of}
use Rattle.sdap.specs.Rules.{read_answer, read_of, Written}
use Rattle.sdap.proofs.Accepted.{readable}
use Rattle.sdap.proofs.Round.{Fitting, written_reads_back, read_writes_back}

number_under : (n k : ℕ) (l : List ℕ) → Bytes l → n + k ≤ length l → number (part n k l) < 256 ^ k
number_under n k l b h = subst (λ (j : ℕ). number (part n k l) < 256 ^ j) (part_length n k l h) (number_fits (part n k l) (part_bytes n k l b))

-- whatever is read of bytes fits the fields' types
pub read_fits : (l : List ℕ) → every (λ (x : ℕ). ltb x 256) l ≡ true → length l ≡ 122 → Fitting (fields_of l)
unfolding fields_of
read_fits l e h = record {
  serial_fits = under 20 4 (omega (arith, h));
  power_fits = under 24 2 (omega (arith, h));
  connected_fits = under 50 4 (omega (arith, h));
  accepted_four = refl;
  accepted_fit = accepted;
  error_fits = under 70 2 (omega (arith, h));
}
  where
    under : (n k : ℕ) → n + k ≤ length l → number (part n k l) < 256 ^ k
    under n k i = number_under n k l (bytes_are l e) i

    accepted : (i : ℕ) → get_or (number (part 54 4 l) ∷ number (part 58 4 l) ∷ number (part 62 4 l) ∷ number (part 66 4 l) ∷ []) i 0 < 2 ^ 32
    accepted zero = under 54 4 (omega (arith, h))
    accepted (suc zero) = under 58 4 (omega (arith, h))
    accepted (suc (suc zero)) = under 62 4 (omega (arith, h))
    accepted (suc (suc (suc zero))) = under 66 4 (omega (arith, h))
    accepted (suc (suc (suc (suc i)))) = lit< tt

-- so the two ways together: what the reader accepts, written into any area that has room, reads back as the same fields
pub read_back_again : (l area area' : List ℕ) (r : Answer) → every (λ (x : ℕ). ltb x 256) l ≡ true → number_of (read_answer l) ≡ 0 → 122 ≤ length area
    → Written (read_of l).fields area r area'
    → (area' ≡ sent l area) × (read_of (take 122 area') ≡ record { answer = r; fields = (read_of l).fields })
unfolding read_of
read_back_again l area area' r e z room w =
    let back = read_writes_back l area area' r (bytes_are l e) z room w in
    let fields : (read_of l).fields ≡ fields_of l = rw (eq-eqb (number_of (read_answer l)) 0 z) in
    let fits = subst Fitting (sym fields) (read_fits l e (readable l z).long) in
    (back.1, written_reads_back (read_of l).fields area area' r fits w (ap number_of back.0 ∙ z))
