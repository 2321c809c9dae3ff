-- The search for a packet: each turn of its loops drops a byte that can begin nothing, first of the bytes held, then of the piece.
use Prim.Native.Nat.{ℕ, ◌+◌, ◌<◌}
use native.Mathlib.Omega.{arith}
use native.Mathlib.Numerals.{add-one}
use mathlib.Core.Bool.{true, false}
use mathlib.Core.Path.{◌≡◌, refl, sym, ap, ◌∙◌}
use mathlib.Core.List.{List, ◌++◌}
use lib.ListN.{length, drop, drop_of_length-le}
use lib.Seq.{drop-cons, drop_at}
use Rattle.receiver.specs.Stream.{can_begin, noise}
use Rattle.receiver.proofs.Stream.{noise_none}

-- x is what stands from place j on
module _ (l x : List ℕ) (j : ℕ) (p : noise l ≡ j + noise (drop j l)) (e : x ≡ drop j l) where
  pub search_found : can_begin x ≡ true → j ≡ noise l
  search_found n = sym (p ∙ rw (noise_none (drop j l) (ap can_begin (sym e) ∙ n)) (omega arith))

  pub search_turn : j < length l → can_begin x ≡ false → noise l ≡ j + 1 + noise (drop (j + 1) l)
  unfolding noise
  search_turn h n =
      let d = drop-cons l j 0 h in
      p ∙ ap (λ (y : List ℕ). j + noise y) d ∙ rw (sym (ap can_begin (e ∙ d)) ∙ n, add-one) (omega arith)

pub search_ended : (l : List ℕ) → noise l ≡ length l + noise (drop (length l) l) → length l ≡ noise l
unfolding noise
search_ended l p = sym (p ∙ rw (drop_of_length-le l {i = length l} (omega arith)) (omega arith))

-- behind the bytes held the piece stands alone
pub search_piece : (h p : List ℕ) (n : ℕ) → n ≡ noise p → noise (h ++ p) ≡ length h + noise (drop (length h) (h ++ p)) → length h + n ≡ noise (h ++ p)
search_piece h p n f q = sym (q ∙ ap (λ (x : List ℕ). length h + noise x) (drop_at h p (length h) refl) ∙ ap (length h +◌) (sym f))
