-- A stream has one reading, and it can be read on from what is left: what stands behind the noise decides, and more bytes do not change it.
use Prim.Native.Nat.{ℕ, suc}
use native.Mathlib.Omega.{arith}
use mathlib.Core.Path.{◌≡◌, refl, sym, ap, subst, ◌∙◌}
use mathlib.Core.List.{List, [], ◌∷◌, ◌++◌}
use lib.ListN.{take, drop}
use lib.Seq.{take-append-le, drop-append-le}
use Rattle.receiver.specs.Stream.{sought, whole}
use Rattle.receiver.proofs.Stream.{sought_more, sought_whole, whole_is, whole_more}

-- the packets of a stream, and what is left that may begin one
pub data ReadAs : List ℕ → List (List ℕ) → List ℕ → Type 0 where
  rest : {l t : List ℕ} → whole (sought l) ≡ 0 → sought l ≡ t → ReadAs l [] t
  next : {l t o : List ℕ} {os : List (List ℕ)} (n : ℕ) → whole (sought l) ≡ suc n → take (suc n) (sought l) ≡ o → ReadAs (drop (suc n) (sought l)) os t → ReadAs l (o ∷ os) t

pub one_reading : {l t u : List ℕ} {os us : List (List ℕ)} → ReadAs l os t → ReadAs l us u → (os ≡ us) × (t ≡ u)
one_reading (rest e q) (rest f r) = (refl, sym q ∙ r)
one_reading (rest e q) (next n f r b) = absurd (omega arith)
one_reading (next n e q a) (rest f r) = absurd (omega arith)
one_reading {l} (next n e q a) (next {t = u} {os = us} k f r b) =
    let i : n ≡ k = omega arith in
    let ih = one_reading a (subst (λ (j : ℕ). ReadAs (drop (suc j) (sought l)) us u) (sym i) b) in
    (cc (ih.0, ap (λ (j : ℕ). take (suc j) (sought l)) i), ih.1)

-- only what stands behind the noise counts
same_sought : {l m u : List ℕ} {us : List (List ℕ)} → ReadAs m us u → sought l ≡ sought m → ReadAs l us u
same_sought (rest f r) k = rest (ap whole k ∙ f) (k ∙ r)
same_sought {l} {m} {u} (next {os = us} n f r b) k = next n (ap whole k ∙ f) (ap (take (suc n)) k ∙ r) (subst (λ (x : List ℕ). ReadAs (drop (suc n) x) us u) (sym k) b)

-- what is left, and more bytes behind it, is read as the whole stream goes on
pub read_on : {l t : List ℕ} {os : List (List ℕ)} (m u : List ℕ) (us : List (List ℕ)) → ReadAs l os t → ReadAs (t ++ m) us u → ReadAs (l ++ m) (os ++ us) u
read_on m u us (rest {l = l} e q) p = same_sought p (sought_more l m ∙ ap (λ (x : List ℕ). sought (x ++ m)) q)
read_on m u us (next {l = l} {os = os} n e q a) p =
    let k = sought_whole l m n e in
    let h = (whole_is (sought l) n e).there in
    next n (ap whole k ∙ whole_more (sought l) m n e) (ap (take (suc n)) k ∙ take-append-le (suc n) (sought l) m h ∙ q)
    (subst (λ (x : List ℕ). ReadAs x (os ++ us) u) (sym (ap (drop (suc n)) k ∙ drop-append-le (suc n) (sought l) m h)) (read_on m u us a p))
