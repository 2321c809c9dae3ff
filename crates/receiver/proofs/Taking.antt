-- A call as the code makes it: how long what it looks for is, and what it gives, whether it holds or hands out.
use Prim.Native.Nat.{ℕ, zero, suc, ◌+◌, ◌-◌, ◌≤◌, ◌<◌}
use native.Mathlib.Omega.{arith}
use mathlib.Core.Path.{◌≡◌, refl, sym, ap, subst, ◌∙◌}
use mathlib.Core.List.{List, [], ◌∷◌, ◌++◌}
use lib.ListN.{length, get_or, take, drop}
use lib.Seq.{drop-drop, length-take-le}
use borrow.Author.Tests.{lt-ltb, le-ltb}
use Rattle.std.specs.Prelude.{None, Some}
use Rattle.laws.specs.Bytes.{sent}
use Rattle.laws.specs.Numbers.{number}
use Rattle.receiver.specs.declared.Receiver.{Receiver}
use Rattle.receiver.specs.declared.Received.{Received}
use Rattle.receiver.specs.Stream.{noise, sought, size, size_of, whole, counted}
use Rattle.receiver.specs.Calls.{holding, held_in, handed, given, Receives}
use Rattle.receiver.proofs.Stream.{whole_is, whole_not, size_min, size_max}

-- ---- what the header says

pub too_few : (s : List ℕ) → length s < 13 → 0 ≡ whole s
unfolding whole
too_few s h = rw (lt-ltb _ _ h)

pub too_long_lem : (s : List ℕ) (k : ℕ) → 13 ≤ length s → k ≡ size s → length s < k → 0 ≡ whole s
unfolding whole
too_long_lem s k h e lt = rw (le-ltb _ _ h, ← e, lt-ltb _ _ lt)

long_enough : (s : List ℕ) (k : ℕ) → 13 ≤ length s → k ≡ size s → k ≤ length s → k ≡ whole s
unfolding whole
long_enough s k h e le = rw (le-ltb _ _ h, ← e, le-ltb _ _ le)

pub some_long : (s : List ℕ) (k : ℕ) → 13 ≤ length s → k ≡ size s → k ≤ length s → Some k ≡ counted (whole s)
some_long s zero h e le = absurd (omega (arith, size_min s))
some_long s (suc k) h e le = ap counted (long_enough s (suc k) h e le)

pub size_at : (l : List ℕ) (a b n k : ℕ) → a ≡ get_or l 11 0 → b ≡ get_or l 12 0 → n ≡ number (a ∷ b ∷ []) → k ≡ size_of n → k ≡ size l
size_at l a b n k p q f e = rw (e, f, p, q) refl

-- what is not whole fits into a receiver, and what is whole into the packet's area
pub none_whole : (s : List ℕ) → None ≡ counted (whole s) → whole s ≡ 0
none_whole s e = go (whole s) e
  where
    go : (n : ℕ) → None ≡ counted n → n ≡ 0
    go zero e = refl
    go (suc n) e = absurd cc

pub left_fits : (s : List ℕ) → None ≡ counted (whole s) → length s ≤ 512
left_fits s e = omega (arith, whole_not s (none_whole s e))

pub packet_fits : (s : List ℕ) (n : ℕ) → Some n ≡ counted (whole s) → (whole s ≡ n) × (n ≤ 512) × (n ≤ length s) × (0 < n)
packet_fits s n e = go (whole s) refl e
  where
    go : (k : ℕ) → whole s ≡ k → Some n ≡ counted k → (whole s ≡ n) × (n ≤ 512) × (n ≤ length s) × (0 < n)
    go zero w e = absurd cc
    go (suc k) w e =
        let q : n ≡ suc k = cc in
        let i = whole_is s k w in
        (w ∙ sym q, omega (arith, size_max s, i.sized, q), omega (arith, i.there, q), omega (arith, q))

-- ---- a call on the bytes held and the piece: j bytes of noise, and then x

module _ (h p area : List ℕ) (j : ℕ) (x : List ℕ) (after : Receiver) (q : j ≡ noise (h ++ p)) (b : x ≡ drop j (h ++ p)) where
  behind_noise : x ≡ sought (h ++ p)
  behind_noise = b ∙ ap (λ (k : ℕ). drop k (h ++ p)) q

  -- nothing is whole: all of it is held
  pub takes_none : None ≡ counted (whole x) → after ≡ holding x
      → Receives (handed (whole (sought (h ++ p))) (noise (h ++ p)) h p) area (record { after = after; taken = length p; len = None }) area
  unfolding handed
  takes_none e f = go (whole (sought (h ++ p))) (ap whole (sym behind_noise)) (e ∙ ap (λ (s : List ℕ). counted (whole s)) behind_noise)
    where
      go : (k : ℕ) → whole (sought (h ++ p)) ≡ whole x → None ≡ counted k → Receives (handed k (noise (h ++ p)) h p) area (record { after = after; taken = length p; len = None }) area
      go zero w e = record { after_is = f ∙ ap holding behind_noise; taken_is = refl; len_is = refl; area_is = refl }
      go (suc k) w e = absurd cc

  -- a packet is handed out, and what is held behind it is held on
  pub takes_some : (n taken : ℕ) (area' : List ℕ) → Some n ≡ counted (whole x) → area' ≡ sent (take n x) area → after ≡ holding (drop n (drop j h)) → taken ≡ j + n - length h
      → Receives (handed (whole (sought (h ++ p))) (noise (h ++ p)) h p) area (record { after = after; taken = taken; len = Some n }) area'
  unfolding handed
  takes_some zero taken area' e s f t = absurd (omega (arith, (packet_fits x zero e).3))
  takes_some (suc m) taken area' e s f t =
      let w = packet_fits x (suc m) e in
      let k : whole (sought (h ++ p)) ≡ suc m = ap whole (sym behind_noise) ∙ w.0 in
      let l : suc m ≤ length (sought (h ++ p)) = (whole_is (sought (h ++ p)) m k).there in
      rw k (record {
        after_is = f ∙ ap holding (drop-drop (suc m) j h ∙ ap (λ (i : ℕ). drop (i + suc m) h) q);
        taken_is = t ∙ ap (λ (i : ℕ). i + suc m - length h) q;
        len_is = ap counted (sym (length-take-le (suc m) (sought (h ++ p)) l));
        area_is = s ∙ ap (λ (v : List ℕ). sent (take (suc m) v) area) behind_noise;
      })

-- a call on a record is one on the bytes that it holds
pub takes_held : (r : Receiver) (h p area area' : List ℕ) (g : Received) → h ≡ held_in r → Receives (handed (whole (sought (h ++ p))) (noise (h ++ p)) h p) area g area' → Receives (given r p) area g area'
unfolding given
takes_held r h p area area' g e = subst (λ (x : List ℕ). Receives (handed (whole (sought (x ++ p))) (noise (x ++ p)) x p) area g area') e
