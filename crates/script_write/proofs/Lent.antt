-- What is lent on is the front of an array: the bytes that were sent to it, or so many bytes of one value.
use Prim.Native.Nat.{ℕ, ◌≤◌}
use mathlib.Core.Path.{◌≡◌, sym, ap, ◌∙◌}
use mathlib.Core.List.{List}
use native.Mathlib.Omega.{arith}
use lib.ListN.{length, take, drop, replicate, length-append, length-replicate}
use lib.Seq.{take_at}
use Rattle.std.proofs.lemmas.List.{take-replicate}
use Rattle.laws.specs.Bytes.{Sent}

-- the first n bytes of an area to which n bytes were sent
pub front : {bytes : List ℕ} {n : ℕ} {area area' : List ℕ} → Sent bytes n area area' → take n area' ≡ bytes
front {bytes} {n} {area} s = rw s.area_is (take_at bytes (drop (length bytes) area) n (sym s.length_is))

pub front_length : {bytes : List ℕ} {n : ℕ} {area area' : List ℕ} → Sent bytes n area area' → n ≡ length (take n area')
front_length s = s.length_is ∙ sym (ap length (front s))

pub front_fits : {bytes : List ℕ} {n : ℕ} {area area' : List ℕ} → Sent bytes n area area' → n ≤ length area'
front_fits {bytes} {n} {area} s =
    let size = ap length s.area_is ∙ length-append bytes (drop (length bytes) area) in
    let l = s.length_is in
    omega (arith, size, l)

-- the first n bytes of an area that holds one value throughout
pub throughout : (n m x : ℕ) → n ≤ m → take n (replicate m x) ≡ replicate n x
throughout n m x h = take-replicate n m x h

pub throughout_length : (n m x : ℕ) → n ≤ m → n ≡ length (take n (replicate m x))
throughout_length n m x h = sym (ap length (throughout n m x h) ∙ length-replicate n x)
