-- How far a call goes: no further than the piece, and over at least one byte where there is one, and room.
use Prim.Native.Nat.{ℕ, suc, ◌+◌, ◌≤◌, ◌<◌}
use mathlib.Core.Path.{◌≡◌, refl, ap, ◌∙◌}
use mathlib.Core.Bool.{Bool, true, false, cond}
use mathlib.Core.List.{List, [], ◌∷◌}
use native.Mathlib.Omega.{arith}
use lib.Dec.{leb}
use lib.ListN.{length, take, drop, length-append}
use borrow.Author.Tests.{le-leb, lt-leb}
use Rattle.script.specs.declared.Held.{Held}
use Rattle.script_room.specs.Room.{room}
use Rattle.script_run.specs.declared.Progress.{Progress}
use Rattle.script_run.specs.Pieces.{SoFar, at_call, byte_more, further, reach, Runs}

reach_inside : (size : ℕ) (s : SoFar) (bytes : List ℕ) → reach size s bytes ≤ length bytes
unfolding reach
reach_inside size s [] = omega arith
reach_inside size s (x ∷ bytes) = go (leb (length s.text + room) size) (reach_inside size (byte_more s x) bytes)
  where
    go : (c : Bool) → reach size (byte_more s x) bytes ≤ length bytes → cond c (suc (reach size (byte_more s x) bytes)) 0 ≤ length (x ∷ bytes)
    go true h = omega arith
    go false h = omega arith

-- nothing is left, or there is no room for one text more
pub reach_end : (size : ℕ) (s : SoFar) (bytes : List ℕ) → length bytes ≡ 0 → reach size s bytes ≡ 0
unfolding reach
reach_end size s [] h = refl
reach_end size s (x ∷ bytes) h = absurd (omega (arith, h))

pub reach_full : (size : ℕ) (s : SoFar) (bytes : List ℕ) → size < length s.text + room → reach size s bytes ≡ 0
unfolding reach
reach_full size s [] h = refl
reach_full size s (x ∷ bytes) h = rw (lt-leb (length s.text + room) size h)

reach_some : (size : ℕ) (s : SoFar) (bytes : List ℕ) → length s.text + room ≤ size → 0 < length bytes → 0 < reach size s bytes
unfolding reach
reach_some size s [] h i = absurd (omega arith)
reach_some size s (x ∷ bytes) h i = rw (le-leb (length s.text + room) size h) (omega arith)

module _ {b : Held} {store piece area store' area' : List ℕ} {kept : ℕ} {r : Progress} (q : Runs b store kept piece area r store' area') where
  pub next_inside : r.next ≤ length piece
  next_inside = let e = q.next_is in let h = reach_inside (length area) (at_call b store kept) piece in omega (arith, e, h)

  pub moves_on : 0 < length piece → room ≤ length area → 0 < r.next
  moves_on h i = let e = q.next_is in let s = reach_some (length area) (at_call b store kept) piece (omega (arith, i)) h in omega (arith, e, s)

  pub text_inside : r.len ≤ length area'
  text_inside =
      let t = (further (at_call b store kept) (take r.next piece)).text in
      let n = ap length q.text_is.area_is ∙ length-append t (drop (length t) area) in
      let l = q.text_is.length_is in
      omega (arith, n, l)
