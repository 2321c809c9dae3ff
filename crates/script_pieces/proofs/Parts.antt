-- A line in a piece: what stands before the first 0Ah is the front of what is left.
use Prim.Native.Nat.{ℕ, ◌+◌, ◌-◌, ◌<◌, ◌≤◌}
use mathlib.Core.Path.{◌≡◌, ap, ◌∙◌}
use mathlib.Core.Bool.{true, false}
use mathlib.Core.List.{List, []}
use native.Mathlib.Omega.{arith}
use lib.ListN.{length, take, drop}
use borrow.Author.Tests.{lt-ltb, le-ltb}
use Rattle.script_words.specs.Words.{line_of}
use Rattle.script_words.proofs.Words.{before_take, before_behind}
use Rattle.script_pieces.specs.Parts.{end_of, is_ended, next_of}

-- the part of the piece from a place up to the line's end
pub line_part : (piece : List ℕ) (from : ℕ) → take (end_of from piece - from) (drop from piece) ≡ line_of (drop from piece)
line_part piece from =
    let n = length (line_of (drop from piece)) in
    let e : (from + n) - from ≡ n = omega arith in
    ap (λ (k : ℕ). take k (drop from piece)) e ∙ before_take 0x0a (drop from piece)

-- past the end of the piece nothing is left
pub line_past : (piece : List ℕ) (from : ℕ) → length piece ≤ from → line_of (drop from piece) ≡ []
line_past piece from h = before_behind 0x0a piece from h

pub next_here : (piece : List ℕ) (from : ℕ) → length piece ≤ end_of from piece → (next_of from piece ≡ end_of from piece) × (is_ended from piece ≡ false)
unfolding next_of is_ended
next_here piece from h = let e = le-ltb (end_of from piece) (length piece) h in (rw e, e)

pub next_behind : (piece : List ℕ) (from : ℕ) → end_of from piece < length piece → (next_of from piece ≡ end_of from piece + 1) × (is_ended from piece ≡ true)
unfolding next_of is_ended
next_behind piece from h = let e = lt-ltb (end_of from piece) (length piece) h in (rw e, e)
