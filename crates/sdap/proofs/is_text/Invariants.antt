-- `is_text` asks each byte and the one before it: the first nonzero byte after a 00h stands directly behind a 00h.
use Rattle.std.proofs.Common.{◌≡◌, ◌≤◌, Bool, true, not, ◌&&◌, ◌||◌, List, [], ◌∷◌, ℕ, length, drop, eqb, ◌-◌}
use Rattle.sdap.proofs.is_text.Given as goal

-- no nonzero byte stands directly behind a 00h
abbrev pub joined : List ℕ → Bool
joined [] = true
joined (x ∷ []) = true
joined (x ∷ y ∷ l) = (not (eqb x 0) || eqb y 0) && joined (y ∷ l)

abbrev pub invariant-loop-i : goal.invariant-loop-i
invariant-loop-i l = (l.i-end ≡ length l.t) × (1 ≤ l.i) × (joined l.t ≡ (l.ok && joined (drop (l.i - 1) l.t)))
