-- A word that is read is the word that is written, and its number is in its range: switches and scenes are the words of the
-- numbers from 0 on.
use mathlib.Core.List.{List}
use Prim.Native.Nat.{ℕ}
use native.Mathlib.Omega.{arith}
use Rattle.kjw_sets.specs.Sets.{chosen}
use Rattle.kjw_sets.specs.Words.{switches, scenes}
use Rattle.kjw_sets.proofs.Parameters.{Chose, chosen_word}
use Rattle.kjw_values.specs.Values.{switch_word, scene_word}

pub switch_chosen : (p : List ℕ) → Chose switch_word 2 p (chosen switches p)
unfolding switch_word
switch_chosen p = chosen_word switch_word 2 2 0 p (omega arith)

pub scene_chosen : (p : List ℕ) → Chose scene_word 3 p (chosen scenes p)
unfolding scene_word
scene_chosen p = chosen_word scene_word 3 3 0 p (omega arith)
