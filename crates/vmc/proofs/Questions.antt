-- Document 02, §5: data that is understood begins as a question does exactly where it is one, and no set does. The phrases are STATget with a
-- name and STATset with words, and their eighth byte tells them apart.
use Prim.Native.Nat.{ℕ}
use mathlib.Core.Path.{◌≡◌, refl}
use mathlib.Core.Bool.{Bool, true, false}
use mathlib.Core.List.{List}
use Rattle.std.specs.Prelude.{Some}
use Rattle.trimming.specs.Trimming.{trimmed}
use Rattle.vmc_asks.specs.Asks.{read_data, is_question, asks_status}
use Rattle.vmc_asks.specs.declared.Order.{Order}
use Rattle.vmc_asks.specs.declared.Order.TheVariants.{Set, Shift, Reset, Get}
use Rattle.vmc.proofs.Only.{sets, moves, plain, resets, Asks, stat_set, stat_get, only}

-- an order that only asks
abbrev pub asks_only : Order → Bool
asks_only (Set k v) = false
asks_only (Shift axis z) = false
asks_only Reset = false
asks_only (Get k) = true

phrase_asks : (t : List ℕ) (o : Order) → Asks t o → is_question t ≡ asks_only o
unfolding is_question
phrase_asks _ _ (stat_set _ _ (sets k v h l)) = refl
phrase_asks _ _ (stat_set _ _ (moves axis z h e)) = refl
phrase_asks _ _ (stat_set _ _ (plain axis n h l)) = refl
phrase_asks _ _ (stat_set _ _ resets) = refl
phrase_asks _ _ (stat_get k h) = refl

-- what is understood asks for a status exactly where it is a STATget: no set is taken for a question
pub question_is : (d : List ℕ) (o : Order) → read_data d ≡ Some o → asks_status d ≡ asks_only o
unfolding asks_status
question_is d o e = phrase_asks (trimmed d) o (only d o e)
