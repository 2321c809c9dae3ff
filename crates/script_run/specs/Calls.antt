-- A program's calls: the first has the box of no panels and an empty store, and each goes on with box and store as the last one left them.
use Rattle.std.specs.Prelude.{ℕ, ◌≡◌, List, [], ◌++◌, length, take}
use Rattle.script.specs.Answers.{at_start}
use Rattle.script.specs.declared.Held.{Held}
use Rattle.script_run.specs.Pieces.{Runs}
use Rattle.script_run.specs.declared.Progress.{Progress}

-- from a box on: the bytes that were taken, one piece's behind the other's; box, store and what is kept after them; and all that was written
pub data Calls (first : Held) : List ℕ → Held → List ℕ → ℕ → List ℕ → Type 0 where
  none : {store : List ℕ} → length store ≡ 4097 → Calls first [] first store 0 []
  call : {bytes store text piece area store' area' : List ℕ} {b : Held} {kept : ℕ} {r : Progress} → Calls first bytes b store kept text → Runs b store kept piece area r store' area'
      → Calls first (bytes ++ take r.next piece) r.held store' r.kept (text ++ take r.len area')

-- after these bytes of a script: what calls leave, of which the first had the box of no panels
pub record Reached (bytes : List ℕ) (b : Held) (store : List ℕ) (kept : ℕ) : Type 0 where
  pub text : List ℕ
  pub calls : Calls at_start bytes b store kept text
