-- A script that arrives in pieces, for the code alone: what is known of it between two bytes, and what a call does with a piece.
use Rattle.std.specs.Prelude.{ℕ, suc, ◌+◌, ◌≡◌, cond, List, [], ◌∷◌, ◌++◌, eqb, leb, length, take}
use Rattle.laws.specs.Bytes.{Sent}
use Rattle.script.specs.declared.Held.{Held}
use Rattle.script_text.specs.Puts.{written, behind}
use Rattle.script.specs.Answers.{answered}
use Rattle.script_room.specs.Room.{room}
use Rattle.script_run.specs.declared.Progress.{Progress}

-- the script so far: the box, what was written, and what came of the line that has not ended
pub record SoFar : Type 0 where
  pub held : Held
  pub text : List ℕ
  pub begun : List ℕ

-- one byte more: 0Ah ends the line, which is answered; any other is the line's
unfoldable pub byte_more : SoFar → ℕ → SoFar
byte_more s x =
    cond (eqb x 0x0a)
    (record { held = (answered s.held s.begun).held; text = s.text ++ (answered s.held s.begun).text; begun = [] })
    (record { held = s.held; text = s.text; begun = s.begun ++ (x ∷ []) })

unfoldable pub further : SoFar → List ℕ → SoFar
further s [] = s
further s (x ∷ bytes) = further (byte_more s x) bytes

-- how many bytes are taken: as long as the area has room for one text more
unfoldable pub reach : ℕ → SoFar → List ℕ → ℕ
reach size s [] = 0
reach size s (x ∷ bytes) = cond (leb (length s.text + room) size) (suc (reach size (byte_more s x) bytes)) 0

-- the store: a byte of the line goes behind the last one, cut off where the store ends, and 0Ah empties it
pub record Store : Type 0 where
  pub bytes : List ℕ
  pub kept : ℕ

unfoldable pub byte_stored : Store → ℕ → Store
byte_stored k x =
    cond (eqb x 0x0a)
    (record { bytes = k.bytes; kept = 0 })
    (record { bytes = written k.bytes k.kept (x ∷ []); kept = behind k.bytes k.kept (x ∷ []) })

unfoldable pub stored : Store → List ℕ → Store
stored k [] = k
stored k (x ∷ bytes) = stored (byte_stored k x) bytes

-- before a call: nothing is written yet, and the store's front is the line that has not ended
abbrev pub at_call : Held → List ℕ → ℕ → SoFar
at_call b store kept = record { held = b; text = []; begun = take kept store }

-- the promise: how far the piece was taken, and for these bytes the box, the text at the front of the area, and the store
pub record Runs (b : Held) (store : List ℕ) (kept : ℕ) (piece area : List ℕ) (r : Progress) (store' area' : List ℕ) : Type 0 where
  pub next_is : r.next ≡ reach (length area) (at_call b store kept) piece
  pub held_is : r.held ≡ (further (at_call b store kept) (take r.next piece)).held
  pub text_is : Sent (further (at_call b store kept) (take r.next piece)).text r.len area area'
  pub store_is : record { bytes = store'; kept = r.kept } ≡ stored (record { bytes = store; kept = length (take kept store) }) (take r.next piece)
