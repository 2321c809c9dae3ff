-- For the contracts of the code alone, no sentence of the document: a text that was put up to a place ends there.
use Rattle.std.specs.Prelude.{ℕ, ◌≡◌, List, [], ◌∷◌}
use Rattle.panels.specs.declared.DisplayBox.{DisplayBox}
use Rattle.script_text.specs.Puts.{Puts}
use Rattle.script_answers.specs.declared.Answered.{Answered}

pub record Ends (b : DisplayBox) (at : ℕ) (r : Answered DisplayBox) (area area' : List ℕ) : Type 0 where
  pub box_is : r.after ≡ b
  pub text_is : Puts (0x0a ∷ []) area at area' r.len
