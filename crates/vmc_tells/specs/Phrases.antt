-- For the contracts of the code alone, no sentence of the document: words as the code holds them, at the front of twenty bytes, with their length.
use Rattle.std.specs.Prelude.{ℕ, List}
use Rattle.decimals.specs.Texts.{text}
use Rattle.decimals.specs.declared.Text.{Text}
use Rattle.vmc_tells.specs.Texts.{text_of}
use Rattle.vmc_tells.specs.declared.Says.{Says}

abbrev pub textual : List ℕ → Text 20
textual l = text 20 l

abbrev pub spelled : Says → Text 20
spelled t = textual (text_of t)
