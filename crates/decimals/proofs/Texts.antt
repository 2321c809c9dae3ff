-- A text's slice is the text: its bytes stand at the front, and its length says how many.
use Rattle.std.proofs.Common.{◌≡◌, ℕ, List, take, ap, ◌∙◌}
use Rattle.std.proofs.Math.Seq.{take-append_seam}
use Rattle.decimals.specs.declared.Text.{Text}
use Rattle.decimals.specs.Texts.{text}
use Rattle.decimals.specs.Decimals.{numeral, spelled}

pub text_slice : {n : ℕ} (t : Text n) (l : List ℕ) → t ≡ text n l → take t.len t.bytes ≡ l
unfolding text
text_slice {n} t l e = ap (λ (u : Text n). take u.len u.bytes) e ∙ take-append_seam l _

pub numeral_slice : (t : Text 3) (v : ℕ) → t ≡ spelled v → take t.len t.bytes ≡ numeral v
unfolding spelled
numeral_slice t v e = text_slice t (numeral v) e
