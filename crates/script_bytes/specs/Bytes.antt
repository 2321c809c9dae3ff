-- docs/SCRIPTS.md, "Orders": what the orders write that do nothing to the box: `advert`, `write`, `sum`.
use Rattle.std.specs.Prelude.{ℕ, cond, List, eqb, length}
use Rattle.laws.specs.Bytes.{ascii}
use Rattle.terms.specs.Answers.{number_of}
use Rattle.terms.specs.declared.Answer.{Answer}
use Rattle.sums.specs.Sums.{sums_to_zero}
use Rattle.sdap.specs.Rules.{write_answer, area_after}
use Rattle.sdap.specs.declared.Advert.{Advert as Fields}
use Rattle.sdap.specs.declared.Read.{Read}
use Rattle.script_fields.specs.Fields.{advert_text}
use Rattle.script_answers.specs.Answers.{answer_text, replied}

-- "`answer A`, and on 0 the fields"
unfoldable pub read_text : Read → List ℕ
read_text r = cond (eqb (number_of r.answer) 0) (advert_text r.fields) (answer_text r.answer)

-- "`answer A reply HEX`: the 122 bytes on 0, else `-`"
abbrev pub filled : Answer → ℕ
filled a = cond (eqb (number_of a) 0) 122 0

unfoldable pub wrote : Fields → List ℕ → List ℕ
wrote a area =
    replied (write_answer (length area) a) (filled (write_answer (length area) a)) (area_after (write_answer (length area) a) a area)

-- "`yes` or `no`"
unfoldable pub summed : List ℕ → List ℕ
summed bytes = cond (sums_to_zero bytes) (ascii "yes") (ascii "no")
