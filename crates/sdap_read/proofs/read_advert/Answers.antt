-- `read_advert` gives the fields with the answer 0, and none with a refusal.
use Rattle.std.proofs.Common.{ℕ, ◌≡◌, sym, ap, subst, ◌∙◌, List, length, rules, tests, arith}
use borrow.Author.Tests.{eq-eqb, ne_eqb}
use Rattle.terms.specs.Answers.{number_of}
use Rattle.terms.proofs.Answers.{number_tells}
use Rattle.terms.specs.declared.Answer.{Answer}
use Rattle.terms.specs.declared.Answer.TheVariants.{Done}
use Rattle.sdap.specs.Rules.{Sized, read_answer, read_of}
use Rattle.sdap.proofs.Accepted.{readable}
use Rattle.sdap.proofs.Lengths.{read_sized}
use Rattle.sdap_read.proofs.read_advert.Goals as goal

whole : (l : List ℕ) (answer : Answer) → answer ≡ read_answer l → answer ≡ Done → length l ≡ 122
whole l answer e d = (readable l (ap number_of (sym e ∙ d))).long

pub returns-then-ne : goal.returns-then-ne
unfolding read_of
returns-then-ne c =
    let refused : c.read_answer-answer.result ≡ Done → ⊥ = λ e. search (rules, tests) in
    let answer = c.read_answer-answer.ensures in
    rw (c.no_fields.ensures, answer, ne_eqb (number_of (read_answer c.args.s.now)) 0 (λ z. refused (answer ∙ number_tells _ Done (omega arith) z)))

pub fields-requires : goal.fields-requires
fields-requires c = whole c.args.s.now _ c.read_answer-answer.ensures (search (rules, tests))

pub advert-requires : goal.advert-requires
advert-requires c = subst Sized (sym c.fields.ensures) (read_sized _ (whole c.args.s.now _ c.read_answer-answer.ensures (search (rules, tests))))

pub returns : goal.returns
unfolding read_of
returns c =
    let done : c.read_answer-answer.result ≡ Done = search (rules, tests) in
    let answer = c.read_answer-answer.ensures in
    rw (c.advert.ensures, c.fields.ensures, eq-eqb (number_of (read_answer c.args.s.now)) 0 (ap number_of (sym answer ∙ done)), answer)
