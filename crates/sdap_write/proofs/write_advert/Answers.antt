-- `write_advert` leaves the area alone with a refusal, and lays the advert over its front with the answer 0.
use Rattle.std.proofs.Common.{◌≡◌, sym, ap, ◌∙◌, length, rules, tests, arith}
use borrow.Author.Tests.{eq-eqb, ne_eqb}
use Rattle.terms.specs.Answers.{number_of}
use Rattle.terms.proofs.Answers.{number_tells}
use Rattle.terms.specs.declared.Answer.TheVariants.{Done}
use Rattle.sdap.specs.Layout.{lent_of}
use Rattle.sdap.proofs.Accepted.{writable}
use Rattle.sdap_write.proofs.write_advert.Goals as goal

pub put_advert-requires : goal.put_advert-requires
put_advert-requires c =
    let done : c.write_answer-answer.result ≡ Done = search (rules, tests) in
    let w = writable (length c.args.out.now) (lent_of c.args.f.now) (ap number_of (sym c.write_answer-answer.ensures ∙ done)) in
    record { in_bounds = w.room_ok; sized = w.sizes }

pub returns-then-eq : goal.returns-then-eq
returns-then-eq c =
    let done : c.write_answer-answer.result ≡ Done = search (rules, tests) in
    let answer = c.write_answer-answer.ensures in
    record { answer = answer; area_after_holds = c.put_advert.ensures ∙ sym (rw (eq-eqb _ 0 (ap number_of (sym answer ∙ done)))) }

pub returns-else-eq : goal.returns-else-eq
returns-else-eq c =
    let refused : c.write_answer-answer.result ≡ Done → ⊥ = λ e. search (rules, tests) in
    let answer = c.write_answer-answer.ensures in
    record { answer = answer; area_after_holds = sym (rw (ne_eqb _ 0 (λ z. refused (answer ∙ number_tells _ Done (omega arith) z)))) }
