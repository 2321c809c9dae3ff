-- `answer_advert` writes the fields of what was read, or the answer alone.
use Rattle.std.proofs.Common.{◌≡◌, sym, subst, ap, ◌∙◌, rules, tests, arith}
use borrow.Author.Tests.{eq-eqb, ne_eqb}
use Rattle.terms.specs.Answers.{number_of}
use Rattle.terms.proofs.Answers.{number_tells}
use Rattle.terms.specs.declared.Answer.TheVariants.{Done}
use Rattle.panels.specs.declared.DisplayBox.{DisplayBox}
use Rattle.sdap.specs.declared.Read.{Read}
use Rattle.sdap.specs.Rules.{read_of}
use Rattle.script_fields.specs.Fields.{advert_text}
use Rattle.script_text.proofs.Puts.{puts_then}
use Rattle.script_answers.specs.Answers.{Answers, Effect, writes, answer_text}
use Rattle.script_bytes.specs.Bytes.{read_text}
use Rattle.script_write.proofs.Lent.{front}
use Rattle.script_bytes.proofs.answer_advert.Goals as goal

-- the reader's answer decides what is written of it
read_refused : (b : DisplayBox) (r : Read) → (r.answer ≡ Done → ⊥) → writes b (answer_text r.answer) ≡ writes b (read_text r)
unfolding read_text
read_refused b r h = ap (writes b) (sym (rw (ne_eqb (number_of r.answer) 0 (λ z. h (number_tells r.answer Done (omega arith) z)))))

read_done : (b : DisplayBox) (r : Read) → r.answer ≡ Done → writes b (advert_text r.fields) ≡ writes b (read_text r)
unfolding read_text
read_done b r h = ap (writes b) (sym (rw (eq-eqb (number_of r.answer) 0 (ap number_of h))))

pub returns-then-ne : goal.returns-then-ne
returns-then-ne c =
    let a = c.args in
    let r = c.say_answer in
    let read = c.read_advert-read.ensures ∙ ap read_of (front c.bytes_at-n.ensures) in
    let e = read_refused a.b c.read_advert-read.result (λ z. search (rules, tests)) ∙ ap (λ x. writes a.b (read_text x)) read in
    subst (λ (o : Effect). Answers o r.result a.out.now r.new.out) e r.ensures

pub returns : goal.returns
unfolding writes
returns c =
    let a = c.args in
    let r = c.ended in
    let read = c.read_advert-read.ensures ∙ ap read_of (front c.bytes_at-n.ensures) in
    let done : c.read_advert-read.result.answer ≡ Done = search (rules, tests) in
    let e = read_done a.b c.read_advert-read.result done ∙ ap (λ x. writes a.b (read_text x)) read in
    subst (λ (o : Effect). Answers o r.result a.out.now r.new.out) e
    (record { box_is = r.ensures.box_is; text_is = puts_then c.put_advert-at.ensures r.ensures.text_is })
