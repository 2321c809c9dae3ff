-- `read_words` goes by the first word, and lends on what stands behind it.
use mathlib.Core.Path.{sym, ap, ◌∙◌}
use Rattle.laws.specs.Bytes.{ascii}
use Rattle.vmc_asks.specs.Asks.{read_set, read_get, read_words}
use Rattle.vmc_asks.proofs.Fronts.{strips_is}
use Rattle.vmc_asks.proofs.read_words.Goals as goal

pub returns-in-Some : goal.returns-in-Some
unfolding read_words
returns-in-Some c =
    let f = c.in-Some.ensures.cases in
    c.read_set.ensures ∙ ap read_set f.1 ∙ sym (rw (strips_is (ascii "STATset ") c.args.d.now ∙ f.0))

pub returns-in_err-strip_prefix : goal.returns-in_err-strip_prefix
unfolding read_words
returns-in_err-strip_prefix c =
    let d = c.args.d.now in
    let f = c.in_default.ensures.cases in
    let g = c.in_err-strip_prefix.ensures.cases in
    c.from_residual.ensures ∙ sym (rw (strips_is (ascii "STATset ") d ∙ f, strips_is (ascii "STATget ") d ∙ g))

pub returns : goal.returns
unfolding read_words
returns c =
    let d = c.args.d.now in
    let f = c.in_default.ensures.cases in
    let g = c.in_ok-strip_prefix.ensures.cases in
    c.read_get.ensures ∙ ap read_get g.1 ∙ sym (rw (strips_is (ascii "STATset ") d ∙ f, strips_is (ascii "STATget ") d ∙ g.0))
