-- `answer_plain` lists the front of its array, which is the bytes of the line, and puts what is listed; none of its numbers is above
-- 1,024.
use mathlib.Core.Path.{◌∙◌, ap}
use Rattle.reader.specs.Plain.{plain}
use Rattle.script_words.specs.Words.{bytes_at}
use Rattle.script_words.proofs.Hex.{bytes_most}
use Rattle.script_write.proofs.Lent.{front}
use Rattle.script_text.proofs.Puts.{puts_then, puts_as}
use Rattle.script_answers.specs.Answers.{writes}
use Rattle.script_listings.specs.Listings.{plain_text}
use Rattle.script_listings.proofs.Bounds.{listed_within}
use Rattle.script_listings.proofs.answer_plain.Goals as goal

pub put_listing-at-requires : goal.put_listing-at-requires
put_listing-at-requires c =
    let line = c.args.line.now in
    rw (c.read_plain.ensures, front c.bytes_at-n.ensures) (listed_within (bytes_at 1 line) 1024 (bytes_most 1 line))

pub returns : goal.returns
unfolding writes
returns c =
    let e = c.read_plain.ensures ∙ ap plain (front c.bytes_at-n.ensures) in
    record { box_is = c.ended.ensures.box_is; text_is = puts_then (puts_as (ap plain_text e) c.put_listing-at.ensures) c.ended.ensures.text_is }
