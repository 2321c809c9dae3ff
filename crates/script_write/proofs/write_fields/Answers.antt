-- `write_fields` hands the writer the line's words, each as the field that stands at its place.
use Rattle.script_write.specs.Wanted.{wanted}
use Rattle.script_write.proofs.Lent.{front}
use Rattle.script_write.proofs.write_fields.Goals as goal

pub returns : goal.returns
unfolding wanted
returns c =
    rw (
      ← c.byte_in.ensures,
      ← front c.bytes_at-p.ensures,
      ← c.number_at-5.ensures,
      ← c.short_in.ensures,
      ← front c.bytes_at-l.ensures,
      ← c.number_at-6.ensures,
      ← c.number_at.ensures,
      ← c.number_at-2.ensures,
      ← c.number_at-3.ensures,
      ← c.number_at-4.ensures,
      ← c.short_in-2.ensures,
      ← front c.bytes_at-r.ensures,
      ← front c.bytes_at-n.ensures,
      ← c.byte_in-2.ensures,
      ← c.byte_in-3.ensures,
    ) c.write_advert.ensures
