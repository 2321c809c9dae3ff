-- docs/SCRIPTS.md, "Orders": what the orders on the box alone do to it, and what they write.
use Rattle.std.specs.Prelude.{ℕ, List, []}
use Rattle.laws.specs.Bytes.{ascii}
use Rattle.configure.specs.Configure.{configured}
use Rattle.panels.specs.declared.DisplayBox.{DisplayBox}
use Rattle.steps.specs.Messages.{udp}
use Rattle.steps.specs.Step.{step}
use Rattle.sdap.specs.Rules.{read_of}
use Rattle.reader.specs.Plain.{plain}
use Rattle.script_words.specs.Words.{number_at, bytes_at}
use Rattle.script_words.specs.Kinds.{most_n, most_area}
use Rattle.script_boxes.specs.Boxes.{configuration_of}
use Rattle.script_lines.specs.declared.BoxOrder.{BoxOrder}
use Rattle.script_lines.specs.declared.BoxOrder.TheVariants.{Passed, Unread, Box, Rs232, Kjw, Tcp, Udp, Show, Advert, Write, Sum, Plain}
use Rattle.script_write.specs.Wanted.{wanted}
use Rattle.script_answers.specs.Answers.{Effect, writes, filler}
use Rattle.script_bytes.specs.Bytes.{read_text, wrote, summed}
use Rattle.script_listings.specs.Listings.{plain_text}
use Rattle.script_panels.specs.Panels.{boxed, shown_at}
use Rattle.script_messages.specs.Messages.{messaged, spread}
use Rattle.addresses.specs.declared.Line.TheVariants as lines

-- what each order does and writes
unfoldable pub ordered : BoxOrder → DisplayBox → List ℕ → Effect
ordered Passed b line = record { box = b; text = [] }
ordered Unread b line = writes b (ascii "unread")
ordered Box b line = boxed (configured (configuration_of line))
ordered Rs232 b line = messaged lines.Rs232c b line
ordered Kjw b line = messaged lines.Kjw b line
ordered Tcp b line = messaged lines.Tcp b line
ordered Udp b line = spread (step b (udp (bytes_at 1 line)))
ordered Show b line = writes b (shown_at b (number_at most_n 1 line))
ordered Advert b line = writes b (read_text (read_of (bytes_at 1 line)))
ordered Write b line = writes b (wrote (wanted line) (filler (number_at most_area 1 line)))
ordered Sum b line = writes b (summed (bytes_at 1 line))
ordered Plain b line = writes b (plain_text (plain (bytes_at 1 line)))
