-- docs/SCRIPTS.md, `advert`: the line of an advert's fields.
use Rattle.std.specs.Prelude.{ℕ, List, ◌++◌, get_or}
use Rattle.laws.specs.Bytes.{ascii}
use Rattle.sdap.specs.declared.Advert.{Advert}
use Rattle.script_text.specs.Texts.{number_text, bytes_text}

-- ---- "`advert` on 0 writes every field behind the answer, texts whole in HEX, an address as one number"

unfoldable pub head_text : Advert → List ℕ
head_text a =
    number_text (ascii "answer 0 category ") a.category ++ bytes_text (ascii " product ") a.product ++ number_text (ascii " serial ") a.serial
    ++ number_text (ascii " power ") a.power ++ bytes_text (ascii " location ") a.location

unfoldable pub addresses_text : Advert → List ℕ
addresses_text a =
    number_text (ascii " ip ") a.connected ++ number_text (ascii " accepted ") (get_or a.accepted 0 0) ++ number_text (ascii " ") (get_or a.accepted 1 0)
    ++ number_text (ascii " ") (get_or a.accepted 2 0) ++ number_text (ascii " ") (get_or a.accepted 3 0)

unfoldable pub tail_text : Advert → List ℕ
tail_text a =
    number_text (ascii " error ") a.error ++ bytes_text (ascii " region ") a.region ++ bytes_text (ascii " name ") a.name
    ++ number_text (ascii " group ") a.group.0 ++ number_text (ascii " unit ") a.unit.0

unfoldable pub advert_text : Advert → List ℕ
advert_text a = head_text a ++ addresses_text a ++ tail_text a
