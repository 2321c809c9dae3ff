-- Document 01, "SDAP advert, 122 bytes": the refusals, what the reader gives and what the writer leaves in its area.
use Rattle.std.specs.Prelude.{ℕ, ◌≡◌, Bool, true, not, cond, ◌&&◌, List, [], ◌∷◌, ◌++◌, length, eqb, leb, ltb}
use Rattle.laws.specs.Bytes.{ascii, part, same, sent}
use Rattle.laws.specs.Lists.{every, listed}
use Rattle.terms.specs.Answers.{number_of}
use Rattle.terms.specs.declared.Answer.{Answer}
use Rattle.terms.specs.declared.Answer.TheVariants.{Done, AreaTooSmall, WrongLength, NotForUs, EnvelopeWrong}
use Rattle.sdap.specs.Layout.{bytes_of, fields_of, no_fields}
use Rattle.sdap.specs.declared.Advert.{Advert}
use Rattle.sdap.specs.declared.Read.{Read}

-- "a nonzero byte after a 00h in a text" makes it none
unfoldable pub is_text : List ℕ → Bool
is_text [] = true
is_text (x ∷ xs) = cond (eqb x 0) (every (eqb 0) xs) (is_text xs)

-- the four texts are texts
unfoldable pub are_texts : Advert → Bool
are_texts a = is_text a.product && is_text a.location && is_text a.region && is_text a.name

-- "category 0Bh or 0Ch"
unfoldable pub is_category : ℕ → Bool
is_category c = listed (0x0b ∷ 0x0c ∷ []) c

-- "Power or error not 0 or 1, or a nonzero byte after a 00h in a text: 5."
unfoldable pub is_filled : Advert → Bool
is_filled a = leb a.power 1 && leb a.error 1 && are_texts a

-- what reader and writer judge "by the same rules": 4 for the category and 5 for the rest
unfoldable pub verdict : Advert → Answer
verdict a =
    cond (not (is_category a.category)) NotForUs
    (cond (not (is_filled a)) EnvelopeWrong
    Done)

-- the fixed bytes: "DA" 0; version 04h 2; "SONY" 4
unfoldable pub is_front : List ℕ → Bool
is_front l = same (part 0 3 l) (ascii "DA" ++ (4 ∷ [])) && same (part 4 4 l) (ascii "SONY")

-- "Wrong length: 3. Wrong fixed bytes or category: 4."
unfoldable pub read_answer : List ℕ → Answer
read_answer l =
    cond (not (eqb (length l) 122)) WrongLength
    (cond (not (is_front l)) NotForUs
    (verdict (fields_of l)))

-- what is given of the fields with an answer: nothing but zeros when refused
abbrev pub given : Answer → Advert → Advert
given answer fields = cond (eqb (number_of answer) 0) fields no_fields

-- the reader: the answer, "elsewhere also the fields, all zero when refused"
unfoldable pub read_of : List ℕ → Read
read_of l = record { answer = read_answer l; fields = given (read_answer l) (fields_of l) }

-- the text areas are of their 12 or 24 bytes
unfoldable pub is_sized : Advert → Bool
is_sized a = eqb (length a.product) 12 && eqb (length a.location) 24 && eqb (length a.region) 24 && eqb (length a.name) 24

-- the same, as facts that the writer's helpers rely on
pub record Sized (a : Advert) : Type 0 where
  pub product_ok : length a.product ≡ 12
  pub location_ok : length a.location ≡ 24
  pub region_ok : length a.region ≡ 24
  pub name_ok : length a.name ≡ 24

-- 1 for an area under 122 bytes, "3 for a text area not of its 12 or 24 bytes", then the shared rules
unfoldable pub write_answer : ℕ → Advert → Answer
write_answer room a =
    cond (ltb room 122) AreaTooSmall
    (cond (not (is_sized a)) WrongLength
    (verdict a))

-- "On 0 it fills the first 122 bytes and those after keep what they held", else "area untouched"
abbrev pub area_after : Answer → Advert → List ℕ → List ℕ
area_after answer a area = cond (eqb (number_of answer) 0) (sent (bytes_of a) area) area

-- the writer's promise: its answer, and the whole area afterwards
pub record Written (a : Advert) (area : List ℕ) (r : Answer) (area' : List ℕ) : Type 0 where
  pub answer : r ≡ write_answer (length area) a
  pub area_after_holds : area' ≡ area_after (write_answer (length area) a) a area

-- "the product's bytes before its first 00h"
unfoldable pub before_zero : List ℕ → List ℕ
before_zero [] = []
before_zero (x ∷ xs) = cond (eqb x 0) [] (x ∷ before_zero xs)

abbrev pub text_length : List ℕ → ℕ
text_length t = length (before_zero t)
