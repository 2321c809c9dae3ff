-- Lists and how they are written, by computation.
use mathlib.Core.Path.{◌≡◌, refl}
use mathlib.Core.List.{List, [], ◌∷◌, ◌++◌}
use Prim.Native.Nat.{ℕ}
use lib.ListN.{replicate}
use Rattle.laws.specs.Bytes.{ascii}
use Rattle.laws.specs.Numbers.{number}
use Rattle.decimals.specs.Decimals.{in_digits}
use Rattle.decimals.specs.Plain.{width_from, width, plain as decimal}
use Rattle.receiver.specs.Stream.{agrees, size_of, whole}
use Rattle.reader.specs.Plain.{listing, between, inside, no_entries, plain}
use Rattle.script_text.specs.Texts.{number_text}
use Rattle.script_listings.specs.Listings.{entry_text, entries_text, end_text, plain_text}

-- what is written of a buffer, each definition opened
opened : List ℕ → List ℕ
unfolding plain_text entries_text entry_text end_text number_text decimal width width_from in_digits plain between inside no_entries agrees whole size_of number
opened bytes = plain_text (plain bytes)

no_bytes : opened [] ≡ ascii "plain end 0"
unfolding opened
no_bytes = refl

-- a packet of so many bytes of data
packet : ℕ → List ℕ
packet n = 0x03 ∷ 0x0b ∷ ascii "SONY" ++ (0x00 ∷ 0x00 ∷ 0x00 ∷ 0xb0 ∷ 0x00 ∷ 0x00 ∷ n ∷ replicate n 0x20)

-- a byte of noise, two packets with another between them, and a tail
two : opened (0x07 ∷ packet 0 ++ (0x07 ∷ packet 2) ++ (0x03 ∷ [])) ≡ ascii "plain 1:13 15:15 end 30"
unfolding opened packet
two = refl

-- a list that stopped
stopped : plain_text (listing 2 (0 ∷ 20 ∷ replicate 62 0) (13 ∷ 512 ∷ replicate 62 0) 845 1) ≡ ascii "plain 0:13 20:512 stop 845"
unfolding plain_text entries_text entry_text end_text number_text decimal width width_from in_digits
stopped = refl
