-- Worked examples, computed: what the plain reader lists of a few bytes, and of 64 entries and more.
use Prim.Native.Nat.{ℕ, zero, suc}
use mathlib.Core.Path.{◌≡◌, refl}
use mathlib.Core.List.{List, [], ◌∷◌, ◌++◌}
use lib.ListN.{replicate}
use Rattle.laws.specs.Bytes.{ascii}
use Rattle.laws.specs.Numbers.{number}
use Rattle.sdcp_asks.specs.Asks.{front}
use Rattle.receiver.specs.Stream.{agrees, size_of, whole}
use Rattle.reader.specs.declared.Listing.{Listing}
use Rattle.reader.specs.Plain.{noted, ends_at, between, inside, no_entries, plain, parts_at, parts}

-- what a list computes with: a proof that unfolds `opened` unfolds all that is named here
unfoldable pub opened : List ℕ → Listing
unfolding number agrees size_of whole between inside no_entries plain parts_at
opened b = plain b

-- a packet of two data bytes for a group and a unit, and a header with this data length
abbrev packet : ℕ → ℕ → List ℕ
packet g u = front ++ g ∷ u ∷ 0 ∷ 0xb0 ∷ 0 ∷ 0 ∷ 2 ∷ ascii "AB"

abbrev header : ℕ → ℕ → List ℕ
header high low = front ++ 0 ∷ 0 ∷ 0 ∷ 0xb0 ∷ 0 ∷ high ∷ low ∷ []

pub no_bytes : plain [] ≡ no_entries
unfolding opened
no_bytes = refl

pub noise_alone : plain (ascii "noise") ≡ ends_at no_entries 5
unfolding opened
noise_alone = refl

-- packets with noise before, between and behind them
abbrev noisy : List ℕ
noisy = ascii "xy" ++ packet 1 1 ++ ascii "z" ++ packet 5 0xff ++ ascii "xyz"

pub noise_between : plain noisy ≡ ends_at (noted (noted no_entries 2 15) 18 15) 36
unfolding opened
noise_between = refl

pub noisy_parts : parts noisy (plain noisy) ≡ packet 1 1 ∷ packet 5 0xff ∷ []
unfolding opened
noisy_parts = refl

-- of an overlong header the 13 bytes, and the reader reads on behind them
pub overlong : plain (header 0x01 0xf4 ++ packet 1 1) ≡ ends_at (noted (noted no_entries 0 13) 13 15) 28
unfolding opened
overlong = refl

-- a packet whose data is not all there; a header that has only begun, by a single 03h
pub tail_of_data : plain (packet 1 1 ++ 0x07 ∷ header 0 1) ≡ ends_at (noted no_entries 0 15) 16
unfolding opened
tail_of_data = refl

pub tail_of_one : plain (packet 1 1 ++ 0x03 ∷ 0x03 ∷ []) ≡ ends_at (noted no_entries 0 15) 16
unfolding opened
tail_of_one = refl

-- so many headers without data, and bytes behind them
abbrev headers : ℕ → List ℕ → List ℕ
headers zero b = b
headers (suc n) b = header 0 0 ++ headers n b

abbrev said : Listing → ℕ → ℕ → ℕ → Type 0
said l count end stopped = (l.count ≡ count) × (l.end ≡ end) × (l.stopped ≡ stopped) × (l.lengths ≡ replicate 64 13)

pub sixty_five : said (plain (headers 65 (0x07 ∷ []))) 64 832 1
unfolding opened
sixty_five = (refl, refl, refl, refl)

-- an unfinished 65th is a tail
pub sixty_four_and_tail : said (plain (headers 64 front)) 64 832 0
unfolding opened
sixty_four_and_tail = (refl, refl, refl, refl)

pub sixty_four_and_noise : said (plain (headers 64 (0x07 ∷ 0x07 ∷ []))) 64 834 0
unfolding opened
sixty_four_and_noise = (refl, refl, refl, refl)
