-- Document 01, "RS-232C (002, 004)", and document 02, §8: the frame, and what it asks.
use Rattle.std.specs.Prelude.{ℕ, ◌+◌, ◌-◌, ◌*◌, ◌%◌, Bool, not, cond, ◌&&◌, ◌||◌, List, [], ◌∷◌, eqb, ltb, length, get_or, drop, Option, Some, None, Result, Ok, Err}
use Rattle.std.specs.Int.Count.{ones}
use Rattle.laws.specs.Bytes.{part}
use Rattle.sums.specs.Sums.{sums_to_zero}
use Rattle.terms.specs.declared.Answer.{Answer}
use Rattle.terms.specs.declared.Answer.TheVariants.{WrongLength, NotForUs, NotUnderstood, PartWrong}
use Rattle.terms.specs.declared.Part.{Part}
use Rattle.terms.specs.declared.Part.TheVariants.{Count, Checksum}
use Rattle.rs232c_asks.specs.Commands.{config_good, select_good}
use Rattle.rs232c_asks.specs.declared.Which.{Which}
use Rattle.rs232c_asks.specs.declared.Which.TheVariants.{Gains, Biases}
use Rattle.rs232c_asks.specs.declared.Order.{Order}
use Rattle.rs232c_asks.specs.declared.Order.TheVariants.{Config, Select, Levels, Sense, Remote}
use Rattle.rs232c_asks.specs.declared.Asked.{Asked}

-- "Bytes: 02h, byte count, destination, source, command block, checksum."
abbrev pub count_of : List ℕ → ℕ
count_of m = get_or m 1 0

abbrev pub destination_of : List ℕ → ℕ
destination_of m = get_or m 2 0

abbrev pub source_of : List ℕ → ℕ
source_of m = get_or m 3 0

-- the command block is the command's code and the "data bytes after the code", up to the checksum
abbrev pub code_of : List ℕ → ℕ
code_of m = get_or m 4 0

abbrev pub data_of : List ℕ → List ℕ
data_of m = part 5 (length m - 6) m

-- "First byte not 02h, destination not 01h, or source outside 41h to 7Fh: 4."
unfoldable pub is_foreign : List ℕ → Bool
is_foreign m = not (eqb (get_or m 0 0) 2) || not (eqb (destination_of m) 1) || ltb (source_of m) 0x41 || ltb 0x7f (source_of m)

-- "Byte count not equal to length less 3"
abbrev pub count_wrong : List ℕ → Bool
count_wrong m = not (eqb (count_of m + 3) (length m))

-- "The sum from the byte count to the checksum, both included, is not 0 modulo 256"
abbrev pub sum_wrong : List ℕ → Bool
sum_wrong m = not (sums_to_zero (drop 1 m))

-- Document 02, §8: "RS-232C byte count, RS-232C checksum [..]; in that order within each form". The checksum is the last byte.
unfoldable pub envelope_of : List ℕ → Result (Unit {0}) Part
envelope_of m =
    cond (count_wrong m) (Err Count)
    (cond (sum_wrong m) (Err (Checksum (length m - 1)))
    (Ok tt))

-- ---- the commands, each by its data bytes

abbrev pub first : List ℕ → ℕ
first bytes = get_or bytes 0 0

abbrev pub second : List ℕ → ℕ
second bytes = get_or bytes 1 0

-- an order where its data bytes are good
abbrev pub if_good : Bool → Order → Option Order
if_good good o = cond good (Some o) None

-- "21h, two bytes."
unfoldable pub config_command : List ℕ → Option Order
config_command bytes = if_good (eqb (length bytes) 2 && config_good (first bytes) (second bytes)) (Config (first bytes) (second bytes))

-- "22h, one byte."
unfoldable pub select_command : List ℕ → Option Order
select_command bytes = if_good (eqb (length bytes) 1 && select_good (first bytes)) (Select (first bytes))

-- 40h, a mask and values: "Data bytes: 1 + twice the number of ones in bits 0 to 5."
unfoldable pub levels_command : List ℕ → Option Order
levels_command bytes = if_good (eqb (length bytes) (1 + 2 * ones (first bytes % 64))) (Levels (first bytes))

-- "61h, one byte: 1 gains, 2 biases, else 6"
abbrev pub byte_of : Which → ℕ
byte_of Gains = 1
byte_of Biases = 2

unfoldable pub sense_command : List ℕ → Option Order
sense_command bytes =
    cond (eqb (length bytes) 1 && eqb (first bytes) (byte_of Gains)) (Some (Sense Gains))
    (cond (eqb (length bytes) 1 && eqb (first bytes) (byte_of Biases)) (Some (Sense Biases))
    None)

-- "6Eh, none."
unfoldable pub remote_command : List ℕ → Option Order
remote_command bytes = if_good (eqb (length bytes) 0) Remote

-- "Commands (data bytes after the code); any other code or number of data bytes: 6.": where there is no order
unfoldable pub command_of : ℕ → List ℕ → Option Order
command_of code bytes =
    cond (eqb code 0x21) (config_command bytes)
    (cond (eqb code 0x22) (select_command bytes)
    (cond (eqb code 0x40) (levels_command bytes)
    (cond (eqb code 0x61) (sense_command bytes)
    (cond (eqb code 0x6e) (remote_command bytes)
    None))))

-- ---- what a message asks

-- the order of a command block, and else 6
abbrev pub ordered : Option Order → Result Order Answer
ordered (Some o) = Ok o
ordered None = Err NotUnderstood

-- "at the old place of 5": what lies in a good envelope is heard, and of any other the part that is wrong
abbrev pub unless_wrong : Result (Unit {0}) Part → Option Order → Result Order Answer
unless_wrong (Err p) o = Err (PartWrong p)
unless_wrong (Ok u) o = ordered o

unfoldable pub order_of : List ℕ → Result Order Answer
order_of m = unless_wrong (envelope_of m) (command_of (code_of m) (data_of m))

-- 3 and 4 without a source; behind them what is asked, or 6, 13 or 14, goes back to the source
abbrev pub Heard : Type 0
Heard = Result Asked Answer

abbrev pub from_source : ℕ → Result Order Answer → Heard
from_source s o = Ok (record { source = s; order = o })

abbrev pub understood : ℕ → Order → Heard
understood s o = from_source s (Ok o)

abbrev pub not_understood : ℕ → Heard
not_understood s = from_source s (Err NotUnderstood)

abbrev pub broken : ℕ → Part → Heard
broken s p = from_source s (Err (PartWrong p))

-- "Under 6 bytes: 3", then 4, then its envelope, then its command
unfoldable pub heard_of : List ℕ → Heard
heard_of m =
    cond (ltb (length m) 6) (Err WrongLength)
    (cond (is_foreign m) (Err NotForUs)
    (from_source (source_of m) (order_of m)))

-- ---- the values of a 40h: "two bytes each, low first", behind the mask; a byte that is left over is no value
abbrev pub values_in : List ℕ → List ℕ
values_in [] = []
values_in (l ∷ []) = []
values_in (l ∷ h ∷ bs) = (l + 256 * h) ∷ values_in bs

abbrev pub values_of : List ℕ → List ℕ
values_of m = values_in (drop 1 (data_of m))
