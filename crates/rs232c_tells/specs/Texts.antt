-- Document 01, "RS-232C (002, 004)": what is sent back, and its bytes.
use Rattle.std.specs.Prelude.{ℕ, ◌+◌, ◌-◌, ◌/◌, ◌%◌, List, [], ◌∷◌, ◌++◌, length, get_or, ℤ, pos, negsuc}
use Rattle.sums.specs.Sums.{sum_of}
use Rattle.settings.specs.Table.{remote}
use Rattle.panels.specs.declared.Balance.{Balance}
use Rattle.panels.specs.declared.WRecord.{WRecord}
use Rattle.rs232c_asks.specs.Asks.{byte_of}
use Rattle.rs232c_asks.specs.declared.Which.{Which}
use Rattle.rs232c_asks.specs.declared.Which.TheVariants.{Gains, Biases}
use Rattle.rs232c_asks.specs.declared.Order.{Order}
use Rattle.rs232c_asks.specs.declared.Order.TheVariants.{Config, Select, Levels, Sense, Remote}
use Rattle.rs232c_tells.specs.declared.Reply.{Reply}
use Rattle.rs232c_tells.specs.declared.Reply.TheVariants.{Ack, Nak, State, Balances}

-- "The reply goes to the request's source, from 01h", with a right checksum
abbrev pub body_of : ℕ → List ℕ → List ℕ
body_of to block = (2 + length block) ∷ to ∷ 1 ∷ block

abbrev pub closing : List ℕ → ℕ
closing body = (256 - sum_of body % 256) % 256

unfoldable pub frame_of : ℕ → List ℕ → List ℕ
frame_of to block = 2 ∷ (body_of to block ++ (closing (body_of to block) ∷ []))

-- "low byte first"
abbrev pub low_first : ℕ → List ℕ
low_first v = (v % 256) ∷ (v / 256) ∷ []

abbrev pub balances_block : Which → List ℕ → List ℕ
balances_block which v = 0x71 ∷ byte_of which ∷ (low_first (get_or v 0 0) ++ low_first (get_or v 1 0) ++ low_first (get_or v 2 0))

-- ACK 04h; NAK 05h; "Reply 7Eh with 1 where REMOTE is ON, else 0"; "Reply 71h, that byte, then R, G, B, low byte first"
unfoldable pub bytes_of : Reply → List ℕ
bytes_of (Ack to) = frame_of to (4 ∷ [])
bytes_of (Nak to) = frame_of to (5 ∷ [])
bytes_of (State to remote) = frame_of to (0x7e ∷ remote ∷ [])
bytes_of (Balances to which v) = frame_of to (balances_block which v)

-- the eleven bits of a bias, and the twelve of a gain: "unused upper bits are 0"
unfoldable pub bias_bits : ℤ → ℕ
bias_bits (pos n) = n % 2048
bias_bits (negsuc n) = 2047 - n % 2048

abbrev pub gain_bits : ℕ → ℕ
gain_bits x = x % 4096

-- R, G, B, each by its bits
abbrev pub three_by : {A : Type 0} → (A → ℕ) → List A → A → List ℕ
three_by f l d = f (get_or l 0 d) ∷ f (get_or l 1 d) ∷ f (get_or l 2 d) ∷ []

unfoldable pub sensed : Which → Balance → List ℕ
sensed Gains x = three_by gain_bits x.gains 0
sensed Biases x = three_by bias_bits x.biases (pos 0)

abbrev pub remote_of : WRecord → ℕ
remote_of w = get_or w.settings remote 0

-- "21h, 22h and 40h are answered ACK 04h."
unfoldable pub reply_to : ℕ → Order → WRecord → Reply
reply_to source (Config marks byte) w = Ack source
reply_to source (Select byte) w = Ack source
reply_to source (Levels mask) w = Ack source
reply_to source (Sense which) w = Balances source which (sensed which w.balance)
reply_to source Remote w = State source (remote_of w)
