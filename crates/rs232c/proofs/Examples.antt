-- The bench's RS-232C frames, and each command once, by computation.
use Prim.Native.Nat.{ℕ}
use mathlib.Core.Path.{◌≡◌, refl}
use mathlib.Core.List.{List, [], ◌∷◌}
use lib.Count.{ones, ones_in}
use lib.IntN.{pos, negsuc}
use lib.ListN.{set}
use Rattle.sums.specs.Sums.{sum_of}
use Rattle.terms.specs.declared.Answer.TheVariants.{PartWrong, NotUnderstood, AreaTooSmall}
use Rattle.terms.specs.declared.Part.TheVariants.{Count, Checksum}
use Rattle.turns.specs.Turns.{taken}
use Rattle.panels.specs.Records.{start_w}
use Rattle.rs232c_asks.specs.Asks.{is_foreign, envelope_of, config_command, select_command, levels_command, sense_command, remote_command, command_of, order_of, heard_of}
use Rattle.rs232c_inputs.specs.Inputs.{place_of, used_after, preset_after, turned_off, on_after}
use Rattle.rs232c_levels.specs.Levels.{decode, balanced_by}
use Rattle.rs232c.specs.Orders.{carried}
use Rattle.rs232c_asks.specs.Commands.{connector_good, preset_good, config_good, select_good}
use Rattle.rs232c_tells.specs.Texts.{frame_of, bytes_of, bias_bits, sensed, reply_to}
use Rattle.rs232c.specs.Replies.{turned, turn_of}

-- * `02 03 01 41 6E 4D` at start: `02 04 41 01 7E 01 3B`
remote : (taken 512 (turn_of (0x02 ∷ 0x03 ∷ 0x01 ∷ 0x41 ∷ 0x6e ∷ 0x4d ∷ [])) start_w).reply ≡ 0x02 ∷ 0x04 ∷ 0x41 ∷ 0x01 ∷ 0x7e ∷ 0x01 ∷ 0x3b ∷ []
unfolding taken heard_of is_foreign order_of envelope_of sum_of command_of remote_command turned reply_to bytes_of frame_of
remote = refl

-- * `02 08 01 41 40 21 FF 0F 00 04 43`: R gain 4095, B bias -1024, `02 03 41 01 04 B7`
levels : List ℕ
levels = 0x02 ∷ 0x08 ∷ 0x01 ∷ 0x41 ∷ 0x40 ∷ 0x21 ∷ 0xff ∷ 0x0f ∷ 0x00 ∷ 0x04 ∷ 0x43 ∷ []

levels_reply : (taken 512 (turn_of levels) start_w).reply ≡ 0x02 ∷ 0x03 ∷ 0x41 ∷ 0x01 ∷ 0x04 ∷ 0xb7 ∷ []
unfolding levels taken heard_of is_foreign order_of envelope_of sum_of command_of levels_command ones ones_in turned reply_to bytes_of frame_of
levels_reply = refl

levels_after : (taken 512 (turn_of levels) start_w).after.balance ≡ record { gains = 4095 ∷ 2048 ∷ 2048 ∷ []; biases = pos 0 ∷ pos 0 ∷ negsuc 1023 ∷ [] }
unfolding levels taken heard_of is_foreign order_of envelope_of sum_of command_of levels_command ones ones_in turned carried balanced_by decode
levels_after = refl

-- * the first with last byte 4E: 5, `02 03 41 01 05 B6`; since document 02, §8, that 5 is 14, and the checksum stands at 5
spoiled : List ℕ
spoiled = 0x02 ∷ 0x03 ∷ 0x01 ∷ 0x41 ∷ 0x6e ∷ 0x4e ∷ []

spoiled_answer : (taken 512 (turn_of spoiled) start_w).answer ≡ PartWrong (Checksum 5)
unfolding spoiled taken heard_of is_foreign order_of envelope_of sum_of turned
spoiled_answer = refl

spoiled_reply : (taken 512 (turn_of spoiled) start_w).reply ≡ 0x02 ∷ 0x03 ∷ 0x41 ∷ 0x01 ∷ 0x05 ∷ 0xb6 ∷ []
unfolding spoiled taken heard_of is_foreign order_of envelope_of sum_of turned bytes_of frame_of
spoiled_reply = refl

-- its byte count wrong as well: that is told first
miscounted : (taken 512 (turn_of (0x02 ∷ 0x04 ∷ 0x01 ∷ 0x41 ∷ 0x6e ∷ 0x4e ∷ [])) start_w).answer ≡ PartWrong Count
unfolding taken heard_of is_foreign order_of envelope_of sum_of turned
miscounted = refl

-- the biases asked back: 61h 02h after the frame above: -1024 is 400h
sense_biases : (taken 512 (turn_of (0x02 ∷ 0x04 ∷ 0x01 ∷ 0x41 ∷ 0x61 ∷ 0x02 ∷ 0x57 ∷ [])) (taken 512 (turn_of levels) start_w).after).reply ≡ 0x02 ∷ 0x0a ∷ 0x41 ∷ 0x01 ∷ 0x71 ∷ 0x02 ∷ 0x00 ∷ 0x00 ∷ 0x00 ∷ 0x00 ∷ 0x00 ∷ 0x04 ∷ 0x3d ∷ []
unfolding levels taken heard_of is_foreign order_of envelope_of sum_of command_of levels_command sense_command ones ones_in turned carried balanced_by decode reply_to sensed bias_bits bytes_of frame_of
sense_biases = refl

-- 21h 03h 08h+preset 2: DVI and USER; with DVI turned OFF by 22h 18h first, DVI is ignored and USER still applied
config : List ℕ
config = 0x02 ∷ 0x05 ∷ 0x01 ∷ 0x41 ∷ 0x21 ∷ 0x03 ∷ 0x28 ∷ 0x6d ∷ []

config_after : (taken 512 (turn_of config) start_w).after.inputs ≡ record { used = 8; preset = 2; on = start_w.inputs.on }
unfolding config taken heard_of is_foreign order_of envelope_of sum_of command_of config_command config_good connector_good preset_good turned carried used_after preset_after place_of
config_after = refl

dvi_off : List ℕ
dvi_off = 0x02 ∷ 0x04 ∷ 0x01 ∷ 0x41 ∷ 0x22 ∷ 0x18 ∷ 0x80 ∷ []

config_ignored : (taken 512 (turn_of config) (taken 512 (turn_of dvi_off) start_w).after).after.inputs ≡ record { used = 0; preset = 2; on = set start_w.inputs.on 6 0 }
unfolding config dvi_off taken heard_of is_foreign order_of envelope_of sum_of command_of config_command config_good connector_good preset_good select_command select_good turned carried used_after preset_after place_of on_after turned_off
config_ignored = refl

-- a 40h frame with a data byte too few: 6, and nothing is applied
short : List ℕ
short = 0x02 ∷ 0x06 ∷ 0x01 ∷ 0x41 ∷ 0x40 ∷ 0x21 ∷ 0xff ∷ 0x0f ∷ 0x49 ∷ []

short_answer : (taken 512 (turn_of short) start_w).answer ≡ NotUnderstood
unfolding short taken heard_of is_foreign order_of envelope_of sum_of command_of levels_command ones ones_in turned
short_answer = refl

short_after : (taken 512 (turn_of short) start_w).after ≡ start_w
unfolding short taken heard_of is_foreign order_of envelope_of sum_of command_of levels_command ones ones_in turned
short_after = refl

-- an area of 511 bytes wins over everything
small : (taken 511 (turn_of []) start_w).answer ≡ AreaTooSmall
unfolding taken
small = refl
