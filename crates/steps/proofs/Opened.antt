-- What a short run computes with: a proof that unfolds `opened` unfolds all that is named here, and closes by computation.
use Prim.Native.Nat.{ℕ}
use mathlib.Core.List.{List}
use lib.Count.{ones, ones_in}
use Rattle.laws.specs.Numbers.{number, in_bytes}
use Rattle.sums.specs.Sums.{sum_of}
use Rattle.decimals.specs.Decimals.{is_digit, decimal, leads_zero, is_numeral, up_to, in_digits, numeral}
use Rattle.turns.specs.Turns.{Turn, taken}
use Rattle.panels.specs.Valid.{ok_shift, ok_gain, ok_bias, ok_inputs, ok_balance, ok_w, ok_input, ok_k, ok_ids, zero_ids, ok_family, ok_panel, share, distinct, valid}
use Rattle.panels.specs.declared.WRecord.{WRecord}
use Rattle.panels.specs.declared.KRecord.{KRecord}
use Rattle.panels.specs.declared.DisplayBox.{DisplayBox}
use Rattle.configure.specs.Configure.{asked_at, asked, configured}
use Rattle.setting_words.specs.Names.{named_by, led_by, chosen_by}
use Rattle.trimming.specs.Trimming.{unterminated, unspaced, trimmed}
use Rattle.vmc.specs.Orders as words
use Rattle.vmc_asks.specs.Asks as wordAsks
use Rattle.vmc_tells.specs.Texts.{text_of, set_words, value_words}
use Rattle.rs232c_asks.specs.Asks as serialAsks
use Rattle.rs232c.specs.Orders as serialOrders
use Rattle.rs232c_levels.specs.Levels as serialLevels
use Rattle.rs232c.specs.Replies as serial
use Rattle.rs232c_tells.specs.Texts as serialTexts
use Rattle.kjw_asks.specs.Asks as frameAsks
use Rattle.kjw_sets.specs.Sets as frameSets
use Rattle.kjw_asks.specs.Frames as frameForms
use Rattle.kjw_sets.specs.Words as frameFormsWords
use Rattle.kjw_tells.specs.Texts as frameTexts
use Rattle.kjw_values.specs.Values as frameTextsValues
use Rattle.kjw.specs.Replies as frames
use Rattle.kjw.specs.Orders as frameOrders
use Rattle.sdcp_asks.specs.Asks as packetAsks
use Rattle.sdcp.specs.Replies as packets
use Rattle.steps.specs.Messages.{Message, Name, name_of, names}
use Rattle.steps.specs.Addressing.{has_ids, is_pair, pair_number, by_tcp, target, is_called, addressed}
use Rattle.steps.specs.Step.{to_nobody, door, turn, Outcome, step}

-- a configured box, and what its panels are called by
unfoldable opened_names : List ℕ → List Name
unfolding configured asked asked_at valid ok_panel ok_family ok_ids zero_ids ok_w ok_k ok_input ok_inputs ok_balance ok_gain ok_bias ok_shift share distinct name_of names
opened_names c = names (configured c).made

-- RS-232C
unfoldable opened_serial : List ℕ → WRecord → Turn WRecord
unfolding sum_of ones ones_in serialAsks.is_foreign serialAsks.order_of serialAsks.envelope_of serialAsks.levels_command serialAsks.remote_command serialAsks.command_of serialAsks.heard_of serialLevels.decode serialLevels.balanced_by serialOrders.carried serialTexts.frame_of serialTexts.bytes_of serialTexts.reply_to serial.turned
opened_serial m w = serial.turn_of m w

-- KJW
unfoldable opened_frames : List ℕ → KRecord → Turn KRecord
unfolding frameForms.frame_of frameForms.letters_of frameFormsWords.state_letters frameTextsValues.switch_word frameTextsValues.value_of frameTexts.bytes_of frameSets.chosen_from frameSets.is_padded frameSets.is_volume frameSets.volume_order frameSets.input_of frameSets.input_order frameSets.set_by frameSets.set_of frameAsks.state_named frameAsks.named_in frameAsks.control_of frameAsks.enquiry_of frameAsks.is_ours frameAsks.heard_of frameOrders.carried frames.noticed frames.reply_of frames.decided frames.turn_of
opened_frames m k = frames.turn_of m k

-- SDCP and VMC
unfoldable opened_packets : List ℕ → WRecord → Turn WRecord
unfolding number in_bytes is_digit decimal leads_zero is_numeral up_to in_digits numeral named_by led_by chosen_by unterminated unspaced trimmed wordAsks.is_question wordAsks.asks_status wordAsks.read_data wordAsks.read_words wordAsks.read_set wordAsks.read_get wordAsks.value_order wordAsks.shift_order words.carried words.says_of text_of set_words value_words packetAsks.is_ours packetAsks.envelope_of packetAsks.heard_of packetAsks.cast_of packets.packet_of packets.bytes_of packets.turned
opened_packets m w = packets.turn_of m w

-- the step
unfoldable pub opened : DisplayBox → Message → Outcome
unfolding opened_names opened_serial opened_frames opened_packets has_ids is_pair pair_number by_tcp target is_called addressed to_nobody taken door turn step
opened b m = step b m
