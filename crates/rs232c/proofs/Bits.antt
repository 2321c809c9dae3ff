-- "Undefined bits are ignored.": what is read of a byte is read of its defined bits, by division, so a command asks, does and answers the same whatever the other bits say.
use mathlib.Core.Path.{◌≡◌, refl, ap}
use mathlib.Core.Bool.{Bool, true, false}
use mathlib.Core.List.{List, [], ◌∷◌}
use Prim.Native.Nat.{ℕ, ◌+◌, ◌*◌, ◌/◌, ◌%◌}
use lib.Count.{ones}
use lib.Dec.{eqb}
use lib.ListN.{length}
use native.Mathlib.Omega.{arith}
use Rattle.panels.specs.declared.WRecord.{WRecord}
use Rattle.rs232c_asks.specs.Asks.{if_good, ordered, config_command, select_command, levels_command}
use Rattle.rs232c_asks.specs.Commands.{connector_good, preset_good, config_good, select_good}
use Rattle.rs232c_levels.specs.Levels.{decode, balanced_by}
use Rattle.rs232c_inputs.specs.Inputs.{used_after, preset_after, on_after}
use Rattle.rs232c_tells.specs.Texts.{reply_to}
use Rattle.rs232c.specs.Orders.{carried}
use Rattle.rs232c.specs.Replies.{replied}
use Rattle.rs232c_asks.specs.declared.Order.{Order}
use Rattle.rs232c_asks.specs.declared.Order.TheVariants.{Config, Select, Levels}

-- two orders that do the same and are answered the same: so are the commands that they are, where they are good alike
same_turn : (good : Bool) (s : ℕ) (o o' : Order) (vs : List ℕ) (w : WRecord) → carried o vs w ≡ carried o' vs w → reply_to s o w ≡ reply_to s o' w → replied s (ordered (if_good good o)) vs w ≡ replied s (ordered (if_good good o')) vs w
same_turn true s o o' vs w p q = rw (p, q)
same_turn false s o o' vs w p q = refl

-- 21h: of the first byte bits 0 and 1, of the second bits 0 to 6
module _ (marks byte : ℕ) where
  connector_mark : marks % 4 % 2 ≡ marks % 2
  connector_mark = omega arith

  preset_mark : marks % 4 / 2 % 2 ≡ marks / 2 % 2
  preset_mark = omega arith

  connector_bits : byte % 128 % 16 ≡ byte % 16
  connector_bits = omega arith

  preset_bits : byte % 128 / 16 % 8 ≡ byte / 16 % 8
  preset_bits = omega arith

  config_asked_by_bits : config_good (marks % 4) (byte % 128) ≡ config_good marks byte
  unfolding config_good connector_good preset_good
  config_asked_by_bits = rw (connector_mark, preset_mark, connector_bits, preset_bits)

  config_done_by_bits : (vs : List ℕ) (w : WRecord) → carried (Config (marks % 4) (byte % 128)) vs w ≡ carried (Config marks byte) vs w
  unfolding carried used_after preset_after
  config_done_by_bits vs w = rw (connector_mark, preset_mark, connector_bits, preset_bits)

  pub config_undefined : (s : ℕ) (vs : List ℕ) (w : WRecord) → replied s (ordered (config_command (marks % 4 ∷ byte % 128 ∷ []))) vs w ≡ replied s (ordered (config_command (marks ∷ byte ∷ []))) vs w
  unfolding config_command reply_to
  config_undefined s vs w = rw config_asked_by_bits (same_turn (config_good marks byte) s (Config (marks % 4) (byte % 128)) (Config marks byte) vs w (config_done_by_bits vs w) refl)

-- 22h: bits 0 to 5
module _ (byte : ℕ) where
  selected_bits : byte % 64 % 16 ≡ byte % 16
  selected_bits = omega arith

  act_bits : byte % 64 / 16 % 4 ≡ byte / 16 % 4
  act_bits = omega arith

  select_asked_by_bits : select_good (byte % 64) ≡ select_good byte
  unfolding select_good
  select_asked_by_bits = rw (selected_bits, act_bits)

  select_done_by_bits : (vs : List ℕ) (w : WRecord) → carried (Select (byte % 64)) vs w ≡ carried (Select byte) vs w
  unfolding carried on_after
  select_done_by_bits vs w = rw (selected_bits, act_bits)

  pub select_undefined : (s : ℕ) (vs : List ℕ) (w : WRecord) → replied s (ordered (select_command (byte % 64 ∷ []))) vs w ≡ replied s (ordered (select_command (byte ∷ []))) vs w
  unfolding select_command reply_to
  select_undefined s vs w = rw select_asked_by_bits (same_turn (select_good byte) s (Select (byte % 64)) (Select byte) vs w (select_done_by_bits vs w) refl)

-- 40h: bits 0 to 5
module _ (mask : ℕ) where
  bit_0 : mask % 64 % 2 ≡ mask % 2
  bit_0 = omega arith

  bit_1 : mask % 64 / 2 % 2 ≡ mask / 2 % 2
  bit_1 = omega arith

  bit_2 : mask % 64 / 2 / 2 % 2 ≡ mask / 2 / 2 % 2
  bit_2 = omega arith

  bit_3 : mask % 64 / 2 / 2 / 2 % 2 ≡ mask / 2 / 2 / 2 % 2
  bit_3 = omega arith

  bit_4 : mask % 64 / 2 / 2 / 2 / 2 % 2 ≡ mask / 2 / 2 / 2 / 2 % 2
  bit_4 = omega arith

  bit_5 : mask % 64 / 2 / 2 / 2 / 2 / 2 % 2 ≡ mask / 2 / 2 / 2 / 2 / 2 % 2
  bit_5 = omega arith

  -- the values that are to follow
  levels_count_by_bits : ones (mask % 64 % 64) ≡ ones (mask % 64)
  levels_count_by_bits = ap ones (omega arith)

  decoded : (vs : List ℕ) → decode 6 (mask % 64) vs ≡ decode 6 mask vs
  unfolding decode
  decoded vs = rw (bit_0, bit_1, bit_2, bit_3, bit_4, bit_5)

  levels_done_by_bits : (vs : List ℕ) (w : WRecord) → carried (Levels (mask % 64)) vs w ≡ carried (Levels mask) vs w
  unfolding carried balanced_by
  levels_done_by_bits vs w = rw (decoded vs)

  pub levels_undefined : (s : ℕ) (bytes vs : List ℕ) (w : WRecord) → replied s (ordered (levels_command (mask % 64 ∷ bytes))) vs w ≡ replied s (ordered (levels_command (mask ∷ bytes))) vs w
  unfolding levels_command reply_to
  levels_undefined s bytes vs w = rw levels_count_by_bits (same_turn (eqb (length (mask ∷ bytes)) (1 + 2 * ones (mask % 64))) s (Levels (mask % 64)) (Levels mask) vs w (levels_done_by_bits vs w) refl)
