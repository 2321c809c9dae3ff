-- A bias held in sixteen bits is the number itself.
use mathlib.Core.List.{List}
use Prim.Native.Nat.{ℕ}
use lib.IntN.{ℤ}
use mir.Syntax.{w16}
use mir.Val.{to_z, of_z, SFits}
use mir.Facts.{to_z-of_z}
use Rattle.script_text.specs.Puts.{Puts}
use Rattle.script_balance.specs.Balance.{bias_text}

-- a bias is what its bits say, since it fits
pub held_bias : (word : List ℕ) {d e : List ℕ} {z : ℤ} {n r : ℕ} → SFits w16 z → Puts (bias_text word (to_z w16 (of_z w16 z))) d n e r → Puts (bias_text word z) d n e r
held_bias word f p = rw (to_z-of_z f) at p
