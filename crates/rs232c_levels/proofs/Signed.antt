-- A bias fits 16 bits: it is between -1024 and 1023.
use Prim.Native.Nat.{ℕ, ◌-◌, ◌%◌}
use native.Mathlib.Omega.{arith}
use mathlib.Core.Bool.{Bool, true, false, cond}
use lib.Dec.{ltb}
use lib.IntN.{pos, negsuc}
use mir.Syntax.{w16}
use mir.Val.{SFits}
use Rattle.rs232c_levels.specs.Levels.{bias_of}

pub bias_fits : (v : ℕ) → SFits w16 (bias_of v)
bias_fits v = go (ltb (v % 2048) 1024)
  where
    go : (b : Bool) → SFits w16 (cond b (pos (v % 2048)) (negsuc (2047 - v % 2048)))
    go true = record { sfits = omega arith }
    go false = record { sfits = omega arith }
