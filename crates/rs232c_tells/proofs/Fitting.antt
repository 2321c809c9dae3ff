-- An area with room for the longest reply takes every reply whole.
use Prim.Native.Nat.{ℕ, ◌<◌, ◌≤◌}
use mathlib.Core.Path.{◌≡◌}
use mathlib.Core.List.{List, []}
use borrow.Author.Tests.{lt-ltb, le-ltb}
use Rattle.rs232c_tells.specs.Room.{fitting}

pub none_fits : (room : ℕ) (reply : List ℕ) → room < 13 → fitting room reply ≡ []
unfolding fitting
none_fits room reply h = rw (lt-ltb room 13 h)

pub all_fits : (room : ℕ) (reply : List ℕ) → 13 ≤ room → fitting room reply ≡ reply
unfolding fitting
all_fits room reply h = rw (le-ltb room 13 h)
