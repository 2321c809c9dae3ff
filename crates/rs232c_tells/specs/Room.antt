-- For the contracts of the code alone, no sentence of the document: a reply goes back whole or not at all, so an area with no room for the longest, 71h in 13 bytes, is left as it is.
use Rattle.std.specs.Prelude.{ℕ, cond, List, [], ltb}

unfoldable pub fitting : ℕ → List ℕ → List ℕ
fitting room reply = cond (ltb room 13) [] reply
