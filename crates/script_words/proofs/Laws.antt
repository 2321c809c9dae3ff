-- A word writes no more than it may: what a number read is at most.
use Prim.Native.Nat.{◌≤◌, ℕ}
use mathlib.Core.List.{List}
use native.Mathlib.Omega.{arith}
use Rattle.decimals.proofs.Numerals.{Most, up_to_most}
use Rattle.decimals.specs.Decimals.{up_to}
use Rattle.std.specs.Prelude.{Option, Some, None}
use Rattle.script_words.specs.Words.{number_at, value_of, word_at}

value_most : (most : ℕ) (n : Option ℕ) → Most most n → value_of n ≤ most
value_most most (Some v) h = h
value_most most None h = omega arith

pub word_most : (most : ℕ) (w : List ℕ) → value_of (up_to most w) ≤ most
word_most most w = value_most most (up_to most w) (up_to_most most w)

pub number_most : (most k : ℕ) (line : List ℕ) → number_at most k line ≤ most
unfolding number_at
number_most most k line = word_most most (word_at k line)
