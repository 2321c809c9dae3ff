-- What is refused is not done: a packet is refused with 3 or with 4, and by UDP also with 8.
use mathlib.Core.Path.{◌≡◌, refl, subst}
use mathlib.Core.Bool.{Bool, true, false}
use mathlib.Core.List.{List}
use Prim.Native.Nat.{ℕ}
use lib.Dec.{eqb}
use Rattle.std.specs.Prelude.{Option, Some, None, Ok, Err}
use Rattle.terms.specs.Answers.{number_of}
use Rattle.terms.specs.declared.Answer.{Answer}
use Rattle.vmc_asks.specs.Asks.{read_data, asks_status}
use Rattle.vmc_asks.specs.declared.Order.{Order}
use Rattle.sdcp_asks.specs.Asks.{data_of, in_words, heard_of, unless_status, cast_of, Heard}
use Rattle.sdcp_asks.specs.declared.Fault.TheVariants.{Refused, Broken, NotUnderstood}
use Rattle.sdcp_asks.proofs.Envelopes.{by_rungs}

abbrev Refusing : Heard → Type 0
Refusing (Err (Refused a)) = eqb (number_of a) 0 ≡ false
Refusing (Err (Broken p)) = Unit {0}
Refusing (Err NotUnderstood) = Unit {0}
Refusing (Ok o) = Unit {0}

words : (x : Option Order) → Refusing (in_words x)
words (Some o) = tt
words None = tt

refusing : (m : List ℕ) → Refusing (heard_of m)
refusing m = by_rungs Refusing m refl refl (λ h p w. tt) (λ h. words (read_data (data_of m)))

pub refused_undone : (m : List ℕ) (a : Answer) → heard_of m ≡ Err (Refused a) → eqb (number_of a) 0 ≡ false
refused_undone m a e = subst Refusing e (refusing m)

unless_refusing : (asked : Bool) (h : Heard) → Refusing h → Refusing (unless_status asked h)
unless_refusing asked (Err (Refused a)) r = r
unless_refusing asked (Err (Broken p)) r = tt
unless_refusing true (Err NotUnderstood) r = refl
unless_refusing false (Err NotUnderstood) r = tt
unless_refusing true (Ok o) r = refl
unless_refusing false (Ok o) r = tt

pub cast_undone : (m : List ℕ) (a : Answer) → cast_of m ≡ Err (Refused a) → eqb (number_of a) 0 ≡ false
unfolding cast_of
cast_undone m a e = subst Refusing e (unless_refusing (asks_status (data_of m)) (heard_of m) (refusing m))
