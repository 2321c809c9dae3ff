-- What the parameters are that pass: by the sides of an `&&` that says yes, and word by word.
use mathlib.Core.Path.{◌≡◌, sym}
use mathlib.Core.Bool.{true, ◌&&◌}
use mathlib.Core.List.{List}
use Prim.Native.Nat.{ℕ, zero, suc, ◌+◌, ◌≤◌, ◌<◌}
use native.Mathlib.Omega.{arith}
use lib.ListN.{length}
use lib.Dec.{leb}
use borrow.Author.Tests.{leb-true, eq-eqb}
use Rattle.laws.specs.Bytes.{ascii, part, same}
use Rattle.laws.specs.Lists.{every, places}
use Rattle.laws.proofs.Conditions.{and_first, and_second, choose}
use Rattle.laws.proofs.Lists.{same_is, part_length}
use Rattle.panels.specs.Records.{most_volume}
use Rattle.decimals.specs.Decimals.{is_digit, decimal}
use Rattle.decimals.proofs.Decimals.{decimal_fits}
use Rattle.std.specs.Prelude.{Option, Some, None}
use Rattle.kjw_sets.specs.Sets.{chosen_from, is_volume, is_padded, kind_in, port_in, set_by, set_of}
use Rattle.kjw_sets.specs.declared.State.{State}

-- parameters that are the word of a number below so much, or no word
abbrev pub Chose : (ℕ → List ℕ) → ℕ → List ℕ → Option ℕ → Type 0
Chose word below p (Some v) = (v < below) × (word v ≡ p)
Chose word below p None = Unit {0}

-- what is chosen among the words of n numbers is one of these numbers, and its word is what was read
pub chosen_word : (word : ℕ → List ℕ) (below n i : ℕ) (p : List ℕ) → i + n ≤ below → Chose word below p (chosen_from i (places n i word) p)
unfolding chosen_from
chosen_word word below zero i p h = tt
chosen_word word below (suc n) i p h =
    choose (Chose word below p) (same p (word i)) (Some i) (chosen_from (i + 1) (places n (i + 1) word) p)
    (λ e. (omega arith, sym (same_is p (word i) e)))
    (λ e. chosen_word word below n (i + 1) p (omega arith))

pub volume_digits : (p : List ℕ) → is_volume p ≡ true → every is_digit p ≡ true
unfolding is_volume
volume_digits p e = and_first (every is_digit p) (leb (decimal p) most_volume) e

pub volume_most : (p : List ℕ) → is_volume p ≡ true → decimal p ≤ most_volume
unfolding is_volume
volume_most p e = leb-true (decimal p) most_volume (and_second (every is_digit p) (leb (decimal p) most_volume) e)

-- what INPT's parameters are
pub record Inputs (p : List ℕ) : Type 0 where
  pub front : part 0 7 p ≡ ascii "0000000"
  pub middle : part 8 4 p ≡ ascii "0000"
  pub kind : every is_digit (kind_in p) ≡ true
  pub port : every is_digit (port_in p) ≡ true

pub input_is : (p : List ℕ) → (is_padded p && every is_digit (kind_in p) && every is_digit (port_in p)) ≡ true → Inputs p
unfolding is_padded
input_is p e =
    let f = same (part 0 7 p) (ascii "0000000") in
    let m = same (part 8 4 p) (ascii "0000") in
    let k = every is_digit (kind_in p) in
    let n = every is_digit (port_in p) in
    let e₁ = and_first (f && m && k) n e in
    let e₂ = and_first (f && m) k e₁ in record {
      front = same_is (part 0 7 p) (ascii "0000000") (and_first f m e₂);
      middle = same_is (part 8 4 p) (ascii "0000") (and_second f m e₂);
      kind = and_second (f && m) k e₁;
      port = and_second (f && m && k) n e;
    }

-- a digit is at most 9, and four digits at most 9999
pub kind_most : (p : List ℕ) → length p ≡ 16 → every is_digit (kind_in p) ≡ true → decimal (kind_in p) ≤ 9
kind_most p h d =
    let l : length (kind_in p) ≡ 1 = part_length 7 1 p (omega arith) in
    let f = decimal_fits (kind_in p) d in
    let g : decimal (kind_in p) < 10 = rw l at f in
    omega arith

pub port_most : (p : List ℕ) → length p ≡ 16 → every is_digit (port_in p) ≡ true → decimal (port_in p) ≤ 9999
port_most p h d =
    let l : length (port_in p) ≡ 4 = part_length 12 4 p (omega arith) in
    let f = decimal_fits (port_in p) d in
    let g : decimal (port_in p) < 10000 = rw l at f in
    omega arith

pub ruleset input_most = (kind_most, port_most)

-- there are sixteen of them in a frame
pub sixteen : (s : State) (p : List ℕ) → length p ≡ 16 → set_of s p ≡ set_by s p
unfolding set_of
sixteen s p h = rw (eq-eqb (length p) 16 h)
