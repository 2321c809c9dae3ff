-- What is known of a message by what was heard of it: each rung of the ladder that hears it leaves what it asked.
use mathlib.Core.Path.{◌≡◌, refl, ap, subst, ◌∙◌}
use mathlib.Core.Bool.{true, ◌&&◌}
use mathlib.Core.List.{List, [], ◌∷◌}
use Prim.Native.Nat.{ℕ, zero, suc, ◌+◌, ◌*◌, ◌%◌}
use native.Mathlib.Omega.{arith}
use lib.Count.{ones}
use lib.Dec.{eqb}
use lib.ListN.{length, drop, length-drop}
use borrow.Author.Tests.{eqb-true, eq-eqb}
use Rattle.std.specs.Prelude.{Option, Some, None, Result, Ok, Err}
use Rattle.laws.specs.Lists.{listed}
use Rattle.laws.proofs.Conditions.{and_first, and_second, choose}
use Rattle.terms.specs.declared.Answer.{Answer}
use Rattle.terms.specs.declared.Answer.TheVariants.{PartWrong}
use Rattle.terms.specs.declared.Part.{Part}
use Rattle.terms.specs.declared.Part.TheVariants.{Request, Item, TooLong, NotMatching, Count, Checksum}
use Rattle.terms.specs.Answers.{number_of}
use Rattle.rs232c_asks.specs.Asks.{code_of, data_of, first, second, byte_of, config_command, select_command, levels_command, sense_command, remote_command, command_of, Heard, understood, heard_of, values_in, values_of}
use Rattle.rs232c_asks.specs.Commands.{config_good, select_good}
use Rattle.rs232c_asks.specs.declared.Which.{Which}
use Rattle.rs232c_asks.specs.declared.Which.TheVariants.{Gains, Biases}
use Rattle.rs232c_asks.specs.declared.Order.{Order}
use Rattle.rs232c_asks.specs.declared.Order.TheVariants.{Config, Select, Levels, Sense, Remote}
use Rattle.rs232c_asks.proofs.Envelopes.{FirstWrong, first_wrong, by_rungs}

-- by the code and the data bytes: "any other code or number of data bytes: 6"
abbrev pub KnownBy : ℕ → List ℕ → Order → Type 0
KnownBy code bytes (Config marks byte) = (code ≡ 0x21) × (bytes ≡ marks ∷ byte ∷ []) × (config_good marks byte ≡ true)
KnownBy code bytes (Select byte) = (code ≡ 0x22) × (bytes ≡ byte ∷ []) × (select_good byte ≡ true)
KnownBy code bytes (Levels mask) = (code ≡ 0x40) × (length bytes ≡ 1 + 2 * ones (mask % 64))
KnownBy code bytes (Sense which) = (code ≡ 0x61) × (bytes ≡ byte_of which ∷ [])
KnownBy code bytes Remote = (code ≡ 0x6e) × (bytes ≡ [])

-- a refusal is 3 or 4, and what goes back to the source in place of an order 6, 13 or 14
abbrev pub KnownOrder : ℕ → List ℕ → Result Order Answer → Type 0
KnownOrder code bytes (Ok o) = KnownBy code bytes o
KnownOrder code bytes (Err a) = listed (6 ∷ 13 ∷ 14 ∷ []) (number_of a) ≡ true

abbrev pub Known : ℕ → List ℕ → Heard → Type 0
Known code bytes (Err a) = listed (3 ∷ 4 ∷ []) (number_of a) ≡ true
Known code bytes (Ok x) = KnownOrder code bytes x.order

-- one and two bytes are the first and the second
none_are : (l : List ℕ) → length l ≡ 0 → l ≡ []
none_are [] e = refl
none_are (x ∷ l) e = absurd (omega arith)

one_is : (l : List ℕ) → length l ≡ 1 → l ≡ first l ∷ []
one_is [] e = absurd (omega arith)
one_is (x ∷ l) e = ap (λ (r : List ℕ). x ∷ r) (none_are l (omega arith))

two_are : (l : List ℕ) → length l ≡ 2 → l ≡ first l ∷ second l ∷ []
two_are [] e = absurd (omega arith)
two_are (x ∷ l) e = ap (λ (r : List ℕ). x ∷ r) (one_is l (omega arith))

only_byte : (bytes : List ℕ) (x : ℕ) → (eqb (length bytes) 1 && eqb (first bytes) x) ≡ true → bytes ≡ x ∷ []
only_byte bytes x e =
    let n = eqb (length bytes) 1 in
    let f = eqb (first bytes) x in
    one_is bytes (eqb-true (length bytes) 1 (and_first n f e)) ∙ ap (λ (y : ℕ). y ∷ []) (eqb-true (first bytes) x (and_second n f e))

-- what holds of an order that a block is, and says nothing where it is none
abbrev If : (Order → Type 0) → Option Order → Type 0
If P (Some o) = P o
If P None = Unit {0}

module _ (P : Order → Type 0) (code : ℕ) (bytes : List ℕ) where
  -- each command, where it is one, is known by what its definition asks
  by_commands : (code ≡ 0x21 → (length bytes ≡ 2) → config_good (first bytes) (second bytes) ≡ true → P (Config (first bytes) (second bytes)))
      → (code ≡ 0x22 → (length bytes ≡ 1) → select_good (first bytes) ≡ true → P (Select (first bytes)))
      → (code ≡ 0x40 → (length bytes ≡ 1 + 2 * ones (first bytes % 64)) → P (Levels (first bytes)))
      → (code ≡ 0x61 → (which : Which) → bytes ≡ byte_of which ∷ [] → P (Sense which))
      → (code ≡ 0x6e → length bytes ≡ 0 → P Remote) → If P (command_of code bytes)
  unfolding command_of config_command select_command levels_command sense_command remote_command
  by_commands config select levels sense remote =
      let n = eqb (length bytes) in
      let g = config_good (first bytes) (second bytes) in
      let h = select_good (first bytes) in
      choose (If P) (eqb code 0x21) _ _ (λ c. choose (If P) (n 2 && g) _ _ (λ e. config (eqb-true code 0x21 c) (eqb-true (length bytes) 2 (and_first (n 2) g e)) (and_second (n 2) g e)) (λ e. tt))
      (λ c. choose (If P) (eqb code 0x22) _ _ (λ c. choose (If P) (n 1 && h) _ _ (λ e. select (eqb-true code 0x22 c) (eqb-true (length bytes) 1 (and_first (n 1) h e)) (and_second (n 1) h e)) (λ e. tt))
      (λ c. choose (If P) (eqb code 0x40) _ _ (λ c. choose (If P) (n (1 + 2 * ones (first bytes % 64))) _ _ (λ e. levels (eqb-true code 0x40 c) (eqb-true (length bytes) (1 + 2 * ones (first bytes % 64)) e)) (λ e. tt))
      (λ c. choose (If P) (eqb code 0x61) _ _
      (λ c. choose (If P) (n 1 && eqb (first bytes) 1) _ _ (λ e. sense (eqb-true code 0x61 c) Gains (only_byte bytes 1 e))
      (λ f. choose (If P) (n 1 && eqb (first bytes) 2) _ _ (λ e. sense (eqb-true code 0x61 c) Biases (only_byte bytes 2 e)) (λ e. tt)))
      (λ c. choose (If P) (eqb code 0x6e) _ _ (λ c. choose (If P) (n 0) _ _ (λ e. remote (eqb-true code 0x6e c) (eqb-true (length bytes) 0 e)) (λ e. tt)) (λ c. tt)))))

command_known : (code : ℕ) (bytes : List ℕ) → If (KnownBy code bytes) (command_of code bytes)
command_known code bytes =
    by_commands (KnownBy code bytes) code bytes (λ c n g. (c, two_are bytes n, g)) (λ c n g. (c, one_is bytes n, g)) (λ c n. (c, n)) (λ c w b. (c, b)) (λ c n. (c, none_are bytes n))

-- a frame has a byte count and a checksum alone
part_listed : (m : List ℕ) (p : Part) → FirstWrong m p → listed (6 ∷ 13 ∷ 14 ∷ []) (number_of (PartWrong p)) ≡ true
part_listed m Count w = refl
part_listed m (Checksum place) w = refl
part_listed m Request w = absurd w
part_listed m Item w = absurd w
part_listed m TooLong w = absurd w
part_listed m NotMatching w = absurd w

pub heard_known : (m : List ℕ) → Known (code_of m) (data_of m) (heard_of m)
heard_known m =
    by_rungs (Known (code_of m) (data_of m)) m refl refl (λ p w. part_listed m p (first_wrong m p w)) (λ n. refl)
    (λ o e. subst (If (KnownBy (code_of m) (data_of m))) e (command_known (code_of m) (data_of m)))

-- the same of a message that was understood
pub understood_known : (m : List ℕ) (s : ℕ) (o : Order) → heard_of m ≡ understood s o → KnownBy (code_of m) (data_of m) o
understood_known m s o e = subst (Known (code_of m) (data_of m)) e (heard_known m)

-- two bytes make a value
pairs_counted : (l : List ℕ) (n : ℕ) → length l ≡ 2 * n → length (values_in l) ≡ n
pairs_counted [] n e = omega arith
pairs_counted (x ∷ []) n e = absurd (omega arith)
pairs_counted (x ∷ y ∷ l) zero e = absurd (omega arith)
pairs_counted (x ∷ y ∷ l) (suc n) e = ap suc (pairs_counted l n (omega arith))

-- a 40h that is understood has a value for each one in bits 0 to 5 of its mask
pub values_counted : (m : List ℕ) (s mask : ℕ) → heard_of m ≡ understood s (Levels mask) → length (values_of m) ≡ ones (mask % 64)
values_counted m s mask e =
    let n = (understood_known m s (Levels mask) e).1 in
    pairs_counted (drop 1 (data_of m)) (ones (mask % 64)) (simp length-drop (omega (arith, n)))

-- and of a 40h its mask is the first data byte
abbrev pub MarkedBy : List ℕ → Order → Type 0
MarkedBy bytes (Config marks byte) = Unit {0}
MarkedBy bytes (Select byte) = Unit {0}
MarkedBy bytes (Levels mask) = first bytes ≡ mask
MarkedBy bytes (Sense which) = Unit {0}
MarkedBy bytes Remote = Unit {0}

abbrev pub MarkedOrder : List ℕ → Result Order Answer → Type 0
MarkedOrder bytes (Ok o) = MarkedBy bytes o
MarkedOrder bytes (Err a) = Unit {0}

abbrev pub Marked : List ℕ → Heard → Type 0
Marked bytes (Err a) = Unit {0}
Marked bytes (Ok x) = MarkedOrder bytes x.order

command_marked : (code : ℕ) (bytes : List ℕ) → If (MarkedBy bytes) (command_of code bytes)
command_marked code bytes = by_commands (MarkedBy bytes) code bytes (λ c n g. tt) (λ c n g. tt) (λ c n. refl) (λ c w b. tt) (λ c n. tt)

pub heard_marked : (m : List ℕ) → Marked (data_of m) (heard_of m)
heard_marked m = by_rungs (Marked (data_of m)) m tt tt (λ p w. tt) (λ n. tt) (λ o e. subst (If (MarkedBy (data_of m))) e (command_marked (code_of m) (data_of m)))

-- and the other way: of a command this is said of one order alone
pub known_is : (code : ℕ) (bytes : List ℕ) (o : Order) → KnownBy code bytes o → MarkedBy bytes o → command_of code bytes ≡ Some o
unfolding command_of config_command select_command levels_command sense_command remote_command
known_is code bytes (Config marks byte) k f = rw (k.0, k.1, k.2)
known_is code bytes (Select byte) k f = rw (k.0, k.1, k.2)
known_is code bytes (Levels mask) k f = rw (k.0, f, eq-eqb (length bytes) (1 + 2 * ones (mask % 64)) k.1)
known_is code bytes (Sense Gains) k f = rw (k.0, k.1)
known_is code bytes (Sense Biases) k f = rw (k.0, k.1)
known_is code bytes Remote k f = rw (k.0, k.1)
