-- What is heard of a packet is its first fault, or where it has none what its words say: the ladder of both is the same, and a fault that comes
-- before the words is no question's.
use Prim.Native.Nat.{ℕ, ◌-◌, ◌≤◌}
use mathlib.Core.Path.{◌≡◌, refl, sym, ap, subst, ◌∙◌}
use mathlib.Core.Bool.{Bool, true, false, not, cond}
use mathlib.Core.List.{List}
use lib.Dec.{ltb}
use lib.ListN.{length, take, drop}
use borrow.Author.Tests.{ltb-false}
use Rattle.std.specs.Prelude.{Result, Ok, Err}
use Rattle.laws.proofs.Lists.{rest}
use Rattle.terms.specs.declared.Answer.TheVariants.{WrongLength, NotForUs, StatusByBroadcast}
use Rattle.terms.specs.declared.Part.{Part}
use Rattle.vmc_asks.specs.Asks.{read_data, asks_status}
use Rattle.sdcp_asks.specs.Asks.{is_ours, envelope_of, data_of, in_words, unless_wrong, in_envelope, checked, heard_of, unless_status, cast_of, Heard}
use Rattle.sdcp_asks.specs.declared.Fault.{Fault}
use Rattle.sdcp_asks.specs.declared.Fault.TheVariants.{Refused}
use Rattle.sdcp_asks.proofs.Cast.{cast_plain, status_refused}

-- what the check of a packet says of what is heard of it
abbrev Told : List ℕ → Result (Unit {0}) Fault → Heard → Type 0
Told m (Ok u) h = (13 ≤ length m) × (h ≡ in_words (read_data (data_of m)))
Told m (Err f) h = (h ≡ Err f) × (unless_status (asks_status (data_of m)) h ≡ Err f)

told : (m : List ℕ) → Told m (checked m) (heard_of m)
unfolding checked heard_of
told m = by_cases (ltb (length m) 13) refl (not (is_ours m)) (envelope_of m)
  where
    by_cases : (b : Bool) → ltb (length m) 13 ≡ b → (c : Bool) (e : Result (Unit {0}) Part)
        → Told m (cond b (Err (Refused WrongLength)) (cond c (Err (Refused NotForUs)) (in_envelope e)))
        (cond b (Err (Refused WrongLength)) (cond c (Err (Refused NotForUs)) (unless_wrong e (in_words (read_data (data_of m))))))
    by_cases true l c e = (refl, refl)
    by_cases false l true e = (refl, refl)
    by_cases false l false (Err p) = (refl, refl)
    by_cases false l false (Ok u) = (ltb-false (length m) 13 l, refl)

module _ (m : List ℕ) where
  pub is_long : (u : Unit {0}) → checked m ≡ Ok u → 13 ≤ length m
  is_long u e = (subst (λ r. Told m r (heard_of m)) e (told m)).0

  pub sound_heard : (u : Unit {0}) → checked m ≡ Ok u → heard_of m ≡ in_words (read_data (data_of m))
  sound_heard u e = (subst (λ r. Told m r (heard_of m)) e (told m)).1

  pub fault_heard : (f : Fault) → checked m ≡ Err f → heard_of m ≡ Err f
  fault_heard f e = (subst (λ r. Told m r (heard_of m)) e (told m)).0

  pub fault_cast : (f : Fault) → checked m ≡ Err f → cast_of m ≡ Err f
  unfolding cast_of
  fault_cast f e = (subst (λ r. Told m r (heard_of m)) e (told m)).1

  -- the data area, as it is lent on
  area : (b : Bool) → asks_status (take (length m - 13) (drop 13 m)) ≡ b → asks_status (data_of m) ≡ b
  area b q = ap asks_status (sym (rest m 13)) ∙ q

  -- where it asks for no status the words say what is heard, and a question is refused whatever its words say
  pub sound_cast : (u : Unit {0}) → checked m ≡ Ok u → asks_status (take (length m - 13) (drop 13 m)) ≡ false → cast_of m ≡ in_words (read_data (data_of m))
  sound_cast u e q = cast_plain m (area false q) ∙ sound_heard u e

  pub asked_cast : (u : Unit {0}) → checked m ≡ Ok u → asks_status (take (length m - 13) (drop 13 m)) ≡ true → cast_of m ≡ Err (Refused StatusByBroadcast)
  unfolding cast_of
  asked_cast u e q = rw (area true q, sound_heard u e) (status_refused (read_data (data_of m)))
