-- What an answer of 0 says: every refusal before it did not apply.
use Prim.Native.Nat.{ℕ, ◌≤◌}
use mathlib.Core.Path.{◌≡◌, refl, ap, ◌∙◌}
use mathlib.Core.Bool.{true, not, ◌&&◌}
use mathlib.Core.List.{List}
use native.Mathlib.Omega.{arith}
use lib.ListN.{length}
use lib.Dec.{eqb, ltb}
use borrow.Author.Tests.{eqb-true, ltb-false, not-false}
use Rattle.laws.proofs.Conditions.{passed, and_first, and_second}
use Rattle.terms.specs.Answers.{number_of}
use Rattle.terms.specs.declared.Answer.{Answer}
use Rattle.terms.specs.declared.Answer.TheVariants.{AreaTooSmall, WrongLength, NotForUs}
use Rattle.sdap.specs.declared.Advert.{Advert}
use Rattle.sdap.specs.Layout.{fields_of}
use Rattle.sdap.specs.Rules.{read_answer, write_answer, is_front, is_sized, Sized, verdict}

-- an answer whose number is not 0 is not an answer whose number is 0
other : (a b : Answer) → (number_of a ≡ 0 → ⊥) → number_of b ≡ 0 → a ≡ b → ⊥
other a b n z e = n (ap number_of e ∙ z)

pub record Readable (l : List ℕ) : Type 0 where
  pub long : length l ≡ 122
  pub front : is_front l ≡ true
  pub fair : verdict (fields_of l) ≡ read_answer l

pub readable : (l : List ℕ) → number_of (read_answer l) ≡ 0 → Readable l
unfolding read_answer
readable l z =
    let a = passed (not (eqb (length l) 122)) WrongLength _ (read_answer l) (other WrongLength (read_answer l) (λ e. omega arith) z) refl in
    let b = passed (not (is_front l)) NotForUs _ (read_answer l) (other NotForUs (read_answer l) (λ e. omega arith) z) a.1 in
    record {
      long = eqb-true (length l) 122 (not-false _ a.0);
      front = not-false (is_front l) b.0;
      fair = b.1;
    }

sized : (a : Advert) → is_sized a ≡ true → Sized a
unfolding is_sized
sized a e =
    let p = eqb (length a.product) 12 in
    let l = eqb (length a.location) 24 in
    let r = eqb (length a.region) 24 in
    let n = eqb (length a.name) 24 in
    let plr = and_first (p && l && r) n e in
    let pl = and_first (p && l) r plr in
    record {
      product_ok = eqb-true (length a.product) 12 (and_first p l pl);
      location_ok = eqb-true (length a.location) 24 (and_second p l pl);
      region_ok = eqb-true (length a.region) 24 (and_second (p && l) r plr);
      name_ok = eqb-true (length a.name) 24 (and_second (p && l && r) n e);
    }

pub record Writable (room : ℕ) (a : Advert) : Type 0 where
  pub room_ok : 122 ≤ room
  pub sizes : Sized a
  pub fair : verdict a ≡ write_answer room a

pub writable : (room : ℕ) (a : Advert) → number_of (write_answer room a) ≡ 0 → Writable room a
unfolding write_answer
writable room a z =
    let answer = write_answer room a in
    let b = passed (ltb room 122) AreaTooSmall _ answer (other AreaTooSmall answer (λ e. omega arith) z) refl in
    let s = passed (not (is_sized a)) WrongLength _ answer (other WrongLength answer (λ e. omega arith) z) b.1 in
    record {
      room_ok = ltb-false room 122 b.0;
      sizes = sized a (not-false _ s.0);
      fair = s.1;
    }
