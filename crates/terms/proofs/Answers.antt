-- Each answer stands in the list of answers at the place of its number: so number and place tell which it is, and what is computed of the list
-- holds of every answer.
use mathlib.Core.Path.{◌≡◌, refl, sym, ap, subst, ◌∙◌}
use mathlib.Core.Bool.{Bool, true, false, not, ◌&&◌, ◌||◌}
use Prim.Native.Nat.{ℕ, zero, suc, ◌<◌, ◌≤◌}
use native.Mathlib.Omega.{arith}
use mathlib.Core.List.{List, [], ◌∷◌}
use lib.ListN.{get_or}
use lib.Dec.{T, eqb, ltb}
use borrow.Author.Tests.{eqb-true, lt-ltb, ltb-true}
use Rattle.terms.specs.Answers.{part_number, number_of, answer_place}
use Rattle.terms.specs.declared.Part.{Part}
use Rattle.terms.specs.declared.Part.TheVariants.{Request, Item, TooLong, NotMatching, Count, Checksum}
use Rattle.terms.specs.declared.Answer.{Answer}
use Rattle.terms.specs.declared.Answer.TheVariants.{Done, AreaTooSmall, NoSuchPanel, WrongLength, NotForUs, EnvelopeWrong, NotUnderstood, BadConfiguration, StatusByBroadcast, PartWrong}

-- the answers in the order of their numbers, the last with a checksum's place
abbrev pub answers : ℕ → List Answer
answers place =
    Done ∷ AreaTooSmall ∷ NoSuchPanel ∷ WrongLength ∷ NotForUs ∷ EnvelopeWrong ∷ NotUnderstood ∷ BadConfiguration ∷ StatusByBroadcast
    ∷ PartWrong Request ∷ PartWrong Item ∷ PartWrong TooLong ∷ PartWrong NotMatching ∷ PartWrong Count ∷ PartWrong (Checksum place) ∷ []

answer_of : ℕ → ℕ → Answer
answer_of n place = get_or (answers place) n Done

back : (a : Answer) → answer_of (number_of a) (answer_place a) ≡ a
unfolding answer_of
back Done = refl
back AreaTooSmall = refl
back NoSuchPanel = refl
back WrongLength = refl
back NotForUs = refl
back EnvelopeWrong = refl
back NotUnderstood = refl
back BadConfiguration = refl
back StatusByBroadcast = refl
back (PartWrong Request) = refl
back (PartWrong Item) = refl
back (PartWrong TooLong) = refl
back (PartWrong NotMatching) = refl
back (PartWrong Count) = refl
back (PartWrong (Checksum place)) = refl

-- number and place tell the answer
pub told_tells : (a b : Answer) → number_of a ≡ number_of b → answer_place a ≡ answer_place b → a ≡ b
told_tells a b e f = sym (back a) ∙ ap (λ (n : ℕ). answer_of n (answer_place a)) e ∙ ap (answer_of (number_of b)) f ∙ back b

-- f says yes of each of them
abbrev pub all : (Answer → Bool) → List Answer → Bool
all f [] = true
all f (a ∷ l) = f a && all f l

both : (b c : Bool) → (b && c) ≡ true → (b ≡ true) × (c ≡ true)
both true c e = (refl, e)
both false c e = absurd (subst T (sym e) tt)

at_each : (f : Answer → Bool) (l : List Answer) (n : ℕ) (d : Answer) → all f l ≡ true → f d ≡ true → f (get_or l n d) ≡ true
at_each f [] n d e h = h
at_each f (a ∷ l) zero d e h = (both (f a) (all f l) e).0
at_each f (a ∷ l) (suc n) d e h = at_each f l n d (both (f a) (all f l) e).1 h

-- one computed test says it of every answer
pub every_answer : (f : Answer → Bool) → ((place : ℕ) → all f (answers place) ≡ true) → (a : Answer) → f a ≡ true
unfolding answer_of
every_answer f e a = sym (ap f (back a)) ∙ at_each f (answers (answer_place a)) (number_of a) Done (e (answer_place a)) (both (f Done) _ (e 0)).0

-- the numbers are those from 0 on, one for each
pub number_small : (a : Answer) → number_of a < 15
number_small a = ltb-true (number_of a) 15 (every_answer (λ (x : Answer). ltb (number_of x) 15) (λ place. refl) a)

-- those of a wrong part are 9 and more
pub part_late : (p : Part) → 9 ≤ part_number p
part_late Request = omega arith
part_late Item = omega arith
part_late TooLong = omega arith
part_late NotMatching = omega arith
part_late Count = omega arith
part_late (Checksum place) = omega arith

-- "other answers have place 0": those whose number is under 9
pub place_none : (a : Answer) → number_of a < 9 → answer_place a ≡ 0
place_none a h =
    eqb-true (answer_place a) 0
    (ap (λ (t : Bool). not t || eqb (answer_place a) 0) (sym (lt-ltb (number_of a) 9 h)) ∙ every_answer (λ (x : Answer). not (ltb (number_of x) 9) || eqb (answer_place x) 0) (λ place. refl) a)

-- a number under 9 tells the answer alone
pub number_tells : (a b : Answer) → number_of b < 9 → number_of a ≡ number_of b → a ≡ b
number_tells a b h e = told_tells a b e (place_none a (subst (λ (n : ℕ). n < 9) (sym e) h) ∙ sym (place_none b h))
