-- Document 01, "Answer numbers": a panel's turn, whatever the protocol and whatever the panel holds.
use Rattle.std.specs.Prelude.{ℕ, ◌≡◌, cond, List, [], length, ltb}
use Rattle.laws.specs.Bytes.{Sent}
use Rattle.terms.specs.declared.Answer.{Answer}
use Rattle.terms.specs.declared.Answer.TheVariants.{AreaTooSmall}

-- what a message does to the panel that it is for: the record after it, the answer, and the bytes that go back
pub record Turn (R : Type 0) : Type 0 where
  pub after : R
  pub answer : Answer
  pub reply : List ℕ

-- a refusal: record "unchanged", reply "none"
abbrev pub left : {R : Type 0} → R → Answer → Turn R
left x a = record { after = x; answer = a; reply = [] }

-- check 1: "reply area under 512 bytes" comes before all others
unfoldable pub taken : {R : Type 0} → ℕ → (R → Turn R) → R → Turn R
taken room turn x = cond (ltb room 512) (left x AreaTooSmall) (turn x)

-- the turn of what has the record for a part
abbrev pub turn_with : {A B : Type 0} → (A → B) → Turn A → Turn B
turn_with f t = record { after = f t.after; answer = t.answer; reply = t.reply }

-- the promise at a protocol's door: the record after the message, the answer, the reply's length and every byte of the area
pub record Takes {R : Type 0} (turn : R → Turn R) (x : R) (area : List ℕ) (x' : R) (answer : Answer) (len : ℕ) (area' : List ℕ) : Type 0 where
  pub record_after : x' ≡ (taken (length area) turn x).after
  pub answer_given : answer ≡ (taken (length area) turn x).answer
  pub sends : Sent (taken (length area) turn x).reply len area area'
