-- What the C host is promised in numbers: of a message, of a piece, and of the advert writer with every byte of its area.
use Rattle.std.specs.Prelude.{ℕ, ◌≡◌, List, [], ◌∷◌, length}
use Rattle.terms.specs.Answers.{number_of}
use Rattle.sdap.specs.Layout.{advert_of}
use Rattle.sdap.specs.Rules.{write_answer, area_after}
use Rattle.sdap.specs.declared.Advert.{Advert}
use Rattle.receiver.specs.declared.Receiver.{Receiver}
use Rattle.receiver.specs.declared.Received.{Received}
use Rattle.receiver.specs.Stream.{counted}
use Rattle.host_box.specs.Called.{Called}
use Rattle.host.specs.declared.Outcome.{Outcome}
use Rattle.host.specs.declared.Handed.{Handed}

-- the advert that the call's numbers and areas name
abbrev pub fields_from_c : ℕ → List ℕ → ℕ → ℕ → List ℕ → ℕ → ℕ → ℕ → ℕ → ℕ → ℕ → List ℕ → List ℕ → ℕ → ℕ → Advert
fields_from_c category product serial power location connected accepted1 accepted2 accepted3 accepted4 error region name group unit =
    advert_of category product serial power location connected (accepted1 ∷ accepted2 ∷ accepted3 ∷ accepted4 ∷ []) error region name
    (record { 0 = group }) (record { 0 = unit })

-- the writer's promise with the answer as its number
pub record WrittenForC (a : Advert) (area : List ℕ) (r : ℕ) (area' : List ℕ) : Type 0 where
  pub answer : r ≡ number_of (write_answer (length area) a)
  pub area_after_holds : area' ≡ area_after (write_answer (length area) a) a area

-- what the host is told of a message: the answer's number and place, and the reply's length
abbrev pub outcome_for_c : Called → Outcome
outcome_for_c c = record { answer = c.answer; place = c.place; len = c.len }

-- what a call on a piece gives, where the receiver after it lies in the host's memory, and a length of 0 is nothing
abbrev pub received_of : Receiver → Handed → Received
received_of r h = record { after = r; taken = h.taken; len = counted h.len }
