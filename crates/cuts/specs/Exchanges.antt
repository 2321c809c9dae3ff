-- Document 02, §1: a TCP link with its receiver and the box behind it. Each packet goes to the box as it is handed out.
use Rattle.std.specs.Prelude.{ℕ, ◌≤◌, ◌≡◌, List, [], ◌∷◌, ◌++◌, length, take, drop}
use Rattle.terms.specs.declared.Answer.{Answer}
use Rattle.panels.specs.declared.DisplayBox.{DisplayBox}
use Rattle.steps.specs.Messages.{tcp}
use Rattle.steps.specs.Step.{Outcome, step}
use Rattle.receiver.specs.declared.Receiver.{Receiver}
use Rattle.receiver.specs.Calls.{given}

-- the receiver of a link, and the box
pub record Wired : Type 0 where
  pub receiver : Receiver
  pub box : DisplayBox

-- what a call hands out, and what the box does with it: the area is the host's, as it likes
abbrev pub packet_out : Wired → List ℕ → List ℕ
packet_out w p = (given w.receiver p).packet

abbrev pub outcome_on : ℕ → List ℕ → Wired → List ℕ → Outcome
outcome_on l area w p = step w.box (tcp l (packet_out w p) area)

-- a packet, and what the box said to it: "A reply fills the front of the area [..] and the reply's length is returned"
pub record Exchange : Type 0 where
  pub packet : List ℕ
  pub answer : Answer
  pub reply : List ℕ

abbrev pub exchanged : List ℕ → Outcome → Exchange
exchanged m o = record { packet = m; answer = o.answer; reply = take o.back.len o.back.area }

-- a piece on link l: "each piece's rest being given until a call hands out nothing, if the reply areas are long enough and nothing
-- else reaches the box between the cuts"
pub data Exchanges (l : ℕ) : Wired → List ℕ → List Exchange → Wired → Type 0 where
  last : {w : Wired} {p : List ℕ} → packet_out w p ≡ [] → Exchanges l w p [] (record { receiver = (given w.receiver p).after; box = w.box })
  more : {w w' : Wired} {p : List ℕ} {xs : List Exchange} (area : List ℕ) → 512 ≤ length area
      → (packet_out w p ≡ [] → ⊥)
      → Exchanges l (record { receiver = (given w.receiver p).after; box = (outcome_on l area w p).box }) (drop (given w.receiver p).taken p) xs w'
      → Exchanges l w p (exchanged (packet_out w p) (outcome_on l area w p) ∷ xs) w'

-- "every cutting into one piece or more"
pub data CutExchanges (l : ℕ) : Wired → List (List ℕ) → List Exchange → Wired → Type 0 where
  one : {w w' : Wired} {p : List ℕ} {xs : List Exchange} → Exchanges l w p xs w' → CutExchanges l w (p ∷ []) xs w'
  more : {w w' w'' : Wired} {p q : List ℕ} {ps : List (List ℕ)} {xs ys : List Exchange} → Exchanges l w p xs w' → CutExchanges l w' (q ∷ ps) ys w'' → CutExchanges l w (p ∷ q ∷ ps) (xs ++ ys) w''
