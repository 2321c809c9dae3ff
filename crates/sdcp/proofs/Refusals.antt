-- Every answer but 0 leaves the record, a valid record stays valid, and no reply carries F010h: by the cases of what a packet asks.
use mathlib.Core.Path.{◌≡◌, refl, ap}
use mathlib.Core.List.{List, [], ◌∷◌}
use Prim.Native.Nat.{ℕ}
use native.Mathlib.Omega.{arith}
use lib.ListN.{length, get_or}
use Rattle.std.specs.Prelude.{Ok, Err}
use Rattle.terms.specs.Answers.{number_of}
use Rattle.terms.specs.declared.Part.{Part}
use Rattle.turns.specs.Turns.{taken}
use Rattle.turns.proofs.Turns.{refusal_leaves as leaves}
use Rattle.panels.specs.declared.WRecord.{WRecord}
use Rattle.vmc_tells.specs.Texts.{text_of}
use Rattle.vmc.proofs.Plain.{low_text}
use Rattle.sdcp_asks.specs.Asks.{heard_of, Heard}
use Rattle.sdcp.specs.Replies.{packet_of, bytes_of, answer_of, turned, turn_of}
use Rattle.sdcp_asks.specs.declared.Fault.TheVariants.{Refused, Broken, NotUnderstood}
use Rattle.sdcp.specs.declared.Reply.{Reply}
use Rattle.sdcp.specs.declared.Reply.TheVariants.{Silent, Ng, Ok as OkWith}

-- the answer is that of what was heard, whatever the panel
pub turned_answer : (m : List ℕ) (h : Heard) (w : WRecord) → (turned m h w).answer ≡ answer_of h
unfolding turned
turned_answer m (Err (Refused a)) w = refl
turned_answer m (Err (Broken p)) w = refl
turned_answer m (Err NotUnderstood) w = refl
turned_answer m (Ok o) w = refl

pub turn_leaves : (m : List ℕ) (h : Heard) (w : WRecord) → (number_of (turned m h w).answer ≡ 0 → ⊥) → (turned m h w).after ≡ w
unfolding turned
turn_leaves m (Err (Refused a)) w n = refl
turn_leaves m (Err (Broken p)) w n = refl
turn_leaves m (Err NotUnderstood) w n = refl
turn_leaves m (Ok o) w n = absurd (n refl)

-- every answer but 0 leaves the record as it was
pub refusal_leaves : (room : ℕ) (m : List ℕ) (w : WRecord) → (number_of (taken room (turn_of m) w).answer ≡ 0 → ⊥) → (taken room (turn_of m) w).after ≡ w
refusal_leaves room m w = leaves room (turn_of m) w (turn_leaves m (heard_of m) w)

-- document 02, §8, "The bytes sent to the console stay as they were": NG, whatever the part
pub broken_ng : (m : List ℕ) (p : Part) (w : WRecord) → (turned m (Err (Broken p)) w).reply ≡ bytes_of m Ng
unfolding turned
broken_ng m p w = refl

-- ---- "Error F010h is never sent."

-- the body of a reply
pub body_of : Reply → List ℕ
body_of Silent = []
body_of Ng = 0xf0 ∷ 0x50 ∷ []
body_of (OkWith t) = text_of t

pub code_of : Reply → ℕ
code_of Silent = 0
code_of Ng = 0
code_of (OkWith t) = 1

-- it is what stands behind the header in every reply that is sent
pub body_sent : (m : List ℕ) (r : Reply) → (r ≡ Silent → ⊥) → bytes_of m r ≡ packet_of m (code_of r) (body_of r)
unfolding bytes_of body_of code_of
body_sent m Silent n = absurd (n refl)
body_sent m Ng n = refl
body_sent m (OkWith t) n = refl

pub never_f010 : (r : Reply) → body_of r ≡ 0xf0 ∷ 0x10 ∷ [] → ⊥
unfolding body_of
never_f010 Silent e = let q = ap length e in omega (arith, q)
never_f010 Ng e = let q : ◌≡◌ {A = ℕ} 0x50 0x10 = ap (λ (l : List ℕ). get_or l 1 0) e in omega (arith, q)
never_f010 (OkWith t) e = let l = low_text t in let q : get_or (text_of t) 0 0 ≡ 0xf0 = ap (λ (l : List ℕ). get_or l 0 0) e in omega (arith, l, q)
