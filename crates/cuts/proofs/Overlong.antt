-- "With a length over 499 just those 13 bytes are handed out as a message", and document 02, §8, "The overlong header of §1 gives 9 or 10 if those
-- fields are wrong, else 11": such a header is ours and long enough to be a message, and its length breaks its envelope where nothing before it does.
-- Any other packet is as long as it says, so 12 is never given.
use Prim.Native.Nat.{ℕ, ◌-◌, ◌<◌, ◌≤◌}
use native.Mathlib.Omega.{arith}
use mathlib.Core.Path.{◌≡◌, refl, ap, ◌∙◌}
use mathlib.Core.Bool.{Bool, true, false, cond}
use mathlib.Core.List.{List, []}
use lib.Dec.{eqb}
use lib.ListN.{length, get_or}
use borrow.Author.Tests.{lt-ltb, le-ltb}
use Rattle.std.specs.Prelude.{Result, Err}
use Rattle.laws.specs.Numbers.{number}
use Rattle.terms.specs.Answers.{number_of}
use Rattle.terms.specs.declared.Part.{Part}
use Rattle.terms.specs.declared.Part.TheVariants.{Request, Item, TooLong, NotMatching}
use Rattle.terms.specs.declared.Answer.TheVariants.{Done, NotForUs, PartWrong}
use Rattle.terms.proofs.Answers.{told_tells}
use Rattle.turns.proofs.Turns.{roomy}
use Rattle.panels.specs.declared.DisplayBox.{DisplayBox}
use Rattle.sdcp.specs.Replies.{turned, turn_of}
use Rattle.sdcp_asks.specs.Asks.{is_ours, item_of, data_length_of, request_wrong, item_wrong, envelope_of, heard_of}
use Rattle.sdcp_asks.specs.declared.Fault.TheVariants.{Broken}
use Rattle.sdcp_asks.proofs.Envelopes.{FirstWrong, wrong_heard}
use Rattle.steps.specs.Messages.{Message, tcp, names, on_link, is_w}
use Rattle.steps.specs.Addressing.{by_tcp, target}
use Rattle.steps.specs.Step.{to_nobody, door, turn, through, panel_at, step}
use Rattle.steps.proofs.Refusals.{long_to_nobody}
use Rattle.steps.proofs.Only.{only_3, only_part}
use Rattle.steps.proofs.Placed.{places_in, placed}
use Rattle.receiver.specs.declared.Receiver.{Receiver}
use Rattle.receiver.specs.Calls.{given}
use Rattle.receiver.proofs.Calls.{whole_packet}

-- "9 or 10 if those fields are wrong, else 11"
abbrev pub overlong_part : List ℕ → Part
overlong_part m = cond (request_wrong m) Request (cond (item_wrong m) Item TooLong)

overlong_wrong : (m : List ℕ) → 499 < data_length_of m → envelope_of m ≡ Err (overlong_part m)
unfolding envelope_of
overlong_wrong m n = rw (lt-ltb 499 (data_length_of m) n) (go (request_wrong m) (item_wrong m))
  where
    go : (q i : Bool) → ◌≡◌ {A = Result (Unit {0}) Part} (cond q (Err Request) (cond i (Err Item) (Err TooLong))) (Err (cond q Request (cond i Item TooLong)))
    go true i = refl
    go false true = refl
    go false false = refl

heard_broken : (m : List ℕ) → 13 ≤ length m → is_ours m ≡ true → 499 < data_length_of m → heard_of m ≡ Err (Broken (overlong_part m))
heard_broken m h o n = wrong_heard m h o (overlong_part m) (overlong_wrong m n)

-- such a message by TCP, once checks 1 and 2 are passed
answered : (m : List ℕ) (b : DisplayBox) (l : ℕ) (area : List ℕ) → 13 ≤ length m → is_ours m ≡ true → 499 < data_length_of m → 512 ≤ length area → is_w (on_link (names b) l) ≡ true
    → (step b (tcp l m area)).answer ≡ cond (eqb (by_tcp (names b) l m) 0) NotForUs (PartWrong (overlong_part m))
unfolding step door target turn turned
answered m b l area h o n room w = rw (le-ltb (length area) 512 room, w) (go (eqb (by_tcp (names b) l m) 0))
  where
    go : (t : Bool) → (through (names b) b (tcp l m area) (cond t (to_nobody m) Done)).answer ≡ cond t NotForUs (PartWrong (overlong_part m))
    go true = rw (long_to_nobody m h)
    go false = rw (roomy (length area) (turn_of m) (panel_at (by_tcp (names b) l m - 1) b).w room, heard_broken m h o n)

-- a receiver hands out such a header as 13 bytes, whatever it held and whatever the piece, and the box answers it
pub overlong_answer : (r : Receiver) (p : List ℕ) (b : DisplayBox) (l : ℕ) (area : List ℕ) → 499 < data_length_of (given r p).packet → 512 ≤ length area → is_w (on_link (names b) l) ≡ true
    → (length (given r p).packet ≡ 13) × ((step b (tcp l (given r p).packet area)).answer ≡ cond (eqb (by_tcp (names b) l (given r p).packet) 0) NotForUs (PartWrong (overlong_part (given r p).packet)))
unfolding number
overlong_answer r p b l area n room w =
    let none : data_length_of [] ≡ 0 = refl in
    let k = whole_packet r p (λ z. omega (arith, n, none, ap data_length_of z)) in
    (k.3 n, answered (given r p).packet b l area k.1 k.0 n room w)

-- whatever a receiver hands out has a data length that matches, or is over 499
always_matching : (r : Receiver) (p : List ℕ) → FirstWrong (given r p).packet NotMatching → ⊥
unfolding number
always_matching r p w =
    let none : item_of [] ≡ 0 = refl in
    let k = whole_packet r p (λ z. let i = w.1 in omega (arith, none, i, ap item_of z)) in
    let n = k.2 w.2 in
    w.3 (omega (arith, n))

-- so no packet that it hands out is answered 3 or 12, whatever the box, the link and the area
pub never_three : (r : Receiver) (p : List ℕ) (b : DisplayBox) (l : ℕ) (area : List ℕ) → ((given r p).packet ≡ [] → ⊥) → number_of (step b (tcp l (given r p).packet area)).answer ≡ 3 → ⊥
never_three r p b l area n e =
    let short = (only_3 b (tcp l (given r p).packet area) e).1 in
    let long = (whole_packet r p n).1 in
    omega (arith, short, long)

pub never_twelve : (r : Receiver) (p : List ℕ) (b : DisplayBox) (l : ℕ) (area : List ℕ) → number_of (step b (tcp l (given r p).packet area)).answer ≡ 12 → ⊥
never_twelve r p b l area e =
    let x : Message = tcp l (given r p).packet area in
    let place = placed b x ∙ ap (λ (n : ℕ). get_or (places_in (length (given r p).packet)) n 0) e in
    always_matching r p (only_part b x NotMatching (told_tells (step b x).answer (PartWrong NotMatching) e place)).3
