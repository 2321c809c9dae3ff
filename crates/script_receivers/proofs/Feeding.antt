-- The receiver is called until a call hands out nothing: what is still to hand out, with the box and the text so far, gives the whole,
-- and each call that hands out leaves fewer bytes.
use Prim.Native.Nat.{ℕ, ◌<◌, ◌≤◌}
use mathlib.Core.Path.{◌≡◌, refl, sym, ap, ◌∙◌}
use mathlib.Core.Bool.{Bool, true, false, not}
use mathlib.Core.List.{List, [], ◌∷◌, ◌++◌, map}
use native.Mathlib.Omega.{arith}
use lib.Dec.{eqb}
use lib.ListN.{length, drop, length-drop}
use borrow.Author.Tests.{ne_eqb}
use lib.Seq.{drop-drop}
use Rattle.laws.specs.Bytes.{ascii}
use Rattle.laws.proofs.Conditions.{false_true}
use Rattle.panels.specs.declared.DisplayBox.{DisplayBox}
use Rattle.receiver.specs.declared.Receiver.{Receiver}
use Rattle.receiver.specs.Calls.{held_in}
use Rattle.receiver.specs.Pieces.{Fed, and_that, fed}
use Rattle.receiver.proofs.Calls.{packet_le, takes_in}
use Rattle.receiver.proofs.Pieces.{leaves, fed_last, fed_more, fed_held}
use Rattle.steps.specs.Messages.{Message}
use Rattle.steps.specs.Run.{run}
use Rattle.script_text.specs.Puts.{Puts}
use Rattle.script_text.specs.Texts.{number_text}
use Rattle.script_text.proofs.Puts.{Underway, under_first, under_next, under_last, puts_as, puts_end, puts_length, puts_then}
use Rattle.script_answers.specs.Answers.{Effect}
use Rattle.script_receivers.specs.Receivers.{packet_message, packeted, packets_text, held_text, pieced, Links}
use Rattle.script_receivers.specs.Calls.{handed_on, called_by, CallsOnce, packets_done}
use Rattle.script_receivers.specs.declared.Between.{Between}
use Rattle.script_receivers.specs.declared.Linked.{Linked}

-- what is still to hand out
abbrev left_of : Between → List ℕ → Fed
left_of f piece = fed f.receiver (drop f.taken piece)

-- how many bytes are still to be read
pub to_read : List ℕ → Between → ℕ
to_read piece f = length (held_in f.receiver ++ drop f.taken piece)

-- what a call hands out, before the rest
abbrev first : List ℕ → Fed → Fed
first [] rest = rest
first (x ∷ packet) rest = and_that (x ∷ packet) rest

module _ (link : ℕ) (area : List ℕ) where
  abbrev messages : Fed → List Message
  messages o = map (packet_message link area) o.packets

  first_box : (b : DisplayBox) (packet : List ℕ) (rest : Fed) → run b (messages (first packet rest)) ≡ run (handed_on link area b packet).box (messages rest)
  unfolding handed_on packeted
  first_box b [] rest = refl
  first_box b (x ∷ packet) rest = refl

  first_text : (b : DisplayBox) (packet : List ℕ) (rest : Fed) → packets_text link area b (first packet rest).packets ≡ (handed_on link area b packet).text ++ packets_text link area (handed_on link area b packet).box rest.packets
  unfolding handed_on packets_text
  first_text b [] rest = refl
  first_text b (x ∷ packet) rest = refl

first_after : (packet : List ℕ) (rest : Fed) → (first packet rest).after ≡ rest.after
first_after [] rest = refl
first_after (x ∷ packet) rest = refl

-- ---- one call

has_bytes : (packet : List ℕ) (more : Bool) → more ≡ not (eqb (length packet) 0) → more ≡ true → packet ≡ [] → ⊥
has_bytes packet more e m z = absurd (false_true (sym (ap (λ (l : List ℕ). not (eqb (length l) 0)) z) ∙ sym e ∙ m))

has_none : (packet : List ℕ) (more : Bool) → more ≡ not (eqb (length packet) 0) → more ≡ false → packet ≡ []
has_none [] more e m = refl
has_none (x ∷ packet) more e m = absurd (false_true (sym m ∙ e ∙ ap not (ne_eqb (length (x ∷ packet)) 0 (λ z. omega arith))))

first_and_that : (packet : List ℕ) (rest : Fed) → (packet ≡ [] → ⊥) → and_that packet rest ≡ first packet rest
first_and_that [] rest e = absurd (e refl)
first_and_that (x ∷ packet) rest e = refl

module _ {link : ℕ} {area piece e e' : List ℕ} {f g : Between} {more : Bool} (c : CallsOnce link area f piece e g e' more) where
  behind : drop (called_by f piece).taken (drop f.taken piece) ≡ drop g.taken piece
  behind = drop-drop (called_by f piece).taken f.taken piece ∙ ap (λ (n : ℕ). drop n piece) (sym c.taken_is)

  left_step : more ≡ true → left_of f piece ≡ first (called_by f piece).packet (left_of g piece)
  left_step m =
      let n = has_bytes (called_by f piece).packet more c.more_is m in
      rw (c.receiver_is, ← behind) (fed_more f.receiver (drop f.taken piece) n ∙ first_and_that (called_by f piece).packet _ n)

  left_last : more ≡ false → left_of f piece ≡ record { packets = []; after = g.receiver }
  left_last m = rw c.receiver_is (fed_last f.receiver (drop f.taken piece) (has_none (called_by f piece).packet more c.more_is m))

  pub read_less : more ≡ true → to_read piece g < to_read piece f
  unfolding to_read
  read_less m = go (called_by f piece).packet refl
    where
      go : (packet : List ℕ) → (called_by f piece).packet ≡ packet → to_read piece g < to_read piece f
      go [] q = absurd (has_bytes (called_by f piece).packet more c.more_is m q)
      go (x ∷ packet) q = rw (c.receiver_is, ← behind) (omega (arith, leaves f.receiver (drop f.taken piece), packet_le f.receiver (drop f.taken piece), ap length q))

-- ---- all calls

-- what was done and what is left: together the whole
pub record Goes (link : ℕ) (area : List ℕ) (b : DisplayBox) (r : Receiver) (piece d : List ℕ) (f : Between) (e : List ℕ) : Type 0 where
  pub taken_in : f.taken ≤ length piece
  box_left : run b (messages link area (fed r piece)) ≡ run f.made (messages link area (left_of f piece))
  receiver_left : (fed r piece).after ≡ (left_of f piece).after
  text_left : Underway (packets_text link area b (fed r piece).packets) (packets_text link area f.made (left_of f piece).packets) d 0 e f.len

module _ (link : ℕ) (area : List ℕ) (b : DisplayBox) (r : Receiver) (piece d : List ℕ) where
  pub goes_first : Goes link area b r piece d (record { made = b; receiver = r; taken = 0; len = 0 }) d
  goes_first = record {
    taken_in = omega arith;
    box_left = refl;
    receiver_left = refl;
    text_left = under_first (packets_text link area b (fed r piece).packets) d 0;
  }

  pub goes_further : {f g : Between} {e e' : List ℕ} {more : Bool} → more ≡ true → Goes link area b r piece d f e → CallsOnce link area f piece e g e' more → Goes link area b r piece d g e'
  goes_further {f} {g} {e} {e'} m s c =
      let packet = (called_by f piece).packet in
      let step = left_step c m in
      let taken = takes_in f.receiver (drop f.taken piece) in
      let l = length-drop f.taken piece in
      let i = s.taken_in in
      let t = c.taken_is in
      let made = ap (λ (x : DisplayBox). run x (messages link area (left_of g piece))) (sym c.box_is) in
      let rest = ap (λ (x : DisplayBox). (handed_on link area f.made packet).text ++ packets_text link area x (left_of g piece).packets) (sym c.box_is) in
      record {
        taken_in = omega (arith, taken, l, i, t);
        box_left = s.box_left ∙ ap (λ (x : Fed). run f.made (messages link area x)) step ∙ first_box link area f.made packet (left_of g piece) ∙ made;
        receiver_left = s.receiver_left ∙ ap (λ (x : Fed). x.after) step ∙ first_after packet (left_of g piece);
        text_left = under_next (handed_on link area f.made packet).text (packets_text link area g.made (left_of g piece).packets) s.text_left
            (ap (λ (x : Fed). packets_text link area f.made x.packets) step ∙ first_text link area f.made packet (left_of g piece) ∙ rest) c.text_is;
      }

  -- the area keeps its length, and the text ends in it
  pub goes_length : {f : Between} {e : List ℕ} → Goes link area b r piece d f e → length e ≡ length d
  goes_length s = puts_length s.text_left.puts

  pub goes_inside : {f : Between} {e : List ℕ} → Goes link area b r piece d f e → f.len ≤ length e
  goes_inside s =
      let h = puts_end s.text_left.puts (omega arith) in
      let l = goes_length s in
      omega (arith, h, l)

  -- the last call hands out nothing
  pub goes_done : {f g : Between} {e e' : List ℕ} {more : Bool} → more ≡ false → Goes link area b r piece d f e → CallsOnce link area f piece e g e' more
      → Links (packets_done link area b r piece) (record { after = g.made; receiver = g.receiver; len = g.len }) d e'
  unfolding packets_done packets_text handed_on
  goes_done {f} {g} {e} {e'} {more} m s c =
      let none = left_last c m in
      let q = ap (handed_on link area f.made) (has_none (called_by f piece).packet more c.more_is m) in
      record {
        box_is = c.box_is ∙ ap (λ (o : Effect). o.box) q ∙ sym (s.box_left ∙ ap (λ (x : Fed). run f.made (messages link area x)) none);
        receiver_is = sym (s.receiver_left ∙ ap (λ (x : Fed). x.after) none);
        text_is = under_last s.text_left (puts_as (ap (λ (o : Effect). o.text) q ∙ sym (ap (λ (x : Fed). packets_text link area f.made x.packets) none)) c.text_is);
      }

  -- and then `held`
  pub holds_few : {a : Linked} {e : List ℕ} → Links (packets_done link area b r piece) a d e → a.receiver.held ≤ 512
  unfolding packets_done
  holds_few s = rw s.receiver_is (fed_held r piece)

  pub held_said : {a : Linked} {e e' e'' : List ℕ} {n m : ℕ} → Links (packets_done link area b r piece) a d e → Puts (number_text (ascii "held ") a.receiver.held) e a.len e' n → Puts (0x0a ∷ []) e' n e'' m
      → Links (pieced link area b r piece) (record { after = a.after; receiver = a.receiver; len = m }) d e''
  unfolding packets_done pieced
  held_said s p q = record {
    box_is = s.box_is;
    receiver_is = s.receiver_is;
    text_is = puts_then s.text_is (puts_as (ap held_text s.receiver_is) (puts_then p q));
  }
