-- One call of the receiver: where it hands out nothing the box stays and nothing is put, and what it hands out goes to the box.
use Prim.Native.Nat.{ℕ, zero, suc, ◌+◌, ◌-◌, ◌≤◌}
use mathlib.Core.Path.{◌≡◌, refl, sym, ap, subst, ◌∙◌}
use mathlib.Core.Bool.{true, false}
use mathlib.Core.List.{List, [], ◌∷◌}
use native.Mathlib.Omega.{arith}
use lib.ListN.{length, take, drop, length-drop}
use borrow.Author.Tests.{ne_eqb}
use borrow.Rule.Slice.PartMut.{put_mid}
use Rattle.std.specs.Prelude.{None, Some}
use Rattle.laws.proofs.Lists.{rest}
use Rattle.panels.specs.declared.DisplayBox.{DisplayBox}
use Rattle.receiver.specs.Calls.{given, Receives}
use Rattle.receiver.specs.declared.Received.{Received}
use Rattle.receiver.specs.Stream.{counted}
use Rattle.receiver.proofs.Stream.{counted_one}
use Rattle.receiver.proofs.Calls.{takes_in}
use Rattle.script_text.proofs.Puts.{puts_as, puts_none}
use Rattle.script_text.proofs.Behind.{puts_behind}
use Rattle.script_write.proofs.Lent.{front}
use Rattle.script_answers.specs.Answers.{Effect, Answers}
use Rattle.script_answers.specs.declared.Answered.{Answered}
use Rattle.script_receivers.specs.Receivers.{packeted}
use Rattle.script_receivers.specs.Calls.{handed_on, called_by, CallsOnce}
use Rattle.script_receivers.specs.declared.Between.{Between}

module _ (link : ℕ) (area : List ℕ) (b : DisplayBox) where
  nothing : (packet : List ℕ) → length packet ≡ 0 → handed_on link area b packet ≡ record { box = b; text = [] }
  unfolding handed_on
  nothing [] e = refl
  nothing (x ∷ packet) e = absurd (omega arith)

  something : (packet : List ℕ) → (length packet ≡ 0 → ⊥) → handed_on link area b packet ≡ packeted link area b packet
  unfolding handed_on
  something [] e = absurd (e refl)
  something (x ∷ packet) e = refl

module _ (link : ℕ) (area : List ℕ) (f : Between) (piece out : List ℕ) {g : Received} {lent lent' : List ℕ} (s : Receives (given f.receiver (take (length piece - f.taken) (drop f.taken piece))) lent g lent') where
  called : Receives (called_by f piece) lent g lent'
  called = subst (λ (p : List ℕ). Receives (given f.receiver p) lent g lent') (rest piece f.taken) s

  pub call_inside : f.taken ≤ length piece → f.taken + g.taken ≤ length piece
  call_inside h =
      let t = takes_in f.receiver (drop f.taken piece) in
      let e = called.taken_is in
      let l = length-drop f.taken piece in
      omega (arith, t, e, l, h)

  -- a call that hands out nothing
  pub call_last : g.len ≡ None → CallsOnce link area f piece out (record { made = f.made; receiver = g.after; taken = f.taken + g.taken; len = f.len }) out false
  call_last e =
      let z = counted_one 0 (length (called_by f piece).packet) (sym e ∙ called.len_is) in
      let n = nothing link area f.made (called_by f piece).packet (sym z) in
      record {
        box_is = sym (ap (λ (o : Effect). o.box) n);
        receiver_is = called.after_is;
        taken_is = ap (λ (k : ℕ). f.taken + k) called.taken_is;
        text_is = puts_as (sym (ap (λ (o : Effect). o.text) n)) (puts_none out f.len);
        more_is = rw (← z) refl;
      }

  -- a packet's length, and that it has bytes
  packet_long : (n : ℕ) → g.len ≡ Some n → (n ≡ length (called_by f piece).packet) × (n ≡ 0 → ⊥)
  packet_long zero e = absurd (go (length (called_by f piece).packet) (sym e ∙ called.len_is))
    where
      go : (k : ℕ) → Some 0 ≡ counted k → ⊥
      go zero e = cc
      go (suc k) e = let q : 0 ≡ suc k = cc in omega arith
  packet_long (suc n) e = (counted_one (suc n) (length (called_by f piece).packet) (sym e ∙ called.len_is), λ z. omega arith)

  pub call_more : (n : ℕ) → g.len ≡ Some n → f.len ≤ length out → {a : Answered DisplayBox} {out' : List ℕ} → Answers (packeted link area f.made (take n lent')) a (take (length out - f.len) (drop f.len out)) out'
      → CallsOnce link area f piece out (record { made = a.after; receiver = g.after; taken = f.taken + g.taken; len = f.len + a.len }) (put_mid f.len (length out - f.len) out out') true
  call_more n e h {a} {out'} w =
      let l = packet_long n e in
      let z : length (called_by f piece).packet ≡ 0 → ⊥ = λ k. l.1 (l.0 ∙ k) in
      let n = ap (packeted link area f.made) (front (record { length_is = l.0; area_is = called.area_is })) ∙ sym (something link area f.made (called_by f piece).packet z) in
      record {
        box_is = w.box_is ∙ ap (λ (o : Effect). o.box) n;
        receiver_is = called.after_is;
        taken_is = ap (λ (k : ℕ). f.taken + k) called.taken_is;
        text_is = puts_as (ap (λ (o : Effect). o.text) n) (puts_behind out f.len h w.text_is);
        more_is = rw (ne_eqb _ _ z) refl;
      }
