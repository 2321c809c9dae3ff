-- Each promise at the door allows one outcome: its equations have the same right sides.
use Prim.Native.Nat.{ℕ}
use mathlib.Core.Path.{◌≡◌, refl, sym, ◌∙◌}
use Rattle.std.specs.Prelude.{Option}
use mathlib.Core.List.{List, []}
use Rattle.receiver.specs.declared.Receiver.{Receiver}
use Rattle.receiver.specs.declared.Received.{Received}
use Rattle.receiver.specs.Stream.{noise, whole, counted}
use Rattle.receiver.specs.Calls.{holding, Given, Receives}

pub empty_receiver_one : (r r' : Receiver) → r ≡ holding [] → r' ≡ holding [] → r ≡ r'
empty_receiver_one r r' p q = p ∙ sym q

pub noise_in_one : (s : List ℕ) (r r' : ℕ) → r ≡ noise s → r' ≡ noise s → r ≡ r'
noise_in_one s r r' p q = p ∙ sym q

pub whole_in_one : (s : List ℕ) (r r' : Option ℕ) → r ≡ counted (whole s) → r' ≡ counted (whole s) → r ≡ r'
whole_in_one s r r' p q = p ∙ sym q

pub take_piece_one : (g : Given) (area : List ℕ) (r r' : Received) (x x' : List ℕ) → Receives g area r x → Receives g area r' x' → (r ≡ r') × (x ≡ x')
take_piece_one g area r r' x x' p q =
    (rw (p.after_is ∙ sym q.after_is, p.taken_is ∙ sym q.taken_is, p.len_is ∙ sym q.len_is) refl, p.area_is ∙ sym q.area_is)
