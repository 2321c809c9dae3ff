-- `take_frame` asks the area's size, then goes by what the message asks: with room for every reply, what is sent is the reply whole.
use Prim.Native.Nat.{ℕ, ◌<◌, ◌≤◌}
use mathlib.Core.Path.{◌≡◌, refl, ap, subst, ◌∙◌}
use mathlib.Core.List.{List}
use lib.ListN.{length}
use native.Mathlib.Omega.{arith}
use Rattle.std.specs.Prelude.{Result, Ok, Err}
use Rattle.laws.specs.Bytes.{Sent}
use Rattle.terms.specs.declared.Answer.{Answer}
use Rattle.terms.specs.declared.Answer.TheVariants.{Done, AreaTooSmall}
use Rattle.turns.specs.Turns.{left, Takes}
use Rattle.turns.proofs.Turns.{takes_small, takes_turn}
use Rattle.panels.specs.declared.WRecord.{WRecord}
use Rattle.rs232c_asks.specs.Asks.{Heard, heard_of, values_of}
use Rattle.rs232c_asks.specs.declared.Order.{Order}
use Rattle.rs232c_asks.specs.declared.Asked.{Asked}
use Rattle.rs232c_tells.specs.Room.{fitting}
use Rattle.rs232c_tells.specs.Texts.{bytes_of, reply_to}
use Rattle.rs232c_tells.specs.declared.Reply.{Reply}
use Rattle.rs232c_tells.specs.declared.Reply.TheVariants.{Nak}
use Rattle.rs232c_tells.proofs.Fitting.{all_fits}
use Rattle.rs232c.specs.Orders.{carried}
use Rattle.rs232c.specs.Replies.{replied, turned, turn_of}

pub small : (m : List ℕ) (w y : WRecord) (area : List ℕ) (b : Answer) (n : ℕ) → length area < 512 → y ≡ w → b ≡ AreaTooSmall → n ≡ 0 → Takes (turn_of m) w area y b n area
small m w y area b n h p q r = rw (p, q, r) (takes_small (turn_of m) w area h)

module _ (m : List ℕ) (w : WRecord) (area : List ℕ) (room : 512 ≤ length area) where
  whole : (reply : List ℕ) (n : ℕ) (z : List ℕ) → Sent (fitting (length area) reply) n area z → Sent reply n area z
  whole reply n z s = rw (all_fits (length area) reply (omega arith)) at s

  heard : (h : Heard) → heard_of m ≡ h → turn_of m w ≡ turned h (values_of m) w
  heard h e = ap (λ (x : Heard). turned x (values_of m) w) e

  pub refused : (y : WRecord) (a b : Answer) (n : ℕ) → heard_of m ≡ Err a → y ≡ w → b ≡ a → n ≡ 0 → Takes (turn_of m) w area y b n area
  unfolding turned
  refused y a b n e p q r = takes_turn (turn_of m) w area y b n area (left w a) room (heard (Err a) e) p q (record { length_is = r; area_is = refl })

  module _ (x : Asked) (e : heard_of m ≡ Ok x) where
    asked : (o : Result Order Answer) → x.order ≡ o → turn_of m w ≡ replied x.source o (values_of m) w
    unfolding turned
    asked o f = heard (Ok x) e ∙ ap (λ (y : Result Order Answer). replied x.source y (values_of m) w) f

    pub obeyed : (y : WRecord) (o : Order) (reply : Reply) (n : ℕ) (z : List ℕ) → x.order ≡ Ok o → y ≡ carried o (values_of m) w → reply ≡ reply_to x.source o w
        → Sent (fitting (length area) (bytes_of reply)) n area z → Takes (turn_of m) w area y Done n z
    obeyed y o reply n z f p q s =
        takes_turn (turn_of m) w area y Done n z (replied x.source (Ok o) (values_of m) w) room (asked (Ok o) f) p refl
        (subst (λ (r : Reply). Sent (bytes_of r) n area z) q (whole (bytes_of reply) n z s))

    pub unheard : (a : Answer) (n : ℕ) (z : List ℕ) → x.order ≡ Err a → Sent (fitting (length area) (bytes_of (Nak x.source))) n area z → Takes (turn_of m) w area w a n z
    unheard a n z f s =
        takes_turn (turn_of m) w area w a n z (replied x.source (Err a) (values_of m) w) room (asked (Err a) f) refl refl (whole (bytes_of (Nak x.source)) n z s)
