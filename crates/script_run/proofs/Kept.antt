-- Of a line 4,097 bytes are enough: a longer one is passed over by its first byte, or it is no order, and neither is read further.
use Prim.Native.Nat.{ℕ, ◌<◌}
use mathlib.Core.Path.{◌≡◌, refl, sym, ap, ◌∙◌}
use mathlib.Core.Bool.{Bool, true, false, cond}
use mathlib.Core.List.{List, []}
use native.Mathlib.Omega.{arith}
use lib.Dec.{eqb, leb}
use lib.ListN.{length, get_or, take}
use lib.Seq.{take_all, get_or-take, length-take-le}
use borrow.Author.Tests.{leb-true, leb-false, lt-ltb, ne_eqb}
use Rattle.script.specs.declared.Held.{Held}
use Rattle.script_lines.specs.Orders.{is_passed_over, order_of}
use Rattle.script_lines.specs.declared.Order.{Order}
use Rattle.script_lines.specs.declared.Order.TheVariants.{OnBox}
use Rattle.script_lines.specs.declared.BoxOrder.TheVariants.{Passed, Unread}
use Rattle.script.specs.Answers.{on_box}
use Rattle.script_orders.specs.Orders.{ordered}
use Rattle.script.specs.Answers.{carried_out, answered}

-- what a line that is too long is: its first byte says it
abbrev long_order : List ℕ → Order
long_order l = cond (eqb (get_or l 0 0) 0x23) (OnBox Passed) (OnBox Unread)

long_order_lem : (l : List ℕ) → 4096 < length l → order_of l ≡ long_order l
unfolding order_of is_passed_over
long_order_lem l h = rw (ne_eqb (length l) 0 (λ e. omega (arith, h, e)), lt-ltb 4096 (length l) h)

unheard : (c : Bool) (b : Held) (l : List ℕ) → carried_out (cond c (OnBox Passed) (OnBox Unread)) b l ≡ carried_out (cond c (OnBox Passed) (OnBox Unread)) b []
unfolding ordered on_box carried_out
unheard true b l = refl
unheard false b l = refl

long_answered : (b : Held) (l : List ℕ) → 4096 < length l → answered b l ≡ carried_out (long_order l) b []
unfolding answered
long_answered b l h = ap (λ (o : Order). carried_out o b l) (long_order_lem l h) ∙ unheard (eqb (get_or l 0 0) 0x23) b l

pub kept_answered : (b : Held) (line : List ℕ) → answered b (take 4097 line) ≡ answered b line
kept_answered b line = go (leb (length line) 4097) refl
  where
    go : (c : Bool) → leb (length line) 4097 ≡ c → answered b (take 4097 line) ≡ answered b line
    go true e = ap (answered b) (take_all 4097 line (leb-true (length line) 4097 e))
    go false e =
        let h = leb-false (length line) 4097 e in
        let l : length (take 4097 line) ≡ 4097 = length-take-le 4097 line (omega (arith, h)) in
        long_answered b (take 4097 line) (omega (arith, l))
        ∙ ap (λ (x : ℕ). carried_out (cond (eqb x 0x23) (OnBox Passed) (OnBox Unread)) b []) (get_or-take 4097 line 0 0 (omega arith))
        ∙ sym (long_answered b line (omega (arith, h)))

-- two lines whose first 4,097 bytes are the same are answered alike
pub alike_answered : (b : Held) (l m : List ℕ) → take 4097 l ≡ take 4097 m → answered b l ≡ answered b m
alike_answered b l m e = sym (kept_answered b l) ∙ ap (answered b) e ∙ kept_answered b m
