-- Document 02, §5: by UDP no question is understood and every set is as by TCP, for words that are understood ask for a status exactly where
-- they are STATget's.
use Prim.Native.Nat.{ℕ}
use mathlib.Core.Path.{◌≡◌, refl, sym, ap, subst, ◌∙◌}
use mathlib.Core.Bool.{Bool, true, false}
use mathlib.Core.List.{List}
use native.Mathlib.Omega.{arith}
use Rattle.std.specs.Prelude.{Option, Some, None, Ok, Err}
use Rattle.panels.specs.Valid.{ok_w}
use Rattle.panels.specs.declared.WRecord.{WRecord}
use Rattle.vmc.specs.Orders.{carried}
use Rattle.vmc.proofs.Questions.{asks_only, question_is}
use Rattle.vmc_asks.specs.Asks.{read_data, asks_status}
use Rattle.vmc_asks.specs.declared.Order.{Order}
use Rattle.vmc_asks.specs.declared.Order.TheVariants.{Set, Shift, Reset, Get}
use Rattle.sdcp_asks.specs.Asks.{in_words, data_of, heard_of, unless_status, cast_of, Heard}
use Rattle.sdcp_asks.specs.declared.Fault.TheVariants.{Refused, Broken, NotUnderstood}
use Rattle.sdcp_asks.proofs.Cast.{cast_plain, cast_heard}
use Rattle.sdcp_asks.proofs.Envelopes.{by_rungs}
use Rattle.sdcp.specs.Replies.{turned, cast_turn_of}
use Rattle.sdcp.proofs.Validity.{turned_valid}

-- what was understood was said in words
abbrev Spoken : Option Order → Heard → Type 0
Spoken x (Err (Refused a)) = Unit {0}
Spoken x (Err (Broken p)) = Unit {0}
Spoken x (Err NotUnderstood) = Unit {0}
Spoken x (Ok o) = x ≡ Some o

spoken : (x : Option Order) → Spoken x (in_words x)
spoken (Some o) = refl
spoken None = tt

-- a packet that is understood has words that are
pub heard_words : (p : List ℕ) (o : Order) → heard_of p ≡ Ok o → read_data (data_of p) ≡ Some o
heard_words p o e = subst (Spoken (read_data (data_of p))) e (by_rungs (Spoken (read_data (data_of p))) p tt tt (λ h q w. tt) (λ h. spoken (read_data (data_of p))))

-- whether such a packet asks for a status is its order's to say
asks_is : (m : List ℕ) (o : Order) → heard_of m ≡ Ok o → asks_status (data_of m) ≡ asks_only o
asks_is m o e = question_is (data_of m) o (heard_words m o e)

-- what is heard of it by UDP
cast_is : (m : List ℕ) (o : Order) → heard_of m ≡ Ok o → cast_of m ≡ unless_status (asks_only o) (Ok o)
unfolding cast_of
cast_is m o e = ap (λ (b : Bool). unless_status b (heard_of m)) (asks_is m o e) ∙ ap (unless_status (asks_only o)) e

-- by UDP no question is understood
pub cast_asks_nothing : (m : List ℕ) (k : ℕ) → cast_of m ≡ Ok (Get k) → ⊥
cast_asks_nothing m k e =
    let r = sym (cast_is m (Get k) (cast_heard m (Get k) e)) ∙ e in
    let z : ◌≡◌ {A = ℕ} 0 1 = cc in
    omega arith

-- and every set is what it is by TCP
pub set_cast : (m : List ℕ) (o : Order) → heard_of m ≡ Ok o → asks_only o ≡ false → cast_of m ≡ Ok o
set_cast m o e n = cast_plain m (asks_is m o e ∙ n) ∙ e

-- so the record after it is the one after its order: a question changes none
pub cast_carries : (m : List ℕ) (o : Order) (w : WRecord) → heard_of m ≡ Ok o → (cast_turn_of m w).after ≡ carried o w
unfolding turned carried
cast_carries m o w e = ap (λ (h : Heard). (turned m h w).after) (cast_is m o e) ∙ go o
  where
    go : (x : Order) → (turned m (unless_status (asks_only x) (Ok x)) w).after ≡ carried x w
    go (Set k v) = refl
    go (Shift axis z) = refl
    go Reset = refl
    go (Get k) = refl

-- a valid record stays valid by UDP too
unless_valid : (m : List ℕ) (asked : Bool) (h : Heard) (w : WRecord) → ok_w w ≡ true → ok_w (turned m h w).after ≡ true → ok_w (turned m (unless_status asked h) w).after ≡ true
unfolding turned
unless_valid m asked (Err (Refused a)) w v k = v
unless_valid m asked (Err (Broken p)) w v k = v
unless_valid m true (Err NotUnderstood) w v k = v
unless_valid m false (Err NotUnderstood) w v k = v
unless_valid m true (Ok o) w v k = v
unless_valid m false (Ok o) w v k = k

pub cast_valid : (m : List ℕ) (w : WRecord) → ok_w w ≡ true → ok_w (cast_turn_of m w).after ≡ true
unfolding cast_of
cast_valid m w v = unless_valid m (asks_status (data_of m)) (heard_of m) w v (turned_valid m w v)
