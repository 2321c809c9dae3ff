-- What is heard of a packet by UDP is what is heard of it by TCP, but for a question, which is refused behind the envelope: by the cases of what
-- was heard.
use Prim.Native.Nat.{ℕ, ◌<◌, ◌≤◌}
use mathlib.Core.Path.{◌≡◌, refl, ap, ◌∙◌}
use mathlib.Core.Bool.{Bool, true, false}
use mathlib.Core.List.{List}
use native.Mathlib.Omega.{arith}
use lib.ListN.{length, drop_of_length-le}
use borrow.Author.Tests.{le-ltb}
use Rattle.std.specs.Prelude.{Option, Some, None, Ok, Err}
use Rattle.terms.specs.declared.Answer.TheVariants.{StatusByBroadcast}
use Rattle.vmc_asks.specs.Asks.{read_data, asks_status}
use Rattle.vmc_asks.proofs.Ended.{nothing_asked}
use Rattle.vmc_asks.specs.declared.Order.{Order}
use Rattle.sdcp_asks.specs.Asks.{is_ours, envelope_of, data_of, in_words, heard_of, unless_status, cast_of, Heard}
use Rattle.sdcp_asks.specs.declared.Fault.TheVariants.{Refused, Broken, NotUnderstood}

-- where no status is asked for, nothing is refused for it
pub unless_not : (h : Heard) → unless_status false h ≡ h
unless_not (Err (Refused a)) = refl
unless_not (Err (Broken p)) = refl
unless_not (Err NotUnderstood) = refl
unless_not (Ok o) = refl

-- a packet that asks for no status is heard as by TCP
pub cast_plain : (m : List ℕ) → asks_status (data_of m) ≡ false → cast_of m ≡ heard_of m
unfolding cast_of
cast_plain m e = ap (λ (b : Bool). unless_status b (heard_of m)) e ∙ unless_not (heard_of m)

-- a question is refused, whatever its words say
pub status_refused : (x : Option Order) → unless_status true (in_words x) ≡ Err (Refused StatusByBroadcast)
status_refused (Some o) = refl
status_refused None = refl

-- one that passes the envelope and asks for one is refused with 8
pub cast_status : (m : List ℕ) → 13 ≤ length m → is_ours m ≡ true → envelope_of m ≡ Ok tt → asks_status (data_of m) ≡ true → cast_of m ≡ Err (Refused StatusByBroadcast)
unfolding cast_of heard_of
cast_status m h o w e = rw (le-ltb (length m) 13 h, o, w, e) (status_refused (read_data (data_of m)))

-- what is understood by UDP is understood by TCP
pub cast_heard : (m : List ℕ) (o : Order) → cast_of m ≡ Ok o → heard_of m ≡ Ok o
unfolding cast_of
cast_heard m o = go (asks_status (data_of m)) (heard_of m)
  where
    go : (b : Bool) (h : Heard) → unless_status b h ≡ Ok o → h ≡ Ok o
    go b (Err (Refused a)) e = e
    go b (Err (Broken p)) e = e
    go true (Err NotUnderstood) e = absurd (let z : ◌≡◌ {A = ℕ} 0 1 = cc in omega arith)
    go false (Err NotUnderstood) e = e
    go true (Ok o') e = absurd (let z : ◌≡◌ {A = ℕ} 0 1 = cc in omega arith)
    go false (Ok o') e = e

-- fewer than 13 bytes have no data, and ask for nothing
pub short_asks_none : (m : List ℕ) → length m < 13 → asks_status (data_of m) ≡ false
short_asks_none m h = ap asks_status (drop_of_length-le m {i = 13} (omega arith)) ∙ nothing_asked
