-- A packet whose string has an end is heard, and answered, as one without: what is read of a packet is its first eleven bytes, whether
-- it is broken, and its words.
use Prim.Native.Nat.{ℕ, ◌<◌, ◌≤◌}
use mathlib.Core.Path.{◌≡◌, refl, sym, ap, ◌∙◌}
use mathlib.Core.Bool.{Bool, true}
use mathlib.Core.List.{List, [], ◌∷◌}
use native.Mathlib.Omega.{arith}
use lib.ListN.{length, get_or, take}
use lib.Seq.{get_or-take, take-take}
use borrow.Author.Tests.{le-ltb}
use Rattle.std.specs.Prelude.{Ok, Err}
use Rattle.laws.specs.Bytes.{same, part}
use Rattle.laws.proofs.Lists.{part_from}
use Rattle.laws.proofs.Texts.{begins_take}
use Rattle.panels.specs.declared.WRecord.{WRecord}
use Rattle.trimming.proofs.Trimmed.{Ended, ends_bare}
use Rattle.vmc_asks.specs.Asks.{asks_status}
use Rattle.vmc_asks.proofs.Ended.{read_ended, question_ended}
use Rattle.sdcp_asks.specs.Asks.{front, is_ours, envelope_of, data_of, heard_of, unless_status, cast_of, Heard}
use Rattle.sdcp_asks.specs.declared.Fault.TheVariants.{Refused, Broken, NotUnderstood}
use Rattle.sdcp.specs.Replies.{packet_of, bytes_of, turned, turn_of, cast_turn_of}
use Rattle.sdcp.specs.declared.Reply.{Reply}
use Rattle.sdcp.specs.declared.Reply.TheVariants.{Silent, Ng, Ok as OkWith}

-- q is the packet p with an end behind its string: the same bytes before the data's length, and both in a good envelope
pub record EndedAs (p q : List ℕ) : Type 0 where
  pub front_same : take 11 q ≡ take 11 p
  pub long : 13 ≤ length p
  pub ended_long : 13 ≤ length q
  pub sound : envelope_of p ≡ Ok tt
  pub ended_sound : envelope_of q ≡ Ok tt
  pub ends_bare_holds : ends_bare (data_of p) ≡ true
  pub ended : Ended (data_of p) (data_of q)

module _ (p q : List ℕ) (e : EndedAs p q) where
  pub first : (n : ℕ) → n ≤ 11 → take n q ≡ take n p
  first n h = sym (take-take n 11 q h) ∙ ap (take n) e.front_same ∙ take-take n 11 p h

  byte : (i : ℕ) → i < 11 → get_or q i 0 ≡ get_or p i 0
  byte i h = sym (get_or-take 11 q i 0 h) ∙ ap (λ (l : List ℕ). get_or l i 0) e.front_same ∙ get_or-take 11 p i 0 h

  ours : is_ours q ≡ is_ours p
  unfolding is_ours
  ours =
      let h = e.long in
      let k = e.ended_long in
      sym (begins_take front q (omega (arith, k))) ∙ ap (same front) (first 6 (omega arith)) ∙ begins_take front p (omega (arith, h))

  pub heard_ended : heard_of q ≡ heard_of p
  unfolding heard_of
  heard_ended = rw (le-ltb (length q) 13 e.ended_long, le-ltb (length p) 13 e.long, ours, e.sound, e.ended_sound, read_ended (data_of p) (data_of q) e.ends_bare_holds e.ended)

  item : (m : List ℕ) → 13 ≤ length m → part 9 2 m ≡ get_or m 9 0 ∷ get_or m 10 0 ∷ []
  item m h = part_from 9 10 1 m (omega arith) refl ∙ ap (λ (l : List ℕ). get_or m 9 0 ∷ l) (part_from 10 11 0 m (omega arith) refl)

  packet_ended : (code : ℕ) (body : List ℕ) → packet_of q code body ≡ packet_of p code body
  unfolding packet_of
  packet_ended code body = rw (item q e.ended_long, item p e.long, byte 9 (omega arith), byte 10 (omega arith), first 8 (omega arith))

  bytes_ended : (r : Reply) → bytes_of q r ≡ bytes_of p r
  unfolding bytes_of
  bytes_ended Silent = refl
  bytes_ended Ng = packet_ended _ _
  bytes_ended (OkWith t) = packet_ended _ _

  heard_so : (x : Heard) (w : WRecord) → turned q x w ≡ turned p x w
  unfolding turned
  heard_so (Err (Refused a)) w = refl
  heard_so (Err (Broken x)) w = rw (bytes_ended Ng)
  heard_so (Err NotUnderstood) w = rw (bytes_ended _)
  heard_so (Ok o) w = rw (bytes_ended _)

  -- what a panel does with it: record, answer and reply
  pub turn_ended : (w : WRecord) → turn_of q w ≡ turn_of p w
  turn_ended w = heard_so (heard_of q) w ∙ ap (λ (x : Heard). turned p x w) heard_ended

  -- and by UDP
  pub cast_ended : cast_of q ≡ cast_of p
  unfolding cast_of
  cast_ended = ap (λ (b : Bool). unless_status b (heard_of q)) (question_ended (data_of p) (data_of q) e.ends_bare_holds e.ended) ∙ ap (unless_status (asks_status (data_of p))) heard_ended

  pub cast_turn_ended : (w : WRecord) → cast_turn_of q w ≡ cast_turn_of p w
  cast_turn_ended w = heard_so (cast_of q) w ∙ ap (λ (x : Heard). turned p x w) cast_ended
