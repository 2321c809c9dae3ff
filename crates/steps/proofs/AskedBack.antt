-- What was said to be done is kept: the panel that takes its turn keeps it by its protocol's own theorem, and the next question asks that panel.
use Prim.Native.Nat.{ℕ, ◌+◌, ◌<◌}
use mathlib.Core.Path.{◌≡◌, sym, ap, subst, ◌∙◌}
use mathlib.Core.Bool.{true}
use mathlib.Core.List.{List}
use native.Mathlib.Omega.{arith}
use lib.IntN.{ℤ, pos}
use lib.ListN.{length, get_or}
use lib.Seq.{get_or-set_same}
use Rattle.std.specs.Prelude.{Ok}
use Rattle.terms.specs.declared.Answer.TheVariants.{Done}
use Rattle.settings.specs.Table.{flip_place, place_count}
use Rattle.turns.specs.Turns.{Turn, taken}
use Rattle.panels.specs.declared.Panel.{Panel}
use Rattle.panels.specs.declared.WRecord.{WRecord}
use Rattle.panels.specs.declared.DisplayBox.{DisplayBox}
use Rattle.vmc.specs.Orders.{flip_of, flipped_to, value_at, carried, says_of}
use Rattle.vmc_tells.specs.Texts.{text_of, set_words, move_words}
use Rattle.vmc_asks.specs.declared.Order.{Order}
use Rattle.vmc_asks.specs.declared.Order.TheVariants.{Set, Shift, Reset, Get}
use Rattle.vmc_tells.specs.declared.Says.{Says}
use Rattle.vmc_tells.specs.declared.Says.TheVariants.{Value, Offset}
use Rattle.vmc.proofs.Flip.{is_flip, flip_from, flip_below, own_value, flip_assigned, assigned_at}
use Rattle.vmc.proofs.Validity.{understood_fits}
use Rattle.vmc.proofs.AskedBack.{set_told, others_told, shift_told, reset_told}
use Rattle.sdcp_asks.specs.Asks.{data_of, heard_of}
use Rattle.sdcp.specs.Replies as packets
use Rattle.sdcp.proofs.Cast.{heard_words}
use Rattle.sdcp.specs.declared.Reply.TheVariants.{Ok as OkWith}
use Rattle.steps.specs.Messages.{Message, tcp, names}
use Rattle.steps.specs.Addressing.{addressed}
use Rattle.steps.specs.Step.{turn, back_on, panel_at, step}
use Rattle.steps.specs.Run.{run}
use Rattle.steps.proofs.Stays.{sets, spared, told_lasts}
use Rattle.steps.proofs.Door.{by_tcp_lem as on_link}
use Rattle.steps.proofs.Turns.{Reaches, has_room, done_reaches, goes_back}
use Rattle.steps.proofs.Obeyed.{Brings, told_order, obeyed}
use Rattle.steps.proofs.Shapes.{Shaped, run_from, shaped}

-- a packet by TCP is answered 0, and its OK carries these words
pub record Tells (b : DisplayBox) (l : ℕ) (p area words : List ℕ) : Type 0 where
  pub says_done : (step b (tcp l p area)).answer ≡ Done
  pub carries : (step b (tcp l p area)).back ≡ back_on area (packets.packet_of p 0x01 words)

-- STATget tells what the record of the panel that it comes to holds
pub asked : (b : DisplayBox) (i l k : ℕ) (p area : List ℕ) → Reaches b (tcp l p area) i → heard_of p ≡ Ok (Get k) → Tells b l p area (text_of (says_of (Get k) (panel_at i b).w))
unfolding turn packets.bytes_of
asked b i l k p area r e = record {
  says_done = (goes_back (on_link p) r).answer_is ∙ ap (λ (t : Turn WRecord). t.answer) f;
  carries = (goes_back (on_link p) r).back_is ∙ ap (λ (t : Turn WRecord). back_on area t.reply) f;
}
  where
    f : taken (length area) (packets.turn_of p) (panel_at i b).w ≡ record { after = carried (Get k) (panel_at i b).w; answer = Done; reply = packets.bytes_of p (OkWith (says_of (Get k) (panel_at i b).w)) }
    f = told_order (length area) p (Get k) (panel_at i b).w (has_room (on_link p) r) e

-- a STATget of name k that comes to the panel next, or after any messages of which none that is addressed to it sets that name, brings these words
abbrev pub ToldLater : DisplayBox → ℕ → ℕ → List ℕ → Type 0
ToldLater b i k said =
    (ms : List Message) → spared (λ (x : Message). sets x k) i b ms ≡ true
    → (l : ℕ) (p area : List ℕ) → Reaches (run b ms) (tcp l p area) i → heard_of p ≡ Ok (Get k) → Tells (run b ms) l p area said

-- a packet that was answered 0, and one of the panels that it is addressed to
module _ (b : DisplayBox) (m : Message) (i : ℕ) (p : List ℕ) (c : Brings p m) (d : (step b m).answer ≡ Done) (a : addressed (names b) m i ≡ true) where
  -- the record is that of the order
  record_is : (o : Order) → heard_of p ≡ Ok o → (panel_at i (step b m).box).w ≡ carried o (panel_at i b).w
  record_is o e = ap (λ (x : Panel). x.w) (obeyed p o c e (done_reaches b m i d a))

  set_kept : (k v : ℕ) → heard_of p ≡ Ok (Set k v) → length (panel_at i b).w.settings ≡ place_count → value_at k (panel_at i (step b m).box).w.settings ≡ v
  unfolding carried
  set_kept k v e s =
      let f = understood_fits (data_of p) (Set k v) (heard_words p (Set k v) e) in
      ap (λ (w : WRecord). value_at k w.settings) (record_is (Set k v) e) ∙ assigned_at k v (panel_at i b).w.settings f.0 f.1 s

  flip_kept : (k v : ℕ) → heard_of p ≡ Ok (Set k v) → is_flip k ≡ true → length (panel_at i b).w.settings ≡ place_count → get_or (panel_at i (step b m).box).w.settings flip_place 0 ≡ flipped_to (flip_of k) v (get_or (panel_at i b).w.settings flip_place 0)
  unfolding carried
  flip_kept k v e f s =
      let now = (panel_at i b).w.settings in
      ap (λ (w : WRecord). get_or w.settings flip_place 0) (record_is (Set k v) e) ∙ rw (flip_assigned k v now (flip_from k f) (flip_below k f)) (get_or-set_same now flip_place (flipped_to (flip_of k) v (get_or now flip_place 0)) 0 (omega arith))

  shift_kept : (axis : ℕ) (z : ℤ) → heard_of p ≡ Ok (Shift axis z) → length (panel_at i b).w.shifts ≡ 2 → get_or (panel_at i (step b m).box).w.shifts axis (pos 0) ≡ z
  unfolding carried
  shift_kept axis z e s =
      let h = (understood_fits (data_of p) (Shift axis z) (heard_words p (Shift axis z) e)).0 in
      ap (λ (w : WRecord). get_or w.shifts axis (pos 0)) (record_is (Shift axis z) e) ∙ get_or-set_same (panel_at i b).w.shifts axis z (pos 0) (omega arith)

  -- what an order leaves to be told is told later
  told_later : (o : Order) (k : ℕ) (t : Says) → heard_of p ≡ Ok o → says_of (Get k) (carried o (panel_at i b).w) ≡ t → ToldLater (step b m).box i k (text_of t)
  told_later o k t e q ms n l p' area r f =
      let u = told_lasts k ms (step b m).box i n ∙ ap (says_of (Get k)) (record_is o e) ∙ q in
      subst (λ (x : Says). Tells (run (step b m).box ms) l p' area (text_of x)) u (asked (run (step b m).box ms) i l k p' area r f)

  -- "RESET (both shifts to 0, house)": 0 is told of either
  pub reset_asked : (axis : ℕ) → heard_of p ≡ Ok Reset → axis < 2 → ToldLater (step b m).box i (21 + axis) (move_words (21 + axis) (pos 0))
  unfolding text_of
  reset_asked axis e h = told_later Reset (21 + axis) (Offset (21 + axis) (pos 0)) e (reset_told axis (panel_at i b).w h)

-- the same in every box that a configuration and messages lead to
module _ (c : List ℕ) (before : List Message) (m : Message) (i : ℕ) (p : List ℕ) (br : Brings p m) (d : (step (run_from c before) m).answer ≡ Done) (a : addressed (names (run_from c before)) m i ≡ true) where
  arrays : Shaped (panel_at i (run_from c before)).w
  arrays = shaped c before (done_reaches (run_from c before) m i d a)

  -- a set stands in the record: it is the value behind its name
  pub stands : (k v : ℕ) → heard_of p ≡ Ok (Set k v) → value_at k (panel_at i (step (run_from c before) m).box).w.settings ≡ v
  stands k v e = set_kept (run_from c before) m i p br d a k v e arrays.settings_19

  -- the table's names have it at a place each
  pub own_stands : (k v : ℕ) → heard_of p ≡ Ok (Set k v) → k < flip_place → get_or (panel_at i (step (run_from c before) m).box).w.settings k 0 ≡ v
  own_stands k v e h = sym (own_value k (panel_at i (step (run_from c before) m).box).w.settings h) ∙ stands k v e

  -- and the flip words in the flip: document 02, §4
  pub flip_stands : (k v : ℕ) → heard_of p ≡ Ok (Set k v) → is_flip k ≡ true → get_or (panel_at i (step (run_from c before) m).box).w.settings flip_place 0 ≡ flipped_to (flip_of k) v (get_or (panel_at i (run_from c before)).w.settings flip_place 0)
  flip_stands k v e f = flip_kept (run_from c before) m i p br d a k v e f arrays.settings_19

  -- and is told
  pub stands_asked : (k v : ℕ) → heard_of p ≡ Ok (Set k v) → ToldLater (step (run_from c before) m).box i k (set_words k v)
  unfolding text_of
  stands_asked k v e =
      let told = set_told (data_of p) k v (panel_at i (run_from c before)).w (heard_words p (Set k v) e) arrays.settings_19 in
      told_later (run_from c before) m i p br d a (Set k v) k (Value k v) e told

  -- ON for a flip word ends the other two: they are told OFF
  pub flip_ends : (k j : ℕ) → heard_of p ≡ Ok (Set k 1) → is_flip k ≡ true → is_flip j ≡ true → (j ≡ k → ⊥) → ToldLater (step (run_from c before) m).box i j (set_words j 0)
  unfolding text_of
  flip_ends k j e f g n =
      let told = others_told k j (panel_at i (run_from c before)).w f g n arrays.settings_19 in
      told_later (run_from c before) m i p br d a (Set k 1) j (Value j 0) e told

  -- a shift stands in the record
  pub shift_stands : (axis : ℕ) (z : ℤ) → heard_of p ≡ Ok (Shift axis z) → get_or (panel_at i (step (run_from c before) m).box).w.shifts axis (pos 0) ≡ z
  shift_stands axis z e = shift_kept (run_from c before) m i p br d a axis z e arrays.shifts_2

  -- and is told
  pub shift_stands_asked : (axis : ℕ) (z : ℤ) → heard_of p ≡ Ok (Shift axis z) → ToldLater (step (run_from c before) m).box i (21 + axis) (move_words (21 + axis) z)
  unfolding text_of
  shift_stands_asked axis z e =
      let told = shift_told (data_of p) axis z (panel_at i (run_from c before)).w (heard_words p (Shift axis z) e) arrays.shifts_2 in
      told_later (run_from c before) m i p br d a (Shift axis z) (21 + axis) (Offset (21 + axis) z) e told
