-- What the theorems of demands 1 and 2 conclude is not too little: what an answer says of a message shuts the other answers out, what is said of a panel
-- fits one panel alone, and what is said to set a name is an order that does. A definition made weaker, or a hypothesis made stronger, is refused here.
use Prim.Native.Nat.{ℕ, suc, ◌+◌, ◌-◌, ◌%◌, ◌<◌}
use mathlib.Core.Path.{◌≡◌, refl, sym, ap, ◌∙◌}
use mathlib.Core.Bool.{Bool, true, false, cond, ◌&&◌}
use mathlib.Core.List.{List, [], ◌∷◌, ◌++◌}
use native.Mathlib.Omega.{arith}
use lib.Dec.{eqb}
use lib.ListN.{length, get_or}
use borrow.Author.Tests.{eqb-true, eq-eqb, ne_eqb, lt-ltb, le-ltb}
use Rattle.laws.proofs.Conditions.{false_true}
use Rattle.laws.specs.Bytes.{ascii}
use Rattle.terms.specs.Answers.{number_of}
use Rattle.terms.specs.declared.Answer.TheVariants.{Done}
use Rattle.terms.specs.declared.Part.{Part}
use Rattle.terms.specs.declared.Part.TheVariants.{Request, Item, TooLong, NotMatching, Count, Checksum}
use Rattle.std.specs.Prelude.{None, Result, Ok, Err, Some}
use Rattle.panels.specs.Valid.{valid}
use Rattle.panels.specs.declared.Panel.{Panel}
use Rattle.panels.specs.declared.KRecord.{KRecord}
use Rattle.panels.specs.declared.DisplayBox.{DisplayBox}
use Rattle.configure.specs.Configure.{asked, refusal, configured}
use Rattle.vmc.specs.Orders as words
use Rattle.trimming.proofs.Trimmed.{ends_bare}
use Rattle.vmc.proofs.AskedBack.{touches, present}
use Rattle.vmc_asks.specs.Asks.{read_data}
use Rattle.vmc_asks.specs.declared.Order.TheVariants.{Get}
use Rattle.vmc_asks.specs.declared.Order as wordOrder
use Rattle.rs232c_asks.specs.Asks as serialAsks
use Rattle.rs232c_asks.proofs.Envelopes as serialEnvelopes
use Rattle.rs232c_asks.specs.declared.Order as serialOrder
use Rattle.rs232c_asks.specs.declared.Order.TheVariants.{Sense}
use Rattle.rs232c_levels.specs.Levels.{Say, put}
use Rattle.rs232c_tells.specs.Texts.{bytes_of}
use Rattle.rs232c_asks.specs.declared.Which.{Which}
use Rattle.rs232c_tells.specs.declared.Reply.TheVariants.{Balances}
use Rattle.rs232c.proofs.AskedBack.{place_at, range_of}
use Rattle.rs232c.specs.Orders as serialOrders
use Rattle.kjw_asks.specs.Asks as frameAsks
use Rattle.kjw_sets.specs.declared.State.{State}
use Rattle.kjw_sets.specs.declared.State.TheVariants as states
use Rattle.kjw_sets.specs.declared.Order as frameOrder
use Rattle.kjw_asks.specs.declared.Fault as frameFault
use Rattle.kjw.specs.Orders as frameOrders
use Rattle.kjw.proofs.Stays as frameStays
use Rattle.sdcp.specs.Replies as packets
use Rattle.sdcp_asks.specs.Asks as packetAsks
use Rattle.sdcp_asks.proofs.Cast.{cast_heard}
use Rattle.sdcp_asks.proofs.Envelopes as packetEnvelopes
use Rattle.sdcp_asks.specs.declared.Fault.TheVariants as packetIs
use Rattle.steps.specs.Messages.{Message, rs232c, kjw, tcp, udp}
use Rattle.steps.specs.Step.{with_w, with_k, back_on, panel_at, step}
use Rattle.steps.specs.Run.{run}
use Rattle.steps.proofs.Door.{Lends, by_rs232c, by_kjw, by_tcp_lem}
use Rattle.steps.proofs.Judged.{serial_unclear, frame_unclear, packet_unclear}
use Rattle.steps.proofs.Notices.{setting_of}
use Rattle.steps.proofs.Obeyed.{Brings, Carried, by_tcp_lem as brought, by_udp}
use Rattle.steps.proofs.Only.{Small, under_512, Missing, link_zero, above_count, other_family, breaks_rules, NoPanel, no_panel, LetIn, on_link_lem, skipped, Whole, Unclear, Clear, BadlyAsked, odd_length, bad_box}
use Rattle.steps.proofs.Parts.{Broken}
use Rattle.steps.proofs.Shapes.{run_from}
use Rattle.steps.proofs.Stays.{orders_it, sets, bears, sets_state, spared}
use Rattle.steps.proofs.Turns.{Reaches}
use Rattle.steps.proofs.AskedBack.{Tells, ToldLater}
use Rattle.steps.proofs.AskedBackSerial.{SensedLater}
use Rattle.steps.proofs.ReadBack.{BringsBack}

-- ---- 1, 2 and neither shut each other out

-- the link and the area of a message are those that it has
abbrev Is : ℕ → List ℕ → Message → Type 0
Is l area (rs232c k m a) = (l ≡ k) × (area ≡ a)
Is l area (kjw k m a) = (l ≡ k) × (area ≡ a)
Is l area (tcp k m a) = (l ≡ k) × (area ≡ a)
Is l area (udp m) = ⊥

is : {l : ℕ} {area : List ℕ} {m : Message} → Lends l area m → Is l area m
is (by_rs232c m) = (refl, refl)
is (by_kjw m) = (refl, refl)
is (by_tcp_lem m) = (refl, refl)

same_lent : {l l' : ℕ} {a a' : List ℕ} (m : Message) → Is l a m → Is l' a' m → (l ≡ l') × (a ≡ a')
same_lent (rs232c k m a) x y = (x.0 ∙ sym y.0, x.1 ∙ sym y.1)
same_lent (kjw k m a) x y = (x.0 ∙ sym y.0, x.1 ∙ sym y.1)
same_lent (tcp k m a) x y = (x.0 ∙ sym y.0, x.1 ∙ sym y.1)
same_lent (udp m) x y = absurd x

pub small_let_in : (b : DisplayBox) (m : Message) → Small m → LetIn b m → ⊥
small_let_in b m (under_512 k h) (on_link_lem k' h' v i f) = let e = same_lent m (is k) (is k') in omega (arith, h, h', ap length e.1)
small_let_in b (udp m) (under_512 k h) skipped = is k

pub small_no_panel : (b : DisplayBox) (m : Message) → Small m → NoPanel b m → ⊥
small_no_panel b m (under_512 k h) (no_panel k' h' x) = let e = same_lent m (is k) (is k') in omega (arith, h, h', ap length e.1)

missing_there : (b : DisplayBox) (family l i : ℕ) → Missing b family l → l ≡ suc i → valid b ≡ true → i < b.count → (panel_at i b).family ≡ family → ⊥
missing_there b family l i link_zero e v h f = omega (arith, e)
missing_there b family l i (above_count n) e v h f = omega (arith, e, n, h)
missing_there b family l i (other_family {i = j} n) e v h f = let q : j ≡ i = omega (arith, e) in n (ap (λ (k : ℕ). (panel_at k b).family) q ∙ f)
missing_there b family l i (breaks_rules n) e v h f = false_true (sym n ∙ v)

pub no_panel_let_in : (b : DisplayBox) (m : Message) → NoPanel b m → LetIn b m → ⊥
no_panel_let_in b m (no_panel {l = l} k h x) (on_link_lem {i = i} k' h' v n f) = missing_there b _ l i x (same_lent m (is k) (is k')).0 v n f
no_panel_let_in b (udp m) (no_panel k h x) skipped = is k

-- ---- 9 to 14: what is said of a part, or of no part, is what the envelope is

abbrev envelope_in : Message → Result (Unit {0}) Part
envelope_in (rs232c l m area) = serialAsks.envelope_of m
envelope_in (kjw l m area) = Ok tt
envelope_in (tcp l m area) = packetAsks.envelope_of m
envelope_in (udp m) = packetAsks.envelope_of m

serial_part : (m : List ℕ) (p : Part) → serialEnvelopes.FirstWrong m p → serialAsks.envelope_of m ≡ Err p
unfolding serialAsks.envelope_of
serial_part m Request w = absurd w
serial_part m Item w = absurd w
serial_part m TooLong w = absurd w
serial_part m NotMatching w = absurd w
serial_part m Count w = rw (ne_eqb (serialAsks.count_of m + 3) (length m) w)
serial_part m (Checksum place) w = rw (eq-eqb (serialAsks.count_of m + 3) (length m) w.0, w.1, w.2)

packet_part : (m : List ℕ) (p : Part) → packetEnvelopes.FirstWrong m p → packetAsks.envelope_of m ≡ Err p
unfolding packetAsks.envelope_of
packet_part m Request w = rw (ne_eqb (packetAsks.request_of m) 0 w)
packet_part m Item w = rw (eq-eqb (packetAsks.request_of m) 0 w.0, ne_eqb (packetAsks.item_of m) 0xb000 w.1)
packet_part m TooLong w = rw (eq-eqb (packetAsks.request_of m) 0 w.0, eq-eqb (packetAsks.item_of m) 0xb000 w.1, lt-ltb 499 (packetAsks.data_length_of m) w.2)
packet_part m NotMatching w = rw (eq-eqb (packetAsks.request_of m) 0 w.0, eq-eqb (packetAsks.item_of m) 0xb000 w.1, le-ltb 499 (packetAsks.data_length_of m) w.2, ne_eqb (packetAsks.data_length_of m) (length m - 13) w.3)
packet_part m Count w = absurd w
packet_part m (Checksum place) w = absurd w

pub part_is : (m : Message) (p : Part) → Broken m p → envelope_in m ≡ Err p
part_is (rs232c l m area) p w = serial_part m p w
part_is (kjw l m area) p w = absurd w
part_is (tcp l m area) p w = packet_part m p w
part_is (udp m) p w = packet_part m p w

packet_whole : (m : List ℕ) → packetEnvelopes.Whole m → packetAsks.envelope_of m ≡ Ok tt
unfolding packetAsks.envelope_of
packet_whole m w = rw (eq-eqb (packetAsks.request_of m) 0 w.0, eq-eqb (packetAsks.item_of m) 0xb000 w.1, le-ltb 499 (packetAsks.data_length_of m) w.2, eq-eqb (packetAsks.data_length_of m) (length m - 13) w.3)

pub whole_is : (m : Message) → Whole m → envelope_in m ≡ Ok tt
unfolding serialAsks.envelope_of
whole_is (rs232c l m area) w = rw (eq-eqb (serialAsks.count_of m + 3) (length m) w.0, w.1)
whole_is (kjw l m area) w = refl
whole_is (tcp l m area) w = packet_whole m w
whole_is (udp m) w = packet_whole m w

-- ---- 6 and 0

pub clear_unclear : (m : Message) → Clear m → Unclear m → ⊥
clear_unclear (rs232c l m area) (s, o, e) (t, f) = false_true (ap serial_unclear (sym e ∙ f))
clear_unclear (kjw l m area) (o, e) f = false_true (ap frame_unclear (sym e ∙ f))
clear_unclear (tcp l m area) (o, e) f = false_true (ap packet_unclear (sym e ∙ f))
clear_unclear (udp m) (o, e) f = false_true (ap packet_unclear (sym e ∙ f))

-- ---- what was carried out: one panel alone is what `accepted_stands` says

pub carried_one : (m : Message) (p p' p'' : Panel) → Carried m p p' → Carried m p p'' → p' ≡ p''
carried_one (rs232c l m area) p p' p'' (s, o, e, q) (t, o', f, r) =
    let z = (serialEnvelopes.same_heard (sym e ∙ f)).1 in
    let y : o ≡ o' = cc in
    q ∙ ap (λ (x : serialOrder.Order). with_w p (serialOrders.carried x (serialAsks.values_of m) p.w)) y ∙ sym r
carried_one (kjw l m area) p p' p'' (o, e, q) (o', f, r) =
    let z : ◌≡◌ {A = Result frameOrder.Order frameFault.Fault} (Ok o) (Ok o') = sym e ∙ f in
    let y : o ≡ o' = cc in
    q ∙ ap (λ (x : frameOrder.Order). with_k p (frameOrders.carried x p.k)) y ∙ sym r
carried_one (tcp l m area) p p' p'' (o, e, q) (o', f, r) =
    let z : ◌≡◌ {A = packetAsks.Heard} (Ok o) (Ok o') = sym e ∙ f in
    let y : o ≡ o' = cc in
    q ∙ ap (λ (x : wordOrder.Order). with_w p (words.carried x p.w)) y ∙ sym r
carried_one (udp m) p p' p'' (o, e, q) (o', f, r) =
    let z : ◌≡◌ {A = packetAsks.Heard} (Ok o) (Ok o') = sym e ∙ f in
    let y : o ≡ o' = cc in
    q ∙ ap (λ (x : wordOrder.Order). with_w p (words.carried x p.w)) y ∙ sym r

-- ---- the box that a configuration and messages lead to

run_on : (ms : List Message) (m : Message) (b : DisplayBox) → run b (ms ++ m ∷ []) ≡ (step (run b ms) m).box
run_on [] m b = refl
run_on (x ∷ ms) m b = run_on ms m (step b x).box

pub from_start : (c : List ℕ) → run_from c [] ≡ (configured c).made
from_start c = refl

pub runs_on : (c : List ℕ) (ms : List Message) (m : Message) → run_from c (ms ++ m ∷ []) ≡ (step (run_from c ms) m).box
runs_on c ms m = run_on ms m (configured c).made

-- ---- what sets is an order that was understood

orders_it_lem : (h : packetAsks.Heard) (j : ℕ) → orders_it h j ≡ true → (o : wordOrder.Order) × (h ≡ Ok o) × (touches o j ≡ true)
orders_it_lem (Err (packetIs.Refused a)) j e = absurd (false_true e)
orders_it_lem (Err (packetIs.Broken p)) j e = absurd (false_true e)
orders_it_lem (Err packetIs.NotUnderstood) j e = absurd (false_true e)
orders_it_lem (Ok o) j e = (o, refl, e)

pub sets_brings : (m : Message) (j : ℕ) → sets m j ≡ true
    → (p : List ℕ) × Brings p m × ((o : wordOrder.Order) × (packetAsks.heard_of p ≡ Ok o) × (touches o j ≡ true))
sets_brings (rs232c l m area) j e = absurd (false_true e)
sets_brings (kjw l m area) j e = absurd (false_true e)
sets_brings (tcp l m area) j e = (m, brought l area, orders_it_lem (packetAsks.heard_of m) j e)
sets_brings (udp m) j e = let t = orders_it_lem (packetAsks.cast_of m) j e in (m, by_udp, (t.0, cast_heard m t.0 t.1, t.2))

pub bears_code : (code : ℕ) (m : Message) → bears code m ≡ true → (l : ℕ) × (x : List ℕ) × (area : List ℕ) × (m ≡ rs232c l x area) × (get_or x 4 0 ≡ code)
bears_code code (rs232c l m area) e = (l, m, area, refl, eqb-true (get_or m 4 0) code e)
bears_code code (kjw l m area) e = absurd (false_true e)
bears_code code (tcp l m area) e = absurd (false_true e)
bears_code code (udp m) e = absurd (false_true e)

pub sets_state_lem : (m : Message) (s : State) → sets_state m s ≡ true
    → (l : ℕ) × (x : List ℕ) × (area : List ℕ) × (m ≡ kjw l x area) × (frameStays.sets_state (frameAsks.heard_of x) s ≡ true)
sets_state_lem (rs232c l m area) s e = absurd (false_true e)
sets_state_lem (kjw l m area) s e = (l, m, area, refl, e)
sets_state_lem (tcp l m area) s e = absurd (false_true e)
sets_state_lem (udp m) s e = absurd (false_true e)

-- ---- the settings that notices tell are all that a K record holds

pub settings_all : (k k' : KRecord) → ((s : State) → setting_of s k ≡ setting_of s k') → k ≡ k'
settings_all k k' e =
    let first : List ℕ → ℕ = λ (l : List ℕ). get_or l 0 0 in
    let power : k.power ≡ k'.power = ap first (e states.Power) in
    let amut : k.amut ≡ k'.amut = ap first (e states.AudioMute) in
    let pmut : k.pmut ≡ k'.pmut = ap first (e states.PictureMute) in
    let volume : k.volume ≡ k'.volume = ap first (e states.Volume) in
    let scene : k.scene ≡ k'.scene = ap first (e states.Scene) in
    let kind : k.kind ≡ k'.kind = ap first (e states.Input) in
    let port : k.port ≡ k'.port = ap (λ (l : List ℕ). get_or l 1 0) (e states.Input) in
    ap (λ (x : ℕ). record { power = x; amut = k.amut; pmut = k.pmut; volume = k.volume; scene = k.scene; kind = k.kind; port = k.port }) power
    ∙ ap (λ (x : ℕ). record { power = k'.power; amut = x; pmut = k.pmut; volume = k.volume; scene = k.scene; kind = k.kind; port = k.port }) amut
    ∙ ap (λ (x : ℕ). record { power = k'.power; amut = k'.amut; pmut = x; volume = k.volume; scene = k.scene; kind = k.kind; port = k.port }) pmut
    ∙ ap (λ (x : ℕ). record { power = k'.power; amut = k'.amut; pmut = k'.pmut; volume = x; scene = k.scene; kind = k.kind; port = k.port }) volume
    ∙ ap (λ (x : ℕ). record { power = k'.power; amut = k'.amut; pmut = k'.pmut; volume = k'.volume; scene = x; kind = k.kind; port = k.port }) scene
    ∙ ap (λ (x : ℕ). record { power = k'.power; amut = k'.amut; pmut = k'.pmut; volume = k'.volume; scene = k'.scene; kind = x; port = k.port }) kind
    ∙ ap (λ (x : ℕ). record { power = k'.power; amut = k'.amut; pmut = k'.pmut; volume = k'.volume; scene = k'.scene; kind = k'.kind; port = x }) port

-- ---- a configuration that asks badly is answered 7

pub badly_asked : (c : List ℕ) → BadlyAsked c → number_of (configured c).answer ≡ 7
unfolding configured
badly_asked c (odd_length n) = rw (ne_eqb (length c % 3) 0 n)
badly_asked c (bad_box v) = rw v (go (eqb (length c % 3) 0))
  where
    go : (t : Bool) → number_of (cond (t && false) (record { answer = Done; made = asked c }) refusal).answer ≡ 7
    go true = refl
    go false = refl

-- ---- what is asked back, in plain equations of the step

pub tells_is : {b : DisplayBox} {l : ℕ} {p area words : List ℕ}
    → Tells b l p area words
    → ((step b (tcp l p area)).answer ≡ Done) × ((step b (tcp l p area)).back ≡ back_on area (packets.packet_of p 0x01 words))
tells_is t = (t.says_done, t.carries)

pub told_later_is : {b : DisplayBox} {i k : ℕ} {said : List ℕ}
    → ToldLater b i k said
    → (ms : List Message) → spared (λ (x : Message). sets x k) i b ms ≡ true
    → (l : ℕ) (p area : List ℕ) → Reaches (run b ms) (tcp l p area) i
    → packetAsks.heard_of p ≡ Ok (Get k)
    → (step (run b ms) (tcp l p area)).back ≡ back_on area (packets.packet_of p 0x01 said)
told_later_is t ms n l p area r e = (t ms n l p area r e).carries

pub brings_back_is : {b : DisplayBox} {i l k : ℕ} {p area said : List ℕ}
    → BringsBack b i l k p area said
    → ((step b (tcp l p area)).back ≡ back_on area (packets.packet_of p 0x01 said)) × (ends_bare said ≡ true)
    × (read_data (ascii "STATset " ++ said) ≡ Some (present k (panel_at i b).w))
    × (words.carried (present k (panel_at i b).w) (panel_at i b).w ≡ (panel_at i b).w)
brings_back_is t = (t.tells.carries, t.ends_bare_holds, t.sets_again, t.leaves)

pub sensed_later_is : {b b' : DisplayBox} {i : ℕ} {said : List Say}
    → SensedLater b b' i said
    → (ms : List Message) → spared (bears 0x40) i b' ms ≡ true
    → (l s : ℕ) (which : Which) (m area : List ℕ) → Reaches b (rs232c l m area) i → Reaches (run b' ms) (rs232c l m area) i
    → serialAsks.heard_of m ≡ serialAsks.understood s (Sense which)
    → (before : List ℕ) × (behind : List ℕ)
    × ((step b (rs232c l m area)).back ≡ back_on area (bytes_of (Balances s which before)))
    × ((step (run b' ms) (rs232c l m area)).back ≡ back_on area (bytes_of (Balances s which behind)))
    × ((k : ℕ) → k < 3
    → get_or behind k 0 ≡ put (λ (v : ℕ). v % range_of which) (get_or said (place_at which k) None) (get_or before k 0))
sensed_later_is t ms n l s which m area r r' e = let x = t ms n l s which m area r r' e in (x.0, x.1, x.2, x.3, x.4.brings)
