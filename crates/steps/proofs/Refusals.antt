-- Every answer but 0 leaves the box: the message was refused at the door, or each panel's turn left its panel. Answers 1 to 4 send
-- nothing, by UDP nothing is ever sent, and the first checks are those of the table.
use mathlib.Core.Path.{◌≡◌, refl, sym, ap, ◌∙◌}
use mathlib.Core.Bool.{Bool, true, false}
use mathlib.Core.List.{List, [], ◌∷◌}
use Prim.Native.Nat.{ℕ, zero, suc, ◌-◌, ◌<◌, ◌≤◌}
use lib.Dec.{eqb}
use lib.ListN.{length, get_or}
use lib.Seq.{ext_get_or}
use borrow.Author.Tests.{eq-eqb, lt-ltb, le-ltb}
use Rattle.laws.specs.Runs.{each}
use Rattle.laws.proofs.Conditions.{false_true, choose}
use Rattle.laws.proofs.Runs.{each_at, each_length}
use Rattle.terms.specs.Answers.{number_of}
use Rattle.terms.specs.declared.Answer.{Answer}
use Rattle.terms.specs.declared.Answer.TheVariants.{AreaTooSmall, NoSuchPanel, WrongLength, NotForUs}
use Rattle.panels.specs.Records.{past_end}
use Rattle.panels.specs.Valid.{valid}
use Rattle.panels.specs.declared.Panel.{Panel}
use Rattle.panels.specs.declared.DisplayBox.{DisplayBox}
use Rattle.steps.specs.Messages.{Message, rs232c, kjw, tcp, udp, Name, nobody, names, on_link, is_w}
use Rattle.steps.specs.Addressing.{target, is_called, addressed, any_called}
use Rattle.steps.specs.Step.{to_nobody, door, turn, nothing, back, Outcome, panel_at, own_turn, answer_to, refused, step}
use Rattle.steps.proofs.Sound.{sound}
use Rattle.steps.proofs.Door.{Lends, by_rs232c, by_kjw, by_tcp_lem, no_link, nobody_shut, speaks, nobody_speaks, lent_door, by_door}
use Rattle.steps.proofs.Turns.{own_answer}
use Rattle.steps.proofs.Validity.{bad_names, bad_shut}

-- ---- every answer but 0 leaves the box

-- panels that each stay where they are called all stay
each_left : (called : ℕ → Bool) (f : Panel → Panel) (ps : List Panel) → ((i : ℕ) → called i ≡ true → f (get_or ps i past_end) ≡ get_or ps i past_end) → each called f ps ≡ ps
each_left called f ps e =
    ext_get_or past_end (each called f ps) ps (each_length called f ps)
    (λ i h. each_at called f ps i past_end (rw (each_length called f ps) at h) ∙ choose (λ (p : Panel). p ≡ get_or ps i past_end) (called i) (f (get_or ps i past_end)) (get_or ps i past_end) (λ t. e i t) (λ t. refl))

-- "unchanged" stands beside answers 1 to 6
pub refused_leaves : (b : DisplayBox) (m : Message) → (number_of (step b m).answer ≡ 0 → ⊥) → (step b m).box ≡ b
refused_leaves b m =
    by_door (λ (o : Outcome). (number_of o.answer ≡ 0 → ⊥) → o.box ≡ b) b m
    (λ e z. ap (λ (ps : List Panel). record { count = b.count; panels = ps })
    (each_left (addressed (names b) m) (λ (p : Panel). (turn m p).after) b.panels
    (λ i a. (sound m (panel_at i b)).unmoved (λ q. z (ap number_of (own_answer (names b) b m i a) ∙ q)))))
    (λ e z. refl)

-- ---- what is sent

-- "answering a broadcast" is kept out: by UDP there is no reply, whatever the box
pub udp_quiet : (b : DisplayBox) (m : List ℕ) → (step b (udp m)).back ≡ nothing
udp_quiet b m = by_door (λ (o : Outcome). o.back ≡ nothing) b (udp m) (λ e. refl) (λ e. refl)

own_quiet : (ns : List Name) (b : DisplayBox) (m : Message) → (number_of (answer_to ns b m) ≡ 0 → ⊥) → number_of (answer_to ns b m) < 5 → back m (own_turn ns b m).reply ≡ back m []
own_quiet ns b (rs232c l m area) z k = ap (back (rs232c l m area)) ((sound (rs232c l m area) (panel_at (target ns (rs232c l m area) - 1) b)).quiet z k)
own_quiet ns b (kjw l m area) z k = ap (back (kjw l m area)) ((sound (kjw l m area) (panel_at (target ns (kjw l m area) - 1) b)).quiet z k)
own_quiet ns b (tcp l m area) z k = ap (back (tcp l m area)) ((sound (tcp l m area) (panel_at (target ns (tcp l m area) - 1) b)).quiet z k)
own_quiet ns b (udp m) z k = refl

-- "none" stands as the reply beside answers 1 to 4
pub early_quiet : (b : DisplayBox) (m : Message) → (number_of (step b m).answer ≡ 0 → ⊥) → number_of (step b m).answer < 5 → (step b m).back ≡ back m []
early_quiet b m =
    by_door (λ (o : Outcome). (number_of o.answer ≡ 0 → ⊥) → number_of o.answer < 5 → o.back ≡ back m []) b m
    (λ e. own_quiet (names b) b m) (λ e z k. refl)

-- no reply: "the reply's length is returned (0 when there is none)", and all bytes of the area "keep what they held"
pub none_sent : (l : ℕ) (area : List ℕ) (m : Message) → Lends l area m → back m [] ≡ record { len = 0; area = area }
none_sent l area _ (by_rs232c m) = refl
none_sent l area _ (by_kjw m) = refl
none_sent l area _ (by_tcp_lem m) = refl

-- ---- the first checks

stopped : (b : DisplayBox) (m : Message) (a : Answer) → door (names b) m ≡ a → eqb (number_of a) 0 ≡ false → step b m ≡ refused b m a
unfolding step
stopped b m a d z = rw (d, z)

-- 1: "reply area under 512 bytes": the first check, whatever the box, the link and the bytes
pub too_small : (b : DisplayBox) (l : ℕ) (area : List ℕ) (m : Message) → Lends l area m → length area < 512 → step b m ≡ refused b m AreaTooSmall
too_small b l area m k h = stopped b m AreaTooSmall ((lent_door (names b) k).1 ∙ rw (lt-ltb (length area) 512 h)) refl

-- 2: "no panel with that link number, or it is of the other family"
pub no_such_panel : (b : DisplayBox) (l : ℕ) (area : List ℕ) (m : Message) → Lends l area m → 512 ≤ length area → speaks m (on_link (names b) l) ≡ false → step b m ≡ refused b m NoSuchPanel
no_such_panel b l area m k h s = stopped b m NoSuchPanel ((lent_door (names b) k).1 ∙ rw (le-ltb (length area) 512 h, s)) refl

-- "A box of no panels answers 3 or 4 to UDP, and 2 to other messages once check 1 is passed", and so does one that breaks the rules
pub bad_lent : (b : DisplayBox) (l : ℕ) (area : List ℕ) (m : Message) → valid b ≡ false → Lends l area m → 512 ≤ length area → step b m ≡ refused b m NoSuchPanel
bad_lent b l area m v k h =
    no_such_panel b l area m k h (ap (λ (ns : List Name). speaks m (on_link ns l)) (bad_names b v) ∙ ap (speaks m) (no_link l) ∙ nobody_speaks m)

pub bad_udp : (b : DisplayBox) (m : List ℕ) → valid b ≡ false → step b (udp m) ≡ refused b (udp m) (to_nobody m)
unfolding door
bad_udp b m v = stopped b (udp m) (to_nobody m) (rw (bad_names b v)) (nobody_shut m)

-- nothing goes back from it
pub bad_quiet : (b : DisplayBox) (m : Message) → valid b ≡ false → (step b m).back ≡ back m []
bad_quiet b m v = by_door (λ (o : Outcome). o.back ≡ back m []) b m (λ e. absurd (false_true (sym (bad_shut b m v) ∙ e))) (λ e. refl)

-- "A box holds 1 to 8 panels": a box of none is such a box
pub no_panels : (b : DisplayBox) → b.count ≡ 0 → valid b ≡ false
unfolding valid
no_panels b e = rw e

-- ---- nobody is addressed

-- "Under 13 bytes: 3. [..] or no panel addressed: 4."
pub short_to_nobody : (m : List ℕ) → length m < 13 → to_nobody m ≡ WrongLength
unfolding to_nobody
short_to_nobody m h = rw (lt-ltb (length m) 13 h)

pub long_to_nobody : (m : List ℕ) → 13 ≤ length m → to_nobody m ≡ NotForUs
unfolding to_nobody
long_to_nobody m h = rw (le-ltb (length m) 13 h)

pub none_called : (m : List ℕ) (ns : List Name) → ((i : ℕ) → is_called m (get_or ns i nobody) ≡ false) → any_called m ns ≡ false
none_called m [] n = refl
none_called m (x ∷ ns) n = rw (n 0) (none_called m ns (λ i. n (suc i)))

-- by UDP, where no panel is addressed
pub nobody_udp : (b : DisplayBox) (m : List ℕ) → ((i : ℕ) → addressed (names b) (udp m) i ≡ false) → step b (udp m) ≡ refused b (udp m) (to_nobody m)
unfolding door addressed
nobody_udp b m n = stopped b (udp m) (to_nobody m) (rw (none_called m (names b) n)) (nobody_shut m)

pub no_target : (t : ℕ) → ((i : ℕ) → eqb t (suc i) ≡ false) → eqb t 0 ≡ true
no_target zero n = refl
no_target (suc i) n = absurd (false_true (sym (n i) ∙ eq-eqb (suc i) (suc i) refl))

-- and by TCP, once checks 1 and 2 are passed
pub nobody_tcp : (b : DisplayBox) (l : ℕ) (m area : List ℕ) → 512 ≤ length area → is_w (on_link (names b) l) ≡ true → ((i : ℕ) → addressed (names b) (tcp l m area) i ≡ false) → step b (tcp l m area) ≡ refused b (tcp l m area) (to_nobody m)
unfolding door addressed
nobody_tcp b l m area h w n = stopped b (tcp l m area) (to_nobody m) (rw (le-ltb (length area) 512 h, w, no_target (target (names b) (tcp l m area)) n)) (nobody_shut m)
