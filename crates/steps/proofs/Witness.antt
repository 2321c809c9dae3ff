-- Demand 3 is not empty: two runs of one box, of different lengths and with different ends, that keep the same messages for panel 2, a W panel,
-- and two that do for panel 3, a K panel; by computation.
use Prim.Native.Nat.{ℕ}
use mathlib.Core.Path.{◌≡◌, refl, sym, ap, ◌∙◌}
use mathlib.Core.Bool.{true, false}
use mathlib.Core.List.{List, [], ◌∷◌, ◌++◌}
use native.Mathlib.Omega.{arith}
use lib.Dec.{lit<}
use lib.ListN.{length, get_or}
use Rattle.laws.specs.Bytes.{ascii}
use Rattle.terms.specs.declared.Answer.TheVariants.{Done}
use Rattle.panels.specs.Records.{family_w, family_k, start_k}
use Rattle.configure.specs.Configure.{configured}
use Rattle.panels.specs.declared.Panel.{Panel}
use Rattle.panels.specs.declared.DisplayBox.{DisplayBox}
use Rattle.kjw.specs.Orders.{with_power, with_volume}
use Rattle.steps.specs.Messages.{Message, rs232c, kjw, tcp, udp, names}
use Rattle.steps.specs.Step.{Back, back_on, nothing, panel_at}
use Rattle.steps.specs.Run.{Got, run, kept, replies}
use Rattle.steps.proofs.Opened.{opened}
use Rattle.steps.proofs.Bench.{lent, packet, line}
use Rattle.steps.proofs.Alone.{demand_3_configured}
use Rattle.kjw_sets.specs.declared.State.TheVariants.{Volume}
use Rattle.steps.proofs.Stays.{sets, bears, sets_state, spared}

-- W 1/1, W 1/2, K, W 2/1, W 2/2, K, W 3/1, W 1/3
abbrev eight : List ℕ
eight = family_w ∷ 1 ∷ 1 ∷ family_w ∷ 1 ∷ 2 ∷ family_k ∷ 0 ∷ 0 ∷ family_w ∷ 2 ∷ 1 ∷ family_w ∷ 2 ∷ 2 ∷ family_k ∷ 0 ∷ 0 ∷ family_w ∷ 3 ∷ 1 ∷ family_w ∷ 1 ∷ 3 ∷ []

abbrev start : DisplayBox
start = (configured eight).made

abbrev room : List ℕ
room = lent 512

-- a packet for a group and a unit
abbrev to : ℕ → ℕ → List ℕ → List ℕ
to g u body = packet g u 0x00 0x00 (length body) body

-- panel 2 is called as group 1, asked by its pair on another link, called with all, and asked on its RS-232C port
abbrev call : Message
call = udp (to 1 0xff (ascii "STATset VOLUME 40"))

abbrev ask : Message
ask = tcp 1 (to 1 2 (ascii "STATget VOLUME")) room

abbrev all : Message
all = udp (to 0xff 0xff (ascii "STATset REMOTE OFF"))

abbrev remote : Message
remote = rs232c 2 (0x02 ∷ 0x03 ∷ 0x01 ∷ 0x41 ∷ 0x6e ∷ 0x4d ∷ []) room

abbrev one : List Message
one = call ∷ tcp 2 (to 1 1 (ascii "STATset VOLUME 99")) room ∷ ask ∷ kjw 3 (line "*SCPOWR0000000000000001") room ∷ all ∷ remote ∷ []

abbrev two : List Message
two = udp (to 2 0xff (ascii "STATset MODE2")) ∷ call ∷ ask ∷ tcp 4 (to 0 0 (ascii "STATset VOLUME 7")) room ∷ all ∷ remote ∷ kjw 6 (line "*SCPOWR0000000000000001") room ∷ []

abbrev told_40 : List ℕ
told_40 = packet 1 2 0x01 0x00 9 (ascii "VOLUME 40")

abbrev told_off : List ℕ
told_off = 0x02 ∷ 0x04 ∷ 0x41 ∷ 0x01 ∷ 0x7e ∷ 0x00 ∷ 0x3c ∷ []

abbrev done : Back → Got
done x = record { answer = Done; back = x }

pub accepted : (configured eight).answer ≡ Done
unfolding opened
accepted = refl

-- what each run keeps for panel 2, at place 1
kept_of : (kept 1 (names start) one ≡ call ∷ ask ∷ all ∷ remote ∷ []) × (kept 1 (names start) two ≡ call ∷ ask ∷ all ∷ remote ∷ [])
unfolding opened
kept_of = (refl, refl)

pub kept_alike : kept 1 (names start) one ≡ kept 1 (names start) two
kept_alike = kept_of.0 ∙ sym kept_of.1

-- the volume of the panel at a place
abbrev volume : ℕ → DisplayBox → ℕ
volume i b = get_or (panel_at i b).w.settings 2 0

-- panel 1's volume at the two ends, and what panel 2 heard: nothing by UDP, "VOLUME 40", and REMOTE OFF
ends : (volume 0 (run start one) ≡ 99) × (volume 0 (run start two) ≡ 40) × (replies 1 start one ≡ done nothing ∷ done (back_on room told_40) ∷ done nothing ∷ done (back_on room told_off) ∷ [])
unfolding opened
ends = (refl, refl, refl)

pub differ : run start one ≡ run start two → ⊥
differ e = let q : ◌≡◌ {A = ℕ} 99 40 = sym ends.0 ∙ ap (volume 0) e ∙ ends.1 in omega arith

-- the second run's replies to panel 2's messages are then the same, by demand 3
pub heard_alike : replies 1 start two ≡ done nothing ∷ done (back_on room told_40) ∷ done nothing ∷ done (back_on room told_off) ∷ []
heard_alike = sym (demand_3_configured eight 1 one two (lit< tt) kept_alike).1 ∙ ends.2

-- ---- panel 3, a K panel

-- turned on, made louder and asked on its own link
abbrev power : Message
power = kjw 3 (line "*SCPOWR0000000000000001") room

abbrev loud : Message
loud = kjw 3 (line "*SCVOLU0000000000000040") room

abbrev how_loud : Message
how_loud = kjw 3 (line "*SEVOLU################") room

abbrev three : List Message
three = power ∷ call ∷ loud ∷ how_loud ∷ []

abbrev four : List Message
four = all ∷ power ∷ kjw 6 (line "*SCVOLU0000000000000007") room ∷ loud ∷ ask ∷ how_loud ∷ remote ∷ []

-- what each run keeps for panel 3, at place 2
k_kept_of : (kept 2 (names start) three ≡ power ∷ loud ∷ how_loud ∷ []) × (kept 2 (names start) four ≡ power ∷ loud ∷ how_loud ∷ [])
unfolding opened
k_kept_of = (refl, refl)

pub k_kept_alike : kept 2 (names start) three ≡ kept 2 (names start) four
k_kept_alike = k_kept_of.0 ∙ sym k_kept_of.1

-- the replies that it sends: an answer with a notice, twice, and the volume
abbrev k_told : List Got
k_told =
    done (back_on room (line "*SAPOWR0000000000000000" ++ line "*SNPOWR0000000000000001"))
    ∷ done (back_on room (line "*SAVOLU0000000000000000" ++ line "*SNVOLU0000000000000040"))
    ∷ done (back_on room (line "*SAVOLU0000000000000040"))
    ∷ []

-- panel 6, the other K panel, at the two ends; and of the first run panel 3's record and its replies
k_ends : ((panel_at 5 (run start three)).k.volume ≡ 0) × ((panel_at 5 (run start four)).k.volume ≡ 7) × ((panel_at 2 (run start three)).k ≡ with_volume 40 (with_power 1 start_k)) × (replies 2 start three ≡ k_told)
unfolding opened
k_ends = (refl, refl, refl, refl)

pub k_differ : run start three ≡ run start four → ⊥
k_differ e = let q : ◌≡◌ {A = ℕ} 0 7 = sym k_ends.0 ∙ ap (λ (b : DisplayBox). (panel_at 5 b).k.volume) e ∙ k_ends.1 in omega arith

-- the second run's record and replies are then the same, by demand 3
pub k_alike : ((panel_at 2 (run start four)).k ≡ with_volume 40 (with_power 1 start_k)) × (replies 2 start four ≡ k_told)
k_alike =
    let same = demand_3_configured eight 2 three four (lit< tt) k_kept_alike in
    (ap (λ (p : Panel). p.k) (sym same.0) ∙ k_ends.2, sym same.1 ∙ k_ends.3)

-- ---- "next or later": what does not set a panel's VOLUME, or its white balance, and what does

abbrev others : List Message
others = udp (to 1 0xff (ascii "STATset CHROMA 7")) ∷ tcp 2 (to 1 1 (ascii "STATset VOLUME 99")) room ∷ kjw 3 (line "*SCVOLU0000000000000040") room ∷ remote ∷ ask ∷ []

pub spares : (spared (λ (m : Message). sets m 2) 1 start others ≡ true)
    × (spared (bears 0x40) 1 start others ≡ true)
    × (spared (λ (m : Message). sets m 2) 1 start (remote ∷ call ∷ []) ≡ false)
unfolding opened
spares = (refl, refl, refl)

pub k_spares : (spared (λ (m : Message). sets_state m Volume) 2 start (power ∷ kjw 6 (line "*SCVOLU0000000000000007") room ∷ all ∷ how_loud ∷ []) ≡ true)
    × (spared (λ (m : Message). sets_state m Volume) 2 start (power ∷ loud ∷ []) ≡ false)
unfolding opened
k_spares = (refl, refl)
