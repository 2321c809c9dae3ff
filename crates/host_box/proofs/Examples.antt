-- A host's calls, by computation: the messages that they hand in, what those for one panel got, and what they leave.
use Prim.Native.Nat.{ℕ}
use mathlib.Core.Path.{◌≡◌, refl}
use mathlib.Core.Bool.{true}
use mathlib.Core.List.{List, [], ◌∷◌, ◌++◌}
use lib.ListN.{length, get_or}
use Rattle.laws.specs.Bytes.{ascii}
use Rattle.panels.specs.Records.{family_w, family_k}
use Rattle.panels.specs.declared.DisplayBox.{DisplayBox}
use Rattle.configure.specs.Configure.{configured}
use Rattle.steps.specs.Messages.{rs232c, kjw, tcp, udp}
use Rattle.steps.specs.Step.{panel_at}
use Rattle.steps.proofs.Opened.{opened}
use Rattle.steps.proofs.Bench.{lent, packet, line}
use Rattle.host_box.specs.Called.{way_of, called}
use Rattle.host_box.specs.Life.{Call, life, messages_of, with_area, without_area, gots}

-- W 1/1, W 1/2, K
abbrev start : DisplayBox
start = (configured (family_w ∷ 1 ∷ 1 ∷ family_w ∷ 1 ∷ 2 ∷ family_k ∷ 0 ∷ 0 ∷ [])).made

abbrev room : List ℕ
room = lent 512

abbrev to : ℕ → ℕ → List ℕ → List ℕ
to g u body = packet g u 0x00 0x00 (length body) body

abbrev by : ℕ → ℕ → List ℕ → List ℕ → Call
by way link m area = record { way = way; link = link; message = m; area = area }

-- group 1 is called, panel 2 is asked by its pair, a number that is no way in, panel 1 is set, a packet for panel 2 with a wrong request, panel 3 is
-- turned on, and panel 2 is asked on its RS-232C port
abbrev calls : List Call
calls =
    by 4 7 (to 1 0xff (ascii "STATset VOLUME 40")) (0x09 ∷ []) ∷ by 3 1 (to 1 2 (ascii "STATget VOLUME")) room ∷ by 5 2 (to 1 2 (ascii "STATset VOLUME 7")) room
    ∷ by 3 2 (to 1 1 (ascii "STATset VOLUME 99")) room ∷ by 3 2 (packet 0 0 0x01 0x00 0x00 []) room ∷ by 2 3 (line "*SCPOWR0000000000000001") room
    ∷ by 1 2 (0x02 ∷ 0x03 ∷ 0x01 ∷ 0x41 ∷ 0x6e ∷ 0x4d ∷ []) room ∷ []

pub handed_in : messages_of calls ≡
    udp (to 1 0xff (ascii "STATset VOLUME 40")) ∷ tcp 1 (to 1 2 (ascii "STATget VOLUME")) room ∷ tcp 2 (to 1 1 (ascii "STATset VOLUME 99")) room
    ∷ tcp 2 (packet 0 0 0x01 0x00 0x00 []) room ∷ kjw 3 (line "*SCPOWR0000000000000001") room ∷ rs232c 2 (0x02 ∷ 0x03 ∷ 0x01 ∷ 0x41 ∷ 0x6e ∷ 0x4d ∷ []) room ∷ []
unfolding way_of
handed_in = refl

-- panel 2: nothing by UDP, "VOLUME 40", 9 at place 8 with NG, and REMOTE ON
pub got_by_2 : gots 1 start calls ≡
    without_area 0 0 0 true ∷ with_area 0 0 22 (packet 1 2 0x01 0x00 9 (ascii "VOLUME 40") ++ lent 490) ∷ with_area 9 8 15 (packet 0 0 0x00 0x00 2 (0xf0 ∷ 0x50 ∷ []) ++ lent 497)
    ∷ with_area 0 0 7 (0x02 ∷ 0x04 ∷ 0x41 ∷ 0x01 ∷ 0x7e ∷ 0x01 ∷ 0x3b ∷ lent 505) ∷ []
unfolding opened called way_of
got_by_2 = refl

-- panel 3: its answer and its notice
pub got_by_3 : gots 2 start calls ≡ with_area 0 0 48 (line "*SAPOWR0000000000000000" ++ line "*SNPOWR0000000000000001" ++ lent 464) ∷ []
unfolding opened called way_of
got_by_3 = refl

-- the volumes of panels 1 and 2, and panel 3's power
pub left_by : (get_or (panel_at 0 (life start calls)).w.settings 2 0 ≡ 99)
    × (get_or (panel_at 1 (life start calls)).w.settings 2 0 ≡ 40)
    × ((panel_at 2 (life start calls)).k.power ≡ 1)
unfolding opened called way_of
left_by = (refl, refl, refl)
