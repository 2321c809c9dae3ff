-- The theorems of demand 2 on one short run: what they ask for is met there, and the very bytes follow. That they conclude enough of every run is in `Exact`.
use Prim.Native.Nat.{ℕ}
use mathlib.Core.Path.{◌≡◌, refl}
use mathlib.Core.Bool.{true}
use mathlib.Core.List.{List, [], ◌∷◌}
use lib.Dec.{lit<}
use lib.ListN.{length, get_or}
use Rattle.std.specs.Prelude.{Some}
use Rattle.laws.specs.Bytes.{ascii}
use Rattle.terms.specs.declared.Answer.TheVariants.{Done}
use Rattle.panels.specs.Records.{family_w, family_k}
use Rattle.panels.specs.declared.DisplayBox.{DisplayBox}
use Rattle.trimming.proofs.Trimmed.{ends_bare}
use Rattle.vmc.specs.Orders.{carried}
use Rattle.vmc_asks.specs.Asks.{read_data}
use Rattle.vmc_asks.specs.declared.Order.TheVariants.{Set}
use Rattle.rs232c_asks.specs.Asks.{sense_command}
use Rattle.rs232c_tells.specs.Texts.{bytes_of}
use Rattle.rs232c_asks.specs.declared.Which.TheVariants.{Gains, Biases}
use Rattle.rs232c_tells.specs.declared.Reply.TheVariants.{Balances}
use Rattle.steps.specs.Messages.{Message, rs232c, kjw, tcp, udp}
use Rattle.steps.specs.Step.{back_on, panel_at, step}
use Rattle.steps.specs.Run.{run}
use Rattle.steps.proofs.Opened.{opened}
use Rattle.steps.proofs.Bench.{lent, packet, line}
use Rattle.steps.proofs.Obeyed.{by_udp}
use Rattle.steps.proofs.Shapes.{run_from}
use Rattle.steps.proofs.AskedBack.{stands_asked}
use Rattle.steps.proofs.AskedBackSerial.{levels_stands_asked}
use Rattle.steps.proofs.ReadBack.{read_back}

-- W 1/1, K
abbrev two : List ℕ
two = family_w ∷ 1 ∷ 1 ∷ family_k ∷ 0 ∷ 0 ∷ []

abbrev room : List ℕ
room = lent 512

abbrev to : ℕ → ℕ → List ℕ → List ℕ
to g u body = packet g u 0x00 0x00 (length body) body

abbrev set : List ℕ
set = to 1 0xff (ascii "STATset VOLUME 40")

abbrev ask : List ℕ
ask = to 0 0 (ascii "STATget VOLUME")

-- R gain 4095 and B bias -1024, and 61h for the gains
abbrev levels : List ℕ
levels = 0x02 ∷ 0x08 ∷ 0x01 ∷ 0x41 ∷ 0x40 ∷ 0x21 ∷ 0xff ∷ 0x0f ∷ 0x00 ∷ 0x04 ∷ 0x43 ∷ []

abbrev sense : List ℕ
sense = 0x02 ∷ 0x04 ∷ 0x01 ∷ 0x41 ∷ 0x61 ∷ 0x01 ∷ 0x58 ∷ []

-- what sets neither: another name, RESET and a flip by SDCP; one that is not understood, one that is broken and one that is foreign; 6Eh, and a KJW control
abbrev others : List Message
others =
    udp (to 1 0xff (ascii "STATset CHROMA 7")) ∷ tcp 1 (to 0 0 (ascii "STATset RESET")) room ∷ tcp 1 (to 1 1 (ascii "STATset FLIPV ON")) room
    ∷ tcp 1 (to 0 0 (ascii "STATset VOLUME 101")) room ∷ tcp 1 (packet 0 0 0x01 0x00 0x11 (ascii "STATset VOLUME 99")) room ∷ tcp 1 (0x04 ∷ to 0 0 (ascii "STATset VOLUME 99")) room
    ∷ rs232c 1 (0x02 ∷ 0x03 ∷ 0x01 ∷ 0x41 ∷ 0x6e ∷ 0x4d ∷ []) room ∷ kjw 2 (line "*SCPOWR0000000000000001") room ∷ []

abbrev sense_biases : List ℕ
sense_biases = 0x02 ∷ 0x04 ∷ 0x01 ∷ 0x41 ∷ 0x61 ∷ 0x02 ∷ 0x57 ∷ []

-- the box after a set by UDP, or after 40h, and the others
abbrev volume_set : DisplayBox
volume_set = run (step (run_from two []) (udp set)).box others

abbrev levels_set : DisplayBox
levels_set = run (step (run_from two []) (rs232c 1 levels room)).box others

pub volume_told : ((step volume_set (tcp 1 ask room)).answer ≡ Done)
    × ((step volume_set (tcp 1 ask room)).back ≡ back_on room (packet 0 0 0x01 0x00 9 (ascii "VOLUME 40")))
unfolding opened
volume_told =
    let x = stands_asked two [] (udp set) 0 set by_udp refl refl 2 40 refl others refl 1 ask room (record { passes = refl; meant = refl }) refl in
    (x.says_done, x.carries)

-- its words end bare, and set the value again, which leaves the record as it is
pub volume_again : ((step volume_set (tcp 1 ask room)).back ≡ back_on room (packet 0 0 0x01 0x00 9 (ascii "VOLUME 40"))) × (ends_bare (ascii "VOLUME 40") ≡ true)
    × (read_data (ascii "STATset VOLUME 40") ≡ Some (Set 2 40)) × (carried (Set 2 40) (panel_at 0 volume_set).w ≡ (panel_at 0 volume_set).w)
unfolding opened
volume_again =
    let x = read_back two (udp set ∷ others) 0 1 2 ask room (record { passes = refl; meant = refl }) refl in
    (x.tells.carries, x.ends_bare_holds, x.sets_again, x.leaves)

-- 61h after the others brings the R gain that was said, and of G and B what the same 61h brings of the box before
pub gain_told : (before : List ℕ) × (t : List ℕ)
    × ((step (run_from two []) (rs232c 1 sense room)).back ≡ back_on room (bytes_of (Balances 0x41 Gains before)))
    × ((step levels_set (rs232c 1 sense room)).back ≡ back_on room (bytes_of (Balances 0x41 Gains t)))
    × (get_or t 0 0 ≡ 4095) × (get_or t 1 0 ≡ get_or before 1 0) × (get_or t 2 0 ≡ get_or before 2 0)
unfolding opened sense_command
gain_told =
    let x = levels_stands_asked two [] 0 0x41 levels room refl 0x21 refl others refl 1 0x41 Gains sense room (record { passes = refl; meant = refl }) (record { passes = refl; meant = refl }) refl in
    (x.0, x.1, x.2, x.3, x.4.brings 0 (lit< tt), x.4.brings 1 (lit< tt), x.4.brings 2 (lit< tt))

-- and the B bias, in its eleven bits
pub bias_told : (t : List ℕ) × ((step levels_set (rs232c 1 sense_biases room)).back ≡ back_on room (bytes_of (Balances 0x41 Biases t))) × (get_or t 2 0 ≡ 1024)
unfolding opened sense_command
bias_told =
    let x = levels_stands_asked two [] 0 0x41 levels room refl 0x21 refl others refl 1 0x41 Biases sense_biases room (record { passes = refl; meant = refl }) (record { passes = refl; meant = refl }) refl in
    (x.1, x.3, x.4.brings 2 (lit< tt))
