-- Document 02, §8, "With each goes the place of the first byte of the guilty field; other answers have place 0": by the part that is told and, of a
-- checksum, by the message's length.
use Prim.Native.Nat.{ℕ, ◌-◌, ◌≤◌}
use mathlib.Core.Path.{◌≡◌, refl}
use mathlib.Core.List.{List, [], ◌∷◌}
use native.Mathlib.Omega.{arith}
use lib.ListN.{length, get_or}
use Rattle.terms.specs.Answers.{part_place, number_of, answer_place}
use Rattle.terms.specs.declared.Part.{Part}
use Rattle.terms.specs.declared.Part.TheVariants.{Request, Item, TooLong, NotMatching, Count, Checksum}
use Rattle.terms.specs.declared.Answer.{Answer}
use Rattle.terms.specs.declared.Answer.TheVariants.{Done, AreaTooSmall, NoSuchPanel, WrongLength, NotForUs, EnvelopeWrong, NotUnderstood, BadConfiguration, StatusByBroadcast, PartWrong}
use Rattle.panels.specs.declared.DisplayBox.{DisplayBox}
use Rattle.rs232c_asks.proofs.Envelopes as serialEnvelopes
use Rattle.sdcp_asks.proofs.Envelopes as packetEnvelopes
use Rattle.steps.specs.Messages.{Message, rs232c, kjw, tcp, udp}
use Rattle.steps.specs.Step.{step}
use Rattle.steps.proofs.Parts.{Broken, Told, told}
use Rattle.steps.proofs.Only.{BadLength, only_part}

-- the bytes of a message
abbrev pub bytes_in : Message → List ℕ
bytes_in (rs232c l m area) = m
bytes_in (kjw l m area) = m
bytes_in (tcp l m area) = m
bytes_in (udp m) = m

-- the places of the answers 0 to 14 to a message of so many bytes
abbrev pub places_in : ℕ → List ℕ
places_in n = 0 ∷ 0 ∷ 0 ∷ 0 ∷ 0 ∷ 0 ∷ 0 ∷ 0 ∷ 0 ∷ 8 ∷ 9 ∷ 11 ∷ 11 ∷ 1 ∷ (n - 1) ∷ []

-- a checksum that is told is the last byte
sum_place : (x : Message) (place : ℕ) → Broken x (Checksum place) → place ≡ length (bytes_in x) - 1
sum_place (rs232c l m area) place w = w.2
sum_place (kjw l m area) place w = absurd w
sum_place (tcp l m area) place w = absurd w
sum_place (udp m) place w = absurd w

places : (x : Message) (a : Answer) → Told x a → answer_place a ≡ get_or (places_in (length (bytes_in x))) (number_of a) 0
places x Done t = refl
places x AreaTooSmall t = refl
places x NoSuchPanel t = refl
places x WrongLength t = refl
places x NotForUs t = refl
places x EnvelopeWrong t = refl
places x NotUnderstood t = refl
places x BadConfiguration t = refl
places x StatusByBroadcast t = refl
places x (PartWrong Request) t = refl
places x (PartWrong Item) t = refl
places x (PartWrong TooLong) t = refl
places x (PartWrong NotMatching) t = refl
places x (PartWrong Count) t = refl
places x (PartWrong (Checksum place)) t = sum_place x place t

-- of every box and every message: number and length fix the place
pub placed : (b : DisplayBox) (x : Message) → answer_place (step b x).answer ≡ get_or (places_in (length (bytes_in x))) (number_of (step b x).answer) 0
placed b x = places x (step b x).answer (told b x)

-- ---- and it lies in the message

-- the parts of a packet of 13 bytes or more, and those of a frame of 6 or more
packet_inside : (m : List ℕ) (p : Part) → 13 ≤ length m → packetEnvelopes.FirstWrong m p → part_place p ≤ length m - 1
packet_inside m Request h w = omega (arith, h)
packet_inside m Item h w = omega (arith, h)
packet_inside m TooLong h w = omega (arith, h)
packet_inside m NotMatching h w = omega (arith, h)
packet_inside m Count h w = absurd w
packet_inside m (Checksum place) h w = absurd w

serial_inside : (m : List ℕ) (p : Part) → 6 ≤ length m → serialEnvelopes.FirstWrong m p → part_place p ≤ length m - 1
serial_inside m Request h w = absurd w
serial_inside m Item h w = absurd w
serial_inside m TooLong h w = absurd w
serial_inside m NotMatching h w = absurd w
serial_inside m Count h w = omega (arith, h)
serial_inside m (Checksum place) h w = let e = w.2 in omega (arith, e)

part_inside : (x : Message) (p : Part) → (BadLength x → ⊥) → Broken x p → part_place p ≤ length (bytes_in x) - 1
part_inside (rs232c l m area) p n w = serial_inside m p (omega (arith, n)) w
part_inside (kjw l m area) p n w = absurd w
part_inside (tcp l m area) p n w = packet_inside m p (omega (arith, n)) w
part_inside (udp m) p n w = packet_inside m p (omega (arith, n)) w

pub inside : (b : DisplayBox) (x : Message) → answer_place (step b x).answer ≤ length (bytes_in x) - 1
inside b x = go (step b x).answer refl
  where
    go : (a : Answer) → (step b x).answer ≡ a → answer_place a ≤ length (bytes_in x) - 1
    go Done e = omega arith
    go AreaTooSmall e = omega arith
    go NoSuchPanel e = omega arith
    go WrongLength e = omega arith
    go NotForUs e = omega arith
    go EnvelopeWrong e = omega arith
    go NotUnderstood e = omega arith
    go BadConfiguration e = omega arith
    go StatusByBroadcast e = omega arith
    go (PartWrong p) e = let o = only_part b x p e in part_inside x p o.1 o.3
