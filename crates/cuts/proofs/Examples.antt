-- A stream in two cuttings, computed: noise, an overlong header, and data that looks like a header. The receiver holds the front of the
-- first packet behind noise of its own.
use Prim.Native.Nat.{ℕ}
use mathlib.Core.Path.{◌≡◌, refl}
use mathlib.Core.List.{List, [], ◌∷◌, ◌++◌}
use lib.ListN.{get_or, take, drop}
use Rattle.laws.specs.Bytes.{ascii}
use Rattle.terms.specs.declared.Answer.TheVariants.{Done, NotUnderstood, PartWrong}
use Rattle.terms.specs.declared.Part.TheVariants.{TooLong}
use Rattle.sdcp_asks.specs.Asks.{front}
use Rattle.receiver.specs.declared.Receiver.{Receiver}
use Rattle.receiver.specs.Calls.{holding}
use Rattle.receiver.specs.Pieces.{joined}
use Rattle.receiver.proofs.Pieces.{fed_feeds}
use Rattle.receiver.proofs.Examples.{opened}
use Rattle.steps.specs.Messages.{Message, tcp, udp}
use Rattle.steps.specs.Step.{panel_at}
use Rattle.steps.specs.Run.{run}
use Rattle.steps.proofs.Bench.{box, packet}
use Rattle.steps.proofs.Opened as step
use Rattle.cuts.specs.Exchanges.{Wired, Exchange, CutExchanges}
use Rattle.cuts.specs.Exchanges.CutExchanges.{one, more}
use Rattle.cuts.specs.Events.{Event, message, piece, messages_in, receivers_after}
use Rattle.cuts.proofs.Cutting.{room, gives}

abbrev held : Receiver
held = holding (0x07 ∷ 0x03 ∷ 0x03 ∷ 0x0b ∷ [])

-- to the link's own panel: VOLUME 40, a header with a data length of 500, and six bytes of data that are the front of a packet
abbrev set : List ℕ
set = packet 0 0 0 0 0x11 (ascii "STATset VOLUME 40")

abbrev header : List ℕ
header = packet 0 0 0 0x01 0xf4 []

abbrev like : List ℕ
like = packet 0 0 0 0 6 front

-- what of the first packet is not held yet, noise, and at the end a byte that may begin a packet
abbrev bytes : List ℕ
bytes = drop 2 set ++ (0x55 ∷ header) ++ (0x03 ∷ like) ++ 0x03 ∷ []

-- the same in pieces: one that ends in the first header, an empty one, one that ends in the overlong header, and one in the front that is data
abbrev pieces : List (List ℕ)
pieces = take 5 bytes ∷ [] ∷ take 30 (drop 5 bytes) ∷ take 23 (drop 35 bytes) ∷ drop 58 bytes ∷ []

abbrev seen : List Exchange
seen =
    record { packet = set; answer = Done; reply = packet 0 0 0x01 0 0 [] } ∷
    record { packet = header; answer = PartWrong TooLong; reply = packet 0 0 0x00 0 2 (0xf0 ∷ 0x50 ∷ []) } ∷
    record { packet = like; answer = NotUnderstood; reply = packet 0 0 0x01 0 0 [] } ∷
    []

-- the receiver and the box at the start, and at the end: only the set was carried out
abbrev start : Wired
start = record { receiver = held; box = box }

abbrev end : Wired
end = record { receiver = holding (0x03 ∷ []); box = run box (tcp 1 set room ∷ []) }

pub same_bytes : joined pieces ≡ bytes
same_bytes = refl

pub in_one : CutExchanges 1 start (bytes ∷ []) seen end
unfolding opened step.opened
in_one = one (gives box (fed_feeds held bytes))

pub in_pieces : CutExchanges 1 start pieces seen end
unfolding opened step.opened
in_pieces =
    more (gives _ (fed_feeds _ _)) (more (gives _ (fed_feeds _ _)) (more (gives _ (fed_feeds _ _)) (more (gives _ (fed_feeds _ _)) (one (gives _ (fed_feeds _ _))))))

-- the volume is set
pub set_stands : get_or (panel_at 0 end.box).w.settings 2 0 ≡ 40
unfolding step.opened
set_stands = refl

-- ---- two links, each with a receiver of its own, and a whole message between the pieces of their packets

abbrev call : Message
call = udp (packet 1 0xff 0 0 0x11 (ascii "STATset VOLUME 40"))

abbrev life : List Event
life =
    piece 1 (take 20 set) (λ k. room) ∷ piece 2 (take 5 like) (λ k. room) ∷ message call
    ∷ piece 1 (drop 20 set) (λ k. room) ∷ piece 2 (drop 5 like ++ 0x03 ∷ []) (λ k. room) ∷ []

pub two_links : messages_in (λ k. holding []) life ≡ call ∷ tcp 1 set room ∷ tcp 2 like room ∷ []
unfolding opened
two_links = refl

pub two_receivers : (receivers_after (λ k. holding []) life 1 ≡ holding []) × (receivers_after (λ k. holding []) life 2 ≡ holding (0x03 ∷ []))
unfolding opened
two_receivers = (refl, refl)
