-- docs/SCRIPTS.md, "Orders", `piece`: a piece for the receiver of a TCP link, and each packet that it hands out for the box.
use Rattle.std.specs.Prelude.{ℕ, ◌≡◌, List, [], ◌∷◌, ◌++◌, map}
use Rattle.laws.specs.Bytes.{ascii}
use Rattle.panels.specs.declared.DisplayBox.{DisplayBox}
use Rattle.receiver.specs.declared.Receiver.{Receiver}
use Rattle.receiver.specs.Pieces.{fed}
use Rattle.steps.specs.Messages.{Message, tcp}
use Rattle.steps.specs.Step.{step}
use Rattle.steps.specs.Run.{run}
use Rattle.script_words.specs.Words.{number_at, bytes_at}
use Rattle.script_words.specs.Kinds.{most_link, most_area}
use Rattle.script_text.specs.Puts.{Puts}
use Rattle.script_text.specs.Texts.{number_text, bytes_text}
use Rattle.script_answers.specs.Answers.{Effect, filler}
use Rattle.script_messages.specs.Messages.{stepped}
use Rattle.script_receivers.specs.declared.Linked.{Linked}

-- "each packet goes to the box as by `tcp LINK AREA` at once"
abbrev pub packet_message : ℕ → List ℕ → List ℕ → Message
packet_message link area packet = tcp link packet area

-- "for each packet `packet HEX` and the line that `tcp` would write"
unfoldable pub packeted : ℕ → List ℕ → DisplayBox → List ℕ → Effect
packeted link area b packet = record {
  box = (step b (packet_message link area packet)).box;
  text = bytes_text (ascii "packet ") packet ++ (0x0a ∷ []) ++ (stepped (step b (packet_message link area packet))).text;
}

unfoldable pub packets_text : ℕ → List ℕ → DisplayBox → List (List ℕ) → List ℕ
packets_text link area b [] = []
packets_text link area b (packet ∷ packets) = (packeted link area b packet).text ++ packets_text link area (packeted link area b packet).box packets

-- "then `held N`, the bytes that the receiver keeps"
abbrev pub held_text : Receiver → List ℕ
held_text r = number_text (ascii "held ") r.held ++ (0x0a ∷ [])

-- box and receiver after a piece, and the text that it writes
pub record LinkEffect : Type 0 where
  pub box : DisplayBox
  pub receiver : Receiver
  pub text : List ℕ

-- "a piece to the receiver of TCP link LINK (1 to 8), called until a call hands out nothing"
unfoldable pub pieced : ℕ → List ℕ → DisplayBox → Receiver → List ℕ → LinkEffect
pieced link area b r piece = record {
  box = run b (map (packet_message link area) (fed r piece).packets);
  receiver = (fed r piece).after;
  text = packets_text link area b (fed r piece).packets ++ held_text (fed r piece).after;
}

-- "`piece LINK AREA HEX`"
unfoldable pub pieced_by : DisplayBox → Receiver → List ℕ → LinkEffect
pieced_by b r line = pieced (number_at most_link 1 line) (filler (number_at most_area 2 line)) b r (bytes_at 3 line)

-- the promise: box and receiver after the line, and its text at the front of the area, cut off where the area ends
pub record Links (o : LinkEffect) (r : Linked) (area area' : List ℕ) : Type 0 where
  pub box_is : r.after ≡ o.box
  pub receiver_is : r.receiver ≡ o.receiver
  pub text_is : Puts o.text area 0 area' r.len
