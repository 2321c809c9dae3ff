-- Document 01, "KJW (003)": the bytes that go back.
use Rattle.std.specs.Prelude.{ℕ, cond, List, [], ◌++◌, replicate, ltb}
use Rattle.panels.specs.declared.KRecord.{KRecord}
use Rattle.kjw_asks.specs.Frames.{frame_of, type_answer, type_notice}
use Rattle.kjw_sets.specs.Words.{state_letters}
use Rattle.kjw_tells.specs.declared.Reply.{Reply}
use Rattle.kjw_tells.specs.declared.Reply.TheVariants.{Silent, Rejected, Accepted, Changed, Value}
use Rattle.kjw_values.specs.Values.{value_of}

-- "An accepted control answers sixteen `0`"; with 6 the "KJW answer of sixteen F"
abbrev pub accepted : List ℕ
accepted = replicate 16 0x30

abbrev pub rejected : List ℕ
rejected = replicate 16 0x46

-- the bytes of a reply: "Reply is type A, same letters", and the values are those of the panel afterwards
unfoldable pub bytes_of : Reply → KRecord → List ℕ → List ℕ
bytes_of Silent k l = []
bytes_of Rejected k l = frame_of type_answer l rejected
bytes_of Accepted k l = frame_of type_answer l accepted
bytes_of (Changed s) k l = frame_of type_answer l accepted ++ frame_of type_notice (state_letters s) (value_of s k)
bytes_of (Value s) k l = frame_of type_answer l (value_of s k)

-- a reply goes back whole or not at all: an area with no room for an answer and a notice, "48 bytes in all", is left as it is
unfoldable pub fitting : ℕ → List ℕ → List ℕ
fitting room reply = cond (ltb room 48) [] reply
