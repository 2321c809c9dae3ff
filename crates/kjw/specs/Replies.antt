-- Document 01, "KJW (003)", and document 02, §6: what a message does to a K panel's record, and what is sent back.
use Rattle.std.specs.Prelude.{ℕ, cond, List, Result, Ok, Err}
use Rattle.laws.specs.Bytes.{same}
use Rattle.terms.specs.declared.Answer.TheVariants.{Done}
use Rattle.terms.specs.declared.Answer.TheVariants as answers
use Rattle.turns.specs.Turns.{Turn}
use Rattle.panels.specs.declared.KRecord.{KRecord}
use Rattle.kjw_asks.specs.Frames.{letters_of}
use Rattle.kjw_values.specs.Values.{value_of}
use Rattle.kjw_tells.specs.Texts.{bytes_of}
use Rattle.kjw_sets.specs.declared.State.{State}
use Rattle.kjw_sets.specs.declared.State.TheVariants.{Power, AudioMute, PictureMute, Volume, Input}
use Rattle.kjw_sets.specs.declared.Order.{Order}
use Rattle.kjw_sets.specs.declared.Order.TheVariants.{SetPower, TogglePower, SetAudioMute, ToggleAudioMute, SetPictureMute, TogglePictureMute, SetVolume, Louder, Softer, SetInput, SetScene, Pass, Ask}
use Rattle.kjw_asks.specs.declared.Fault.{Fault}
use Rattle.kjw_asks.specs.declared.Fault.TheVariants.{Refused, NotUnderstood}
use Rattle.kjw_tells.specs.declared.Reply.{Reply}
use Rattle.kjw_tells.specs.declared.Reply.TheVariants.{Silent, Rejected, Accepted, Changed, Value}
use Rattle.kjw.specs.declared.Decided.{Decided}
use Rattle.kjw_asks.specs.Asks.{heard_of}
use Rattle.kjw.specs.Orders.{carried}

-- "if it changed [the state], one N frame with the new value follows"
unfoldable pub noticed : State → KRecord → KRecord → Reply
noticed s before after = cond (same (value_of s before) (value_of s after)) Accepted (Changed s)

-- the reply to an order: POWR, INPT, VOLU, AMUT and PMUT have notices, "TPOW and TPMU [..] (notice names POWR or PMUT)"; of a button
-- "A change is followed by the usual notice with the state's own letters."
unfoldable pub reply_of : Order → KRecord → KRecord → Reply
reply_of (SetPower v) before after = noticed Power before after
reply_of TogglePower before after = noticed Power before after
reply_of (SetAudioMute v) before after = noticed AudioMute before after
reply_of ToggleAudioMute before after = noticed AudioMute before after
reply_of (SetPictureMute v) before after = noticed PictureMute before after
reply_of TogglePictureMute before after = noticed PictureMute before after
reply_of (SetVolume v) before after = noticed Volume before after
reply_of Louder before after = noticed Volume before after
reply_of Softer before after = noticed Volume before after
reply_of (SetInput kind port) before after = noticed Input before after
reply_of (SetScene v) before after = Accepted
reply_of Pass before after = Accepted
reply_of (Ask s) before after = Value s

-- what the panel does with what it heard
unfoldable pub decided : KRecord → Result Order Fault → Decided
decided k (Err (Refused a)) = record { k = k; answer = a; reply = Silent }
decided k (Err NotUnderstood) = record { k = k; answer = answers.NotUnderstood; reply = Rejected }
decided k (Ok o) = record { k = carried o k; answer = Done; reply = reply_of o k (carried o k) }

-- what a message comes to: the panel afterwards, the answer and the reply's bytes
abbrev pub turned : List ℕ → Decided → Turn KRecord
turned l t = record { after = t.k; answer = t.answer; reply = bytes_of t.reply t.k l }

unfoldable pub turn_of : List ℕ → KRecord → Turn KRecord
turn_of m k = turned (letters_of m) (decided k (heard_of m))
