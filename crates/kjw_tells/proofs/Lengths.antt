-- The lengths of the frame, of its fixed parts and of a reply, by computation.
use mathlib.Core.Path.{◌≡◌, refl, ◌∙◌}
use mathlib.Core.List.{List}
use Prim.Native.Nat.{ℕ, ◌≤◌}
use native.Mathlib.Omega.{arith}
use lib.ListN.{length, length-append}
use borrow.Author.Tests.{le-ltb}
use Rattle.panels.specs.declared.KRecord.{KRecord}
use Rattle.kjw_asks.specs.Frames.{frame_of, type_answer, type_notice}
use Rattle.kjw_sets.specs.Words.{state_letters}
use Rattle.kjw_tells.specs.Texts.{accepted, rejected, bytes_of, fitting}
use Rattle.kjw_values.specs.Values.{value_of}
use Rattle.kjw_tells.specs.declared.Reply.{Reply}
use Rattle.kjw_tells.specs.declared.Reply.TheVariants.{Silent, Rejected, Accepted, Changed, Value}
use Rattle.kjw_sets.specs.declared.State.{State}
use Rattle.kjw_sets.specs.declared.State.TheVariants.{Power, AudioMute, PictureMute, Volume, Input, Scene}
use Rattle.kjw_values.proofs.Lengths.{value_length}

pub frame_length : (t : ℕ) (l p : List ℕ) → length l ≡ 4 → length p ≡ 16 → length (frame_of t l p) ≡ 24
unfolding frame_of
frame_length t l p e f = simp length-append (omega arith)

pub name_length : (s : State) → length (state_letters s) ≡ 4
unfolding state_letters
name_length Power = refl
name_length AudioMute = refl
name_length PictureMute = refl
name_length Volume = refl
name_length Input = refl
name_length Scene = refl

-- how many bytes a reply has
abbrev pub length_of : Reply → ℕ
length_of Silent = 0
length_of Rejected = 24
length_of Accepted = 24
length_of (Changed s) = 48
length_of (Value s) = 24

pub bytes_length : (r : Reply) (k : KRecord) (l : List ℕ) → length l ≡ 4 → length (bytes_of r k l) ≡ length_of r
unfolding bytes_of
bytes_length Silent k l e = refl
bytes_length Rejected k l e = frame_length type_answer l rejected e refl
bytes_length Accepted k l e = frame_length type_answer l accepted e refl
bytes_length (Changed s) k l e =
    length-append (frame_of type_answer l accepted) (frame_of type_notice (state_letters s) (value_of s k))
    ∙ rw (frame_length type_answer l accepted e refl, frame_length type_notice (state_letters s) (value_of s k) (name_length s) (value_length s k))
bytes_length (Value s) k l e = frame_length type_answer l (value_of s k) e (value_length s k)

-- where there is room for an answer and a notice, every reply goes back
pub fits : (room : ℕ) (reply : List ℕ) → 48 ≤ room → fitting room reply ≡ reply
unfolding fitting
fits room reply h = rw (le-ltb room 48 h)
