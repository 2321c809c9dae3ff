-- Each promise at the door allows one outcome, the area afterwards and the place behind the text: all are the one promise `Puts`.
use mathlib.Core.Path.{◌≡◌}
use mathlib.Core.List.{List}
use Prim.Native.Nat.{ℕ}
use lib.IntN.{ℤ}
use Rattle.decimals.specs.Plain.{plain}
use Rattle.script_text.specs.Puts.{Puts}
use Rattle.script_text.specs.Texts.{number_text, bytes_text, signed_text, placed_text, reply_text}
use Rattle.script_text.proofs.Puts.{puts_one}

pub put_one : (text d : List ℕ) (n : ℕ) (e e' : List ℕ) (r r' : ℕ) → Puts text d n e r → Puts text d n e' r' → (e ≡ e') × (r ≡ r')
put_one text d n e e' r r' p q = puts_one p q

pub put_number_text_one : (word : List ℕ) (v : ℕ) (d : List ℕ) (n : ℕ) (e e' : List ℕ) (r r' : ℕ) → Puts (number_text word v) d n e r → Puts (number_text word v) d n e' r' → (e ≡ e') × (r ≡ r')
put_number_text_one word v = put_one (number_text word v)

pub put_bytes_text_one : (word bytes d : List ℕ) (n : ℕ) (e e' : List ℕ) (r r' : ℕ) → Puts (bytes_text word bytes) d n e r → Puts (bytes_text word bytes) d n e' r' → (e ≡ e') × (r ≡ r')
put_bytes_text_one word bytes = put_one (bytes_text word bytes)

pub put_placed_one : (answer place : ℕ) (d : List ℕ) (n : ℕ) (e e' : List ℕ) (r r' : ℕ) → Puts (placed_text answer place) d n e r → Puts (placed_text answer place) d n e' r' → (e ≡ e') × (r ≡ r')
put_placed_one answer place = put_one (placed_text answer place)

pub put_reply_one : (answer place : ℕ) (reply rest d : List ℕ) (n : ℕ) (e e' : List ℕ) (r r' : ℕ) → Puts (reply_text answer place reply rest) d n e r → Puts (reply_text answer place reply rest) d n e' r' → (e ≡ e') × (r ≡ r')
put_reply_one answer place reply rest = put_one (reply_text answer place reply rest)

pub put_signed_one : (z : ℤ) (d : List ℕ) (n : ℕ) (e e' : List ℕ) (r r' : ℕ) → Puts (signed_text z) d n e r → Puts (signed_text z) d n e' r' → (e ≡ e') × (r ≡ r')
put_signed_one z = put_one (signed_text z)

pub put_number_one : (v : ℕ) (d : List ℕ) (n : ℕ) (e e' : List ℕ) (r r' : ℕ) → Puts (plain v) d n e r → Puts (plain v) d n e' r' → (e ≡ e') × (r ≡ r')
put_number_one v = put_one (plain v)
