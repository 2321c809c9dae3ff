-- A line byte by byte: its bytes are begun, one behind the other, and put into the store, and 0Ah answers it.
use Prim.Native.Nat.{ℕ, suc, ◌+◌, ◌≤◌}
use mathlib.Core.Path.{◌≡◌, refl, sym, ap, ◌∙◌}
use mathlib.Core.Bool.{Bool, true, false, cond}
use mathlib.Core.List.{List, [], ◌∷◌, ◌++◌, append_assoc, append-nil}
use native.Mathlib.Omega.{arith}
use native.Mathlib.Nat.{zero-add, suc-add}
use lib.Dec.{eqb}
use lib.ListN.{length, drop}
use borrow.Author.Tests.{le-leb}
use Rattle.script_words.specs.Words.{before, line_of}
use Rattle.script_text.specs.Puts.{Puts}
use Rattle.script_text.proofs.Puts.{puts_none, puts_then, puts_one}
use Rattle.script_room.specs.Room.{room}
use Rattle.script.specs.Answers.{answered}
use Rattle.script_run.specs.Pieces.{SoFar, byte_more, further, reach, Store, byte_stored, stored}
use Rattle.script_run.proofs.Further.{further_append, stored_append}

-- a line has no 0Ah in it
abbrev pub IsLine : List ℕ → Type 0
IsLine l = line_of l ≡ l

pub first_byte : (x : ℕ) (l : List ℕ) → IsLine (x ∷ l) → (eqb x 0x0a ≡ false) × IsLine l
unfolding before
first_byte x l = go (eqb x 0x0a) refl
  where
    go : (c : Bool) → eqb x 0x0a ≡ c → cond c [] (x ∷ line_of l) ≡ x ∷ l → (eqb x 0x0a ≡ false) × IsLine l
    go true e q = let z : ◌≡◌ {A = ℕ} 0 (suc (length l)) = ap length q in absurd (omega (arith, z))
    go false e q = (e, ap (drop 1) q)

pub line_is : (s : List ℕ) → IsLine (line_of s)
unfolding before
line_is [] = refl
line_is (x ∷ s) = go (eqb x 0x0a) refl (line_is s)
  where
    go : (c : Bool) → eqb x 0x0a ≡ c → IsLine (line_of s) → IsLine (cond c [] (x ∷ line_of s))
    go true e h = refl
    go false e h = rw e (ap (λ (t : List ℕ). x ∷ t) h)

-- the script so far, and bytes of the same line behind it
abbrev pub goes_on : SoFar → List ℕ → SoFar
goes_on s l = record { held = s.held; text = s.text; begun = s.begun ++ l }

pub byte_on : (s : SoFar) (x : ℕ) → eqb x 0x0a ≡ false → byte_more s x ≡ goes_on s (x ∷ [])
unfolding byte_more
byte_on s x e = rw e

pub line_further : (s : SoFar) (l : List ℕ) → IsLine l → further s l ≡ goes_on s l
unfolding further
line_further s [] h = ap (λ (t : List ℕ). record { held = s.held; text = s.text; begun = t }) (sym (append-nil s.begun))
line_further s (x ∷ l) h =
    let (e, i) = first_byte x l h in
    ap (λ (q : SoFar). further q l) (byte_on s x e)
    ∙ line_further (goes_on s (x ∷ [])) l i
    ∙ ap (λ (t : List ℕ). record { held = s.held; text = s.text; begun = t }) (append_assoc s.begun (x ∷ []) l)

byte_stored_lem : (k : Store) (x : ℕ) → eqb x 0x0a ≡ false → Puts (x ∷ []) k.bytes k.kept (byte_stored k x).bytes (byte_stored k x).kept
unfolding byte_stored
byte_stored_lem k x e = rw e (record { area_is = refl; next_is = refl })

pub line_stored : (k : Store) (l : List ℕ) → IsLine l → Puts l k.bytes k.kept (stored k l).bytes (stored k l).kept
unfolding stored
line_stored k [] h = puts_none k.bytes k.kept
line_stored k (x ∷ l) h =
    let (e, i) = first_byte x l h in
    puts_then (byte_stored_lem k x e) (line_stored (byte_stored k x) l i)

-- there is room for one text more, so the bytes of the line are taken
pub line_reach : (size : ℕ) (s : SoFar) (l t : List ℕ) → IsLine l → length s.text + room ≤ size → reach size s (l ++ t) ≡ length l + reach size (goes_on s l) t
unfolding reach
line_reach size s [] t h r =
    ap (λ (u : List ℕ). reach size (record { held = s.held; text = s.text; begun = u }) t) (sym (append-nil s.begun)) ∙ sym (zero-add (reach size (goes_on s []) t))
line_reach size s (x ∷ l) t h r =
    let (e, i) = first_byte x l h in
    rw (le-leb (length s.text + room) size r)
    (ap suc
    (ap (λ (q : SoFar). reach size q (l ++ t)) (byte_on s x e)
    ∙ line_reach size (goes_on s (x ∷ [])) l t i r
    ∙ ap (λ (u : List ℕ). length l + reach size (record { held = s.held; text = s.text; begun = u }) t) (append_assoc s.begun (x ∷ []) l))
    ∙ sym (suc-add (length l) (reach size (goes_on s (x ∷ l)) t)))

-- 0Ah ends the line
abbrev pub ended : SoFar → SoFar
ended s = record { held = (answered s.held s.begun).held; text = s.text ++ (answered s.held s.begun).text; begun = [] }

pub end_byte : (s : SoFar) → byte_more s 0x0a ≡ ended s
unfolding byte_more
end_byte s = refl

pub end_further : (s : SoFar) (l : List ℕ) → IsLine l → further s (l ++ (0x0a ∷ [])) ≡ ended (goes_on s l)
unfolding further
end_further s l h = further_append s l (0x0a ∷ []) ∙ ap (λ (q : SoFar). byte_more q 0x0a) (line_further s l h) ∙ end_byte (goes_on s l)

pub end_stored : (k : Store) (l : List ℕ) {bytes : List ℕ} {kept : ℕ} → IsLine l → Puts l k.bytes k.kept bytes kept → stored k (l ++ (0x0a ∷ [])) ≡ record { bytes = bytes; kept = 0 }
unfolding stored byte_stored
end_stored k l {bytes} {kept} h p =
    stored_append k l (0x0a ∷ [])
    ∙ ap (λ (d : List ℕ). record { bytes = d; kept = 0 }) (puts_one (line_stored k l h) p).0

pub end_reach : (size : ℕ) (s : SoFar) (l t : List ℕ) → IsLine l → length s.text + room ≤ size → reach size s (l ++ (0x0a ∷ t)) ≡ length l + suc (reach size (ended (goes_on s l)) t)
unfolding reach
end_reach size s l t h r =
    line_reach size s l (0x0a ∷ t) h r
    ∙ rw (le-leb (length s.text + room) size r) (ap (λ (q : SoFar). length l + suc (reach size q t)) (end_byte (goes_on s l)))
