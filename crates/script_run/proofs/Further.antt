-- Byte by byte: what comes in two parts is what comes in one; and of two scripts so far, whose begun lines differ only behind 4,097 bytes, the same comes.
use Prim.Native.Nat.{ℕ, ◌≤◌, ◌<◌}
use mathlib.Core.Path.{◌≡◌, refl, sym, ap, ◌∙◌}
use mathlib.Core.Bool.{Bool, true, false, cond}
use mathlib.Core.List.{List, [], ◌∷◌, ◌++◌, append_assoc}
use native.Mathlib.Omega.{arith}
use native.Mathlib.Numerals.{add-one}
use lib.Dec.{eqb, leb}
use lib.ListN.{length, take, length-append, length-take}
use lib.Seq.{take_all, take_at, take-append-le, take-suc-set, length-take-le}
use borrow.Author.Tests.{leb-true, leb-false}
use Rattle.script.specs.declared.Held.{Held}
use Rattle.script.specs.Answers.{LineEffect}
use Rattle.script_text.specs.Puts.{written, behind, Puts}
use Rattle.script_text.proofs.Puts.{puts_one, puts_byte, puts_outside, puts_length}
use Rattle.script.specs.Answers.{answered}
use Rattle.script_run.specs.Pieces.{SoFar, at_call, byte_more, further, Store, byte_stored, stored}
use Rattle.script_run.proofs.Kept.{alike_answered}

pub further_append : (s : SoFar) (u t : List ℕ) → further s (u ++ t) ≡ further (further s u) t
unfolding further
further_append s [] t = refl
further_append s (x ∷ u) t = further_append (byte_more s x) u t

pub stored_append : (k : Store) (u t : List ℕ) → stored k (u ++ t) ≡ stored (stored k u) t
unfolding stored
stored_append k [] t = refl
stored_append k (x ∷ u) t = stored_append (byte_stored k x) u t

either : {P : Type 0} (m n : ℕ) → (m ≤ n → P) → (n < m → P) → P
either {P} m n f g = go (leb m n) refl
  where
    go : (b : Bool) → leb m n ≡ b → P
    go true e = f (leb-true m n e)
    go false e = g (leb-false m n e)

-- what is cut off behind n bytes may be cut off before more comes
take_front : (n : ℕ) (a c : List ℕ) → take n (a ++ c) ≡ take n (take n a ++ c)
take_front n a c =
    either (length a) n
    (λ h. ap (λ (x : List ℕ). take n (x ++ c)) (sym (take_all n a h)))
    (λ h. take-append-le n a c (omega arith) ∙ sym (take_at (take n a) c n (length-take-le n a (omega arith))))

-- s is as s₀, with a text before it, as far as an answer can tell
pub record Alike (t : List ℕ) (s s₀ : SoFar) : Type 0 where
  pub held_same : s.held ≡ s₀.held
  pub text_joined : s.text ≡ t ++ s₀.text
  pub begun_alike : take 4097 s.begun ≡ take 4097 s₀.begun

alike_byte : (t : List ℕ) (s s₀ : SoFar) (x : ℕ) → Alike t s s₀ → Alike t (byte_more s x) (byte_more s₀ x)
unfolding byte_more
alike_byte t s s₀ x a = go (eqb x 0x0a)
  where
    same : answered s.held s.begun ≡ answered s₀.held s₀.begun
    same = ap (λ (b : Held). answered b s.begun) a.held_same ∙ alike_answered s₀.held s.begun s₀.begun a.begun_alike

    go : (c : Bool) → Alike t
        (cond c (record { held = (answered s.held s.begun).held; text = s.text ++ (answered s.held s.begun).text; begun = [] }) (record { held = s.held; text = s.text; begun = s.begun ++ (x ∷ []) }))
        (cond c (record { held = (answered s₀.held s₀.begun).held; text = s₀.text ++ (answered s₀.held s₀.begun).text; begun = [] }) (record { held = s₀.held; text = s₀.text; begun = s₀.begun ++ (x ∷ []) }))
    go true = record {
      held_same = ap (λ (e : LineEffect). e.held) same;
      text_joined = ap (λ (u : List ℕ). u ++ (answered s.held s.begun).text) a.text_joined ∙ append_assoc t s₀.text (answered s.held s.begun).text ∙ ap (λ (e : LineEffect). t ++ (s₀.text ++ e.text)) same;
      begun_alike = refl;
    }
    go false = record {
      held_same = a.held_same;
      text_joined = a.text_joined;
      begun_alike = take_front 4097 s.begun (x ∷ []) ∙ ap (λ (u : List ℕ). take 4097 (u ++ (x ∷ []))) a.begun_alike ∙ sym (take_front 4097 s₀.begun (x ∷ []));
    }

pub alike_further : (t : List ℕ) (s s₀ : SoFar) (bytes : List ℕ) → Alike t s s₀ → Alike t (further s bytes) (further s₀ bytes)
unfolding further
alike_further t s s₀ [] a = a
alike_further t s s₀ (x ∷ bytes) a = alike_further t (byte_more s x) (byte_more s₀ x) bytes (alike_byte t s s₀ x a)

-- ---- the store holds the front of the begun line

pub record Holds (k : Store) (s : SoFar) : Type 0 where
  pub size : length k.bytes ≡ 4097
  pub front : take k.kept k.bytes ≡ take 4097 s.begun

-- a byte put behind what is kept
front_byte : (n : ℕ) (begun d e : List ℕ) (kept kept' x : ℕ) → length d ≡ n → take kept d ≡ take n begun → Puts (x ∷ []) d kept e kept' → take kept' e ≡ take n (begun ++ (x ∷ []))
front_byte n begun d e kept kept' x l f p = either n kept full room
  where
    cut : take n (begun ++ (x ∷ [])) ≡ take n (take kept d ++ (x ∷ []))
    cut = take_front n begun (x ∷ []) ∙ ap (λ (u : List ℕ). take n (u ++ (x ∷ []))) (sym f)

    full : n ≤ kept → take kept' e ≡ take n (begun ++ (x ∷ []))
    full h =
        let (a, r) = puts_one p (puts_outside (x ∷ []) d kept (omega arith)) in
        let all : take kept d ≡ d = take_all kept d (omega arith) in
        rw (a, r, cut, all) (sym (take_at d (x ∷ []) n l))

    room : kept < n → take kept' e ≡ take n (begun ++ (x ∷ []))
    room h =
        let (a, r) = puts_one p (puts_byte d kept x (omega arith)) in
        let size : length (take kept d) ≡ kept = length-take-le kept d (omega arith) in
        let whole : length (take kept d ++ (x ∷ [])) ≤ n = simp length-append (omega arith) in
        rw (a, r, add-one) (take-suc-set d kept x (omega arith) ∙ sym (cut ∙ take_all n (take kept d ++ (x ∷ [])) whole))

holds_byte : (k : Store) (s : SoFar) (x : ℕ) → Holds k s → Holds (byte_stored k x) (byte_more s x)
unfolding byte_stored byte_more
holds_byte k s x h = go (eqb x 0x0a)
  where
    put : Puts (x ∷ []) k.bytes k.kept (written k.bytes k.kept (x ∷ [])) (behind k.bytes k.kept (x ∷ []))
    put = record { area_is = refl; next_is = refl }

    go : (c : Bool) → Holds
        (cond c (record { bytes = k.bytes; kept = 0 }) (record { bytes = written k.bytes k.kept (x ∷ []); kept = behind k.bytes k.kept (x ∷ []) }))
        (cond c (record { held = (answered s.held s.begun).held; text = s.text ++ (answered s.held s.begun).text; begun = [] }) (record { held = s.held; text = s.text; begun = s.begun ++ (x ∷ []) }))
    go true = record { size = h.size; front = refl }
    go false = record { size = puts_length put ∙ h.size; front = front_byte 4097 s.begun k.bytes _ k.kept _ x h.size h.front put }

pub holds_further : (k : Store) (s : SoFar) (bytes : List ℕ) → Holds k s → Holds (stored k bytes) (further s bytes)
unfolding stored further
holds_further k s [] h = h
holds_further k s (x ∷ bytes) h = holds_further (byte_stored k x) (byte_more s x) bytes (holds_byte k s x h)

-- as much as the front has
pub take_taken : (n : ℕ) (s : List ℕ) → take (length (take n s)) s ≡ take n s
take_taken n s =
    either n (length s)
    (λ h. ap (λ (k : ℕ). take k s) (length-take-le n s h))
    (λ h. let all : take n s ≡ s = take_all n s (omega arith) in rw all (take_all (length s) s (omega arith)))

-- before a call the store holds the begun line itself
pub holds_first : (b : Held) (store : List ℕ) (kept : ℕ) → length store ≡ 4097 → Holds (record { bytes = store; kept = length (take kept store) }) (at_call b store kept)
holds_first b store kept l = record {
  size = l;
  front = take_taken kept store ∙ sym (take_all 4097 (take kept store) (simp length-take (omega arith)));
}
