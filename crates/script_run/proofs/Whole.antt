-- A whole script: byte by byte it does what its lines do one after the other, and however it is cut into pieces, calls do the same.
use Prim.Native.Nat.{ℕ}
use mathlib.Core.Path.{◌≡◌, refl, sym, ap, subst, ◌∙◌}
use mathlib.Core.Bool.{Bool, true, false}
use mathlib.Core.List.{List, [], ◌∷◌, ◌++◌, append-nil, append_assoc}
use native.Mathlib.Omega.{arith}
use lib.Dec.{eqb}
use lib.ListN.{length, take, drop}
use lib.Seq.{take_at, take-take}
use borrow.Author.Tests.{eqb-true}
use Rattle.script.specs.declared.Held.{Held}
use Rattle.script_words.specs.Words.{before, line_of, to_first}
use Rattle.script_lines.specs.Orders.{is_passed_over, order_of}
use Rattle.script.specs.Answers.{at_start, LineEffect, on_box}
use Rattle.script_orders.specs.Orders.{ordered}
use Rattle.script.specs.Answers.{carried_out, answered}
use Rattle.script_run.specs.declared.Progress.{Progress}
use Rattle.script_run.specs.Scripts.{lines_of, in_turn, script_done}
use Rattle.script_run.specs.Pieces.{SoFar, at_call, further, Store, Runs}
use Rattle.script_run.specs.Calls.{Calls, none, call, Reached}
use Rattle.script_run.proofs.Further.{further_append, alike_further, Holds, take_taken, holds_further}
use Rattle.script_run.proofs.Lines.{IsLine, first_byte, goes_on, ended, byte_on, end_byte}

-- ---- lines

-- a line that was cut: its first part has no 0Ah, and the rest is in what comes next
line_cut : (a b : List ℕ) → IsLine a → line_of (a ++ b) ≡ a ++ line_of b
unfolding before
line_cut [] b h = refl
line_cut (x ∷ a) b h = let (e, i) = first_byte x a h in rw e (ap (λ (t : List ℕ). x ∷ t) (line_cut a b i))

-- an empty line is passed over
empty_answered : (b : Held) → answered b [] ≡ record { held = b; text = [] }
unfolding answered carried_out on_box ordered order_of is_passed_over
empty_answered b = refl

-- a line in front of its 0Ah, and one that lacks it
lines_end : (l s : List ℕ) → IsLine l → lines_of (l ++ (0x0a ∷ s)) ≡ l ∷ lines_of s
unfolding lines_of
lines_end [] s h = refl
lines_end (x ∷ l) s h = let (e, i) = first_byte x l h in rw e (ap (to_first x) (lines_end l s i))

lines_last : (x : ℕ) (l : List ℕ) → IsLine (x ∷ l) → lines_of (x ∷ l) ≡ (x ∷ l) ∷ []
unfolding lines_of
lines_last x [] h = let (e, i) = first_byte x [] h in rw e
lines_last x (y ∷ l) h = let (e, i) = first_byte x (y ∷ l) h in rw e (ap (to_first x) (lines_last y l i))

none_in_turn : (b : Held) → in_turn b (lines_of []) ≡ record { held = b; text = [] }
unfolding in_turn lines_of
none_in_turn b = refl

last_in_turn : (b : Held) (l : List ℕ) → IsLine l → in_turn b (lines_of l) ≡ answered b l
unfolding in_turn
last_in_turn b [] h = none_in_turn b ∙ sym (empty_answered b)
last_in_turn b (x ∷ l) h = rw (lines_last x l h) (ap (λ (t : List ℕ). record { held = (answered b (x ∷ l)).held; text = t }) (append-nil (answered b (x ∷ l)).text))

-- ---- byte by byte

-- what comes to the script so far are lines: of these the begun one is the first
record Lines (s : SoFar) (lines : List (List ℕ)) (s' : SoFar) : Type 0 where
  pub held_is : s'.held ≡ (in_turn s.held lines).held
  pub text_is : s'.text ≡ s.text ++ (in_turn s.held lines).text

abbrev LinesOf : SoFar → List ℕ → Type 0
LinesOf s script = Lines s (lines_of (s.begun ++ script)) (further s (script ++ (0x0a ∷ [])))

lines_none : (s : SoFar) → IsLine s.begun → LinesOf s []
unfolding further
lines_none s h =
    let e : in_turn s.held (lines_of (s.begun ++ [])) ≡ answered s.held s.begun = ap (λ (l : List ℕ). in_turn s.held (lines_of l)) (append-nil s.begun) ∙ last_in_turn s.held s.begun h in
    record {
      held_is = ap (λ (q : SoFar). q.held) (end_byte s) ∙ ap (λ (f : LineEffect). f.held) (sym e);
      text_is = ap (λ (q : SoFar). q.text) (end_byte s) ∙ ap (λ (f : LineEffect). s.text ++ f.text) (sym e);
    }

lines_ended : (s : SoFar) (script : List ℕ) → IsLine s.begun → LinesOf (ended s) script → LinesOf s (0x0a ∷ script)
unfolding further in_turn
lines_ended s script h r =
    let e = lines_end s.begun script h in
    let on = ap (λ (q : SoFar). further q (script ++ (0x0a ∷ []))) (end_byte s) in
    record {
      held_is = ap (λ (q : SoFar). q.held) on ∙ r.held_is ∙ ap (λ (ls : List (List ℕ)). (in_turn s.held ls).held) (sym e);
      text_is = ap (λ (q : SoFar). q.text) on ∙ r.text_is ∙ append_assoc s.text (answered s.held s.begun).text (in_turn (ended s).held (lines_of script)).text ∙ ap (λ (ls : List (List ℕ)). s.text ++ (in_turn s.held ls).text) (sym e);
    }

lines_begun : (s : SoFar) (x : ℕ) (script : List ℕ) → eqb x 0x0a ≡ false → LinesOf (goes_on s (x ∷ [])) script → LinesOf s (x ∷ script)
unfolding further
lines_begun s x script e r =
    let a = append_assoc s.begun (x ∷ []) script in
    let on = ap (λ (q : SoFar). further q (script ++ (0x0a ∷ []))) (byte_on s x e) in
    record {
      held_is = ap (λ (q : SoFar). q.held) on ∙ r.held_is ∙ ap (λ (l : List ℕ). (in_turn s.held (lines_of l)).held) a;
      text_is = ap (λ (q : SoFar). q.text) on ∙ r.text_is ∙ ap (λ (l : List ℕ). s.text ++ (in_turn s.held (lines_of l)).text) a;
    }

empty_line : IsLine []
unfolding before
empty_line = refl

byte_line : (x : ℕ) → eqb x 0x0a ≡ false → IsLine (x ∷ [])
unfolding before
byte_line x e = rw e

lines_further : (s : SoFar) (script : List ℕ) → IsLine s.begun → LinesOf s script
unfolding before
lines_further s [] h = lines_none s h
lines_further s (x ∷ script) h = go (eqb x 0x0a) refl (λ (q : SoFar) (i : IsLine q.begun). lines_further q script i)
  where
    go : (c : Bool) → eqb x 0x0a ≡ c → ((q : SoFar) → IsLine q.begun → LinesOf q script) → LinesOf s (x ∷ script)
    go true e r = subst (λ (y : ℕ). LinesOf s (y ∷ script)) (sym (eqb-true x 0x0a e)) (lines_ended s script h (r (ended s) refl))
    go false e r = lines_begun s x script e (r (goes_on s (x ∷ [])) (line_cut s.begun (x ∷ []) h ∙ ap (λ (t : List ℕ). s.begun ++ t) (byte_line x e)))

-- ---- calls

abbrev fresh : Held → SoFar
fresh b = record { held = b; text = []; begun = [] }

-- what calls leave is what the bytes that they took do, and their store holds the begun line
record Left (s : SoFar) (b : Held) (store : List ℕ) (kept : ℕ) (text : List ℕ) : Type 0 where
  pub held_is : b ≡ s.held
  pub text_is : text ≡ s.text
  pub holds : Holds (record { bytes = store; kept = kept }) s

left_call : (s : SoFar) {store text piece area store' area' : List ℕ} {b : Held} {kept : ℕ} {r : Progress}
    → Left s b store kept text → Runs b store kept piece area r store' area' → Left (further s (take r.next piece)) r.held store' r.kept (text ++ take r.len area')
left_call s {store} {text} {piece} {area} {store'} {area'} {b} {kept} {r} h q =
    let u = take r.next piece in
    let front = h.holds.front in
    let begun : take 4097 s.begun ≡ take 4097 (take kept store) = sym (ap (take 4097) front ∙ take-take 4097 4097 s.begun (omega arith)) in
    let alike = alike_further s.text s (at_call b store kept) u (record { held_same = sym h.held_is; text_joined = sym (append-nil s.text); begun_alike = begun }) in
    let t = (further (at_call b store kept) u).text in
    let written : take r.len area' ≡ t = ap (take r.len) q.text_is.area_is ∙ take_at t (drop (length t) area) r.len (sym q.text_is.length_is) in
    record {
      held_is = q.held_is ∙ sym alike.held_same;
      text_is = ap (λ (w : List ℕ). w ++ take r.len area') h.text_is ∙ ap (λ (w : List ℕ). s.text ++ w) written ∙ sym alike.text_joined;
      holds = subst (λ (k : Store). Holds k (further s u)) (sym q.store_is) (holds_further (record { bytes = store; kept = length (take kept store) }) s u (record { size = h.holds.size; front = take_taken kept store ∙ front }));
    }

calls_left : {first b : Held} {bytes store text : List ℕ} {kept : ℕ} → Calls first bytes b store kept text → Left (further (fresh first) bytes) b store kept text
unfolding further
calls_left (none l) = record { held_is = refl; text_is = refl; holds = record { size = l; front = refl } }
calls_left {first} (call {bytes} {store} {text} {piece} {area} {store'} {area'} {b} {kept} {r} c q) =
    subst (λ (s : SoFar). Left s r.held store' r.kept (text ++ take r.len area')) (sym (further_append (fresh first) bytes (take r.next piece))) (left_call (further (fresh first) bytes) (calls_left c) q)

-- a script, and 0Ah behind it: box and text are those of its lines one after the other
pub kept_order : {b : Held} {store text : List ℕ} {kept : ℕ} (script : List ℕ) → Calls at_start (script ++ (0x0a ∷ [])) b store kept text → (b ≡ (script_done script).held) × (text ≡ (script_done script).text)
unfolding script_done
kept_order script c =
    let h = calls_left c in
    let l = lines_further (fresh at_start) script empty_line in
    (h.held_is ∙ l.held_is, h.text_is ∙ l.text_is)

-- however a script is cut into pieces, and whatever room there is
pub cut_same : {first b b' : Held} {bytes store store' text text' : List ℕ} {kept kept' : ℕ} → Calls first bytes b store kept text → Calls first bytes b' store' kept' text' → (b ≡ b') × (text ≡ text')
cut_same c d =
    let h = calls_left c in
    let i = calls_left d in
    (h.held_is ∙ sym i.held_is, h.text_is ∙ sym i.text_is)

-- a script starts, and a call goes on
pub reached_first : {b : Held} {store : List ℕ} → b ≡ at_start → length store ≡ 4097 → Reached [] b store 0
reached_first {b} {store} e l = subst (λ (x : Held). Reached [] x store 0) (sym e) (record { text = []; calls = none l })

pub reached_on : {bytes store piece area store' area' : List ℕ} {b : Held} {kept : ℕ} {r : Progress} → Reached bytes b store kept → Runs b store kept piece area r store' area' → Reached (bytes ++ take r.next piece) r.held store' r.kept
reached_on {area' = area'} {r = r} h q = record { text = h.text ++ take r.len area'; calls = call h.calls q }
