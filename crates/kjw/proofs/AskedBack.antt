-- What was said to be done is kept: after a control that was answered 0 the enquiry answers with the control's own parameters.
use mathlib.Core.Path.{◌≡◌, refl, sym, ap, ◌∙◌}
use mathlib.Core.Bool.{Bool, true, false, cond, ◌&&◌}
use mathlib.Core.List.{List, [], ◌∷◌, ◌++◌}
use Prim.Native.Nat.{ℕ, ◌≤◌}
use native.Mathlib.Omega.{arith}
use lib.ListN.{length, get_or, take}
use lib.Seq.{take_at, get_or-append-add, take-length}
use lib.Dec.{eqb}
use borrow.Author.Tests.{eq-eqb}
use Rattle.std.specs.Prelude.{Option, Some, None, Result, ok_or}
use Rattle.laws.specs.Bytes.{ascii, part}
use Rattle.laws.specs.Lists.{every, listed}
use Rattle.laws.proofs.Lists.{part_join, part_length}
use Rattle.terms.specs.declared.Answer.TheVariants.{Done}
use Rattle.panels.specs.Valid.{ok_input}
use Rattle.panels.specs.declared.KRecord.{KRecord}
use Rattle.decimals.specs.Decimals.{is_digit, decimal, in_digits}
use Rattle.kjw_asks.specs.Frames.{frame_of, type_control, type_enquiry, type_answer, letters_of, blank}
use Rattle.kjw_sets.specs.Words.{state_letters, switches, scenes}
use Rattle.kjw_values.specs.Values.{switch_word, scene_word, input_word, value_of}
use Rattle.kjw_tells.specs.Texts.{bytes_of}
use Rattle.kjw_asks.specs.Asks.{named_in, state_named, toggle_of, code_or_toggle, control_by, control_of, enquiry_of, is_ours, heard_of}
use Rattle.kjw_sets.specs.Sets.{chosen, choice_order, is_volume, is_padded, kind_in, port_in, input_of, volume_order, input_order, set_by}
use Rattle.kjw_asks.proofs.Names.{letters_name}
use Rattle.kjw.specs.Orders.{turned_over, with_power, with_pmut, carried}
use Rattle.kjw.specs.declared.Decided.{Decided}
use Rattle.kjw.specs.Replies.{decided, reply_of, turn_of}
use Rattle.kjw_sets.specs.declared.State.{State}
use Rattle.kjw_sets.specs.declared.State.TheVariants.{Power, AudioMute, PictureMute, Volume, Input, Scene}
use Rattle.kjw_sets.specs.declared.Order.{Order}
use Rattle.kjw_sets.specs.declared.Order.TheVariants.{SetPower, SetAudioMute, SetPictureMute, SetVolume, SetInput, SetScene}
use Rattle.kjw_asks.specs.declared.Fault.{Fault}
use Rattle.kjw_asks.specs.declared.Fault.TheVariants.{NotUnderstood}
use Rattle.decimals.proofs.Decimals.{in_digits_decimal}
use Rattle.kjw_sets.proofs.Parameters.{Chose, volume_digits, Inputs, input_is, sixteen}
use Rattle.kjw_values.proofs.Words.{switch_chosen, scene_chosen}
use Rattle.kjw_tells.proofs.Lengths.{frame_length}
use Rattle.turns.specs.Turns.{Turn, taken}
use Rattle.turns.proofs.Turns.{roomy, done_room}

-- digits that are read are the digits that are written
volume_back : (p : List ℕ) → length p ≡ 16 → is_volume p ≡ true → in_digits 16 (decimal p) ≡ p
volume_back p h e = ap (λ (n : ℕ). in_digits n (decimal p)) (sym h) ∙ in_digits_decimal p (volume_digits p e)

digits_back : (n k : ℕ) (p : List ℕ) → length (part n k p) ≡ k → every is_digit (part n k p) ≡ true → in_digits k (decimal (part n k p)) ≡ part n k p
digits_back n k p h e = ap (λ (x : ℕ). in_digits x (decimal (part n k p))) (sym h) ∙ in_digits_decimal (part n k p) e

input_back : (p : List ℕ) → length p ≡ 16 → Inputs p → input_word (decimal (kind_in p)) (decimal (port_in p)) ≡ p
unfolding input_word
input_back p h i =
    let kind = digits_back 7 1 p (part_length 7 1 p (omega arith)) i.kind in
    let port = digits_back 12 4 p (part_length 12 4 p (omega arith)) i.port in
    let a = part_join 0 7 1 7 p (sym i.front) kind refl in
    let b = part_join 0 8 4 8 p a (sym i.middle) refl in
    let c = part_join 0 12 4 12 p b port refl in
    c ∙ ap (λ (n : ℕ). take n p) (sym h) ∙ take-length p

-- what the panel does with an order, or with none, which is not understood
abbrev pub ordered : KRecord → Option Order → Decided
ordered k o = decided k (ok_or o NotUnderstood)

-- an order that was carried out passed its test
by_test : (b : Bool) (o : Order) (k : KRecord) → (ordered k (cond b (Some o) None)).answer ≡ Done
    → (b ≡ true) × ((ordered k (cond b (Some o) None)).k ≡ carried o k)
unfolding decided
by_test true o k e = (refl, refl)
by_test false o k e = let z : ◌≡◌ {A = ℕ} 0 1 = cc in absurd (omega arith)

by_tests : (a b : Bool) (o : Order) (k : KRecord) → (ordered k (cond a (cond b (Some o) None) None)).answer ≡ Done
    → (a ≡ true) × ((ordered k (cond a (cond b (Some o) None) None)).k ≡ carried o k)
unfolding decided
by_tests true b o k e = (refl, (by_test b o k e).1)
by_tests false b o k e = let z : ◌≡◌ {A = ℕ} 0 1 = cc in absurd (omega arith)

-- a word that was carried out is the word of the number that the state then has
by_word : (s : State) (order : ℕ → Order) (word : ℕ → List ℕ) (below : ℕ) (p : List ℕ) (k : KRecord) (c : Option ℕ)
    → ((v : ℕ) → value_of s (carried (order v) k) ≡ word v) → Chose word below p c → (ordered k (choice_order order c)).answer ≡ Done
    → value_of s (ordered k (choice_order order c)).k ≡ p
unfolding decided
by_word s order word below p k (Some v) w h e = w v ∙ h.1
by_word s order word below p k None w h e = let z : ◌≡◌ {A = ℕ} 0 1 = cc in absurd (omega arith)

-- a control that is carried out sets its state to the value that its parameters write
pub set_value : (s : State) (p : List ℕ) (k : KRecord) → length p ≡ 16 → (ordered k (set_by s p)).answer ≡ Done → value_of s (ordered k (set_by s p)).k ≡ p
unfolding set_by volume_order input_order input_of carried value_of
set_value Power p k h e = by_word Power SetPower switch_word 2 p k (chosen switches p) (λ v. refl) (switch_chosen p) e
set_value AudioMute p k h e = by_word AudioMute SetAudioMute switch_word 2 p k (chosen switches p) (λ v. refl) (switch_chosen p) e
set_value PictureMute p k h e = by_word PictureMute SetPictureMute switch_word 2 p k (chosen switches p) (λ v. refl) (switch_chosen p) e
set_value Volume p k h e =
    let t = by_test (is_volume p) (SetVolume (decimal p)) k e in
    ap (value_of Volume) t.1 ∙ volume_back p h t.0
set_value Input p k h e =
    let t = by_tests (is_padded p && every is_digit (kind_in p) && every is_digit (port_in p)) (ok_input (decimal (kind_in p)) (decimal (port_in p))) (SetInput (decimal (kind_in p)) (decimal (port_in p))) k e in
    ap (value_of Input) t.1 ∙ input_back p h (input_is p t.0)
set_value Scene p k h e = by_word Scene SetScene scene_word 3 p k (chosen scenes p) (λ v. refl) (scene_chosen p) e

-- a control or an enquiry that is well made is heard by its letters and parameters
pub heard_frame : (t a b c d : ℕ) (p : List ℕ) → length p ≡ 16 → listed (type_control ∷ type_enquiry ∷ []) t ≡ true
    → heard_of (frame_of t (a ∷ b ∷ c ∷ d ∷ []) p) ≡ ok_or (cond (eqb t type_control) (control_of (a ∷ b ∷ c ∷ d ∷ []) p) (enquiry_of (a ∷ b ∷ c ∷ d ∷ []) p)) NotUnderstood
unfolding heard_of is_ours letters_of frame_of
heard_frame t a b c d p h k =
    let footer : get_or (p ++ (0x0a ∷ [])) 16 0 ≡ 0x0a = ap (λ (n : ℕ). get_or (p ++ (0x0a ∷ [])) n 0) (omega arith) ∙ get_or-append-add p (0x0a ∷ []) 0 0 in
    rw (eq-eqb (length (frame_of t (a ∷ b ∷ c ∷ d ∷ []) p)) 24 (frame_length t (a ∷ b ∷ c ∷ d ∷ []) p refl h), footer, k, take_at p (0x0a ∷ []) 16 h)

heard_letters : (s : State) (p : List ℕ) → length p ≡ 16 → heard_of (frame_of type_control (state_letters s) p) ≡ ok_or (control_of (state_letters s) p) NotUnderstood
unfolding state_letters
heard_letters Power p h = heard_frame type_control 80 79 87 82 p h refl
heard_letters AudioMute p h = heard_frame type_control 65 77 85 84 p h refl
heard_letters PictureMute p h = heard_frame type_control 80 77 85 84 p h refl
heard_letters Volume p h = heard_frame type_control 86 79 76 85 p h refl
heard_letters Input p h = heard_frame type_control 73 78 80 84 p h refl
heard_letters Scene p h = heard_frame type_control 83 67 69 78 p h refl

heard_control : (s : State) (p : List ℕ) → length p ≡ 16 → heard_of (frame_of type_control (state_letters s) p) ≡ ok_or (set_by s p) NotUnderstood
unfolding control_of
heard_control s p h =
    heard_letters s p h
    ∙ ap (λ (n : Option State). ok_or (control_by n (state_letters s) p) NotUnderstood) (letters_name s)
    ∙ ap (λ (o : Option Order). ok_or o NotUnderstood) (sixteen s p h)

-- an enquiry is answered with the state's value, and changes nothing
pub asked_reply : (s : State) (k : KRecord)
    → (turn_of (frame_of type_enquiry (state_letters s) blank) k).reply ≡ frame_of type_answer (state_letters s) (value_of s k)
unfolding turn_of decided heard_of is_ours letters_of enquiry_of state_named named_in state_letters carried reply_of bytes_of frame_of
asked_reply Power k = refl
asked_reply AudioMute k = refl
asked_reply PictureMute k = refl
asked_reply Volume k = refl
asked_reply Input k = refl
asked_reply Scene k = refl

-- what was said to be done is kept: the enquiry behind a control that was answered 0 brings its parameters back
pub set_then_asked : (s : State) (p : List ℕ) (k : KRecord) → length p ≡ 16 → (turn_of (frame_of type_control (state_letters s) p) k).answer ≡ Done
    → (turn_of (frame_of type_enquiry (state_letters s) blank) (turn_of (frame_of type_control (state_letters s) p) k).after).reply
    ≡ frame_of type_answer (state_letters s) p
unfolding turn_of
set_then_asked s p k h e =
    let q = heard_control s p h in
    let d : (ordered k (set_by s p)).answer ≡ Done = ap (λ (x : Result Order Fault). (decided k x).answer) (sym q) ∙ e in
    let v : value_of s (decided k (heard_of (frame_of type_control (state_letters s) p))).k ≡ p = ap (λ (x : Result Order Fault). value_of s (decided k x).k) q
    ∙ set_value s p k h d in
    asked_reply s (decided k (heard_of (frame_of type_control (state_letters s) p))).k ∙ ap (frame_of type_answer (state_letters s)) v

-- a toggle turns its switch over, whatever the panel
pub toggled_power : (k : KRecord) → (turn_of (frame_of type_control (ascii "TPOW") blank) k).after ≡ with_power (turned_over k.power) k
unfolding turn_of decided heard_of is_ours control_of state_named named_in code_or_toggle toggle_of state_letters letters_of carried frame_of
toggled_power k = refl

pub toggled_picture : (k : KRecord) → (turn_of (frame_of type_control (ascii "TPMU") blank) k).after ≡ with_pmut (turned_over k.pmut) k
unfolding turn_of decided heard_of is_ours control_of state_named named_in code_or_toggle toggle_of state_letters letters_of carried frame_of
toggled_picture k = refl

-- what was said to be done is kept: the enquiry behind a control that was answered 0 brings its parameters back
pub taken_kept : (room room' : ℕ) (s : State) (p : List ℕ) (k : KRecord) → length p ≡ 16
    → (taken room (turn_of (frame_of type_control (state_letters s) p)) k).answer ≡ Done → 512 ≤ room'
    → (taken room' (turn_of (frame_of type_enquiry (state_letters s) blank)) (taken room (turn_of (frame_of type_control (state_letters s) p)) k).after).reply
    ≡ frame_of type_answer (state_letters s) p
taken_kept room room' s p k h e r =
    let set = frame_of type_control (state_letters s) p in
    let ask = frame_of type_enquiry (state_letters s) blank in
    let q = roomy room (turn_of set) k (done_room room (turn_of set) k e) in
    ap (λ (t : Turn KRecord). t.reply) (roomy room' (turn_of ask) (taken room (turn_of set) k).after r)
    ∙ ap (λ (t : Turn KRecord). (turn_of ask t.after).reply) q
    ∙ set_then_asked s p k h (ap (λ (t : Turn KRecord). t.answer) (sym q) ∙ e)
