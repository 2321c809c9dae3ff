-- What was not ordered stays: an order writes the numbers of its own state alone, and a state's value reads its own numbers alone.
use mathlib.Core.Path.{◌≡◌, refl, sym, ap, ◌∙◌}
use mathlib.Core.Bool.{Bool, true, false}
use mathlib.Core.List.{List, [], ◌∷◌}
use Prim.Native.Nat.{ℕ, zero, suc}
use lib.Dec.{eqb}
use lib.ListN.{get_or}
use lib.Seq.{get_or-set_other}
use borrow.Author.Tests.{eqb-true, eqb-false}
use Rattle.std.specs.Prelude.{Result, Ok, Err}
use Rattle.laws.proofs.Conditions.{false_true}
use Rattle.turns.specs.Turns.{Turn, taken}
use Rattle.turns.proofs.Turns.{either}
use Rattle.panels.specs.declared.KRecord.{KRecord}
use Rattle.decimals.specs.Decimals.{in_digits}
use Rattle.kjw_values.specs.Values.{switch_word, scene_word, input_word, value_of}
use Rattle.kjw_asks.specs.Asks.{heard_of}
use Rattle.kjw.specs.Orders.{turned_over, louder, softer, carried}
use Rattle.kjw.specs.Replies.{decided, turn_of}
use Rattle.kjw_sets.specs.declared.State.{State}
use Rattle.kjw_sets.specs.declared.State.TheVariants.{Power, AudioMute, PictureMute, Volume, Input, Scene}
use Rattle.kjw_sets.specs.declared.Order.{Order}
use Rattle.kjw_sets.specs.declared.Order.TheVariants.{SetPower, TogglePower, SetAudioMute, ToggleAudioMute, SetPictureMute, TogglePictureMute, SetVolume, Louder, Softer, SetInput, SetScene, Pass, Ask}
use Rattle.kjw_asks.specs.declared.Fault.{Fault}
use Rattle.kjw_asks.specs.declared.Fault.TheVariants.{Refused, NotUnderstood}

-- the states in a row, and the one that an order sets; a pass and an enquiry set none of the six
abbrev pub place_of : State → ℕ
place_of Power = 0
place_of AudioMute = 1
place_of PictureMute = 2
place_of Volume = 3
place_of Input = 4
place_of Scene = 5

abbrev pub place_set : Order → ℕ
place_set (SetPower v) = 0
place_set TogglePower = 0
place_set (SetAudioMute v) = 1
place_set ToggleAudioMute = 1
place_set (SetPictureMute v) = 2
place_set TogglePictureMute = 2
place_set (SetVolume v) = 3
place_set Louder = 3
place_set Softer = 3
place_set (SetInput kind port) = 4
place_set (SetScene v) = 5
place_set Pass = 6
place_set (Ask s) = 6

-- what was heard is an order that sets the state
abbrev pub sets_state : Result Order Fault → State → Bool
sets_state (Err (Refused a)) s = false
sets_state (Err NotUnderstood) s = false
sets_state (Ok o) s = eqb (place_of s) (place_set o)

-- the numbers of each state
abbrev rows : KRecord → List (List ℕ)
rows k = (k.power ∷ []) ∷ (k.amut ∷ []) ∷ (k.pmut ∷ []) ∷ (k.volume ∷ []) ∷ (k.kind ∷ k.port ∷ []) ∷ (k.scene ∷ []) ∷ []

row_stays : (o : Order) (k : KRecord) (j : ℕ) → eqb j (place_set o) ≡ false → get_or (rows (carried o k)) j [] ≡ get_or (rows k) j []
unfolding carried
row_stays (SetPower v) k j n = get_or-set_other (rows k) 0 j (v ∷ []) [] (eqb-false j 0 n)
row_stays TogglePower k j n = get_or-set_other (rows k) 0 j (turned_over k.power ∷ []) [] (eqb-false j 0 n)
row_stays (SetAudioMute v) k j n = get_or-set_other (rows k) 1 j (v ∷ []) [] (eqb-false j 1 n)
row_stays ToggleAudioMute k j n = get_or-set_other (rows k) 1 j (turned_over k.amut ∷ []) [] (eqb-false j 1 n)
row_stays (SetPictureMute v) k j n = get_or-set_other (rows k) 2 j (v ∷ []) [] (eqb-false j 2 n)
row_stays TogglePictureMute k j n = get_or-set_other (rows k) 2 j (turned_over k.pmut ∷ []) [] (eqb-false j 2 n)
row_stays (SetVolume v) k j n = get_or-set_other (rows k) 3 j (v ∷ []) [] (eqb-false j 3 n)
row_stays Louder k j n = get_or-set_other (rows k) 3 j (louder k.volume ∷ []) [] (eqb-false j 3 n)
row_stays Softer k j n = get_or-set_other (rows k) 3 j (softer k.volume ∷ []) [] (eqb-false j 3 n)
row_stays (SetInput kind port) k j n = get_or-set_other (rows k) 4 j (kind ∷ port ∷ []) [] (eqb-false j 4 n)
row_stays (SetScene v) k j n = get_or-set_other (rows k) 5 j (v ∷ []) [] (eqb-false j 5 n)
row_stays Pass k j n = refl
row_stays (Ask s) k j n = refl

value_by_row : (s : State) (k k' : KRecord) → get_or (rows k') (place_of s) [] ≡ get_or (rows k) (place_of s) [] → value_of s k' ≡ value_of s k
unfolding value_of
value_by_row Power k k' e = ap (λ (r : List ℕ). switch_word (get_or r 0 0)) e
value_by_row AudioMute k k' e = ap (λ (r : List ℕ). switch_word (get_or r 0 0)) e
value_by_row PictureMute k k' e = ap (λ (r : List ℕ). switch_word (get_or r 0 0)) e
value_by_row Volume k k' e = ap (λ (r : List ℕ). in_digits 16 (get_or r 0 0)) e
value_by_row Input k k' e = ap (λ (r : List ℕ). input_word (get_or r 0 0) (get_or r 1 0)) e
value_by_row Scene k k' e = ap (λ (r : List ℕ). scene_word (get_or r 0 0)) e

turn_stays : (h : Result Order Fault) (s : State) (k : KRecord) → sets_state h s ≡ false → value_of s (decided k h).k ≡ value_of s k
unfolding decided
turn_stays (Err (Refused a)) s k n = refl
turn_stays (Err NotUnderstood) s k n = refl
turn_stays (Ok o) s k n = value_by_row s k (carried o k) (row_stays o k (place_of s) n)

-- whatever the message and the area, the value of a state stays, but for an order that sets it
pub stays : (room : ℕ) (m : List ℕ) (s : State) (k : KRecord) → sets_state (heard_of m) s ≡ false → value_of s (taken room (turn_of m) k).after ≡ value_of s k
unfolding turn_of
stays room m s k n = either (λ (t : Turn KRecord). value_of s t.after ≡ value_of s k) room (turn_of m) k refl (turn_stays (heard_of m) s k n)

-- ---- what a KJW frame sets: an order that was understood, and one state alone

pub sets_understood : (h : Result Order Fault) (s : State) → sets_state h s ≡ true → (o : Order) × (h ≡ Ok o)
sets_understood (Err (Refused a)) s e = absurd (false_true e)
sets_understood (Err NotUnderstood) s e = absurd (false_true e)
sets_understood (Ok o) s e = (o, refl)

state_at : ℕ → State
state_at zero = Power
state_at (suc zero) = AudioMute
state_at (suc (suc zero)) = PictureMute
state_at (suc (suc (suc zero))) = Volume
state_at (suc (suc (suc (suc zero)))) = Input
state_at (suc (suc (suc (suc (suc n))))) = Scene

state_placed : (s : State) → state_at (place_of s) ≡ s
unfolding state_at
state_placed Power = refl
state_placed AudioMute = refl
state_placed PictureMute = refl
state_placed Volume = refl
state_placed Input = refl
state_placed Scene = refl

pub sets_one : (o : Order) (s t : State) → sets_state (Ok o) s ≡ true → sets_state (Ok o) t ≡ true → s ≡ t
sets_one o s t e f =
    let p = eqb-true (place_of s) (place_set o) e in
    let q = eqb-true (place_of t) (place_set o) f in
    sym (state_placed s) ∙ ap state_at (p ∙ sym q) ∙ state_placed t

-- and neither an enquiry nor a button that does nothing sets any
pub asks_none : (s t : State) → (sets_state (Ok (Ask s)) t ≡ false) × (sets_state (Ok Pass) t ≡ false)
asks_none s Power = (refl, refl)
asks_none s AudioMute = (refl, refl)
asks_none s PictureMute = (refl, refl)
asks_none s Volume = (refl, refl)
asks_none s Input = (refl, refl)
asks_none s Scene = (refl, refl)
