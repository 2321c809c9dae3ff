-- A valid panel stays valid: only orders in their ranges are understood.
use mathlib.Core.Path.{◌≡◌, refl}
use mathlib.Core.Bool.{Bool, true, not, cond, ◌&&◌}
use mathlib.Core.List.{List}
use Prim.Native.Nat.{ℕ, ◌+◌, ◌-◌, ◌<◌}
use native.Mathlib.Omega.{arith}
use lib.ListN.{length, get_or}
use lib.Dec.{eqb, leb, ltb}
use borrow.Author.Tests.{le-leb, leb-true, ltb-true}
use Rattle.std.specs.Prelude.{Option, Some, None, Result, Ok, Err, option_map, ok_or}
use Rattle.laws.specs.Bytes.{ascii, part, same}
use Rattle.laws.specs.Lists.{every}
use Rattle.laws.proofs.Conditions.{and_first, and_second, choose}
use Rattle.terms.specs.declared.Answer.TheVariants.{WrongLength, NotForUs}
use Rattle.turns.specs.Turns.{Turn, taken}
use Rattle.turns.proofs.Turns.{either}
use Rattle.panels.specs.Records.{most_volume, last_scene}
use Rattle.panels.specs.Valid.{ok_input, ok_k}
use Rattle.panels.specs.declared.KRecord.{KRecord}
use Rattle.decimals.specs.Decimals.{is_digit, decimal}
use Rattle.kjw_asks.specs.Frames.{letters_of, type_control, blank}
use Rattle.kjw_asks.specs.Asks.{state_named, toggle_of, code_or_toggle, control_by, control_of, enquiry_by, enquiry_of, is_ours, heard_of}
use Rattle.kjw_sets.specs.Sets.{chosen, choice_order, is_volume, is_padded, kind_in, port_in, input_of, volume_order, input_order, set_by, set_of}
use Rattle.remote.specs.Codes.{button_of}
use Rattle.remote.specs.declared.Button.{Button}
use Rattle.remote.proofs.Rules.{each_asks}
use Rattle.kjw_codes.specs.Presses.{pressed, is_code, code_order}
use Rattle.kjw.specs.Orders.{turned_over, louder, softer, carried}
use Rattle.kjw.specs.Replies.{decided, turn_of}
use Rattle.kjw_sets.specs.declared.State.{State}
use Rattle.kjw_sets.specs.declared.State.TheVariants.{Power, AudioMute, PictureMute, Volume, Input, Scene}
use Rattle.kjw_sets.specs.declared.Order.{Order}
use Rattle.kjw_sets.specs.declared.Order.TheVariants.{SetPower, TogglePower, SetAudioMute, ToggleAudioMute, SetPictureMute, TogglePictureMute, SetVolume, Louder, Softer, SetInput, SetScene, Pass, Ask}
use Rattle.kjw_asks.specs.declared.Fault.{Fault}
use Rattle.kjw_asks.specs.declared.Fault.TheVariants.{Refused, NotUnderstood}
use Rattle.kjw_sets.specs.Words.{switches, scenes}
use Rattle.kjw_sets.proofs.Parameters.{Chose, volume_most}
use Rattle.kjw_values.specs.Values.{switch_word, scene_word}
use Rattle.kjw_values.proofs.Words.{switch_chosen, scene_chosen}

-- an order whose numbers are in their ranges
abbrev in_range : Order → Bool
in_range (SetPower v) = leb v 1
in_range TogglePower = true
in_range (SetAudioMute v) = leb v 1
in_range ToggleAudioMute = true
in_range (SetPictureMute v) = leb v 1
in_range TogglePictureMute = true
in_range (SetVolume v) = leb v most_volume
in_range Louder = true
in_range Softer = true
in_range (SetInput kind port) = ok_input kind port
in_range (SetScene v) = leb v last_scene
in_range Pass = true
in_range (Ask s) = true

abbrev fits : Option Order → Bool
fits None = true
fits (Some o) = in_range o

abbrev Sound : Option Order → Type 0
Sound o = fits o ≡ true

abbrev sound : Result Order Fault → Bool
sound (Err f) = true
sound (Ok o) = in_range o

-- no order, which is not understood, or one in its range
sound_or : (o : Option Order) → Sound o → sound (ok_or o NotUnderstood) ≡ true
sound_or None e = refl
sound_or (Some o) e = e

word_sound : (order : ℕ → Order) (word : ℕ → List ℕ) (below : ℕ) (p : List ℕ) (c : Option ℕ) → Chose word below p c
    → ((v : ℕ) → v < below → in_range (order v) ≡ true) → Sound (choice_order order c)
word_sound order word below p (Some v) h f = f v h.0
word_sound order word below p None h f = refl

switch_sound : (v : ℕ) → v < 2 → leb v 1 ≡ true
switch_sound v h = le-leb v 1 (omega arith)

volume_sound : (p : List ℕ) → Sound (volume_order p)
unfolding volume_order
volume_sound p =
    choose Sound (is_volume p) (Some (SetVolume (decimal p))) None (λ e. le-leb (decimal p) most_volume (volume_most p e)) (λ e. refl)

input_sound : (p : List ℕ) → Sound (input_order p)
unfolding input_order input_of
input_sound p =
    choose Sound (is_padded p && every is_digit (kind_in p) && every is_digit (port_in p)) (input_of (decimal (kind_in p)) (decimal (port_in p))) None
    (λ e. choose Sound (ok_input (decimal (kind_in p)) (decimal (port_in p))) (Some (SetInput (decimal (kind_in p)) (decimal (port_in p)))) None (λ f. f) (λ f. refl))
    (λ e. refl)

by_sound : (s : State) (p : List ℕ) → Sound (set_by s p)
unfolding set_by
by_sound Power p = word_sound SetPower switch_word 2 p (chosen switches p) (switch_chosen p) switch_sound
by_sound AudioMute p = word_sound SetAudioMute switch_word 2 p (chosen switches p) (switch_chosen p) switch_sound
by_sound PictureMute p = word_sound SetPictureMute switch_word 2 p (chosen switches p) (switch_chosen p) switch_sound
by_sound Volume p = volume_sound p
by_sound Input p = input_sound p
by_sound Scene p = word_sound SetScene scene_word 3 p (chosen scenes p) (scene_chosen p) (λ v h. le-leb v last_scene (omega arith))

set_sound : (s : State) (p : List ℕ) → Sound (set_of s p)
unfolding set_of
set_sound s p = choose Sound (eqb (length p) 16) (set_by s p) None (λ e. by_sound s p) (λ e. refl)

toggle_sound : (l p : List ℕ) → Sound (toggle_of l p)
unfolding toggle_of
toggle_sound l p =
    choose Sound (not (same p blank)) None _ (λ e. refl)
    (λ e. choose Sound (same l (ascii "TPOW")) (Some TogglePower) _ (λ f. refl)
    (λ f. choose Sound (same l (ascii "TPMU")) (Some TogglePictureMute) None (λ g. refl) (λ g. refl)))

-- the HDMI buttons have ports of the range, by the table
code_sound : (p : List ℕ) → Sound (code_order p)
unfolding code_order ok_input
code_sound p =
    choose Sound (is_code p) (option_map pressed (button_of (decimal p))) None (λ e. each_asks (λ (b : Option Button). fits (option_map pressed b)) refl refl (decimal p)) (λ e. refl)

control_sound : (n : Option State) (l p : List ℕ) → Sound (control_by n l p)
unfolding code_or_toggle
control_sound (Some s) l p = set_sound s p
control_sound None l p = choose Sound (same l (ascii "IRCC")) (code_order p) (toggle_of l p) (λ e. code_sound p) (λ e. toggle_sound l p)

asked_sound : (n : Option State) → Sound (enquiry_by n)
asked_sound (Some s) = refl
asked_sound None = refl

enquiry_sound : (l p : List ℕ) → Sound (enquiry_of l p)
unfolding enquiry_of
enquiry_sound l p = choose Sound (not (same p blank)) None (enquiry_by (state_named l)) (λ e. refl) (λ e. asked_sound (state_named l))

heard_sound : (m : List ℕ) → sound (heard_of m) ≡ true
unfolding heard_of control_of
heard_sound m =
    let l = letters_of m in
    let p = part 7 16 m in
    let S : Result Order Fault → Type 0 = λ h. sound h ≡ true in
    choose S (not (eqb (length m) 24)) (Err (Refused WrongLength)) _ (λ e. refl)
    (λ e. choose S (not (is_ours m)) (Err (Refused NotForUs)) _ (λ f. refl)
    (λ f. sound_or (cond (eqb (get_or m 2 0) type_control) (control_of l p) (enquiry_of l p)) (choose Sound (eqb (get_or m 2 0) type_control) (control_of l p) (enquiry_of l p) (λ g. control_sound (state_named l) l p) (λ g. enquiry_sound l p))))

-- a valid panel, setting by setting
record Settings (k : KRecord) : Type 0 where
  powered : leb k.power 1 ≡ true
  sound_muted : leb k.amut 1 ≡ true
  picture_muted : leb k.pmut 1 ≡ true
  loud : leb k.volume most_volume ≡ true
  staged : leb k.scene last_scene ≡ true
  fed : ok_input k.kind k.port ≡ true

apart : (k : KRecord) → ok_k k ≡ true → Settings k
unfolding ok_k
apart k e =
    let p = leb k.power 1 in
    let a = leb k.amut 1 in
    let q = leb k.pmut 1 in
    let v = leb k.volume most_volume in
    let s = leb k.scene last_scene in
    let i = ok_input k.kind k.port in
    let e₁ = and_first (p && a && q && v && s) i e in
    let e₂ = and_first (p && a && q && v) s e₁ in
    let e₃ = and_first (p && a && q) v e₂ in
    let e₄ = and_first (p && a) q e₃ in record {
      powered = and_first p a e₄;
      sound_muted = and_second p a e₄;
      picture_muted = and_second (p && a) q e₃;
      loud = and_second (p && a && q) v e₂;
      staged = and_second (p && a && q && v) s e₁;
      fed = and_second (p && a && q && v && s) i e;
    }

together : (k : KRecord) → Settings k → ok_k k ≡ true
unfolding ok_k
together k w = rw (w.powered, w.sound_muted, w.picture_muted, w.loud, w.staged, w.fed)

turned_over_ok : (v : ℕ) → leb (turned_over v) 1 ≡ true
unfolding turned_over
turned_over_ok v = choose (λ (x : ℕ). leb x 1 ≡ true) (eqb v 0) 1 0 (λ e. refl) (λ e. refl)

louder_ok : (v : ℕ) → leb v most_volume ≡ true → leb (louder v) most_volume ≡ true
unfolding louder
louder_ok v h =
    choose (λ (x : ℕ). leb x most_volume ≡ true) (ltb v most_volume) (v + 1) v (λ e. let l = ltb-true v most_volume e in le-leb (v + 1) most_volume (omega arith)) (λ e. h)

softer_ok : (v : ℕ) → leb v most_volume ≡ true → leb (softer v) most_volume ≡ true
unfolding softer
softer_ok v h =
    choose (λ (x : ℕ). leb x most_volume ≡ true) (ltb 0 v) (v - 1) v (λ e. let l = leb-true v most_volume h in le-leb (v - 1) most_volume (omega arith)) (λ e. h)

carried_keeps : (o : Order) (k : KRecord) → in_range o ≡ true → Settings k → Settings (carried o k)
unfolding carried
carried_keeps (SetPower v) k r w =
    record { powered = r; sound_muted = w.sound_muted; picture_muted = w.picture_muted; loud = w.loud; staged = w.staged; fed = w.fed }
carried_keeps TogglePower k r w =
    record { powered = turned_over_ok k.power; sound_muted = w.sound_muted; picture_muted = w.picture_muted; loud = w.loud; staged = w.staged; fed = w.fed }
carried_keeps (SetAudioMute v) k r w =
    record { powered = w.powered; sound_muted = r; picture_muted = w.picture_muted; loud = w.loud; staged = w.staged; fed = w.fed }
carried_keeps ToggleAudioMute k r w =
    record { powered = w.powered; sound_muted = turned_over_ok k.amut; picture_muted = w.picture_muted; loud = w.loud; staged = w.staged; fed = w.fed }
carried_keeps (SetPictureMute v) k r w =
    record { powered = w.powered; sound_muted = w.sound_muted; picture_muted = r; loud = w.loud; staged = w.staged; fed = w.fed }
carried_keeps TogglePictureMute k r w =
    record { powered = w.powered; sound_muted = w.sound_muted; picture_muted = turned_over_ok k.pmut; loud = w.loud; staged = w.staged; fed = w.fed }
carried_keeps (SetVolume v) k r w =
    record { powered = w.powered; sound_muted = w.sound_muted; picture_muted = w.picture_muted; loud = r; staged = w.staged; fed = w.fed }
carried_keeps Louder k r w =
    record { powered = w.powered; sound_muted = w.sound_muted; picture_muted = w.picture_muted; loud = louder_ok k.volume w.loud; staged = w.staged; fed = w.fed }
carried_keeps Softer k r w =
    record { powered = w.powered; sound_muted = w.sound_muted; picture_muted = w.picture_muted; loud = softer_ok k.volume w.loud; staged = w.staged; fed = w.fed }
carried_keeps (SetInput kind port) k r w =
    record { powered = w.powered; sound_muted = w.sound_muted; picture_muted = w.picture_muted; loud = w.loud; staged = w.staged; fed = r }
carried_keeps (SetScene v) k r w =
    record { powered = w.powered; sound_muted = w.sound_muted; picture_muted = w.picture_muted; loud = w.loud; staged = r; fed = w.fed }
carried_keeps Pass k r w = w
carried_keeps (Ask s) k r w = w

turn_valid : (h : Result Order Fault) (k : KRecord) → sound h ≡ true → ok_k k ≡ true → ok_k (decided k h).k ≡ true
unfolding decided
turn_valid (Err (Refused a)) k s v = v
turn_valid (Err NotUnderstood) k s v = v
turn_valid (Ok o) k s v = together (carried o k) (carried_keeps o k s (apart k v))

-- a valid panel is valid after every message
pub turned_valid : (m : List ℕ) (k : KRecord) → ok_k k ≡ true → ok_k (turn_of m k).after ≡ true
unfolding turn_of
turned_valid m k v = turn_valid (heard_of m) k (heard_sound m) v

-- both at the door, where the area may be too small
pub taken_valid : (room : ℕ) (m : List ℕ) (k : KRecord) → ok_k k ≡ true → ok_k (taken room (turn_of m) k).after ≡ true
taken_valid room m k v = either (λ (t : Turn KRecord). ok_k t.after ≡ true) room (turn_of m) k v (turned_valid m k v)
