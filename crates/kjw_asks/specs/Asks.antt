-- Document 01, "KJW (003)": what a frame asks, whatever the panel.
use Rattle.std.specs.Prelude.{ℕ, Bool, not, cond, ◌&&◌, List, [], ◌∷◌, length, get_or, eqb, Option, Some, None, Result, Err, option_map, ok_or}
use Rattle.laws.specs.Bytes.{ascii, part, same}
use Rattle.laws.specs.Lists.{listed}
use Rattle.terms.specs.declared.Answer.TheVariants.{WrongLength, NotForUs}
use Rattle.kjw_asks.specs.Frames.{type_control, type_enquiry, letters_of, blank}
use Rattle.kjw_sets.specs.Words.{state_letters}
use Rattle.kjw_sets.specs.declared.State.{State}
use Rattle.kjw_sets.specs.declared.State.TheVariants.{Power, AudioMute, PictureMute, Volume, Input, Scene}
use Rattle.kjw_asks.specs.declared.Fault.{Fault}
use Rattle.kjw_asks.specs.declared.Fault.TheVariants.{Refused, NotUnderstood}
use Rattle.kjw_sets.specs.declared.Order.{Order}
use Rattle.kjw_sets.specs.declared.Order.TheVariants.{TogglePower, TogglePictureMute, Ask}
use Rattle.kjw_sets.specs.Sets.{set_of}
use Rattle.kjw_codes.specs.Presses.{code_order}

-- the states by their letters: "POWR, AMUT, PMUT, VOLU, INPT, SCEN"
abbrev pub states : List State
states = Power ∷ AudioMute ∷ PictureMute ∷ Volume ∷ Input ∷ Scene ∷ []

-- the first of some states that has these letters
unfoldable pub named_in : List State → List ℕ → Option State
named_in [] l = None
named_in (s ∷ ss) l = cond (same l (state_letters s)) (Some s) (named_in ss l)

-- the state that the letters name
unfoldable pub state_named : List ℕ → Option State
state_named l = named_in states l

-- "TPOW and TPMU with sixteen `#`"; "All else: 6."
unfoldable pub toggle_of : List ℕ → List ℕ → Option Order
toggle_of l p =
    cond (not (same p blank)) None
    (cond (same l (ascii "TPOW")) (Some TogglePower)
    (cond (same l (ascii "TPMU")) (Some TogglePictureMute)
    None))

-- IRCC has a code for its parameters (document 02, §6); and behind it the toggles
unfoldable pub code_or_toggle : List ℕ → List ℕ → Option Order
code_or_toggle l p = cond (same l (ascii "IRCC")) (code_order p) (toggle_of l p)

-- C: the letters name a state, or they are IRCC or a toggle's
abbrev pub control_by : Option State → List ℕ → List ℕ → Option Order
control_by (Some s) l p = set_of s p
control_by None l p = code_or_toggle l p

unfoldable pub control_of : List ℕ → List ℕ → Option Order
control_of l p = control_by (state_named l) l p

-- "E, with sixteen `#`: POWR, AMUT, PMUT, VOLU, INPT, SCEN [..] All else: 6."
abbrev pub enquiry_by : Option State → Option Order
enquiry_by s = option_map Ask s

unfoldable pub enquiry_of : List ℕ → List ℕ → Option Order
enquiry_of l p = cond (not (same p blank)) None (enquiry_by (state_named l))

-- "Wrong `*S`, footer, or a type not C or E" makes it none of ours
unfoldable pub is_ours : List ℕ → Bool
is_ours m = same (part 0 2 m) (ascii "*S") && eqb (get_or m 23 0) 0x0a && listed (type_control ∷ type_enquiry ∷ []) (get_or m 2 0)

-- what a message orders, whatever the panel, or why it orders nothing: "24 bytes [..] Other length: 3. Wrong `*S`, footer, or a type not C
-- or E: 4." "All else: 6."
unfoldable pub heard_of : List ℕ → Result Order Fault
heard_of m =
    cond (not (eqb (length m) 24)) (Err (Refused WrongLength))
    (cond (not (is_ours m)) (Err (Refused NotForUs))
    (ok_or (cond (eqb (get_or m 2 0) type_control) (control_of (letters_of m) (part 7 16 m)) (enquiry_of (letters_of m) (part 7 16 m))) NotUnderstood))
