-- The bench rows and one frame of each kind in one table, by computation.
use Prim.Native.Nat.{ℕ}
use Prim.Native.String.{String}
use mathlib.Core.Path.{◌≡◌, refl}
use mathlib.Core.List.{List, [], ◌∷◌, ◌++◌, map}
use Rattle.laws.specs.Bytes.{ascii}
use Rattle.terms.specs.declared.Answer.{Answer}
use Rattle.terms.specs.declared.Answer.TheVariants.{Done, AreaTooSmall, WrongLength, NotForUs, NotUnderstood}
use Rattle.turns.specs.Turns.{Turn, taken}
use Rattle.panels.specs.Records.{start_k}
use Rattle.panels.specs.declared.KRecord.{KRecord}
use Rattle.decimals.specs.Decimals.{is_digit, decimal, in_digits}
use Rattle.kjw_asks.specs.Frames.{frame_of, letters_of}
use Rattle.kjw_sets.specs.Words.{state_letters}
use Rattle.kjw_values.specs.Values.{switch_word, scene_word, input_word, value_of}
use Rattle.kjw_tells.specs.Texts.{bytes_of}
use Rattle.kjw.specs.Replies.{turn_of, decided, reply_of, noticed}
use Rattle.kjw.specs.Orders.{carried, turned_over, louder, softer, with_power, with_amut, with_pmut, with_volume, with_scene, with_input}
use Rattle.kjw_asks.specs.Asks.{heard_of, is_ours, control_of, enquiry_of, state_named, named_in, code_or_toggle, toggle_of}
use Rattle.kjw_sets.specs.Sets.{set_by, set_of, chosen_from, volume_order, is_volume, input_order, is_padded, input_of}
use Rattle.kjw_codes.specs.Presses.{is_code, code_order}
use Rattle.remote.specs.Codes.{asked_in, button_of}
use Rattle.panels.specs.Valid.{ok_input}

-- a row: the panel before a frame, the area's length, the frame, and its turn: the panel afterwards, the answer and the reply
record Row : Type 0 where
  before : KRecord
  room : ℕ
  frame : List ℕ
  turn : Turn KRecord

-- a text and 0Ah
abbrev line : String → List ℕ
line s = ascii s ++ (0x0a ∷ [])

abbrev row : KRecord → ℕ → List ℕ → KRecord → Answer → List ℕ → Row
row k room m after answer reply = record { before = k; room = room; frame = m; turn = record { after = after; answer = answer; reply = reply } }

-- a control that is carried out: answer and notice, or the answer alone
abbrev told : KRecord → String → KRecord → String → String → Row
told k m after answer notice = row k 512 (line m) after Done (line answer ++ line notice)

abbrev done : KRecord → String → KRecord → String → Row
done k m after answer = row k 512 (line m) after Done (line answer)

-- a panel with no setting at its start value but audio mute
abbrev panel : KRecord
panel = record { power = 1; amut = 0; pmut = 1; volume = 42; scene = 0; kind = 3; port = 12 }

-- 6, answered with sixteen F
abbrev strange : KRecord → String → String → Row
strange k m answer = row k 512 (line m) k NotUnderstood (line answer)

-- no reply
abbrev refused : List ℕ → Answer → Row
refused m answer = row panel 512 m panel answer []

-- ---- the bench: "`*SCPOWR0000000000000001` and 0Ah from standby: answer and notice; again: answer alone. Port 0000: 6."

abbrev bench_on : Row
bench_on = told start_k "*SCPOWR0000000000000001" (with_power 1 start_k) "*SAPOWR0000000000000000" "*SNPOWR0000000000000001"

abbrev bench_again : Row
bench_again = done (with_power 1 start_k) "*SCPOWR0000000000000001" (with_power 1 start_k) "*SAPOWR0000000000000000"

abbrev bench_port : Row
bench_port = strange start_k "*SCINPT0000000100000000" "*SAINPTFFFFFFFFFFFFFFFF"

-- ---- "In PMUT notices 1 means enabled"; a scene has no notice

abbrev set_pmut : Row
set_pmut = told start_k "*SCPMUT0000000000000001" (with_pmut 1 start_k) "*SAPMUT0000000000000000" "*SNPMUT0000000000000001"

abbrev set_scene : Row
set_scene = done start_k "*SCSCENauto24pSync#####" (with_scene 1 start_k) "*SASCEN0000000000000000"

-- ---- what is not understood: 101, a wrong digit, a type 2, a scene's name without its padding, letters of no state, an enquiry with
-- parameters

abbrev volume_101 : Row
volume_101 = strange panel "*SCVOLU0000000000000101" "*SAVOLUFFFFFFFFFFFFFFFF"

abbrev volume_digit : Row
volume_digit = strange panel "*SCVOLU00000000000000:0" "*SAVOLUFFFFFFFFFFFFFFFF"

abbrev input_type : Row
input_type = strange panel "*SCINPT0000000200000001" "*SAINPTFFFFFFFFFFFFFFFF"

abbrev scene_bare : Row
scene_bare = strange panel "*SCSCENauto            " "*SASCENFFFFFFFFFFFFFFFF"

abbrev no_state : Row
no_state = strange panel "*SCpowr0000000000000001" "*SApowrFFFFFFFFFFFFFFFF"

abbrev ask_given : Row
ask_given = strange panel "*SEPOWR0000000000000001" "*SAPOWRFFFFFFFFFFFFFFFF"

-- ---- what is refused: another length, a wrong `*S`, a wrong footer, the types A and N, an area of 511 bytes

abbrev long : Row
long = refused (line "*SCPOWR00000000000000001") WrongLength

abbrev empty : Row
empty = refused [] WrongLength

abbrev wrong_start : Row
wrong_start = refused (line "*TCPOWR0000000000000001") NotForUs

abbrev wrong_footer : Row
wrong_footer = refused (ascii "*SCPOWR0000000000000001!") NotForUs

abbrev type_answer_lem : Row
type_answer_lem = refused (line "*SAPOWR0000000000000001") NotForUs

abbrev type_notice_lem : Row
type_notice_lem = refused (line "*SNPOWR0000000000000001") NotForUs

abbrev no_room : Row
no_room = row panel 511 (line "*SCPOWR0000000000000001") panel AreaTooSmall []

-- ---- the remote control: a change has its notice, no change has none

abbrev volume_up : Row
volume_up = told start_k "*SCIRCC0000000000000030" (with_volume 1 start_k) "*SAIRCC0000000000000000" "*SNVOLU0000000000000001"

abbrev up_to_the_most : Row
up_to_the_most = told (with_volume 99 start_k) "*SCIRCC0000000000000030" (with_volume 100 start_k) "*SAIRCC0000000000000000" "*SNVOLU0000000000000100"

abbrev up_at_the_most : Row
up_at_the_most = done (with_volume 100 start_k) "*SCIRCC0000000000000030" (with_volume 100 start_k) "*SAIRCC0000000000000000"

abbrev volume_down : Row
volume_down = told (with_volume 1 start_k) "*SCIRCC0000000000000031" start_k "*SAIRCC0000000000000000" "*SNVOLU0000000000000000"

abbrev down_at_nothing : Row
down_at_nothing = done start_k "*SCIRCC0000000000000031" start_k "*SAIRCC0000000000000000"

abbrev mute : Row
mute = told start_k "*SCIRCC0000000000000032" (with_amut 1 start_k) "*SAIRCC0000000000000000" "*SNAMUT0000000000000001"

abbrev picture_off : Row
picture_off = told panel "*SCIRCC0000000000000050" (with_pmut 0 panel) "*SAIRCC0000000000000000" "*SNPMUT0000000000000000"

abbrev tv_power : Row
tv_power = told start_k "*SCIRCC0000000000000098" (with_power 1 start_k) "*SAIRCC0000000000000000" "*SNPOWR0000000000000001"

abbrev tv_power_again : Row
tv_power_again = told (with_power 1 start_k) "*SCIRCC0000000000000098" start_k "*SAIRCC0000000000000000" "*SNPOWR0000000000000000"

abbrev hdmi_1_chosen : Row
hdmi_1_chosen = done start_k "*SCIRCC0000000000000124" start_k "*SAIRCC0000000000000000"

abbrev hdmi_1 : Row
hdmi_1 = told (with_input 1 2 start_k) "*SCIRCC0000000000000124" start_k "*SAIRCC0000000000000000" "*SNINPT0000000100000001"

abbrev hdmi_4 : Row
hdmi_4 = told panel "*SCIRCC0000000000000127" (with_input 1 4 panel) "*SAIRCC0000000000000000" "*SNINPT0000000100000004"

abbrev first_code : Row
first_code = done panel "*SCIRCC0000000000000005" panel "*SAIRCC0000000000000000"

abbrev last_code : Row
last_code = done panel "*SCIRCC0000000000000130" panel "*SAIRCC0000000000000000"

-- ---- no code: 28, 131, a one in front of fourteen zeros and 30, a hex digit, fifteen digits and a space; and IRCC is no enquiry

abbrev code_28 : Row
code_28 = strange panel "*SCIRCC0000000000000028" "*SAIRCCFFFFFFFFFFFFFFFF"

abbrev code_131 : Row
code_131 = strange panel "*SCIRCC0000000000000131" "*SAIRCCFFFFFFFFFFFFFFFF"

abbrev all_sixteen : Row
all_sixteen = strange panel "*SCIRCC1000000000000030" "*SAIRCCFFFFFFFFFFFFFFFF"

abbrev hex_digit : Row
hex_digit = strange panel "*SCIRCC000000000000003A" "*SAIRCCFFFFFFFFFFFFFFFF"

abbrev fifteen_digits : Row
fifteen_digits = strange panel "*SCIRCC000000000000030 " "*SAIRCCFFFFFFFFFFFFFFFF"

abbrev ask_code : Row
ask_code = strange panel "*SEIRCC################" "*SAIRCCFFFFFFFFFFFFFFFF"

-- ---- the table: each control, each enquiry, and the rows above

examples : List Row
examples =
    bench_on ∷ bench_again ∷ bench_port ∷
    told start_k "*SCAMUT0000000000000001" (with_amut 1 start_k) "*SAAMUT0000000000000000" "*SNAMUT0000000000000001" ∷
    set_pmut ∷
    told start_k "*SCTPOW################" (with_power 1 start_k) "*SATPOW0000000000000000" "*SNPOWR0000000000000001" ∷
    told (with_pmut 1 start_k) "*SCTPMU################" start_k "*SATPMU0000000000000000" "*SNPMUT0000000000000000" ∷
    told start_k "*SCVOLU0000000000000100" (with_volume 100 start_k) "*SAVOLU0000000000000000" "*SNVOLU0000000000000100" ∷
    told start_k "*SCINPT0000000500009876" (with_input 5 9876 start_k) "*SAINPT0000000000000000" "*SNINPT0000000500009876" ∷
    set_scene ∷
    done panel "*SEPOWR################" panel "*SAPOWR0000000000000001" ∷
    done panel "*SEAMUT################" panel "*SAAMUT0000000000000000" ∷
    done panel "*SEPMUT################" panel "*SAPMUT0000000000000001" ∷
    done panel "*SEVOLU################" panel "*SAVOLU0000000000000042" ∷
    done panel "*SEINPT################" panel "*SAINPT0000000300000012" ∷
    done panel "*SESCEN################" panel "*SASCENauto############" ∷
    volume_up ∷ up_to_the_most ∷ up_at_the_most ∷ volume_down ∷ down_at_nothing ∷ mute ∷ picture_off ∷ tv_power ∷ tv_power_again ∷
    hdmi_1_chosen ∷ hdmi_1 ∷ hdmi_4 ∷ first_code ∷ last_code ∷
    code_28 ∷ code_131 ∷ all_sixteen ∷ hex_digit ∷ fifteen_digits ∷ ask_code ∷
    volume_101 ∷ volume_digit ∷ input_type ∷ scene_bare ∷ no_state ∷ ask_given ∷
    long ∷ empty ∷ wrong_start ∷ wrong_footer ∷ type_answer_lem ∷ type_notice_lem ∷ no_room ∷ []

-- every row's turn is what the frame comes to
tried : map (λ (r : Row). taken r.room (turn_of r.frame) r.before) examples ≡ map (λ (r : Row). r.turn) examples
unfolding examples taken turn_of decided heard_of is_ours letters_of control_of enquiry_of state_named named_in set_by set_of code_or_toggle toggle_of code_order is_code button_of asked_in state_letters chosen_from volume_order is_volume input_order is_padded input_of ok_input is_digit decimal carried turned_over louder softer reply_of noticed value_of switch_word scene_word input_word in_digits bytes_of frame_of
tried = refl
