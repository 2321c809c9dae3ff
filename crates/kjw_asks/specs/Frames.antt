-- Document 01, "KJW (003)": the frame, its types and its letters.
use Rattle.std.specs.Prelude.{ℕ, List, [], ◌∷◌, ◌++◌, get_or, replicate}
use Rattle.laws.specs.Bytes.{ascii}

-- "24 bytes: `*S`, type, four letters, 16 parameters, 0Ah."
unfoldable pub frame_of : ℕ → List ℕ → List ℕ → List ℕ
frame_of type letters parameters = ascii "*S" ++ (type ∷ []) ++ letters ++ parameters ++ (0x0a ∷ [])

-- the types: control and enquiry come in, answer and notice go out
abbrev pub type_control : ℕ
type_control = 0x43

abbrev pub type_enquiry : ℕ
type_enquiry = 0x45

abbrev pub type_answer : ℕ
type_answer = 0x41

abbrev pub type_notice : ℕ
type_notice = 0x4e

-- the four letters of a message
unfoldable pub letters_of : List ℕ → List ℕ
letters_of m = get_or m 3 0 ∷ get_or m 4 0 ∷ get_or m 5 0 ∷ get_or m 6 0 ∷ []

-- "sixteen `#`"
abbrev pub blank : List ℕ
blank = replicate 16 0x23
