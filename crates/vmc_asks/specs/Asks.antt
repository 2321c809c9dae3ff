-- Document 01, "SDCP and VMC", and document 02, §2 and §5: what the words of the data ask.
use Rattle.std.specs.Prelude.{ℕ, zero, suc, ◌-◌, Bool, true, false, cond, ◌&&◌, ◌||◌, List, length, drop, leb, ltb, ℤ, pos, negsuc, Option, Some, None}
use Rattle.laws.specs.Bytes.{ascii, same, begins}
use Rattle.decimals.specs.Decimals.{up_to}
use Rattle.settings.specs.Table.{most_level, most_shift, level_count, setting_count}
use Rattle.setting_texts.specs.Names.{lead_of}
use Rattle.setting_words.specs.Names.{named_by, led_by, chosen_by}
use Rattle.trimming.specs.Trimming.{trimmed}
use Rattle.vmc_asks.specs.declared.Order.{Order}
use Rattle.vmc_asks.specs.declared.Order.TheVariants.{Set, Shift, Reset, Get}

-- "0 to 100 (no sign, no leading zero)", or no number
abbrev pub level_of : List ℕ → Option ℕ
level_of s = up_to most_level s

-- a setting at the value that its word gives, if it gives one
abbrev pub set_to : ℕ → Option ℕ → Option Order
set_to k (Some v) = Some (Set k v)
set_to k None = None

-- a size with its sign
abbrev pub signed : Bool → ℕ → ℤ
signed false n = pos n
signed true zero = pos 0
signed true (suc n) = negsuc n

-- a shift of at least so much and at most 30
abbrev pub shift_by : ℕ → Bool → ℕ → Option ℕ → Option Order
shift_by axis minus least (Some n) = cond (leb least n && leb n most_shift) (Some (Shift axis (signed minus n))) None
shift_by axis minus least None = None

-- "SHIFTH or SHIFTV with -30 to +30 (sign allowed save before 0, no leading zero)"
unfoldable pub shift_order : ℕ → List ℕ → Option Order
shift_order axis s =
    cond (begins (ascii "+") s) (shift_by axis false 1 (level_of (drop 1 s)))
    (cond (begins (ascii "-") s) (shift_by axis true 1 (level_of (drop 1 s)))
    (shift_by axis false 0 (level_of s)))

-- what the words behind name k ask: levels are 0 to 2, choices 3 to 20, the shifts 21 and 22
unfoldable pub value_order : ℕ → List ℕ → Option Order
value_order k s = cond (ltb k level_count) (set_to k (level_of s)) (cond (ltb k setting_count) (set_to k (chosen_by k s)) (shift_order (k - setting_count) s))

abbrev pub set_order : Option ℕ → List ℕ → Option Order
set_order (Some k) s = value_order k (drop (length (lead_of k)) s)
set_order None s = None

-- "STATset takes: [..]"
unfoldable pub read_set : List ℕ → Option Order
read_set s = cond (same s (ascii "RESET")) (Some Reset) (set_order (led_by s) s)

abbrev pub get_order : Option ℕ → Option Order
get_order (Some k) = Some (Get k)
get_order None = None

-- "STATget takes one of those names (MODE, NTSC and RGB RANGE for the choices; no RESET)."
unfoldable pub read_get : List ℕ → Option Order
read_get s = get_order (named_by s)

-- "Words are capitals-sensitive with one space between; [..] Any other data is 6."
unfoldable pub read_words : List ℕ → Option Order
read_words d =
    cond (begins (ascii "STATset ") d) (read_set (drop 8 d))
    (cond (begins (ascii "STATget ") d) (read_get (drop 8 d))
    None)

-- Document 02, §2: "Before words are split", the string's end is taken off
unfoldable pub read_data : List ℕ → Option Order
read_data d = read_words (trimmed d)

-- Document 02, §5: "STATget alone or begins with STATget and a space"
unfoldable pub is_question : List ℕ → Bool
is_question s = same s (ascii "STATget") || begins (ascii "STATget ") s

-- "the trimmed data is STATget alone or begins with STATget and a space"
unfoldable pub asks_status : List ℕ → Bool
asks_status d = is_question (trimmed d)
