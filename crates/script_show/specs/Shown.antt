-- docs/SCRIPTS.md, `show`: the line of a panel's record.
use Rattle.std.specs.Prelude.{ℕ, cond, List, [], ◌∷◌, ◌++◌, eqb}
use Rattle.laws.specs.Bytes.{ascii}
use Rattle.panels.specs.Records.{family_w}
use Rattle.panels.specs.declared.WRecord.{WRecord}
use Rattle.panels.specs.declared.Panel.{Panel}
use Rattle.vmc.specs.Orders.{says_of}
use Rattle.vmc_tells.specs.Texts.{text_of}
use Rattle.vmc_asks.specs.declared.Order.TheVariants.{Get}
use Rattle.script_text.specs.Texts.{number_text}
use Rattle.script_parts.specs.Parts.{inputs_text, k_text}
use Rattle.script_balance.specs.Balance.{balance_text}

-- ---- a W panel

-- the names in the order of `show`: SHIFTH and SHIFTV stand behind VOLUME
abbrev pub shown_names : List ℕ
shown_names =
    0 ∷ 1 ∷ 2 ∷ 21 ∷ 22 ∷ 3 ∷ 4 ∷ 5 ∷ 6 ∷ 7 ∷ 8 ∷ 9 ∷ 10 ∷ 11 ∷
    12 ∷ 13 ∷ 14 ∷ 15 ∷ 16 ∷ 17 ∷ 18 ∷ 19 ∷ 20 ∷ []

-- "the settings as STATget writes them", a space before each
unfoldable pub settings_text : WRecord → List ℕ → List ℕ
settings_text w [] = []
settings_text w (k ∷ ks) = (0x20 ∷ text_of (says_of (Get k) w)) ++ settings_text w ks

unfoldable pub w_text : ℕ → ℕ → WRecord → List ℕ
w_text group unit w =
    number_text (ascii "W ") group ++ number_text (ascii " ") unit ++ settings_text w shown_names
    ++ inputs_text w.inputs ++ balance_text w.balance

unfoldable pub panel_text : Panel → List ℕ
panel_text p = cond (eqb p.family family_w) (w_text p.group.0 p.unit.0 p.w) (k_text p.k)
