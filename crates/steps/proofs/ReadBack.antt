-- What STATget brings back is good to send: a message comes to no panel but one of a valid box, and a configured one has its arrays,
-- so that the words of its record are those that VMC reads again.
use Prim.Native.Nat.{ℕ, ◌<◌}
use mathlib.Core.Path.{◌≡◌, sym, ap, ◌∙◌}
use mathlib.Core.Bool.{Bool, true, false, cond, ◌&&◌}
use mathlib.Core.List.{List, ◌++◌}
use native.Mathlib.Omega.{arith}
use lib.Dec.{eqb, leb}
use lib.ListN.{length, take, length-take}
use lib.Seq.{get_or-take}
use Rattle.std.specs.Prelude.{Some, Ok}
use Rattle.laws.specs.Bytes.{ascii}
use Rattle.laws.specs.Lists.{every}
use Rattle.laws.proofs.Conditions.{and_first, and_second, false_true}
use Rattle.laws.proofs.Lists.{every_at}
use Rattle.panels.specs.Records.{family_w, family_k}
use Rattle.panels.specs.Valid.{ok_ids, ok_w, zero_ids, ok_k, ok_family, ok_panel, in_use, distinct, valid}
use Rattle.settings.specs.Table.{name_count}
use Rattle.panels.specs.declared.WRecord.{WRecord}
use Rattle.panels.specs.declared.Panel.{Panel}
use Rattle.panels.specs.declared.DisplayBox.{DisplayBox}
use Rattle.trimming.proofs.Trimmed.{ends_bare}
use Rattle.vmc.specs.Orders.{says_of, carried}
use Rattle.vmc.proofs.AskedBack.{present, told_back, told_bare, present_leaves}
use Rattle.vmc.proofs.Validity.{understood_fits}
use Rattle.vmc_asks.specs.Asks.{read_data}
use Rattle.vmc_asks.specs.declared.Order.TheVariants.{Get}
use Rattle.vmc_tells.specs.Texts.{text_of}
use Rattle.sdcp_asks.specs.Asks.{data_of, heard_of}
use Rattle.steps.specs.Messages.{Message, a_w, a_k, nobody, is_w, name_of, tcp}
use Rattle.steps.specs.Step.{panel_at}
use Rattle.sdcp.proofs.Cast.{heard_words}
use Rattle.steps.proofs.AskedBack.{Tells, asked}
use Rattle.steps.proofs.Shapes.{run_from, shaped}
use Rattle.steps.proofs.Turns.{Reaches, reaches_inside}
use Rattle.steps.proofs.Validity.{reached_valid, its_own}

-- a W panel that is well is so in its W record
w_well : (p : Panel) → ok_panel p ≡ true → is_w (name_of p) ≡ true → ok_w p.w ≡ true
unfolding ok_panel ok_family name_of
w_well p = go (eqb p.family family_w) (eqb p.family family_k)
  where
    go : (a k : Bool) → cond a (ok_ids p.group p.unit && ok_w p.w) (k && zero_ids p.group p.unit && ok_k p.k) ≡ true → is_w (cond a (a_w p.group p.unit) (cond k a_k nobody)) ≡ true → ok_w p.w ≡ true
    go true k o n = and_second (ok_ids p.group p.unit) (ok_w p.w) o
    go false true o n = absurd (false_true n)
    go false false o n = absurd (false_true n)

-- a panel that a packet comes to holds nothing out of range
pub reached_well : {b : DisplayBox} {i l : ℕ} {p area : List ℕ} → Reaches b (tcp l p area) i → ok_w (panel_at i b).w ≡ true
unfolding valid
reached_well {b} {i} r = w_well (panel_at i b) (sym (ap ok_panel (get_or-take b.count b.panels i _ (its_own r).0)) ∙ every_at ok_panel (in_use b) i _ well inside) (its_own r).1
  where
    well : every ok_panel (in_use b) ≡ true
    well = and_second (leb 1 b.count && leb b.count 8) (every ok_panel (in_use b)) (and_first _ (distinct (in_use b)) (reached_valid r))

    inside : i < length (take b.count b.panels)
    inside =
        let h = (its_own r).0 in
        let k = reaches_inside r in
        let q = length-take b.count b.panels in
        omega (arith, h, k, q)

-- ---- in every box that a configuration and messages lead to

-- STATget of a name is answered with words
pub record BringsBack (b : DisplayBox) (i l k : ℕ) (p area words : List ℕ) : Type 0 where
  pub tells : Tells b l p area words
  -- document 02, §2: "our own replies still end bare"
  pub ends_bare_holds : ends_bare words ≡ true
  -- "the words that would set the present value": put behind `STATset ` they are understood, and leave the record as it is
  pub sets_again : read_data (ascii "STATset " ++ words) ≡ Some (present k (panel_at i b).w)
  pub leaves : carried (present k (panel_at i b).w) (panel_at i b).w ≡ (panel_at i b).w

pub read_back : (c : List ℕ) (ms : List Message) (i l k : ℕ) (p area : List ℕ) → Reaches (run_from c ms) (tcp l p area) i → heard_of p ≡ Ok (Get k) → BringsBack (run_from c ms) i l k p area (text_of (says_of (Get k) (panel_at i (run_from c ms)).w))
read_back c ms i l k p area r e = record {
  tells = asked b i l k p area r e;
  ends_bare_holds = told_bare k w (reached_well r) two name;
  sets_again = told_back k w (reached_well r) two name;
  leaves = present_leaves k w;
}
  where
    b : DisplayBox
    b = run_from c ms

    w : WRecord
    w = (panel_at i b).w

    two : length w.shifts ≡ 2
    two = (shaped c ms r).shifts_2

    name : k < name_count
    name = understood_fits (data_of p) (Get k) (heard_words p (Get k) e)
