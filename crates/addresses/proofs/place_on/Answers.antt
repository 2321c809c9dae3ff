-- `place_on` looks the place up, behind the last of which there is no panel, and then asks the family.
use Rattle.std.proofs.Common.{◌≡◌, suc, sym, get_or, rules, arith}
use borrow.Author.Tests.{eq-eqb, ne_eqb}
use Rattle.box_rules.specs.Pairs.{no_ids}
use Rattle.addresses.proofs.Names.{on_place}
use Rattle.addresses.proofs.place_on.Goals as goal

pub returns-then-p-family_by : goal.returns-then-p-family_by
returns-then-p-family_by c =
    let a = c.args in
    let i = c.in_ok-place.place in
    let p = c.in_ok-p.p.now in
    let e : suc i ≡ a.link = omega (arith, c.in_ok-place.ensures) in
    let q : p ≡ get_or a.ids i no_ids = search (rules, c.in_ok-p.ensures.lookup) in
    sym (rw (on_place a.line a.ids a.link i p e q, ← c.family_by.ensures, ne_eqb _ _ c.if-p-family_by.true))

pub returns : goal.returns
returns c =
    let a = c.args in
    let i = c.in_ok-place.place in
    let p = c.in_ok-p.p.now in
    let e : suc i ≡ a.link = omega (arith, c.in_ok-place.ensures) in
    let q : p ≡ get_or a.ids i no_ids = search (rules, c.in_ok-p.ensures.lookup) in
    sym (rw (on_place a.line a.ids a.link i p e q, ← c.family_by.ensures, eq-eqb _ _ c.if-p-family_by.false) (sym e))
