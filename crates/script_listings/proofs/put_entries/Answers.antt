use native.Mathlib.Omega.{arith}
use mathlib.Core.Path.{◌≡◌}
use Prim.Native.Nat.{◌+◌, ◌≤◌}
use lib.ListN.{length, get_or}
use borrow.Author.Rules.{rules}
use Rattle.script_text.proofs.Puts.{under_first, under_next, under_none}
use Rattle.script_listings.specs.Listings.{entry_text}
use Rattle.script_listings.proofs.Entries.{entries_from, entries_from_lem, entries_behind}
use Rattle.script_listings.proofs.put_entries.Goals as goal

pub loop-i-init : goal.loop-i-init
loop-i-init c =
    let a = c.args in
    let l = a.l.now in
    under_first (entries_from l.count l.starts l.lengths 0) a.out.now a.at

pub loop-i-preserved : goal.loop-i-preserved
loop-i-preserved c =
    let i = c.loop-i.i in
    let l = c.args.l.now in
    let few : l.count ≤ 64 = c.requires.few in
    let size : length l.starts ≡ 64 = search rules in
    let size' : length l.lengths ≡ 64 = search rules in
    under_next (entry_text (get_or l.starts i 0) (get_or l.lengths i 0)) (entries_from l.count l.starts l.lengths (i + 1)) c.loop-i.invariant
    (entries_from_lem l.count l.starts l.lengths i c.loop-i-test.true (omega arith) (omega arith)) c.put_entry-to.ensures

pub returns : goal.returns
returns c =
    let l = c.args.l.now in
    under_none c.loop-i.invariant (entries_behind l.count l.starts l.lengths c.loop-i.i (omega arith))
