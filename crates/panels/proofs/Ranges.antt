-- A W panel's record is valid exactly where each of its four parts is: `ok_w` joins their tests.
use mathlib.Core.Path.{◌≡◌}
use mathlib.Core.Bool.{true, ◌&&◌}
use Rattle.laws.specs.Lists.{every, within}
use Rattle.laws.proofs.Conditions.{and_first, and_second}
use Rattle.settings.specs.Table.{mosts}
use Rattle.panels.specs.Valid.{ok_shift, ok_inputs, ok_balance, ok_w}
use Rattle.panels.specs.declared.WRecord.{WRecord}

-- every setting of a W panel's record in its range, part by part
pub record InRange (w : WRecord) : Type 0 where
  pub settings_ok : within w.settings mosts ≡ true
  pub shifts_ok : every ok_shift w.shifts ≡ true
  pub inputs_ok : ok_inputs w.inputs ≡ true
  pub balance_ok : ok_balance w.balance ≡ true

-- `ok_w` taken apart
pub parts : (w : WRecord) → ok_w w ≡ true → InRange w
unfolding ok_w
parts w e =
    let a = and_first (within w.settings mosts && every ok_shift w.shifts && ok_inputs w.inputs) (ok_balance w.balance) e in
    let b = and_first (within w.settings mosts && every ok_shift w.shifts) (ok_inputs w.inputs) a in
    record {
      settings_ok = and_first (within w.settings mosts) (every ok_shift w.shifts) b;
      shifts_ok = and_second (within w.settings mosts) (every ok_shift w.shifts) b;
      inputs_ok = and_second (within w.settings mosts && every ok_shift w.shifts) (ok_inputs w.inputs) a;
      balance_ok = and_second (within w.settings mosts && every ok_shift w.shifts && ok_inputs w.inputs) (ok_balance w.balance) e;
    }

-- and put together
pub whole : (w : WRecord) → InRange w → ok_w w ≡ true
unfolding ok_w
whole w r = rw (r.settings_ok, r.shifts_ok, r.inputs_ok, r.balance_ok)
