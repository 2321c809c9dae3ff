-- What is not judged does not matter to validity: the places behind the panels in use, and in a panel the other family's settings and the spare byte.
use mathlib.Core.Path.{◌≡◌, refl}
use Prim.Native.Nat.{ℕ}
use Rattle.terms.specs.declared.GroupId.{GroupId}
use Rattle.terms.specs.declared.UnitId.{UnitId}
use Rattle.panels.specs.Records.{family_w, family_k}
use Rattle.panels.specs.Valid.{ok_family, ok_panel, in_use, valid}
use Rattle.panels.specs.declared.WRecord.{WRecord}
use Rattle.panels.specs.declared.KRecord.{KRecord}
use Rattle.panels.specs.declared.DisplayBox.{DisplayBox}

-- places behind the panels in use are not judged
pub unused_not_judged : (b b' : DisplayBox) → b.count ≡ b'.count → in_use b ≡ in_use b' → valid b ≡ valid b'
unfolding valid
unused_not_judged b b' e f = rw (f, e)

-- the other family's settings and the spare byte are not judged
pub w_judges_w : (g : GroupId) (u : UnitId) (s s' : ℕ) (w : WRecord) (k k' : KRecord) → ok_panel (record { family = family_w; group = g; unit = u; spare = s; w = w; k = k }) ≡ ok_panel (record { family = family_w; group = g; unit = u; spare = s'; w = w; k = k' })
unfolding ok_panel ok_family
w_judges_w g u s s' w k k' = refl

pub k_judges_k : (g : GroupId) (u : UnitId) (s s' : ℕ) (w w' : WRecord) (k : KRecord) → ok_panel (record { family = family_k; group = g; unit = u; spare = s; w = w; k = k }) ≡ ok_panel (record { family = family_k; group = g; unit = u; spare = s'; w = w'; k = k })
unfolding ok_panel ok_family
k_judges_k g u s s' w w' k = refl
