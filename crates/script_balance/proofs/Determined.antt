-- Each promise at the door allows one outcome, the area afterwards and the place behind the text: all are the one promise `Puts`.
use mathlib.Core.Path.{◌≡◌}
use mathlib.Core.List.{List}
use Prim.Native.Nat.{ℕ}
use Rattle.panels.specs.declared.Balance.{Balance}
use Rattle.script_text.specs.Puts.{Puts}
use Rattle.script_text.proofs.Puts.{puts_one}
use Rattle.script_balance.specs.Balance.{balance_text}

pub put_balance_one : (b : Balance) (d : List ℕ) (n : ℕ) (e e' : List ℕ) (r r' : ℕ) → Puts (balance_text b) d n e r → Puts (balance_text b) d n e' r' → (e ≡ e') × (r ≡ r')
put_balance_one b d n e e' r r' p q = puts_one p q
