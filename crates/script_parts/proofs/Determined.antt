-- Each promise at the door allows one outcome, the area afterwards and the place behind the text: all are the one promise `Puts`.
use mathlib.Core.Path.{◌≡◌}
use mathlib.Core.List.{List}
use Prim.Native.Nat.{ℕ}
use Rattle.panels.specs.declared.Inputs.{Inputs}
use Rattle.panels.specs.declared.KRecord.{KRecord}
use Rattle.script_text.specs.Puts.{Puts}
use Rattle.script_text.proofs.Puts.{puts_one}
use Rattle.script_parts.specs.Parts.{inputs_text, k_text}

pub put_inputs_one : (i : Inputs) (d : List ℕ) (n : ℕ) (e e' : List ℕ) (r r' : ℕ) → Puts (inputs_text i) d n e r → Puts (inputs_text i) d n e' r' → (e ≡ e') × (r ≡ r')
put_inputs_one i d n e e' r r' p q = puts_one p q

pub put_k_one : (k : KRecord) (d : List ℕ) (n : ℕ) (e e' : List ℕ) (r r' : ℕ) → Puts (k_text k) d n e r → Puts (k_text k) d n e' r' → (e ≡ e') × (r ≡ r')
put_k_one k d n e e' r r' p q = puts_one p q
