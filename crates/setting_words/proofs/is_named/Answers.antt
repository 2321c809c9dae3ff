-- `is_named` turns down what begins with another byte than the name.
use Rattle.std.proofs.Common.{rules, sym, ◌∙◌}
use Rattle.setting_words.proofs.Firsts.{other_name}
use Rattle.setting_words.proofs.is_named.Goals as goal

pub returns-else-eq : goal.returns-else-eq
returns-else-eq c = c.if-eq.false ∙ sym (other_name c.args.k c.args.s.now (λ e. search rules))
