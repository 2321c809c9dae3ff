-- A configuration: three bytes a panel, its family, its group and its unit; and the box that it gives.
use Rattle.std.specs.Prelude.{ℕ, ◌+◌, ◌*◌, ◌/◌, ◌%◌, cond, ◌&&◌, List, eqb, ltb, length, get_or}
use Rattle.laws.specs.Lists.{places}
use Rattle.terms.specs.declared.Answer.TheVariants.{Done, BadConfiguration}
use Rattle.panels.specs.Records.{start_w, start_k, zero_panel, no_box}
use Rattle.panels.specs.Valid.{valid}
use Rattle.panels.specs.declared.Panel.{Panel}
use Rattle.panels.specs.declared.DisplayBox.{DisplayBox}
use Rattle.configure.specs.declared.Configured.{Configured}

-- a panel at its start values
abbrev pub fresh_panel : ℕ → ℕ → ℕ → Panel
fresh_panel family group unit = record {
  family = family;
  group = record { 0 = group };
  unit = record { 0 = unit };
  spare = 0;
  w = start_w;
  k = start_k;
}

-- what is asked for at place i: the panel of its three bytes, or no panel behind the last
unfoldable pub asked_at : List ℕ → ℕ → Panel
asked_at c i =
    cond (ltb i (length c / 3)) (fresh_panel (get_or c (i * 3) 0) (get_or c (i * 3 + 1) 0) (get_or c (i * 3 + 2) 0)) zero_panel

-- the box asked for: "numbered from 1 in the order given"
unfoldable pub asked : List ℕ → DisplayBox
asked c = record { count = length c / 3; panels = places 8 0 (asked_at c) }

-- 7: "configuration breaks a rule of the first section", and then "a box of no panels"
abbrev pub refusal : Configured
refusal = record { answer = BadConfiguration; made = no_box }

unfoldable pub configured : List ℕ → Configured
configured c = cond (eqb (length c % 3) 0 && valid (asked c)) (record { answer = Done; made = asked c }) refusal
