-- For the contracts of the code alone: the door of the box as it is read off what the panels are called by. That it is the step's door
-- is proved in ways_in.
use Rattle.std.specs.Prelude.{ℕ, suc, ◌-◌, Bool, cond, Option, Some, None, Result, Ok, Err, List, eqb, leb, ltb, get_or}
use Rattle.terms.specs.declared.Answer.{Answer}
use Rattle.terms.specs.declared.Answer.TheVariants.{AreaTooSmall, NoSuchPanel}
use Rattle.panels.specs.Records.{family_w, family_k}
use Rattle.box_rules.specs.Pairs.{no_ids}
use Rattle.box_rules.specs.declared.Ids.{Ids}
use Rattle.steps.specs.Messages.{Name, nobody, a_w, a_k, on_link, is_w, is_k}
use Rattle.steps.specs.Addressing.{by_tcp}
use Rattle.steps.specs.Step.{to_nobody}
use Rattle.addresses.specs.declared.Line.{Line}
use Rattle.addresses.specs.declared.Line.TheVariants.{Rs232c, Kjw, Tcp}

-- the name of the panel that is called so
unfoldable pub id_name : Ids → Name
id_name i = cond (eqb i.family family_w) (a_w i.group i.unit) (cond (eqb i.family family_k) a_k nobody)

-- the family of the panel on a link; 0 where there is none
unfoldable pub family_on : List Ids → ℕ → ℕ
family_on ids l = cond (leb 1 l) (get_or ids (l - 1) no_ids).family 0

-- "RS-232C port of panel p, KJW link of panel p, SDCP by TCP on the link of panel p": the family that has it
abbrev pub family_by : Line → ℕ
family_by Rs232c = family_w
family_by Kjw = family_k
family_by Tcp = family_w

abbrev pub is_of : Line → Name → Bool
is_of Rs232c = is_w
is_of Kjw = is_k
is_of Tcp = is_w

-- the number of the one panel that is addressed, 0 for nobody
abbrev pub target_by : Line → List Name → ℕ → List ℕ → ℕ
target_by Rs232c ns l m = l
target_by Kjw ns l m = l
target_by Tcp ns l m = by_tcp ns l m

-- "numbered from 1": the number of the panel at a place, 0 for nobody
abbrev pub numbered : Option ℕ → ℕ
numbered None = 0
numbered (Some i) = suc i

-- the door is open to the panel at a place, or shut with an answer
abbrev pub comes_to : ℕ → List ℕ → Result ℕ Answer
comes_to n m = cond (eqb n 0) (Err (to_nobody m)) (Ok (n - 1))

unfoldable pub opened : Line → List Name → ℕ → List ℕ → ℕ → Result ℕ Answer
opened line ns l m room =
    cond (ltb room 512) (Err AreaTooSmall)
    (cond (is_of line (on_link ns l)) (comes_to (target_by line ns l m) m)
    (Err NoSuchPanel))
