-- `write_in` tells what the advert writer left in the area: on 0 its 122 bytes.
use Prim.Native.Nat.{ℕ}
use mathlib.Core.Path.{◌≡◌}
use mathlib.Core.List.{List}
use Rattle.terms.specs.declared.Answer.{Answer}
use Rattle.sdap.specs.Rules.{Written}
use Rattle.sdap.specs.declared.Advert.{Advert as Fields}
use Rattle.script_answers.specs.Answers.{replied}
use Rattle.script_bytes.specs.Bytes.{filled, wrote}
use Rattle.script_bytes.proofs.write_in.Goals as goal

wrote-is : {a : Fields} {area area' : List ℕ} {r : Answer} (n : ℕ) → Written a area r area' → n ≡ filled r → replied r n area' ≡ wrote a area
unfolding wrote
wrote-is n w e = rw (e, w.area_after_holds, w.answer)

pub returns : goal.returns
returns c =
    let e = wrote-is _ c.write_fields-answer.ensures c.filled_by-n.ensures in
    rw (← e) c.say_reply.ensures
