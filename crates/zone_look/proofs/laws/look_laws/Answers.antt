use Rattle.mac_base.specs.HeadKind.{zone_header}
use Rattle.zone_look.proofs.OneAnswer.{fills_from, one_answer}
use Rattle.zone_look.proofs.laws.look_laws.Goals as goal

pub returns-clause-one : goal.returns-clause-one
returns-clause-one c = λ m xs bs ss ts f g one two. one_answer m one two

pub returns-clause-fill : goal.returns-clause-fill
returns-clause-fill c = λ m end blocks to. fills_from m end zone_header blocks to
