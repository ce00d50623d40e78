use Rattle.std.proofs.lemmas.Result.{IfErr-weaker, IfOk-weaker}
use Rattle.mac_salvage.specs.InSpite.{left_by}
use Rattle.fork_report.specs.Salvaged.{IsNotSalvaged}
use Rattle.fork_report.proofs.Salvaging.{can_be, salvages_nothing}
use Rattle.fork_report.proofs.salvaged.left_in.Goals as goal

pub returns-clause-left : goal.returns-clause-left
returns-clause-left c =
    IfOk-weaker c.left_of.result _ _ (λ tally tells. can_be c.args.bytes.now (left_by c.in_ok-fork.fork) tally c.in_ok-fork.ensures.fork tells) c.left_of.ensures.told

pub returns-clause-refused : goal.returns-clause-refused
returns-clause-refused c =
    IfErr-weaker c.left_of.result _ (IsNotSalvaged c.args.bytes.now) (λ refusal none. salvages_nothing c.args.bytes.now c.in_ok-file.file (left_by c.in_ok-fork.fork) c.damage_by-damage.result refusal
    c.in_ok-file.ensures.file c.in_ok-fork.ensures.fork c.damage_by-damage.ensures none) c.left_of.ensures.nothing
