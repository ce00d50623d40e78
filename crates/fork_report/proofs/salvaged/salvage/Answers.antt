use Rattle.std.proofs.lemmas.Result.{err_from_is_err_and}
use Rattle.mac_salvage.specs.InSpite.{left_by}
use Rattle.fork_report.proofs.Salvaging.{salvages_all, salvages_nothing}
use Rattle.fork_report.proofs.salvaged.salvage.Goals as goal

pub returns-in_err-tally-clause-refused : goal.returns-in_err-tally-clause-refused
returns-in_err-tally-clause-refused c =
    let p = err_from_is_err_and c.from_residual-in_err-tally.result c.from_residual-in_err-tally.ensures.1 in
    rw (p.1, p.2)
    (salvages_nothing c.args.bytes.now c.in_ok-file.file (left_by c.in_ok-fork.fork) c.damage_by-damage.result _ c.in_ok-file.ensures.file c.in_ok-fork.ensures.fork
    c.damage_by-damage.ensures c.in_err-tally.ensures.nothing)

pub returns-in-Ok-clause-salvaged : goal.returns-in-Ok-clause-salvaged
returns-in-Ok-clause-salvaged c =
    salvages_all c.args.bytes.now c.in_ok-file.file (left_by c.in_ok-fork.fork) _ c.in_ok-file.ensures.file c.in_ok-fork.ensures.fork c.in-Ok.ensures.fork c.in_ok-tally.ensures.told
    c.damage_by-damage.ensures

pub returns-clause-refused : goal.returns-clause-refused
returns-clause-refused c = (left_by c.in_ok-fork.fork, c.in_ok-fork.ensures.fork, c.in-Err-TooBig.ensures.too_big c.in-Err-TooBig.field-0-is)
