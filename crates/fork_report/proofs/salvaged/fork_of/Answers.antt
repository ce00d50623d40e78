use Rattle.std.proofs.Common.{ap, sym, ◌∙◌}
use Rattle.mac_salvage.specs.InSpite.{Forks}
use Rattle.fork_report.proofs.Salvaging.{told_lack}
use Rattle.fork_report.proofs.salvaged.fork_of.Goals as goal

pub returns-in-Some-clause-fork : goal.returns-in-Some-clause-fork
returns-in-Some-clause-fork c = ap (λ (f : Forks). f.resource_fork) (sym c.requires.forks) ∙ sym c.in-Some.ensures

pub returns-in-None-clause-refused : goal.returns-in-None-clause-refused
returns-in-None-clause-refused c = told_lack _ _ _ _ c.requires c.in-None.ensures c.lack_of.ensures c.of_failure.ensures
