use Rattle.fork_report.proofs.Salvaging.{salvages_data}
use Rattle.fork_report.proofs.salvaged.salvage_data.Goals as goal

pub returns-clause-salvaged : goal.returns-clause-salvaged
returns-clause-salvaged c = salvages_data c.args.bytes.now _ _ c.in_ok-file.ensures.file c.in_ok-fork.ensures.fork c.damage_by-damage.ensures
