use Rattle.std.proofs.Common.{ap, sym, ◌∙◌}
use Rattle.mac_files.specs.OldFiles.{said_by}
use Rattle.fork_salvage.specs.Salvage.{items}
use Rattle.fork_report.proofs.Archived.{archive_if_none, none_if_some}
use Rattle.fork_report.proofs.inside.archive_in.Goals as goal

pub returns-in-Some : goal.returns-in-Some
returns-in-Some c =
    none_if_some (said_by c.args.found.now) _ _ (ap items (sym c.fork.ensures) ∙ sym c.new-salvage.ensures ∙ c.in-Some.ensures)

pub returns-in-None : goal.returns-in-None
returns-in-None c =
    c.data_archive.ensures ∙ archive_if_none (said_by c.args.found.now) (ap items (sym c.fork.ensures) ∙ sym c.new-salvage.ensures ∙ c.in-None.ensures.0)
