use Rattle.std.proofs.Common.{ap}
use Rattle.mac_files.specs.OldFiles.{said_by}
use Rattle.fork_report.specs.declared.report.Told.{Told}
use Rattle.fork_report.proofs.report.list_digests.Goals as goal

pub returns-in-Ok-clause-archive : goal.returns-in-Ok-clause-archive
returns-in-Ok-clause-archive c = (said_by c.in_ok-found.found, c.in_ok-found.ensures.file, ap (λ (t : Told). t.archive) c.of_file.ensures)
