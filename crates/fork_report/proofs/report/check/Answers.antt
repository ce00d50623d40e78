use Rattle.mac_files.specs.OldFiles.{fork_of, said_by}
use Rattle.fork_report.proofs.report.check.Goals as goal

pub returns-in-Ok-clause-told : goal.returns-in-Ok-clause-told
returns-in-Ok-clause-told c = (fork_of c.in_ok-found.found, c.in_ok-found.ensures.fork, c.in-Ok.ensures.damaged, c.in_default.ensures.taken)

pub returns-in-Ok-clause-archive : goal.returns-in-Ok-clause-archive
returns-in-Ok-clause-archive c = (said_by c.in_ok-found.found, c.in_ok-found.ensures.file, c.in-Ok.ensures.archive)
