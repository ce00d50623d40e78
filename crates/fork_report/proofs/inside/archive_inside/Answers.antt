use Rattle.fork_report.proofs.Refusing.{inside_of}
use Rattle.fork_report.proofs.inside.archive_inside.Goals as goal

pub returns-in-Ok : goal.returns-in-Ok
returns-in-Ok c = inside_of c.args.bytes.now c.in-Ok.found _ c.in-Ok.ensures.1 c.archive_in.ensures
