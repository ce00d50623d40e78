use Rattle.fork_edit.proofs.Refusing.{found_by}
use Rattle.fork_edit.proofs.file.kept_in.Goals as goal

pub returns-clause-found : goal.returns-clause-found
returns-clause-found c =
    found_by c.args.container c.args.file.now c.args.fork.now c.in_ok-new.new.items c.requires.fork c.requires.known c.in_ok-new.ensures.changes
