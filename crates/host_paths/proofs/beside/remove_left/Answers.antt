use Rattle.std.proofs.Common.{Some}
use Rattle.host_paths.proofs.beside.remove_left.Goals as goal

pub returns-in_err-_file : goal.returns-in_err-_file
returns-in_err-_file c = c.left_at.ensures.kept (Some c.args.users)

pub returns-in-None : goal.returns-in-None
returns-in-None c = c.left_at.ensures.kept (Some c.args.users)
