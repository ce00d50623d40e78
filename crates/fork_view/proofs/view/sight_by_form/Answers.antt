use Rattle.std.proofs.Common.{rules}
use Rattle.fork_view.proofs.Reasons.{shows_no_sound}
use Rattle.fork_view.proofs.view.sight_by_form.Goals as goal

pub returns-in-Err : goal.returns-in-Err
returns-in-Err c = shows_no_sound c.args.form c.args.rows.now c.args.row.now c.in-Err.why (search rules) c.in-Err.ensures.none
