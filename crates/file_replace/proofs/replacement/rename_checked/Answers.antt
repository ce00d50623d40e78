use Rattle.std.proofs.Common.{Result, sym, subst}
use Rattle.file_replace.specs.declared.replacement.Stopped.{Stopped}
use Rattle.file_replace.specs.Replacing.{Moves}
use Rattle.file_replace.proofs.Along.{half_moved, moves, not_moved}
use Rattle.file_replace.proofs.replacement.rename_checked.Goals as goal

pub returns-in-Err-clause-moves : goal.returns-in-Err-clause-moves
returns-in-Err-clause-moves g c honest =
    let here = g.R.Replaces.seen c.args.place.now in let new = g.R.Replaces.seen c.check.new.self in
    let checks = c.in-Err.ensures.checks.1 honest in
    (checks.0, subst (λ (r : Result Unit (Stopped g.row.R-Error.Denot)). Moves r here new) (sym c.failed.ensures) (not_moved c.in-Err.error here new checks.1.0 checks.1.1))

pub returns-in-Err-rename-clause-moves : goal.returns-in-Err-rename-clause-moves
returns-in-Err-rename-clause-moves g c honest =
    let here = g.R.Replaces.seen c.args.place.now in let mid = g.R.Replaces.seen c.check.new.self in let new = g.R.Replaces.seen c.rename.new.self in
    let renames = c.in-Err-rename.ensures.renames.1 honest in
    let checks = c.in_default.ensures.checks.1 renames.0 in
    (checks.0, subst (λ (r : Result Unit (Stopped g.row.R-Error.Denot)). Moves r here new) (sym c.failed-in-Err-rename.ensures) (half_moved c.in-Err-rename.error here mid new checks.1.0 checks.1.1 renames.1.0 renames.1.1))

pub returns-in-Ok-clause-moves : goal.returns-in-Ok-clause-moves
returns-in-Ok-clause-moves g c honest =
    let here = g.R.Replaces.seen c.args.place.now in let mid = g.R.Replaces.seen c.check.new.self in let new = g.R.Replaces.seen c.rename.new.self in
    let renames = c.in-Ok.ensures.renames.1 honest in
    let checks = c.in_default.ensures.checks.1 renames.0 in
    (checks.0, moves _ here mid new checks.1.0 checks.1.1 renames.1.0 renames.1.1)
