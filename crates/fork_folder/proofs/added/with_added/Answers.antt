use Rattle.std.proofs.lemmas.Result.{err_from_is_err_and}
use Rattle.fork_folder.proofs.Adding.{added_at, refused_at}
use Rattle.fork_folder.proofs.added.with_added.Goals as goal

pub loop-path-preserved : goal.loop-path-preserved
loop-path-preserved c = added_at c.args.paths.now c.loop-path.path-index _ _ _ _ c.loop-path-test.true c.loop-path.invariant c.in_ok-add.ensures.added

pub returns-in_err-add-clause-refused : goal.returns-in_err-add-clause-refused
returns-in_err-add-clause-refused c =
    let p = err_from_is_err_and c.from_residual.result c.from_residual.ensures.1 in
    rw (p.1, p.2) (refused_at c.args.paths.now c.loop-path.path-index _ _ _ _ c.loop-path-test.true c.loop-path.invariant c.in_err-add.ensures.refused)
