use Rattle.std.specs.Path.{path_buf_bytes}
use Rattle.host_paths.proofs.Sweeping.{beside_still}
use Rattle.host_paths.proofs.beside.Beside.make.Goals as goal

pub returns-in_err-beside-clause-only : goal.returns-in_err-beside-clause-only
returns-in_err-beside-clause-only c =
    beside_still (path_buf_bytes c.args.path.now) c.args.log.now.events c.sweep.new.log.events c.make_at.new.log.events c.sweep.ensures
    (λ users swept. c.make_at.ensures.kept users (c.loop-number.invariant users swept))

pub returns-in-Some-clause-only : goal.returns-in-Some-clause-only
returns-in-Some-clause-only c =
    beside_still (path_buf_bytes c.args.path.now) c.args.log.now.events c.sweep.new.log.events c.make_at.new.log.events c.sweep.ensures
    (λ users swept. c.make_at.ensures.kept users (c.loop-number.invariant users swept))

pub loop-number-preserved : goal.loop-number-preserved
loop-number-preserved c = λ users swept. c.make_at.ensures.kept users (c.loop-number.invariant users swept)

pub returns-clause-only : goal.returns-clause-only
returns-clause-only c =
    beside_still (path_buf_bytes c.args.path.now) c.args.log.now.events c.sweep.new.log.events c.loop-number.log.events c.sweep.ensures c.loop-number.invariant
