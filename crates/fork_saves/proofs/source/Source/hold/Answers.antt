use Rattle.std.proofs.Common.{Err, subst, refl}
use Rattle.std.specs.declared.fs.File.{File}
use Rattle.file_acts.specs.Acts.{ReadsHeld}
use Rattle.fork_saves.proofs.Steps.{then_done, then_not}
use Rattle.fork_saves.specs.Changing.{HoldsFile}
use Rattle.fork_saves.proofs.source.Source.hold.Goals as goal

pub returns-clause-does : goal.returns-clause-does
unfolding HoldsFile
returns-clause-does c = then_done _ _ c.in_ok-held.held c.open_held.new.acts.events _ _ _ (c.in_ok-held.ensures.does)
    (then_done _ _ c.in_ok-bytes.bytes c.read_held.new.acts.events _ _ _ (rw c.file.ensures at c.in_ok-bytes.ensures.reads) ((refl, refl)))

pub returns-in_err-held-clause-does : goal.returns-in_err-held-clause-does
unfolding HoldsFile
returns-in_err-held-clause-does c = then_not _ _ c.from_residual.result c.in_err-held.field-0.0 _ _ c.from_residual.ensures.1 (c.in_err-held.ensures.does)

pub returns-in_err-bytes-clause-does : goal.returns-in_err-bytes-clause-does
unfolding HoldsFile
returns-in_err-bytes-clause-does c = then_done _ _ c.in_ok-held.held c.open_held.new.acts.events _ _ _ (c.in_ok-held.ensures.does)
    (then_not _ _ c.from_residual-in_err-bytes.result c.in_err-bytes.field-0.0 _ _ c.from_residual-in_err-bytes.ensures.1 (subst (λ (file : File). ReadsHeld file (Err c.in_err-bytes.field-0.0) c.open_held.new.acts.events c.read_held.new.acts.events) c.file.ensures c.in_err-bytes.ensures.reads))
