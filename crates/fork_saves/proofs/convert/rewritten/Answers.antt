use Rattle.std.proofs.Common.{inr, refl}
use Rattle.fork_saves.specs.Converting.{IsTransfer}
use Rattle.fork_saves.proofs.convert.rewritten.Goals as goal

pub returns-in-Ok : goal.returns-in-Ok
unfolding IsTransfer
returns-in-Ok c = (
  record { bytes = c.args.bytes; file = c.args.file; name = c.deref.result; data_fork = c.args.data; is_data_named = c.is_some.result; target = c.args.asked.now.kind; is_lossy = c.args.asked.now.is_lossy },
  (refl, refl, refl, rw c.deref.ensures.value c.in_ok-name.ensures, c.is_some.ensures, refl, refl),
  c.in-Ok.ensures.converted,
)

pub returns : goal.returns
unfolding IsTransfer
returns c = inr (
  record { bytes = c.args.bytes; file = c.args.file; name = c.deref.result; data_fork = c.args.data; is_data_named = c.is_some.result; target = c.args.asked.now.kind; is_lossy = c.args.asked.now.is_lossy },
  c.in-Err.fault,
  (refl, refl, refl, rw c.deref.ensures.value c.in_ok-name.ensures, c.is_some.ensures, refl, refl),
  c.in-Err.ensures.converted,
  c.unconverted.ensures,
)
