use Rattle.std.proofs.Common.{inl}
use Rattle.std.specs.IoError.{error_kind}
use Rattle.run_stores.proofs.claimed.settle_name.Goals as goal

pub returns-in-Err-clause-fails : goal.returns-in-Err-clause-fails
returns-in-Err-clause-fails c = inl (error_kind c.in-Err.error, c.in-Err.ensures.fails, c.unopened.ensures)
