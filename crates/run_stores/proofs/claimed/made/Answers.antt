use Rattle.std.proofs.Common.{inr, subst}
use Rattle.host_paths.specs.Asked.{Log}
use Rattle.run_stores.specs.Refusing.{CantSettleName}
use Rattle.run_stores.proofs.claimed.made.Goals as goal

pub returns-in-Err-settle_name-clause-fails : goal.returns-in-Err-settle_name-clause-fails
returns-in-Err-settle_name-clause-fails c =
    inr (c.in-Ok.file, subst (λ (log : Log). CantSettleName c.args.path.now c.in-Err-settle_name.why log c.settle_name.new.calls.events) c.in-Ok.ensures c.in-Err-settle_name.ensures.fails)
