use Rattle.std.proofs.Common.{◌≡◌, ◌≢◌, arith, rules}
use Rattle.std.specs.IoError.{error_kind}
use Rattle.std.specs.declared.io.ErrorKind.TheVariants.{NotFound}
use Rattle.run_stores.specs.Refusing.{at_once, to_read}
use Rattle.run_stores.proofs.Refusing.{cant_open_made}
use Rattle.run_stores.proofs.claimed.opened.Goals as goal

pub returns-then-eq-clause-fails : goal.returns-then-eq-clause-fails
returns-then-eq-clause-fails c = cant_open_made c.args.path.now c.made.result _ _ _ _ c.in-Err.ensures (search rules) c.made.ensures.fails

pub returns-then-not-is_unwritable-clause-fails : goal.returns-then-not-is_unwritable-clause-fails
returns-then-not-is_unwritable-clause-fails c =
    let other : error_kind c.in-Err.why ≢ NotFound = λ is. search (rules, is) in
    at_once _ other (search rules) c.unopened.ensures c.in-Err.ensures

pub returns-in-Err-open-clause-fails : goal.returns-in-Err-open-clause-fails
returns-in-Err-open-clause-fails c = to_read (error_kind c.in-Err.why) (error_kind c.in-Err-open.field-0) (search rules) c.unopened-in-Err-open.ensures (search rules)
