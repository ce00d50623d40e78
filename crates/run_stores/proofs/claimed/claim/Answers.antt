use Rattle.std.proofs.Common.{ap, rules, sym}
use Rattle.std.specs.IoError.{error_kind}
use Rattle.run_stores.specs.Refusing.{CantClaim, moved, unsynced}
use Rattle.run_stores.proofs.Refusing.{handed_on}
use Rattle.run_stores.specs.Claiming.{is_synced}
use Rattle.run_stores.proofs.claimed.claim.Goals as goal

pub returns-in-Ok-Done-clause-claims : goal.returns-in-Ok-Done-clause-claims
returns-in-Ok-Done-clause-claims c = record {
  held = λ _. (_, _, c.in-Ok-Done.field-0, c.in_ok-take_lock.ensures.locks, c.in_ok-refuse_moved.ensures.leads, c.in-Ok-Done.ensures, ap is_synced (sym c.in-Ok-Done.field-0-is));
  other = λ not. search (rules, not, c.is_regular.ensures, c.if-not-is_regular.false);
}

pub returns-in-Ok-NotOffered-clause-claims : goal.returns-in-Ok-NotOffered-clause-claims
returns-in-Ok-NotOffered-clause-claims c = record {
  held = λ _. (_, _, c.in-Ok-NotOffered.field-0, c.in_ok-take_lock.ensures.locks, c.in_ok-refuse_moved.ensures.leads, c.in-Ok-NotOffered.ensures, ap is_synced (sym c.in-Ok-NotOffered.field-0-is));
  other = λ not. search (rules, not, c.is_regular.ensures, c.if-not-is_regular.false);
}

pub returns-in_err-refuse_moved-clause-fails : goal.returns-in_err-refuse_moved-clause-fails
returns-in_err-refuse_moved-clause-fails c =
    handed_on _ _ (λ why. CantClaim c.args.path.now c.args.file.now c.args.found.now why c.args.calls.now.events c.refuse_moved.new.calls.events) c.from_residual-in_err-refuse_moved.ensures.1
    (moved _ c.in_ok-take_lock.ensures.locks c.in_err-refuse_moved.ensures.moved)

pub returns-in-Err-clause-fails : goal.returns-in-Err-clause-fails
returns-in-Err-clause-fails c = unsynced _ _ (error_kind c.in-Err.error) c.in_ok-take_lock.ensures.locks c.in_ok-refuse_moved.ensures.leads c.unopened.ensures c.in-Err.ensures
