use Rattle.std.proofs.Common.{refl, rules, subst}
use Rattle.std.specs.IoError.{error_kind}
use Rattle.host_paths.specs.Asked.{Log}
use Rattle.run_stores.specs.Claiming.{Opens}
use Rattle.run_stores.specs.Refusing.{CantClaim, CantOpen, IsRefused, again, unasked, unclaimed, unopened}
use Rattle.run_stores.proofs.Refusing.{handed_on}
use Rattle.run_stores.proofs.claimed.claimed.Goals as goal

pub returns-in_err-file-clause-refused : goal.returns-in_err-file-clause-refused
returns-in_err-file-clause-refused c = λ none.
    handed_on _ _ (λ why. IsRefused c.args.naming c.args.known.now c.args.path.now why c.opened.new.calls.events) c.from_residual.ensures.1
    (unopened (subst (λ (log : Log). CantOpen c.args.path.now c.in_err-file.field-0.0 log c.opened.new.calls.events) none c.in_err-file.ensures.fails))

pub returns-in-Err-clause-refused : goal.returns-in-Err-clause-refused
returns-in-Err-clause-refused c = λ none.
    unasked c.in_ok-file.file c.opened.new.calls.events (error_kind c.in-Err.error)
    (subst (λ (log : Log). Opens c.args.path.now c.in_ok-file.file log c.opened.new.calls.events) none c.in_ok-file.ensures.opens) c.unopened.ensures c.in-Err.ensures

pub returns-in-true-Once-clause-refused : goal.returns-in-true-Once-clause-refused
returns-in-true-Once-clause-refused c = λ none.
    again c.in_ok-file.file c.opened.new.calls.events c.in-Ok.found (subst (λ (log : Log). Opens c.args.path.now c.in_ok-file.file log c.opened.new.calls.events) none c.in_ok-file.ensures.opens)
    (search rules) (search rules) refl c.in-Ok.ensures

pub returns-in_err-was_synced-in-false-default-clause-refused : goal.returns-in_err-was_synced-in-false-default-clause-refused
returns-in_err-was_synced-in-false-default-clause-refused c = λ none.
    handed_on _ _ (λ why. IsRefused c.args.naming c.args.known.now c.args.path.now why c.claim.new.calls.events) c.from_residual-in_err-was_synced-in-false-default.ensures.1
    (unclaimed c.in_ok-file.file c.opened.new.calls.events c.in-Ok.found (subst (λ (log : Log). Opens c.args.path.now c.in_ok-file.file log c.opened.new.calls.events) none c.in_ok-file.ensures.opens)
    (search rules) c.in_err-was_synced-in-false-default.ensures.regular
    (subst (λ (log : Log). CantClaim c.args.path.now c.in_ok-file.file c.in-Ok.found c.in_err-was_synced-in-false-default.field-0.0 log c.claim.new.calls.events) c.in-Ok.ensures c.in_err-was_synced-in-false-default.ensures.fails))
