use Rattle.std.proofs.Common.{◌∙◌}
use Rattle.mem_calls.proofs.Trials.{trial-grown, is_purged, ready-purged, slot-purged}
use Rattle.mem_calls.proofs.request.trial.Goals as goal

pub returns-in-Some-attempt-clause-trial : goal.returns-in-Some-attempt-clause-trial
returns-in-Some-attempt-clause-trial c = trial-grown c.args.protected.now c.args.request.now c.in-Some-attempt.given c.args.zone.now c.attempt.new.zone c.extend.new.self c.attempt-2.new.zone
    c.in_default.ensures.attempt.2 c.extend.ensures.zone c.in_default.ensures.attempt.0 c.in-Some-attempt.ensures.attempt

pub returns-in-Some-attempt-clause-loans : goal.returns-in-Some-attempt-clause-loans
returns-in-Some-attempt-clause-loans c = (c.attempt-2.ensures.loans.0 ∙ c.extend.ensures.loans.0 ∙ c.attempt.ensures.loans.0, λ x loan lent. c.attempt-2.ensures.loans.1 x loan (c.extend.ensures.loans.1 x loan (c.attempt.ensures.loans.1 x loan lent)))

pub attempt-requires-3-clause-ready : goal.attempt-requires-3-clause-ready
attempt-requires-3-clause-ready c = ready-purged c.args.protected.now c.args.request.now c.args.zone.now c.purge_for.new.self c.requires.protects c.requires.ready
    (is_purged c.args.protected.now c.args.request.now c.args.zone.now c.attempt.new.zone c.extend.new.self c.attempt-2.new.zone c.purge_for.new.self
    c.in_default.ensures.attempt.2 c.extend.ensures.zone c.in_default-attempt.ensures.attempt.2 c.purge_for.ensures.zone)

pub attempt-requires-3-clause-slot : goal.attempt-requires-3-clause-slot
attempt-requires-3-clause-slot c = slot-purged c.args.protected.now c.args.request.now c.args.zone.now c.purge_for.new.self c.requires.slot
    (is_purged c.args.protected.now c.args.request.now c.args.zone.now c.attempt.new.zone c.extend.new.self c.attempt-2.new.zone c.purge_for.new.self
    c.in_default.ensures.attempt.2 c.extend.ensures.zone c.in_default-attempt.ensures.attempt.2 c.purge_for.ensures.zone)

pub returns-clause-loans : goal.returns-clause-loans
returns-clause-loans c = (c.attempt-3.ensures.loans.0 ∙ c.purge_for.ensures.loans.0 ∙ c.attempt-2.ensures.loans.0 ∙ c.extend.ensures.loans.0 ∙ c.attempt.ensures.loans.0, λ x loan lent. c.attempt-3.ensures.loans.1 x loan (c.purge_for.ensures.loans.1 x loan (c.attempt-2.ensures.loans.1 x loan (c.extend.ensures.loans.1 x loan (c.attempt.ensures.loans.1 x loan lent)))))
