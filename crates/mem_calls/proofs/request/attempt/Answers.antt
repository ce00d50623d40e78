use Rattle.std.proofs.Common.{subst, sym}
use Rattle.mem_calls.proofs.Trying.{ended-ok}
use Rattle.mem_calls.specs.Requesting.{EndsAttempt}
use Rattle.mem_calls.proofs.request.attempt.Goals as goal

pub returns-clause-attempt : goal.returns-clause-attempt
returns-clause-attempt c = subst (λ given. EndsAttempt c.args.zone.now c.args.request.now given c.attempt.new.self) (sym c.ok.ensures.value)
    (ended-ok c.args.zone.now c.attempt.new.self c.args.request.now c.attempt.result c.attempt.ensures.sound c.requires.ready.operand c.requires.slot c.attempt.ensures.attempt)
