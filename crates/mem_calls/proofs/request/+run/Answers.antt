use Rattle.std.proofs.Common.{◌∙◌, ◌-◌, ◌<◌, true, arith}
use Rattle.mem_calls.proofs.Again.{keeps-again, can_ask-again}
use Rattle.mem_calls.proofs.Running.{may_ask-again}
use Rattle.mem_calls.proofs.Keeping.{slot-kept}
use Rattle.mem_calls.proofs.request.+run.Goals as goal

pub returns-then-not-turn-clause-loans : goal.returns-then-not-turn-clause-loans
returns-then-not-turn-clause-loans g t c = (c.turn.ensures.loans.0 ∙ c.trial.ensures.loans.0, λ x loan lent. c.turn.ensures.loans.1 x loan (c.trial.ensures.loans.1 x loan lent))

pub run-requires : goal.run-requires
run-requires g t c κs within =
    let before = g.G.GrowZone.asks c.args.procedure.now in
    let after = g.G.GrowZone.asks c.turn.new.procedure in
    let keeps = keeps-again c.args.zone.now.shape c.trial.new.zone.shape c.args.protected.now c.args.request.now c.args.zone.now.heap c.trial.new.zone.heap c.turn.new.zone.heap before after true
    c.in_default.ensures.trial c.if-not-turn.ensures.turn in
    let smaller : c.args.allowed.now - 1 < t = let fewer = c.decreases in let some = c.if-allowed-eq0.false in omega (arith, fewer, some) in (
      smaller,
      (
        within,
        (
          can_ask-again c.args.protected.now c.args.request.now c.args.zone.now c.turn.new.zone keeps c.requires.protects c.requires.ready,
          (
            c.requires.protects,
            (
              slot-kept c.args.protected.now c.args.request.now c.args.zone.now.heap c.turn.new.zone.heap keeps c.requires.slot,
              may_ask-again c.trial.new.zone.shape c.args.protected.now c.args.request.now c.args.allowed.now c.trial.new.zone.heap before after c.turn.new.zone.heap c.requires.may c.if-allowed-eq0.false c.if-not-turn.ensures.turn,
            ),
          ),
        ),
      ),
    )

pub returns-clause-loans : goal.returns-clause-loans
returns-clause-loans g t c = (c.run.ensures.loans.0 ∙ c.turn.ensures.loans.0 ∙ c.trial.ensures.loans.0, λ x loan lent. c.run.ensures.loans.1 x loan (c.turn.ensures.loans.1 x loan (c.trial.ensures.loans.1 x loan lent)))
