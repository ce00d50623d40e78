use Rattle.std.proofs.Common.{sym, arith, length-append}
use Rattle.std.proofs.lemmas.List.{append-nil}
use Rattle.held_calls.proofs.Queued.{told-more}
use Rattle.held_calls.proofs.answers.answered.Goals.{in-Some, in_default}
use Rattle.held_calls.proofs.answers.answered.Goals as goal

pub loop-ask-preserved : goal.loop-ask-preserved
loop-ask-preserved c =
    let few = c.loop-ask.invariant.1 in
    elim c.match-ask.branch [
      | in-Some w ↦ (
        told-more c.args.asks.now c.loop-ask.ask-index _ c.ask-item.result c.loop-ask.asked.items _ c.loop-ask-test.true c.ask-item.is c.ask.view_is c.loop-ask.invariant.0
            (rw (w.asked-is, w.in-Some.is, ← w.value.ensures) w.push.ensures.items),
        rw (w.asked-is, w.push.ensures.items) (simp length-append (omega arith)),
      )
      | in_default w ↦ (
        told-more c.args.asks.now c.loop-ask.ask-index _ c.ask-item.result c.loop-ask.asked.items _ c.loop-ask-test.true c.ask-item.is c.ask.view_is c.loop-ask.invariant.0
            (rw (w.asked-is, w.in_default.is) (sym (append-nil c.loop-ask.asked.items))),
        rw w.asked-is (omega arith),
      )
    ]
