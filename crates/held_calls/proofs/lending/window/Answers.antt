use Rattle.std.proofs.Common.{sym}
use Rattle.held_calls.proofs.Holding.{window_ends}
use Rattle.held_calls.proofs.lending.window.Goals as goal

pub returns-clause-refusal : goal.returns-clause-refusal
returns-clause-refusal c = rw c.ok_or.ensures.value (window_ends c.args.memory.now c.args.loans.now c.args.block c.window.result c.requires (sym c.in_ok-test_live.ensures) c.window.ensures.held c.window.ensures.window).0

pub returns-clause-window : goal.returns-clause-window
returns-clause-window c = rw c.ok_or.ensures.value (window_ends c.args.memory.now c.args.loans.now c.args.block c.window.result c.requires (sym c.in_ok-test_live.ensures) c.window.ensures.held c.window.ensures.window).1
