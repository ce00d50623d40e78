use Rattle.mac_base.specs.declared.releasing.ReleasingCall.TheVariants.{Empties}
use Rattle.mem_calls.proofs.Releases.{empty-not_here, empty-locked, ends-refused}
use Rattle.mem_calls.proofs.releasing.release.Goals as goal

pub returns-in_err-test_handle_here-in-Empties-clause-end :
    goal.returns-in_err-test_handle_here-in-Empties-clause-end
returns-in_err-test_handle_here-in-Empties-clause-end c = let end = c.from_residual-in_err-test_handle_here-in-Empties in
    ends-refused c.args.call (Empties c.in-Empties.handle) c.args.zone.now end.result c.in_err-test_handle_here-in-Empties.field-0.0 c.in-Empties.is
    (empty-not_here c.args.zone.now.shape c.args.zone.now.heap c.in-Empties.handle c.in_err-test_handle_here-in-Empties.field-0.0 c.in_err-test_handle_here-in-Empties.ensures) end.ensures.1

pub returns-in_err-test_unlocked-in-Empties-clause-end :
    goal.returns-in_err-test_unlocked-in-Empties-clause-end
returns-in_err-test_unlocked-in-Empties-clause-end c = let end = c.from_residual-in_err-test_unlocked-in-Empties in
    ends-refused c.args.call (Empties c.in-Empties.handle) c.args.zone.now end.result c.in_err-test_unlocked-in-Empties.field-0.0 c.in-Empties.is
    (empty-locked c.args.zone.now.shape c.args.zone.now.heap c.in-Empties.handle c.in_err-test_unlocked-in-Empties.field-0.0 c.in_ok-test_handle_here-in-Empties.ensures c.in_err-test_unlocked-in-Empties.ensures) end.ensures.1
