use Rattle.mem_calls.proofs.request.+run.Given as goal

abbrev pub decreases-run : goal.decreases-run
decreases-run g l = l.allowed.now
