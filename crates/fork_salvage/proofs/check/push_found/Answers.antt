use Rattle.fork_salvage.proofs.Checked.{found_told, found_untold}
use Rattle.fork_salvage.proofs.check.push_found.Goals as goal

pub returns-in_ok-push_lists-in-Some : goal.returns-in_ok-push_lists-in-Some
returns-in_ok-push_lists-in-Some c =
    rw (c.in_ok-push_lists-in-Some.ensures, c.in_ok-push_parts.ensures)
    (found_told c.args.fork.now c.in-Some.plan c.args.faults.now.items c.if-fork-lt-HEADER_LENGTH.false c.in-Some.ensures.told c.in-Some.ensures.plan)

pub returns-in_ok-push_fault-in-None : goal.returns-in_ok-push_fault-in-None
returns-in_ok-push_fault-in-None c =
    rw (c.in_ok-push_fault-in-None.ensures, c.in_ok-push_parts.ensures)
    (found_untold c.args.fork.now c.args.faults.now.items _ c.if-fork-lt-HEADER_LENGTH.false c.in-None.ensures.none c.map_faults.ensures)
