use Rattle.std.proofs.Common.{[], refl}
use Rattle.script_run.proofs.Known.{Took-none}
use Rattle.macheap.proofs.Ending.{no_memory_told}
use Rattle.macheap.proofs.program.tell_no_stores.Goals as goal

pub returns-in-HostFull-clause-ends : goal.returns-in-HostFull-clause-ends
returns-in-HostFull-clause-ends g c =
    let e = c.tell_no_memory.ensures.ends in
    let told = no_memory_told _ _ e.0 _ e.2 c.tell_no_memory.ensures.write_fault c.status.ensures in
    (e.0, [], e.1, Took-none _ _, rw c.in-HostFull.is (told.0, told.1, refl))

pub returns-in-CannotOpen-clause-ends : goal.returns-in-CannotOpen-clause-ends
returns-in-CannotOpen-clause-ends g c =
    let w = c.tell_unopened.ensures in
    ([], w.0, Took-none _ _, w.1, rw c.in-CannotOpen.is (record { status = refl; unwritten = refl; says = w.2 }))
