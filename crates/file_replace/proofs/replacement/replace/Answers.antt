use Rattle.file_replace.proofs.Along.{not_replaced, replaces}
use Rattle.file_replace.proofs.replacement.replace.Goals as goal

pub returns-in-Ok-clause-replaces : goal.returns-in-Ok-clause-replaces
returns-in-Ok-clause-replaces g c honest =
    let here = g.R.Replaces.seen c.args.place.now in let mid = g.R.Replaces.seen c.prepare.new.place in let new = g.R.Replaces.seen c.put.new.place in
    let puts = c.put.ensures.puts honest in
    let prepares = c.in-Ok.ensures.prepares puts.0 in
    (prepares.0, replaces c.args.old c.args.bytes.now here mid new prepares.1.spares prepares.1.made prepares.1.ready c.put.result puts.1)

pub returns-in-Err-clause-replaces : goal.returns-in-Err-clause-replaces
returns-in-Err-clause-replaces g c honest =
    let here = g.R.Replaces.seen c.args.place.now in let new = g.R.Replaces.seen c.prepare.new.place in
    let prepares = c.in-Err.ensures.prepares honest in
    (prepares.0, not_replaced c.args.old c.args.bytes.now c.in-Err.fault here new c.in-Err.ensures.calls.1.0 prepares.1)
