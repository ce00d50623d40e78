use Rattle.host_paths.proofs.Between.{some_between}
use Rattle.host_paths.proofs.beside.number_in.Goals as goal

pub returns-in-Some : goal.returns-in-Some
returns-in-Some c =
    let found = some_between c.args.name.now c.as_bytes.result.now c.as_bytes-in-Some.result.now c.in-Some.rest.now c.strip_suffix.result c.in-Some.ensures.cases.0
    c.in-Some.ensures.cases.1 c.strip_suffix.ensures.cases in
    rw (c.as_bytes.ensures.value, c.as_bytes-in-Some.ensures.value) at found
