use Rattle.host_paths.proofs.Between.{new_if}
use Rattle.host_paths.proofs.beside.is_new_name.Goals as goal

pub returns-in-Some : goal.returns-in-Some
returns-in-Some c = rw (c.as_bytes.ensures.value) at (new_if _ c.in-Some.number.now c.is_number.result c.is_number.ensures c.in-Some.ensures)
