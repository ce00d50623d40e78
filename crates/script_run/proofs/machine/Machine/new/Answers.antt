use Rattle.script_run.proofs.Starting.{is_start}
use Rattle.script_run.proofs.machine.Machine.new.Goals as goal

-- src/machine.rt:30:5
pub returns : goal.returns
returns g c = record {
  zone = λ spec shape heap.
      is_start spec c.args.stores.items c.args.memory.shape c.args.memory.heap c.new.result c.open.result c.args.variables c.new-2.result shape heap c.new.ensures c.open.ensures c.requires.no_variables c.new-2.ensures;
}
