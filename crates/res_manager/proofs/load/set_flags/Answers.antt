use Rattle.std.proofs.Common.{[], refl, ◌∙◌, ap}
use Rattle.mac_base.specs.HandleTable.{with_flags}
use Rattle.mac_base.specs.Heap.{with_table}
use Rattle.mac_base.specs.declared.memory_call.MemoryCall.TheVariants.{OnBlock}
use Rattle.mac_base.specs.declared.memory_call.BlockCall.TheVariants.{HSetState}
use Rattle.mac_base.specs.Outcomes.{done_outcome}
use Rattle.res_manager.proofs.Filling.{quiet-heap, state-passes}
use Rattle.res_manager.proofs.load.set_flags.Goals as goal

pub returns-clause-heap : goal.returns-clause-heap
returns-clause-heap c =
    let old = c.args.memory.now in
    let new = c.hset_state.new.self in
    let passes = state-passes old.shape c.args.handle c.requires.0 old.heap old.heap c.requires.1 c.state_of.result c.state_of.ensures.possible in
    quiet-heap old.shape old.heap new.heap (OnBlock (HSetState c.args.handle c.state_of.result)) [] (done_outcome c.hset_state.result) passes refl c.hset_state.ensures.exact
    ∙ ap (λ f. with_table (with_flags c.args.handle f old.heap.table) old.heap) (c.state_of.ensures.flags ∙ c.flags_for.ensures)
