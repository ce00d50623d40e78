use Rattle.std.proofs.Common.{◌∙◌, ap, sym}
use Rattle.mac_base.specs.declared.block.Flags.{Flags}
use Rattle.mac_base.specs.HandleTable.{with_flags}
use Rattle.mac_base.specs.Heap.{with_table}
use Rattle.held_zone.proofs.Keeping.{set-done, set-heap}
use Rattle.held_zone.proofs.repairing.set_flags.Goals as goal

pub unreachable-requires : goal.unreachable-requires
unreachable-requires c =
    let z = c.args.memory.now in
    set-done z.shape z.heap c.hset_state.new.self.heap c.args.handle c.state_of.result c.hset_state.result c.linked-linked.ensures.sound c.requires.nothing_lent c.requires.full c.state_of.ensures.possible c.hset_state.ensures.exact
    (sym c.is_err.ensures.value ∙ c.if-is_err.true)

pub returns : goal.returns
returns c =
    let z = c.args.memory.now in
    let heap = set-heap z.shape z.heap c.hset_state.new.self.heap c.args.handle c.state_of.result c.hset_state.result c.linked-linked.ensures.sound c.requires.nothing_lent c.requires.full c.state_of.ensures.possible c.hset_state.ensures.exact
    ∙ ap (λ (flags : Flags). with_table (with_flags c.args.handle flags z.heap.table) z.heap) c.state_of.ensures.flags in
    λ i. record { memory = c.hset_state.ensures.loans.0 i; shape = c.hset_state.ensures.shape i; heap = heap i }
