use Rattle.std.proofs.Common.{ap, sym, ◌∙◌, subst, arith}
use Rattle.mac_base.specs.ZoneState.{ZoneState}
use Rattle.linked_zone.specs.Structure.{HasStructure, IsIn}
use Rattle.mem_calls.proofs.FlagsTaken.{flags-begin, flags-end, flags-next, next-full, next-further, next-here}
use Rattle.mem_calls.proofs.waking.set_changed.Goals as goal

pub loop-handle-init : goal.loop-handle-init
loop-handle-init c = flags-begin c.args.zone.now c.args.bytes.now c.first_block-from.result c.first_block-from.ensures.sound c.first_block-from.ensures.address

pub changed_flags-requires : goal.changed_flags-requires
changed_flags-requires c = subst (λ (z : ZoneState). HasStructure z c.args.bytes.now) (sym c.linked.ensures.zone) (subst (λ (w : ZoneState). IsIn w c.args.bytes.now) (sym c.loop-handle.invariant.others) c.requires.same)

pub set_flags-requires-clause-full : goal.set_flags-requires-clause-full
set_flags-requires-clause-full c = next-full _ c.loop-handle.zone _ _ _ c.loop-handle.invariant c.linked.ensures.zone c.in-Some.ensures.first

pub set_flags-requires-clause-fixed : goal.set_flags-requires-clause-fixed
set_flags-requires-clause-fixed c =
    next-here _ c.loop-handle.zone _ _ _ c.loop-handle.invariant c.linked.ensures.zone c.in-Some.ensures.first (ap (λ (z : ZoneState). z.heap.table.lent) c.loop-handle.invariant.others ∙ c.requires.nothing_lent)

pub loop-handle-preserved : goal.loop-handle-preserved
loop-handle-preserved c =
    flags-next _ c.loop-handle.zone _ _ _ c.loop-handle.invariant c.linked.ensures.zone c.in-Some.ensures.first c.set_flags.new.self c.number-from.result c.number-from.ensures c.linked.ensures.sound
    (ap (λ (z : ZoneState). z.heap.table.lent) c.loop-handle.invariant.others ∙ c.requires.nothing_lent) c.set_flags.ensures.heap c.set_flags.ensures.shape c.set_flags.ensures.memory

pub loop-handle-smaller : goal.loop-handle-smaller
loop-handle-smaller c =
    omega (arith, next-further c.args.zone.now c.loop-handle.zone c.linked.result.now c.args.bytes.now c.loop-handle.from c.loop-handle.invariant c.linked.ensures.zone c.in-Some.ensures.first)

pub returns : goal.returns
returns c = flags-end _ c.loop-handle.zone _ _ _ c.loop-handle.invariant c.linked.ensures.zone c.linked.ensures.sound c.in_default.ensures.none
