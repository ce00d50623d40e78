use Rattle.std.proofs.Common.{◌≡◌, ◌+◌, ◌∙◌, ap, arith}
use Rattle.mac_base.specs.HeadKind.{head_size}
use Rattle.linked_zone.specs.Changes.{flagged}
use Rattle.linked_zone.proofs.Standing.{Kept, stands-now}
use Rattle.linked_zone.proofs.EndsSwapped.{head-is, kind-is}
use Rattle.linked_zone.proofs.EndsFlags.{flags-below, flags-slot, flags-said, flags-ends_slot, flags-block, flags-can, flags-ends_header}
use Rattle.linked_zone.proofs.zone.LinkedZone.set_flags.Goals as goal

-- where the contents begin
begins : (c : goal.After-head_size) → c.block_of-at.result + c.head_size.result ≡ c.block_of-at.result + head_size c.args.self.now.shape.heads
begins c = ap (λ n. c.block_of-at.result + n) (head-is _ _ (stands-now c.self.invariant c.self.view_is) c.spec.result c.heads-heads.result c.head_size.result c.spec.ensures c.heads-heads.ensures c.head_size.ensures)

pub overflow_add-contents : goal.overflow_add-contents
overflow_add-contents c = let below = flags-below _ _ (stands-now c.self.invariant c.self.view_is) c.args.handle c.block_of-at.result c.args.flags c.requires c.block_of-at.ensures in let is = begins c in omega arith

pub set_slot-requires-clause-there : goal.set_slot-requires-clause-there
set_slot-requires-clause-there c = flags-slot _ _ (stands-now c.self.invariant c.self.view_is) c.args.handle c.block_of-at.result c.args.flags c.requires c.block_of-at.ensures c.number.result c.number.ensures

pub set_slot-requires-clause-sayable : goal.set_slot-requires-clause-sayable
set_slot-requires-clause-sayable c = flags-said _ _ (stands-now c.self.invariant c.self.view_is) c.args.handle c.block_of-at.result c.args.flags c.requires c.block_of-at.ensures _ (ap (λ n. c.block_of-at.result + n) (head-is _ _ (stands-now c.self.invariant c.self.view_is) c.spec.result c.heads-heads.result c.head_size.result c.spec.ensures c.heads-heads.ensures c.head_size.ensures)) (kind-is _ _ (stands-now c.self.invariant c.self.view_is) c.spec.result c.heads-heads.result c.spec.ensures c.heads-heads.ensures ∙ c.in-Bits24.is)

-- how it ends where slots say flags
ends_slot : (c : goal.After-set_slot) → Kept c.set_slot.new.self (flagged c.args.handle c.args.flags c.args.self.now)
ends_slot c = flags-ends_slot _ _ (stands-now c.self.invariant c.self.view_is) c.args.handle c.block_of-at.result c.args.flags c.requires c.block_of-at.ensures _ (ap (λ n. c.block_of-at.result + n) (head-is _ _ (stands-now c.self.invariant c.self.view_is) c.spec.result c.heads-heads.result c.head_size.result c.spec.ensures c.heads-heads.ensures c.head_size.ensures)) (kind-is _ _ (stands-now c.self.invariant c.self.view_is) c.spec.result c.heads-heads.result c.spec.ensures c.heads-heads.ensures ∙ c.in-Bits24.is)
    c.number.result c.set_slot.new.self c.number.ensures c.set_slot.ensures

pub invariant_of-self : goal.invariant_of-self
invariant_of-self c = (ends_slot c).inside

pub returns-in-Bits24 : goal.returns-in-Bits24
returns-in-Bits24 c = (ends_slot c).same

pub set_header_flags-requires-clause-there : goal.set_header_flags-requires-clause-there
set_header_flags-requires-clause-there c = flags-block _ _ (stands-now c.self.invariant c.self.view_is) c.args.handle c.block_of-at.result c.args.flags c.requires c.block_of-at.ensures

pub set_header_flags-requires-clause-sayable : goal.set_header_flags-requires-clause-sayable
set_header_flags-requires-clause-sayable c = flags-can _ _ (stands-now c.self.invariant c.self.view_is) c.args.handle c.block_of-at.result c.args.flags c.requires c.block_of-at.ensures (kind-is _ _ (stands-now c.self.invariant c.self.view_is) c.spec.result c.heads-heads.result c.spec.ensures c.heads-heads.ensures ∙ c.in-Bits32.is)

-- how it ends where headers say them
ends_header : (c : goal.After-set_header_flags) → Kept c.set_header_flags.new.self (flagged c.args.handle c.args.flags c.args.self.now)
ends_header c = flags-ends_header _ _ (stands-now c.self.invariant c.self.view_is) c.args.handle c.block_of-at.result c.args.flags c.requires c.block_of-at.ensures (kind-is _ _ (stands-now c.self.invariant c.self.view_is) c.spec.result c.heads-heads.result c.spec.ensures c.heads-heads.ensures ∙ c.in-Bits32.is)
    c.set_header_flags.new.self c.set_header_flags.ensures

pub invariant_of-self-in-Bits32 : goal.invariant_of-self-in-Bits32
invariant_of-self-in-Bits32 c = (ends_header c).inside

pub returns-in-Bits32 : goal.returns-in-Bits32
returns-in-Bits32 c = (ends_header c).same
