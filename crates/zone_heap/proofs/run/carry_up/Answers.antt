use Rattle.std.proofs.Common.{◌≡◌, ◌++◌, ap, arith}
use Rattle.mac_base.specs.declared.block.Entry.{Entry}
use Rattle.linked_zone.specs.Places.{ParcelAt}
use Rattle.zone_heap.proofs.run.carry_up.Goals as goal
use Rattle.zone_heap.proofs.run.carry_up.Goals.{After-entry_at-size}

-- the size that was read is the block's
size : (c : After-entry_at-size) (parcel : ParcelAt c.args.zone.now c.args.start c.args.end) → c.entry_at-size.result.size ≡ (parcel.here).size
size c parcel = ap (λ (e : Entry). e.size)
    ((rw c.linked.ensures at c.entry_at-size.ensures) (record { before = parcel.before; here = parcel.here; after = parcel.blocks ++ parcel.after; map = parcel.map; place = parcel.place }))

pub overflow_sub-result : goal.overflow_sub-result
overflow_sub-result c = let long = (c.requires.parcel).long in omega (arith, size (goal.at.overflow_sub-result c).After-entry_at-size c.requires.parcel)

pub returns-clause-address : goal.returns-clause-address
returns-clause-address c parcel = let long = parcel.long in omega (arith, size (goal.at.returns-clause-address c).After-entry_at-size parcel)
