use Rattle.std.proofs.Common.{◌≡◌, ◌-◌, ◌<◌, ◌^◌, ◌∙◌, ap, arith}
use Rattle.mac_base.specs.ZoneSizes.{ZoneSizes}
use Rattle.mac_base.specs.HandleTable.{no_flags, zeros}
use Rattle.zone_records.specs.Records.{Relocatable}
use Rattle.zone_records.specs.Places.{RoomFor}
use Rattle.zone_records.specs.Changes.{filled}
use Rattle.zone_records.proofs.Held.{Held, held-now, fields}
use Rattle.zone_records.proofs.Placing.{handle-can, handle-unlent, handle-cleared}
use Rattle.zone_records.proofs.records.Records.place_handle.Goals as goal
use Rattle.zone_records.proofs.records.Records.place_handle.Goals.{After-base, After-clear}

-- where the handle's number lies in the zone
offset : (c : After-base) → c.number.result - c.base.result ≡ c.args.handle - c.args.self.now.shape.base
offset c =
    let base = c.base.ensures.value ∙ ap (λ (s : ZoneSizes). s.base) c.spec.ensures in
    let number = c.number.ensures in (λ i. number i - base i)

small : (c : After-base) → c.args.handle < 2 ^ 32
small c = let number = c.number.ensures in let range = c.number.type_inv in omega arith

pub assign-requires : goal.assign-requires
assign-requires c =
    let n = (goal.at.assign-requires c).After-base in
    handle-can _ _ (held-now c.self.invariant c.self.view_is) c.args.at c.args.length c.requires.room c.args.handle _ c.requires.above (small n) (offset n)

pub clear-requires : goal.clear-requires
clear-requires c =
    let n = (goal.at.clear-requires c).After-base in
    handle-unlent _ _ (held-now c.self.invariant c.self.view_is) c.args.at c.args.length c.requires.room c.args.handle _ c.requires.above (small n) (offset n) c.assign.new.self c.assign.ensures

-- how it ends
ends : (c : After-clear) → (r : RoomFor c.args.self.now c.args.at c.args.length) → Held c.clear.new.self (filled (Relocatable c.args.handle no_flags (zeros c.args.length)) c.args.self.now r.free)
ends c r =
    let n = (goal.at.After-clear c).After-base in
    handle-cleared _ _ (held-now c.self.invariant c.self.view_is) c.args.at c.args.length r c.args.handle _ c.requires.above (small n) (offset n) c.assign.new.self c.clear.new.self c.assign.ensures c.clear.ensures

pub invariant_of-self : goal.invariant_of-self
invariant_of-self c = fields _ _ (ends (goal.at.invariant_of-self c).After-clear c.requires.room)

pub returns : goal.returns
returns c r = (ends (goal.at.returns c).After-clear r).shows
