use Rattle.std.proofs.Common.{ap, sym, subst, ◌∙◌}
use Rattle.mac_base.specs.Loans.{LoansAreFixed}
use Rattle.mac_base.specs.HeadKind.{need, master_length}
use Rattle.mac_base.specs.Heap.{new_heap}
use Rattle.mac_base.specs.ZoneSizes.{shape_of}
use Rattle.mac_base.specs.ZoneState.{ZoneState, own_memory}
use Rattle.mac_base.specs.Sound.{Sound}
use Rattle.zone_laws.proofs.SoundNew.{sound-new}
use Rattle.zone_heap.proofs.NewZone.{Begun, new-cut, new-room, new-heap}
use Rattle.zone_heap.proofs.zone.Zone.create.Goals as goal
use Rattle.zone_heap.proofs.zone.Zone.create.Goals.{After-need_for}

-- the zone before it is cut
begun : (c : After-need_for) → Begun (own_memory c.in_ok-pointers.pointers.memory.region) c.args.spec c.in_ok-pointers.pointers c.base-first.result c.need_for.result
begun c = record { possible = c.base-first.ensures.possible; bare = c.in_ok-pointers.ensures; base = c.base-first.ensures.value; size = c.need_for.ensures ∙ ap (λ heads. need heads master_length) c.heads.ensures }

pub split-requires : goal.split-requires
split-requires c = new-cut (own_memory c.in_ok-pointers.pointers.memory.region) c.args.spec c.in_ok-pointers.pointers c.base-first.result c.need_for.result (begun (goal.at.split-requires c).After-need_for)

pub build_master-requires : goal.build_master-requires
build_master-requires c = new-room (own_memory c.in_ok-pointers.pointers.memory.region) c.args.spec c.in_ok-pointers.pointers c.split.new.self c.base-first.result c.need_for.result (begun (goal.at.build_master-requires c).After-need_for) c.split.ensures

pub returns : goal.returns
returns c =
    let is = new-heap (own_memory c.in_ok-pointers.pointers.memory.region) c.args.spec c.in_ok-pointers.pointers c.split.new.self c.build_master.new.self c.base-first.result c.need_for.result (begun (goal.at.returns c).After-need_for) c.split.ensures c.build_master.ensures in
    is ∙ ap (λ memory. let new : ZoneState = record { memory = memory; shape = shape_of c.args.spec; heap = new_heap (shape_of c.args.spec) c.args.spec.size } in new) (sym (ap (λ (z : ZoneState). own_memory z.memory.region) is))

pub invariant_of-result : goal.invariant_of-result
invariant_of-result c =
    let is = new-heap (own_memory c.in_ok-pointers.pointers.memory.region) c.args.spec c.in_ok-pointers.pointers c.split.new.self c.build_master.new.self c.base-first.result c.need_for.result (begun (goal.at.invariant_of-result c).After-need_for) c.split.ensures c.build_master.ensures in
    record {
      sound = subst (λ (z : ZoneState). Sound z.shape z.heap) (sym is) (sound-new c.args.spec c.base-first.ensures.possible);
      fixed = subst (λ (z : ZoneState). LoansAreFixed z.heap) (sym is) (λ x lent. absurd (cc lent));
    }
