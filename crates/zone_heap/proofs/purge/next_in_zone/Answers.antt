use Rattle.std.proofs.Common.{◌≡◌, ◌+◌, ◌∙◌, ap, arith, []}
use Rattle.mac_base.specs.ZoneMap.{address_after}
use Rattle.mac_base.specs.ZoneSizes.{ZoneSizes}
use Rattle.zone_heap.specs.Purge.{BlocksAt}
use Rattle.zone_heap.proofs.Candidates.{whole_zone}
use Rattle.zone_heap.proofs.purge.next_in_zone.Goals as goal
use Rattle.zone_heap.proofs.purge.next_in_zone.Goals.{After-zone_end}

-- the first block's address
start : (c : After-zone_end) → c.base-start.result + 52 ≡ address_after c.args.zone.now.shape []
start c =
    let base = c.base-start.ensures.value ∙ ap (λ (s : ZoneSizes). s.base) (rw c.linked-linked.ensures at c.spec.ensures.sizes) in
    omega (arith, base)

-- all blocks are between the zone's ends
abbrev all : (c : After-zone_end) → BlocksAt c.args.zone.now (c.base-start.result + 52) c.zone_end.result
all c = whole_zone c.args.zone.now (c.base-start.result + 52) c.zone_end.result (start c) (rw c.linked-linked.ensures at c.zone_end.ensures.address)

pub next_between-requires : goal.next_between-requires
next_between-requires c = record { blocks = all (goal.at.next_between-requires c).After-zone_end }

pub returns : goal.returns
returns c = c.next_between.ensures (all (goal.at.returns c).After-zone_end)
