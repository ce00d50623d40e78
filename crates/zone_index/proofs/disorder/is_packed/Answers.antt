use Rattle.std.proofs.Common.{◌≡◌, ◌+◌, [], ◌∙◌, ap, refl, arith}
use Rattle.mac_base.specs.declared.block.Kind.TheVariants.{Free}
use Rattle.mac_base.specs.ZoneMap.{address_after, block}
use Rattle.mac_base.specs.ZoneSizes.{ZoneSizes}
use Rattle.linked_zone.specs.Places.{EntryAt, FirstFree, SplitAt}
use Rattle.zone_index.proofs.OutOfOrder.{order-packed, order-used}
use Rattle.zone_index.proofs.disorder.is_packed.Goals as goal
use Rattle.zone_index.proofs.disorder.is_packed.Goals.{After-base-first, In-Some}

-- all blocks are from the first on
abbrev whole : (c : After-base-first) → SplitAt c.args.zone.now (c.base-first.result + 52)
whole c = record {
  before = [];
  after = c.args.zone.now.heap.map;
  map = refl;
  place = (let base = c.base-first.ensures.value ∙ ap (λ (s : ZoneSizes). s.base) c.spec.ensures.sizes in let e : c.base-first.result + 52 ≡ address_after c.args.zone.now.shape [] = omega arith in e);
}

-- of these this is the first free one
abbrev first : (c : In-Some) → FirstFree c.args.zone.now.heap.map (c.base-first.result + 52) c.in-Some.low
first c = c.in-Some.ensures.next (whole (goal.at.after-requires c).After-base-first)

-- so it is there
abbrev there : (c : In-Some) → EntryAt c.args.zone.now c.in-Some.low
there c =
    let f = first c in
    let w = whole (goal.at.after-requires c).After-base-first in
    record { before = f.passed; here = block Free f.size; after = f.after; map = f.splits; place = (let from = w.place in let place = f.place in omega arith) }

pub after-requires : goal.after-requires
after-requires c = there c

pub returns-in_default : goal.returns-in_default
returns-in_default c _ = order-used c.args.zone.now.heap.table c.args.zone.now.heap.map (c.in_default.ensures.none (whole (goal.at.returns-in_default c).After-base-first))

pub returns-in-None : goal.returns-in-None
returns-in-None c _ =
    let s = (goal.at.returns-in-None c).In-Some in
    order-packed c.args.zone.now.heap.table c.args.zone.now.heap.map _ _ (first s) (c.in-None.ensures.last (there s))
