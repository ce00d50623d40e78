use Rattle.std.proofs.Common.{◌≡◌, ◌+◌, [], ◌∙◌, ap, refl, arith}
use Rattle.mac_base.specs.ZoneMap.{address_after}
use Rattle.mac_base.specs.ZoneSizes.{ZoneSizes}
use Rattle.linked_zone.specs.Places.{FirstFree, FreeAt}
use Rattle.zone_index.proofs.Found.{first-large}
use Rattle.zone_index.proofs.FreeWalk.{first-lowest}
use Rattle.zone_index.proofs.gap.large_first.Goals as goal
use Rattle.zone_index.proofs.gap.large_first.Goals.{In_ok-at}

-- the first block begins right after the zone's header
begins : (c : In_ok-at) → c.base.result + 52 ≡ address_after c.args.zone.now.shape []
begins c = let base = c.base.ensures.value ∙ ap (λ (s : ZoneSizes). s.base) c.spec.ensures.sizes in omega arith

-- of all blocks this is the first free one
first : (c : In_ok-at) → FirstFree c.args.zone.now.heap.map (c.base.result + 52) c.in_ok-at.at
first c = c.in_ok-at.ensures.next (record { before = []; after = c.args.zone.now.heap.map; map = refl; place = begins c })

-- so it is there
abbrev there : (c : In_ok-at) → FreeAt c.args.zone.now c.in_ok-at.at
there c = let f = first c in record { before = f.passed; size = f.size; after = f.after; map = f.splits; place = (let from = begins c in let place = f.place in omega arith) }

pub free_size-requires : goal.free_size-requires
free_size-requires c = there (goal.at.free_size-requires c).In_ok-at

pub returns-then-needed-free_size-clause-gap : goal.returns-then-needed-free_size-clause-gap
returns-then-needed-free_size-clause-gap c =
    let at = (goal.at.returns-then-needed-free_size-clause-gap c).In_ok-at in
    let size = c.free_size.ensures (there at) in
    first-large c.args.zone.now c.args.needed c.requires.some (c.base.result + 52) c.in_ok-at.at (begins at) (first at) (omega (arith, size, c.if-needed-free_size.true))

pub returns-then-needed-free_size-clause-lowest : goal.returns-then-needed-free_size-clause-lowest
returns-then-needed-free_size-clause-lowest c =
    let at = (goal.at.returns-then-needed-free_size-clause-lowest c).In_ok-at in
    let size = c.free_size.ensures (there at) in
    first-lowest c.args.zone.now c.args.needed (c.base.result + 52) c.in_ok-at.at (begins at) (first at) (omega (arith, size, c.if-needed-free_size.true))
