use Rattle.std.proofs.Common.{◌∙◌, ap, arith}
use Rattle.mac_base.specs.ZoneMap.{free_bytes}
use Rattle.mac_base.specs.ZoneState.{ZoneState}
use Rattle.zone_index.proofs.Found.{none-lowest}
use Rattle.zone_index.proofs.zone.IndexedZone.lowest_gap.Goals as goal

pub returns-then-free_bytes-needed-clause-found : goal.returns-then-free_bytes-needed-clause-found
returns-then-free_bytes-needed-clause-found c =
    let z = c.args.self.now in
    let free = c.free_bytes.ensures ∙ ap (λ (z : ZoneState). free_bytes z.heap.map) c.self.view_is in
    none-lowest z.heap.table c.args.needed z.heap.map (omega (arith, free, c.if-free_bytes-needed.true))
