use Rattle.std.proofs.Common.{◌≡◌, ◌∙◌, ap, sym, true, cond, [], Option}
use Rattle.std.specs.List.{slice_get}
use Rattle.std.specs.Option.{option_map_or}
use Rattle.mac_base.specs.Gap.{Gap, gap_after, gaps}
use Rattle.mac_base.specs.Request.{candidates, candidates_in, stays}
use Rattle.zone_heap.proofs.Candidates.{blocks_after}
use Rattle.zone_heap.proofs.purge.next_for.Goals as goal

pub next_between-requires : goal.next_between-requires
next_between-requires c = record { blocks = blocks_after c.args.zone.now c.in-Resize.block c.gap_after-gap.result c.gap_after-gap.ensures }

pub returns-in-Resize : goal.returns-in-Resize
returns-in-Resize c =
    let z = c.args.zone.now in
    let t = z.heap.table in
    let p = c.args.protected.now in
    let x = c.in-Resize.block in
    let is = c.gap_after-gap.ensures in
    let fixed : stays t x ≡ true = sym (rw c.linked.ensures at c.stays.ensures) ∙ c.if-stays.true in
    c.next_between.ensures (blocks_after z x c.gap_after-gap.result is)
    ∙ ap (λ (o : Option Gap). slice_get (candidates_in t p (option_map_or (λ (g : Gap). g.blocks) o [])) 0) (sym is.is)
    ∙ ap (λ b. slice_get (candidates_in t p (cond b (option_map_or (λ (g : Gap). g.blocks) (gap_after x (gaps t z.heap.map)) []) z.heap.map)) 0) (sym fixed)
    ∙ ap (λ r. slice_get (candidates t p r z.heap.map) 0) (sym c.in-Resize.is)
