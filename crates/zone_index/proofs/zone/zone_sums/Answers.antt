use Rattle.std.proofs.Common.{◌∙◌}
use Rattle.zone_index.proofs.Reports.{reports-space, reports-contiguous}
use Rattle.zone_index.proofs.zone.zone_sums.Goals as goal

pub returns-clause-space : goal.returns-clause-space
returns-clause-space c =
    let z = c.args.zone.now in
    reports-space z.heap.table z.heap.map c.all_pages-all.result c.all_pages-all.ensures.sums z.shape c.spec-spec.ensures.fits.coherent

pub returns-clause-contiguous : goal.returns-clause-contiguous
returns-clause-contiguous c =
    let z = c.args.zone.now in
    c.most.ensures ∙ reports-contiguous z.heap.table z.heap.map c.all_pages-all.result c.all_pages-all.ensures.sums z.shape c.spec-spec.ensures.fits.coherent
