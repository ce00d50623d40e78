use Rattle.std.proofs.Common.{slice_get, ap, sym, ◌∙◌}
use Rattle.zone_index.proofs.Noted.{get-added}
use Rattle.zone_index.proofs.lengths.extend.Goals as goal

pub loop-places-preserved : goal.loop-places-preserved
loop-places-preserved c p n there = c.loop-places.invariant p n (get-added c.loop-places.places.items p n (ap (λ xs. slice_get xs p) (sym c.in-Ok.ensures.items) ∙ there))
