use Rattle.std.proofs.Common.{◌≡◌, ap, ◌∙◌}
use Rattle.mac_base.specs.HeadKind.{need}
use Rattle.mac_base.specs.ZoneSizes.{ZoneSizes}
use Rattle.zone_heap.proofs.Attempting.{reserve_refused}
use Rattle.zone_heap.proofs.place.reserve.Goals as goal
use Rattle.zone_heap.proofs.place.reserve.Goals.{After-need_for-needed}

-- how many bytes are needed
size : (c : After-need_for-needed) → c.need_for-needed.result ≡ need c.args.zone.now.shape.heads c.args.length
size c = c.need_for-needed.ensures ∙ ap (λ heads. need heads c.args.length) (c.heads.ensures ∙ ap (λ (s : ZoneSizes). s.heads) (rw c.linked.ensures at c.spec.ensures.sizes))

pub returns-in-None-clause-attempt : goal.returns-in-None-clause-attempt
returns-in-None-clause-attempt c = reserve_refused c.args.zone.now c.clear_lowest.new.zone c.need_for-needed.result c.args.length (size (goal.at.returns-in-None-clause-attempt c).After-need_for-needed) c.in-None.ensures.room
