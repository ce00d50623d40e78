use Rattle.std.proofs.Common.{◌+◌, ◌-◌}
use Rattle.zone_index.proofs.Forgetting.{Forgotten}
use Rattle.zone_index.proofs.pages.forget.Given as goal

abbrev pub invariant-loop-page : goal.invariant-loop-page
invariant-loop-page l = Forgotten l.fn.pages l.pages l.first l.page

abbrev pub decreases-loop-page : goal.decreases-loop-page
decreases-loop-page l = l.last + 1 - l.page
