use Rattle.std.proofs.Common.{sym, subst}
use Rattle.std.specs.Prelude.{IfNone, IfSome, IsTrue}
use Rattle.mac_base.specs.ZoneState.{ZoneState}
use Rattle.linked_zone.specs.Places.{SplitAt}
use Rattle.zone_index.specs.Purging.{FirstPurgeable, none_purgeable}
use Rattle.zone_index.proofs.Going.{none-passes, some-first}
use Rattle.zone_index.proofs.zone.IndexedZone.next_purgeable.Goals as goal

pub next_passing-requires : goal.next_passing-requires
next_passing-requires c = record { split = subst (λ (z : ZoneState). SplitAt z c.args.from) (sym c.self.view_is) c.requires; marked = c.self.invariant.purgeable }

pub returns-clause-next : goal.returns-clause-next
returns-clause-next c =
    subst (λ (z : ZoneState). IfSome c.next_passing.result (λ at. (split : SplitAt z c.args.from) → FirstPurgeable z.heap.table split.after c.args.from at)) c.self.view_is
    (some-first c.self.inside.zone c.spec-spec.ensures.possible c.args.from c.next_passing.result c.next_passing.ensures.next)

pub returns-clause-none : goal.returns-clause-none
returns-clause-none c =
    subst (λ (z : ZoneState). IfNone c.next_passing.result ((split : SplitAt z c.args.from) → IsTrue (none_purgeable z.heap.table split.after))) c.self.view_is
    (none-passes c.self.inside.zone c.spec-spec.ensures.possible c.args.from c.next_passing.result c.next_passing.ensures.none)
