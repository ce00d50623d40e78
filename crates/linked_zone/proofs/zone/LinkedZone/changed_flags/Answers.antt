use Rattle.std.proofs.Common.{Some, None, Option, subst, sym}
use Rattle.std.specs.Prelude.{IfNone}
use Rattle.zone_records.specs.Structure as records
use Rattle.linked_zone.proofs.Standing.{stands-now}
use Rattle.linked_zone.proofs.EndsStructure.{has-to, none-changed, first-changed}
use Rattle.linked_zone.proofs.zone.LinkedZone.changed_flags.Goals as goal

pub changed_slot-requires : goal.changed_slot-requires
changed_slot-requires c = has-to _ _ (stands-now c.self.invariant c.self.view_is) _ c.requires

-- what holds in any case holds where there is nothing
in_any_case : {A P : Type 0} (o : Option A) → P → IfNone o P
in_any_case None p = p
in_any_case (Some x) p = tt

pub returns-in_err-at-clause-none : goal.returns-in_err-at-clause-none
returns-in_err-at-clause-none c = in_any_case _ (none-changed _ _ (stands-now c.self.invariant c.self.view_is) c.args.bytes.now c.args.from c.in_err-at.ensures.none)

pub returns-clause-first : goal.returns-clause-first
returns-clause-first c = first-changed _ _ (stands-now c.self.invariant c.self.view_is) c.args.bytes.now c.args.from c.new.result c.in_ok-at.flags
    (subst (λ at. records.FirstChanged c.self.inside.records c.args.bytes.now c.args.from at c.in_ok-at.flags) (sym c.new.ensures) c.in_ok-at.ensures.first)
