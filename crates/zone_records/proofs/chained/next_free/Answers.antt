use Rattle.std.proofs.Common.{◌≡◌, ℕ, inl, inr, Option, Some, None, IfNone}
use Rattle.zone_records.specs.declared.slot.Slot.TheVariants as slot
use Rattle.zone_records.proofs.ZoneSlots.{slot-once}
use Rattle.zone_records.proofs.chained.next_free.Goals as goal

-- what holds holds where there is none
of-none : {P : Type 0} (r : Option ℕ) → P → IfNone r P
of-none None h = h
of-none (Some n) h = tt

pub returns-in_err-next-clause-none : goal.returns-in_err-next-clause-none
returns-in_err-next-clause-none c = of-none c.from_residual.result (λ next there. c.in_err-next.ensures.none (slot.Free next) there)

pub returns-in-Empty : goal.returns-in-Empty
returns-in-Empty c = record {
  next = tt;
  none = λ next there.
      let same : c.in_ok-next.field-0 ≡ slot.Free next = slot-once c.args.blocks.now c.requires c.args.at c.in_ok-next.field-0 (slot.Free next) c.in_ok-next.ensures.there there in elim c.in-Empty.is [
        | inl empty ↦ absurd (cc (same, empty))
        | inr full ↦ (let is = full.2 in absurd (cc (same, is)))
      ];
}
