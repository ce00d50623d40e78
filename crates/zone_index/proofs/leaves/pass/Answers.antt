use Rattle.std.proofs.Common.{inl, inr}
use Rattle.zone_index.proofs.leaves.pass.Goals as goal

pub returns-then-not-is_used-clause-passed : goal.returns-then-not-is_used-clause-passed
returns-then-not-is_used-clause-passed c split = record { rooms = inr c.touch_all.ensures.all.rooms; largest = inr c.touch_all.ensures.all.largest }

pub returns-else-not-is_used-clause-passed : goal.returns-else-not-is_used-clause-passed
returns-else-not-is_used-clause-passed c split =
    let used = c.is_used.ensures c.if-not-is_used.false split in
    record { rooms = inl (used, (λ j was. was)); largest = inl (used, (λ j was. was)) }
