use Rattle.std.proofs.Common.{sym, ◌∙◌}
use Rattle.linked_zone.proofs.Standing.{stands-now}
use Rattle.linked_zone.proofs.Located.{of-record}
use Rattle.linked_zone.proofs.Reported.{reported-none, reported-here}
use Rattle.linked_zone.proofs.zone.LinkedZone.entry.Goals as goal

pub returns-then-not-is_block : goal.returns-then-not-is_block
returns-then-not-is_block c =
    reported-none _ _ (stands-now c.self.invariant c.self.view_is) c.args.at (λ b. cc (sym c.if-not-is_block.true ∙ c.is_block.ensures.1 b))

pub entry_and_flags-head-requires : goal.entry_and_flags-head-requires
entry_and_flags-head-requires c = (of-record c.self.inside.records c.args.self.now (stands-now c.self.invariant c.self.view_is).blocks c.args.at (c.is_block.ensures.0 c.if-not-is_block.false)).entry

pub length_at-requires : goal.length_at-requires
length_at-requires c = (of-record c.self.inside.records c.args.self.now (stands-now c.self.invariant c.self.view_is).blocks c.args.at (c.is_block.ensures.0 c.if-not-is_block.false)).entry

pub returns : goal.returns
returns c =
    let stands = stands-now c.self.invariant c.self.view_is in
    let e = (of-record c.self.inside.records c.args.self.now stands.blocks c.args.at (c.is_block.ensures.0 c.if-not-is_block.false)).entry in
    reported-here _ _ stands c.args.at e c.entry_and_flags-head.result.0 c.length_at.result c.entry_and_flags-head.result.1 (c.entry_and_flags-head.ensures.entry e) (c.length_at.ensures e) c.entry_and_flags-head.ensures.flags
