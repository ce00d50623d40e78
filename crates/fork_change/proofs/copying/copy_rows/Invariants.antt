use Rattle.std.proofs.Common.{◌≡◌, drop}
use Rattle.std.specs.List.{filter}
use Rattle.fork_change.specs.Copies.{copied, is_chosen}
use Rattle.fork_change.specs.Index.{HasIds}
use Rattle.fork_change.proofs.copying.copy_rows.Given as goal

-- the other chosen rows, copied to these, give what all give; the types and ids of these are known
abbrev pub invariant-loop-row : goal.invariant-loop-row
invariant-loop-row l =
    (copied l.how (filter (is_chosen l.choices) (drop l.row-index l.from)) l.rows.items ≡ copied l.how (filter (is_chosen l.choices) l.from) l.fn.rows.items)
    × HasIds l.ids l.rows.items
