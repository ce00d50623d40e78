use Rattle.std.proofs.Common.{◌≡◌, [], drop, take}
use Rattle.std.specs.List.{filter}
use Rattle.fork_change.specs.Copies.{is_chosen, second_of}
use Rattle.fork_change.specs.Index.{HasIds}
use Rattle.fork_change.proofs.choosing.second_of.Given as goal

-- the others give what all give, after the chosen ones so far, whose types and ids are known
abbrev pub invariant-loop-row : goal.invariant-loop-row
invariant-loop-row l =
    (second_of (filter (is_chosen l.choices) (take l.row-index l.rows)) (filter (is_chosen l.choices) (drop l.row-index l.rows)) ≡ second_of [] (filter (is_chosen l.choices) l.rows))
    × HasIds l.seen (filter (is_chosen l.choices) (take l.row-index l.rows))
