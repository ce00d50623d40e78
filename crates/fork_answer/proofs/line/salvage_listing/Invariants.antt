use Rattle.std.proofs.Common.{◌≡◌, ◌-◌, ◌++◌, take}
use Rattle.std.specs.Prelude.{string_bytes}
use Rattle.std.specs.List.{flat_map}
use Rattle.fork_answer.specs.Lines.{item_line, salvage_listing}
use Rattle.fork_answer.proofs.line.salvage_listing.Given as goal

-- the lines so far, and those of the items that are left
abbrev pub invariant-loop-turn : goal.invariant-loop-turn
invariant-loop-turn l = string_bytes l.text ++ flat_map (item_line l.letters l.fork) (take (l.most - l._turn) l.salvage) ≡ salvage_listing l.letters l.fork l.most
