use Rattle.std.proofs.Common.{◌≡◌, take, true}
use Rattle.std.specs.List.{list_all}
use Rattle.linked_zone.specs.Structure.{shown}
use Rattle.held_zone.specs.Asleep.{is_lendable}
use Rattle.held_zone.proofs.lending_again.all_lendable.Given as goal

-- each so far may be lent
abbrev pub invariant-loop-block : goal.invariant-loop-block
invariant-loop-block l = list_all (is_lendable (shown l.memory l.bytes)) (take l.block-index l.blocks) ≡ true
