use Rattle.std.proofs.Common.{◌-◌, ◌≡◌, ◌+◌, ◌/◌, ◌≤◌, length}
use Rattle.zone_look.specs.Free.{free_from, free_list}
use Rattle.zone_look.proofs.free.free_masters.Given as goal

-- those so far and those from here on are all
abbrev pub invariant-loop-count : goal.invariant-loop-count
invariant-loop-count l = record {
  counted : l.count + length (free_from (l.end / 4 - l.count) l.dump l.end l.at).slots ≡ length (free_list l.dump l.end).slots;
  same_fault : (free_from (l.end / 4 - l.count) l.dump l.end l.at).fault ≡ (free_list l.dump l.end).fault;
  within : l.at + 4 ≤ l.end;
}
