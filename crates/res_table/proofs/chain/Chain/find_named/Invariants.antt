use Rattle.std.proofs.Common.{◌≡◌, ◌≤◌, length, take}
use Rattle.res_table.specs.Names.{is_named}
use Rattle.res_table.specs.OpenFiles.{latest_place, place_of_name}
use Rattle.res_table.proofs.chain.Chain.find_named.Given as goal

-- the place is in the files that are left
abbrev pub invariant-loop-end : goal.invariant-loop-end
invariant-loop-end g l = (latest_place (is_named l.kind l.name) (take l.end l.self-inside.files.items) ≡ place_of_name l.kind l.name l.fn.self) × (l.end ≤ length l.self-inside.files.items)

abbrev pub decreases-loop-end : goal.decreases-loop-end
decreases-loop-end g l = l.end
