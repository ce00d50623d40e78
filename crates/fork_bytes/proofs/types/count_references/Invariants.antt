use Rattle.std.proofs.Common.{◌≡◌, ◌≤◌, ◌+◌, ◌-◌, ◌*◌, ◌↔◌, length}
use Rattle.std.specs.List.{AllByRecursion}
use Rattle.fork_bytes.specs.Fork.{references_of, HasReferences}
use Rattle.fork_bytes.proofs.Lists.{references_rest, Ends}
use Rattle.fork_bytes.proofs.types.count_references.Given as goal

-- the references so far and those that are left are all, and all end within the map where those that are left do
abbrev pub invariant-loop-i : goal.invariant-loop-i
invariant-loop-i l = (l.total + length (references_rest l.map (l.list.count - l.i) (l.list.offset + 2 + 8 * l.i)) ≡ length (references_of l.map))
    × (HasReferences l.map ↔ AllByRecursion (Ends (length l.map)) (references_rest l.map (l.list.count - l.i) (l.list.offset + 2 + 8 * l.i)))
    × (l.total ≤ 65536 * l.i)
