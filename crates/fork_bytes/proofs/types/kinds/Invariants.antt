use Rattle.std.proofs.Common.{◌≡◌, ◌+◌, ◌-◌, ◌*◌, ◌++◌, map}
use Rattle.fork_bytes.specs.Fork.{TypeEntry}
use Rattle.fork_bytes.specs.Reading.{kinds_of}
use Rattle.fork_bytes.proofs.Lists.{entries_rest}
use Rattle.fork_bytes.proofs.types.kinds.Given as goal

-- the types so far and those that are left are all
abbrev pub invariant-loop-i : goal.invariant-loop-i
invariant-loop-i l = l.kinds.items ++ map (λ (e : TypeEntry). e.kind) (entries_rest l.map (l.list.count - l.i) (l.list.offset + 2 + 8 * l.i)) ≡ kinds_of l.map
