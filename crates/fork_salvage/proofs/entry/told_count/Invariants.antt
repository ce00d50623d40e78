use Rattle.std.proofs.Common.{◌≡◌, ◌≤◌, ◌*◌, ◌+◌, ◌-◌}
use Rattle.std.specs.Prelude.{sum_by}
use Rattle.fork_bytes.specs.Fork.{places}
use Rattle.fork_salvage.specs.Salvage.{told_count, told_list}
use Rattle.fork_salvage.proofs.entry.told_count.Given as goal

-- the references of the entries so far, and those of the entries that are left, are all
abbrev pub invariant-loop-i : goal.invariant-loop-i
invariant-loop-i l = (l.count ≤ 65535 * l.i)
    × (l.count + sum_by (λ i. (told_list l.map l.types i).count) (places (l.types.count - l.i) l.i 1) ≡ told_count l.map l.types)
