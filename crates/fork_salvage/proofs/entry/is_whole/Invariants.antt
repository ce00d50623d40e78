use Rattle.std.proofs.Common.{◌≡◌, ◌+◌, ◌-◌, ◌*◌}
use Rattle.std.specs.List.{list_all}
use Rattle.fork_bytes.specs.Fork.{Reference}
use Rattle.fork_bytes.proofs.Lists.{references_at}
use Rattle.fork_salvage.specs.Salvage.{has_bytes, is_whole}
use Rattle.fork_salvage.proofs.entry.is_whole.Given as goal

-- all references have their bytes exactly where those that are left have
abbrev pub invariant-loop-i : goal.invariant-loop-i
invariant-loop-i l = is_whole l.fork l.plan l.list
    ≡ list_all (λ (r : Reference). has_bytes l.fork l.plan r.place) (references_at l.list.kind (l.list.count - l.i) (l.list.start + 12 * l.i))
