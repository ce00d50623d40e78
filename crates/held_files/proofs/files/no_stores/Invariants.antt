use Rattle.std.proofs.Common.{◌≡◌, [], map, replicate}
use Rattle.held_files.specs.Forks.{fork_in}
use Rattle.held_files.proofs.files.no_stores.Given as goal

-- so many forks have no bytes
abbrev pub invariant-loop : goal.invariant-loop
invariant-loop l = map fork_in l.stores.items ≡ replicate l.counter []
