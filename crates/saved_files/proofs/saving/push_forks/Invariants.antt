use Rattle.std.proofs.Common.{◌≡◌, ◌++◌, drop}
use Rattle.std.specs.List.{flat_map}
use Rattle.saved_files.proofs.Files.{disk_text}
use Rattle.saved_files.proofs.saving.push_forks.Given as goal

-- what was there, and all forks, once those of the other stores follow
abbrev pub invariant-loop-store : goal.invariant-loop-store
invariant-loop-store l = l.bytes.items ++ flat_map disk_text (drop l.store-index l.stores) ≡ l.fn.bytes.items ++ flat_map disk_text l.stores
