use Rattle.std.proofs.Common.{◌≡◌, ◌++◌, ℕ, List, length, map, drop}
use Rattle.std.specs.List.{flat_map}
use Rattle.res_files.specs.Standing.{most_files}
use Rattle.res_update.specs.Device.{Disk}
use Rattle.saved_files.specs.Saved.{block_text}
use Rattle.saved_files.specs.Sound.{disk_of}
use Rattle.saved_files.proofs.loading.stores_in.Given as goal

-- where the bytes begin with blocks of forks, the forks so far are the first of these, and the blocks of the others are left
abbrev pub invariant-loop : goal.invariant-loop
invariant-loop l = (length l.stores.items ≡ l.counter)
    × ((disks : List Disk) (after : List ℕ) → length disks ≡ most_files → l.bytes ≡ flat_map block_text disks ++ after
    → (map disk_of l.stores.items ++ drop l.counter disks ≡ disks) × (l.rest ≡ flat_map block_text (drop l.counter disks) ++ after))
