-- Two calls on a disk that is only read, one after the other.
use Rattle.std.proofs.Common.{◌∙◌}
use Rattle.fork_disk.specs.declared.disk.ForkDisk.{Ghosts}
use Rattle.fork_disk.specs.OnDisk.{KeepsDisk}

module _ {D : Type 0} (disk : Ghosts D) where
  -- a disk that two calls only read
  pub keeps_both : (old mid new : D) → KeepsDisk disk.seen disk.is_honest disk.is_stable old mid → KeepsDisk disk.seen disk.is_honest disk.is_stable mid new
      → KeepsDisk disk.seen disk.is_honest disk.is_stable old new
  keeps_both old mid new first then_ = record { honest = first.honest; same = then_.same ∙ first.same; stable = λ stable. then_.stable (first.stable stable) }
