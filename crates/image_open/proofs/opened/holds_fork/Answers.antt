use Rattle.std.proofs.Common.{◌≡◌, ℕ, List, min, subst, arith}
use Rattle.hfs_tree.proofs.Learned.{keeps_both}
use Rattle.fork_disk.specs.Disk.{bytes_at}
use Rattle.image_open.proofs.Fronts.{front_says}
use Rattle.image_open.proofs.opened.holds_fork.Goals as goal

pub returns : goal.returns
returns g c = record {
  reads = λ honest.
      let second = c.in_ok-front.ensures.reads honest in
      let first = c.in_ok-size.ensures.measures second.keeps.honest in
      let file = g.D.ForkDisk.seen c.args.disk.now in
      let size = c.in_ok-size.size in
      let least = c.min.result in
      let front = c.in_ok-front.front.items in
      let fewer : least ≡ min 4096 size = grind arith in
      let read : front ≡ bytes_at least 0 file = subst (λ (f : List ℕ). front ≡ bytes_at least 0 f) first.keeps.same second.known in
      let says = rw c.deref.ensures.value at c.is_other.ensures in
      record {
        keeps = keeps_both g.D.ForkDisk _ _ _ first.keeps second.keeps;
        known = front_says file front size least c.is_other.result first.value fewer read says;
      };
}
