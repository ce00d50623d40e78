use Rattle.std.proofs.Common.{◌≡◌, ◌+◌, ◌-◌, ◌*◌, suc, ℕ, List, ap, sym, ◌∙◌, arith}
use Rattle.std.proofs.lemmas.Bool.{ne_eqb}
use Rattle.byteorder.specs.Endian.{big_from}
use Rattle.fork_disk.specs.Disk.{bytes_at}
use Rattle.hfs_tree.proofs.Learned.{keeps_both}
use Rattle.disk_image.specs.Devices.{bytes_in}
use Rattle.disk_image.proofs.PartsRead.{part_read, part_faults, no_part}
use Rattle.disk_image.proofs.map.read_parts.Goals as goal

pub returns-then-read_two-ne-MARK-clause-reads : goal.returns-then-read_two-ne-MARK-clause-reads
returns-then-read_two-ne-MARK-clause-reads g c = λ honest.
    let read = c.in_ok-entry.ensures.reads honest in
    let so_far = c.loop-index.invariant.reads read.keeps.honest in
    let view = c.args.view.now in
    let grid = c.args.grid in
    let index = c.loop-index.index in
    let entry = c.in_ok-entry.entry in
    let is : entry ≡ bytes_at 512 (grid.step * (index + 1)) (bytes_in view (g.D.ForkDisk.seen c.args.disk.now)) =
    read.known ∙ ap (λ (file : List ℕ). bytes_at 512 (grid.step * (index + 1)) (bytes_in view file)) so_far.keeps.same in
    let left : c.args.count - index ≡ suc (c.args.count - (index + 1)) = omega (arith, c.loop-index-test.true) in
    record {
      keeps = keeps_both g.D.ForkDisk _ _ _ so_far.keeps read.keeps;
      known = so_far.known
          ∙ part_faults (bytes_in view (g.D.ForkDisk.seen c.args.disk.now)) grid c.loop-index.parts.items (index + 1) (c.args.count - index) (c.args.count - (index + 1)) entry left is
          (ne_eqb (big_from 0 2 entry) 0x504D (rw c.read_two.ensures at c.if-read_two-ne-MARK.true));
    }

pub loop-index-preserved : goal.loop-index-preserved
loop-index-preserved g c = record {
  calm = c.in_ok-entry.ensures.cause ∙ c.loop-index.invariant.calm;
  reads = λ honest. (
      let read = c.in_ok-entry.ensures.reads honest in
      let so_far = c.loop-index.invariant.reads read.keeps.honest in
      let view = c.args.view.now in
      let grid = c.args.grid in
      let index = c.loop-index.index in
      let entry = c.in_ok-entry.entry in
      let is : entry ≡ bytes_at 512 (grid.step * (index + 1)) (bytes_in view (g.D.ForkDisk.seen c.args.disk.now)) =
      read.known ∙ ap (λ (file : List ℕ). bytes_at 512 (grid.step * (index + 1)) (bytes_in view file)) so_far.keeps.same in
      let left : c.args.count - index ≡ suc (c.args.count - (index + 1)) = omega (arith, c.loop-index-test.true) in
      record {
        keeps = keeps_both g.D.ForkDisk _ _ _ so_far.keeps read.keeps;
        known = rw c.in_ok-push.ensures.items (so_far.known
            ∙ part_read (bytes_in view (g.D.ForkDisk.seen c.args.disk.now)) grid c.loop-index.parts.items (index + 1) (c.args.count - index) (c.args.count - (index + 1)) entry c.part_in.result left is
            (sym c.read_two.ensures ∙ c.if-read_two-ne-MARK.false) c.part_in.ensures);
      });
}

pub returns-clause-reads : goal.returns-clause-reads
returns-clause-reads g c = λ honest.
    let so_far = c.loop-index.invariant.reads honest in
    record {
      keeps = so_far.keeps;
      known = so_far.known
          ∙ no_part (bytes_in c.args.view.now (g.D.ForkDisk.seen c.args.disk.now)) c.args.grid c.loop-index.parts.items (c.loop-index.index + 1) (c.args.count - c.loop-index.index)
          (omega (arith, c.loop-index-test.false));
    }
