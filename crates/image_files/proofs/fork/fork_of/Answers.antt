use Rattle.std.proofs.Common.{◌≡◌, ℕ, length, ◌∙◌, refl, subst, arith}
use Rattle.std.specs.List.{AllByRecursion}
use Rattle.std.proofs.lemmas.Result.{err_from_is_err_and}
use Rattle.disk_ranges.specs.Ranges.{HasRanges, IsInDisk, bytes_of, total}
use Rattle.image_files.specs.Sizes.{size_of}
use Rattle.image_files.proofs.ForksRead.{fork_read, length_within}
use Rattle.image_files.proofs.fork.fork_of.Goals as goal

pub returns-in_err-inner-clause-reads : goal.returns-in_err-inner-clause-reads
returns-in_err-inner-clause-reads g c = λ honest.
    let p = err_from_is_err_and c.from_residual.result c.from_residual.ensures.1 in
    record {
      keeps = record { honest = honest; same = refl; stable = λ stable. stable };
      known = rw (p.1, p.2) (c.in_err-inner.ensures.ranges _);
    }

pub read_all-requires-clause-inside : goal.read_all-requires-clause-inside
read_all-requires-clause-inside g c = λ honest.
    let file = g.D.ForkDisk.seen c.args.disk.now in
    let outer = c.args.volume.now.view.ranges.items in
    let inside = subst (λ (n : ℕ). AllByRecursion (IsInDisk n) outer) (c.requires honest) c.args.volume.now.inside in
    let has : HasRanges outer c.in_ok-inner.inner.ranges.items c.in_ok-ranges.ranges.items = rw (c.deref.ensures.value, c.deref-2.ensures.value) at c.in_ok-ranges.ensures in
    rw c.deref-3.ensures.value (has.inside (length file) inside)

pub read_all-requires-clause-size : goal.read_all-requires-clause-size
read_all-requires-clause-size g c = λ honest.
    let file = g.D.ForkDisk.seen c.args.disk.now in
    let outer = c.args.volume.now.view.ranges.items in
    let inner = c.in_ok-inner.inner.ranges.items in
    let ranges = c.in_ok-ranges.ranges.items in
    let inside = subst (λ (n : ℕ). AllByRecursion (IsInDisk n) outer) (c.requires honest) c.args.volume.now.inside in
    let has : HasRanges outer inner ranges = rw (c.deref.ensures.value, c.deref-2.ensures.value) at c.in_ok-ranges.ensures in
    let many : length (bytes_of ranges file) ≡ total inner =
    length_within outer inner ranges file (size_of c.args.volume.now.files) _ c.in_ok-inner.ensures.ranges has inside (c.args.volume.now.size ∙ c.args.volume.now.whole) in
    let whole : total inner ≡ c.in_ok-inner.inner.size = c.in_ok-inner.inner.whole in
    rw c.deref-3.ensures.value (omega arith)

pub returns-clause-reads : goal.returns-clause-reads
returns-clause-reads g c = λ honest.
    let read = rw c.deref-3.ensures.value at (c.in_ok-read_all.ensures.reads honest) in
    let file = g.D.ForkDisk.seen c.args.disk.now in
    let outer = c.args.volume.now.view.ranges.items in
    let inner = c.in_ok-inner.inner.ranges.items in
    let ranges = c.in_ok-ranges.ranges.items in
    let inside = subst (λ (n : ℕ). AllByRecursion (IsInDisk n) outer) (c.requires read.keeps.honest) c.args.volume.now.inside in
    let has : HasRanges outer inner ranges = rw (c.deref.ensures.value, c.deref-2.ensures.value) at c.in_ok-ranges.ensures in
    record {
      keeps = read.keeps;
      known = fork_read outer inner ranges file (size_of c.args.volume.now.files) _ c.in_ok-inner.ensures.ranges has inside (c.args.volume.now.size ∙ c.args.volume.now.whole)
          c.in_ok-inner.inner.size _ c.in_ok-inner.inner.whole read.known;
    }
