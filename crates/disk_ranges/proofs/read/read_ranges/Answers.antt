use Rattle.std.proofs.Common.{◌≡◌, ◌+◌, length, ℕ, ◌-◌, List, ◌++◌, take, drop, ap, ◌∙◌, arith}
use Rattle.std.proofs.lemmas.List.{length-take-le, length-drop}
use Rattle.fork_disk.specs.Disk.{bytes_at}
use Rattle.disk_ranges.specs.Ranges.{IsInDisk}
use Rattle.disk_ranges.proofs.Steps.{range_at, skips_at, length_at, reads_on, ends, each_at}
use Rattle.disk_ranges.proofs.read.read_ranges.Goals as goal
use Rattle.disk_ranges.proofs.read.read_ranges.Goals.{then-skipped-range, else-skipped-range+in_ok-read_at}

pub loop-range-preserved : goal.loop-range-preserved
loop-range-preserved g c =
    let inv = c.loop-range.invariant in
    let seen = g.D.ForkDisk.seen c.args.disk.now in
    let ranges = c.args.ranges.now in
    let i = c.loop-range.range-index in
    elim c.if-skipped-range.branch [
      | then-skipped-range w ↦ rw (w.disk-is, w.buffer-is, w.skipped-is, w.filled-is) (
        inv.0,
        inv.1,
        inv.2,
        inv.3,
        λ honest. (
            let inside = each_at (IsInDisk (length seen)) ranges i c.loop-range-test.true (c.requires.inside (inv.3 honest).honest) in
            ap (λ (xs : List ℕ). take c.loop-range.filled c.loop-range.buffer ++ xs)
            (skips_at ranges i seen c.loop-range.skipped (length c.loop-range.buffer - c.loop-range.filled) c.loop-range-test.true inside w.if-skipped-range.true)
            ∙ inv.4 honest),
        λ honest. (
            let inside = each_at (IsInDisk (length seen)) ranges i c.loop-range-test.true (c.requires.inside (inv.3 honest).honest) in
            let long = length_at ranges i seen c.loop-range-test.true inside in
            let room = inv.5 honest in
            omega (arith, long, room, w.if-skipped-range.true)),
      )
      | else-skipped-range+in_ok-read_at w ↦ rw (w.disk-is, w.skipped-is, w.filled-is) (
        omega (arith, inv.0, c.if-skipped-range.auto.buffer, w.min-count.ensures),
        c.if-skipped-range.auto.buffer ∙ inv.1,
        w.in_ok-read_at.ensures.cause ∙ inv.2,
        λ honest. (
            let read = w.in_ok-read_at.ensures.reads honest in
            let before = inv.3 read.keeps.honest in
            record { honest = before.honest; same = read.keeps.same ∙ before.same; stable = λ stable. read.keeps.stable (before.stable stable) }),
        λ honest. (
            let read = w.in_ok-read_at.ensures.reads honest in
            let before = inv.3 read.keeps.honest in
            let inside = each_at (IsInDisk (length seen)) ranges i c.loop-range-test.true (c.requires.inside before.honest) in
            let rest = length-drop c.loop-range.filled c.loop-range.buffer in
            let long = length-take-le (c.loop-range.filled + w.min-count.result - c.loop-range.filled) (drop c.loop-range.filled c.loop-range.buffer) (omega (arith, rest, inv.0, w.min-count.ensures)) in
            let wanted : length (take (c.loop-range.filled + w.min-count.result - c.loop-range.filled) (drop c.loop-range.filled c.loop-range.buffer)) ≡ w.min-count.result = omega (arith, long) in
            let from = (range_at ranges i).at + c.loop-range.skipped in
            let read_is = read.read ∙ ap (λ (k : ℕ). bytes_at k from (g.D.ForkDisk.seen c.loop-range.disk)) wanted ∙ ap (bytes_at w.min-count.result from) before.same in
            reads_on ranges i seen c.loop-range.skipped c.loop-range.filled w.min-count.result _ c.loop-range.buffer c.if-skipped-range.buffer w.read_at.new.buffer _ c.loop-range-test.true inside
            w.if-skipped-range.false (omega (arith, w.min-count.ensures)) inv.0 c.if-skipped-range.auto.buffer w.buffer-is read_is
            (w.read_at.auto.buffer ∙ wanted) (inv.4 read.keeps.honest)),
        λ honest. (
            let read = w.in_ok-read_at.ensures.reads honest in
            let before = inv.3 read.keeps.honest in
            let inside = each_at (IsInDisk (length seen)) ranges i c.loop-range-test.true (c.requires.inside before.honest) in
            let long = length_at ranges i seen c.loop-range-test.true inside in
            let room = inv.5 read.keeps.honest in
            omega (arith, long, room, w.if-skipped-range.false, c.if-skipped-range.auto.buffer)),
      )
    ]

pub returns-clause-reads : goal.returns-clause-reads
returns-clause-reads g c = λ honest. (
    let inv = c.loop-range.invariant in
    let seen = g.D.ForkDisk.seen c.args.disk.now in
    let all = ends c.args.ranges.now c.loop-range.range-index seen c.loop-range.skipped c.loop-range.filled c.loop-range.buffer _ c.loop-range-test.false inv.0 (inv.5 honest) (inv.4 honest) in
    record { keeps = inv.3 honest; read = (all.0 ∙ inv.1, all.1) })
