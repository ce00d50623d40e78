use Rattle.std.proofs.Common.{◌+◌, ap, arith}
use Rattle.mac_base.specs.declared.block.Entry.{Entry}
use Rattle.linked_zone.proofs.EndsRun.{run-head, telling-first, coming, coming-there, coming-read, coming-range, coming-can, telling-on, run-ends}
use Rattle.linked_zone.proofs.changes.follow_run.Goals as goal

pub loop-next-init : goal.loop-next-init
loop-next-init c run = telling-first run

pub entry_at-here-requires : goal.entry_at-here-requires
entry_at-here-requires c =
    let n = coming c.requires c.loop-next.records c.loop-next.next (c.loop-next.invariant c.requires) c.loop-next-test.true in
    coming-there c.requires c.loop-next.records c.loop-next.next n

pub overflow_add-next : goal.overflow_add-next
overflow_add-next c =
    let n = coming c.requires c.loop-next.records c.loop-next.next (c.loop-next.invariant c.requires) c.loop-next-test.true in
    let range = coming-range c.requires c.loop-next.records c.loop-next.next n in
    let head = run-head c.requires c.spec.result c.heads.result c.head_size-head_size.result c.spec.ensures c.heads.ensures c.head_size-head_size.ensures in
    omega (arith, range.0, range.1)

pub follow-requires : goal.follow-requires
follow-requires c =
    let n = coming c.requires c.loop-next.records c.loop-next.next (c.loop-next.invariant c.requires) c.loop-next-test.true in
    let read = coming-read c.requires c.loop-next.records c.loop-next.next n c.entry_at-here.result c.entry_at-here.ensures in
    let head = run-head c.requires c.spec.result c.heads.result c.head_size-head_size.result c.spec.ensures c.heads.ensures c.head_size-head_size.ensures in
    coming-can c.requires c.loop-next.records c.loop-next.next n c.entry_at-here.result.kind _ (ap (λ (e : Entry). e.kind) read) (ap (λ h. c.loop-next.next + h) head)

pub overflow_add-next-in-loop-next : goal.overflow_add-next-in-loop-next
overflow_add-next-in-loop-next c =
    let n = coming c.requires c.loop-next.records c.loop-next.next (c.loop-next.invariant c.requires) c.loop-next-test.true in
    let range = coming-range c.requires c.loop-next.records c.loop-next.next n in
    let read = coming-read c.requires c.loop-next.records c.loop-next.next n c.entry_at-here.result c.entry_at-here.ensures in
    let size = ap (λ (e : Entry). e.size) read in
    omega (arith, range.0)

pub loop-next-smaller : goal.loop-next-smaller
loop-next-smaller c =
    let n = coming c.requires c.loop-next.records c.loop-next.next (c.loop-next.invariant c.requires) c.loop-next-test.true in
    let range = coming-range c.requires c.loop-next.records c.loop-next.next n in
    let read = coming-read c.requires c.loop-next.records c.loop-next.next n c.entry_at-here.result c.entry_at-here.ensures in
    let size = ap (λ (e : Entry). e.size) read in
    omega (arith, range.1, c.loop-next-test.true)

pub loop-next-preserved : goal.loop-next-preserved
loop-next-preserved c run =
    let n = coming run c.loop-next.records c.loop-next.next (c.loop-next.invariant run) c.loop-next-test.true in
    let read = coming-read run c.loop-next.records c.loop-next.next n c.entry_at-here.result c.entry_at-here.ensures in
    let head = run-head run c.spec.result c.heads.result c.head_size-head_size.result c.spec.ensures c.heads.ensures c.head_size-head_size.ensures in
    telling-on run c.loop-next.records c.loop-next.next n c.entry_at-here.result.kind _ _ (ap (λ (e : Entry). e.kind) read) (ap (λ h. c.loop-next.next + h) head) (ap (λ (e : Entry). e.size) read) c.follow.new.records c.follow.ensures

pub returns : goal.returns
returns c run = run-ends run c.loop-next.records c.loop-next.next (c.loop-next.invariant run) c.loop-next-test.false
