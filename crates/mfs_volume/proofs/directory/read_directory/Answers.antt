use Rattle.std.proofs.Common.{◌≡◌, ℕ, ◌+◌, ◌-◌, ◌*◌, suc, List, take, drop, None, Some, sym, ap, ◌∙◌, arith}
use Rattle.fork_disk.specs.Disk.{bytes_at}
use Rattle.mfs_volume.specs.Directory.{Entries, entries_before, entries_from, entries_in}
use Rattle.mfs_volume.proofs.Entered.{next_block, no_block, faulty}
use Rattle.mfs_volume.proofs.directory.read_directory.Goals as goal

pub returns-in-Some : goal.returns-in-Some
returns-in-Some c =
    let place = c.args.place in
    let bytes = c.args.bytes.now in
    let index = c.loop-index.index in
    let more = c.args.count - (index + 1) in
    let left : c.args.count - index ≡ suc more = omega (arith, c.loop-index-test.true) in
    let size : index * 512 + 512 - index * 512 ≡ 512 = omega arith in
    let block : c.copy_from_slice.new.self ≡ bytes_at 512 (index * 512) bytes = rw size at c.copy_from_slice.ensures.after in
    let rest = entries_in place bytes more (index + 1) in
    let step = rw (block, c.in-Some.is) at (c.in_ok-fault.ensures rest) in
    sym (c.loop-index.invariant
    ∙ ap (λ (e : Entries). entries_before c.loop-index.files.items e) (next_block place bytes (c.args.count - index) more index left)
    ∙ step ∙ faulty c.push_entries.new.files.items (Some c.in-Some.fault))

pub loop-index-preserved : goal.loop-index-preserved
loop-index-preserved c =
    let place = c.args.place in
    let bytes = c.args.bytes.now in
    let index = c.loop-index.index in
    let more = c.args.count - (index + 1) in
    let left : c.args.count - index ≡ suc more = omega (arith, c.loop-index-test.true) in
    let size : index * 512 + 512 - index * 512 ≡ 512 = omega arith in
    let block : c.copy_from_slice.new.self ≡ bytes_at 512 (index * 512) bytes = rw size at c.copy_from_slice.ensures.after in
    let step = rw (block, c.in_default.is) at (c.in_ok-fault.ensures (entries_in place bytes more (index + 1))) in
    c.loop-index.invariant
    ∙ ap (λ (e : Entries). entries_before c.loop-index.files.items e) (next_block place bytes (c.args.count - index) more index left)
    ∙ step

pub returns : goal.returns
returns c =
    let files = c.loop-index.files.items in
    sym (c.loop-index.invariant
    ∙ ap (λ (e : Entries). entries_before files e) (no_block c.args.place c.args.bytes.now (c.args.count - c.loop-index.index) c.loop-index.index (omega (arith, c.loop-index-test.false)))
    ∙ faulty files None)
