use Rattle.std.proofs.Common.{◌≡◌, ◌+◌, refl, sym, ap, subst, arith}
use Rattle.block_bytes.specs.declared.header.Header.{Header}
use Rattle.block_bytes.specs.Layout.{size_of}
use Rattle.zone_records.proofs.Between.{Compared, compared-none, compared-differ, compared-all, compared-more, next-of-all}
use Rattle.zone_records.proofs.MasterBlocks.{next_block, next-end, block-end, master-there}
use Rattle.zone_records.proofs.masters.compare_blocks.Goals as goal

pub loop-agreement-init : goal.loop-agreement-init
loop-agreement-init c = compared-none c.args.blocks.now c.args.bytes.now c.args.from c.args.end c.requires.split

pub returns-in-Differ : goal.returns-in-Differ
returns-in-Differ c =
    let done = c.loop-agreement.invariant in
    compared-differ c.args.blocks.now c.args.bytes.now c.args.from c.args.end c.loop-agreement.at c.loop-agreement.agreement done (c.in-Differ.ensures done.split)

pub returns-in-AllAgree : goal.returns-in-AllAgree
returns-in-AllAgree c =
    let done = c.loop-agreement.invariant in
    let said = c.in-AllAgree.ensures done.split in
    compared-all c.args.blocks.now c.args.bytes.now c.args.from c.args.end c.loop-agreement.at c.loop-agreement.agreement done said.0 said.1

pub compare_master-requires-clause-block : goal.compare_master-requires-clause-block
compare_master-requires-clause-block c =
    let l = c.args.blocks.now in
    let bytes = c.args.bytes.now in
    let done = c.loop-agreement.invariant in
    let next = next-of-all l bytes c.args.from c.args.end c.loop-agreement.at c.loop-agreement.agreement done c.in-NextMaster.master (c.in-NextMaster.ensures done.split) in
    next_block l bytes c.loop-agreement.at done.split c.in-NextMaster.master next

pub compare_master-requires-clause-master : goal.compare_master-requires-clause-master
compare_master-requires-clause-master c =
    let l = c.args.blocks.now in
    let bytes = c.args.bytes.now in
    let done = c.loop-agreement.invariant in
    let next = next-of-all l bytes c.args.from c.args.end c.loop-agreement.at c.loop-agreement.agreement done c.in-NextMaster.master (c.in-NextMaster.ensures done.split) in
    master-there l c.in-NextMaster.master (next_block l bytes c.loop-agreement.at done.split c.in-NextMaster.master next) next.master

pub entry_at-requires : goal.entry_at-requires
entry_at-requires c =
    let l = c.args.blocks.now in
    let bytes = c.args.bytes.now in
    let done = c.loop-agreement.invariant in
    let next = next-of-all l bytes c.args.from c.args.end c.loop-agreement.at c.loop-agreement.agreement done c.in-NextMaster.master (c.in-NextMaster.ensures done.split) in
    next_block l bytes c.loop-agreement.at done.split c.in-NextMaster.master next

pub overflow_add-at : goal.overflow_add-at
overflow_add-at c =
    let l = c.args.blocks.now in
    let bytes = c.args.bytes.now in
    let done = c.loop-agreement.invariant in
    let next = next-of-all l bytes c.args.from c.args.end c.loop-agreement.at c.loop-agreement.agreement done c.in-NextMaster.master (c.in-NextMaster.ensures done.split) in
    let block = next_block l bytes c.loop-agreement.at done.split c.in-NextMaster.master next in
    let size : c.entry_at.result.size ≡ size_of l.heads block.here = ap (λ (h : Header). h.size) (c.entry_at.ensures block) in
    omega (arith, (block-end l c.requires.sound c.in-NextMaster.master block).0)

pub loop-agreement-smaller : goal.loop-agreement-smaller
loop-agreement-smaller c =
    let l = c.args.blocks.now in
    let bytes = c.args.bytes.now in
    let done = c.loop-agreement.invariant in
    let next = next-of-all l bytes c.args.from c.args.end c.loop-agreement.at c.loop-agreement.agreement done c.in-NextMaster.master (c.in-NextMaster.ensures done.split) in
    let block = next_block l bytes c.loop-agreement.at done.split c.in-NextMaster.master next in
    let size : c.entry_at.result.size ≡ size_of l.heads block.here = ap (λ (h : Header). h.size) (c.entry_at.ensures block) in
    let ends = next-end l bytes c.loop-agreement.at done.split c.in-NextMaster.master next in
    omega (arith, ends.0, ends.1)

pub loop-agreement-preserved : goal.loop-agreement-preserved
loop-agreement-preserved c =
    let l = c.args.blocks.now in
    let bytes = c.args.bytes.now in
    let master = c.in-NextMaster.master in
    let done = c.loop-agreement.invariant in
    let own = c.in-NextMaster.ensures done.split in
    let next = next-of-all l bytes c.args.from c.args.end c.loop-agreement.at c.loop-agreement.agreement done master own in
    let block = next_block l bytes c.loop-agreement.at done.split master next in
    let size : c.entry_at.result.size ≡ size_of l.heads block.here = ap (λ (h : Header). h.size) (c.entry_at.ensures block) in
    subst (Compared l bytes c.args.from c.args.end (master + c.entry_at.result.size)) (sym c.with-agreement.ensures)
    (compared-more l bytes c.args.from c.args.end c.loop-agreement.at c.loop-agreement.agreement done master own c.compare_master.result _ _ (ap (λ n. master + n) size) refl (c.compare_master.ensures block))
