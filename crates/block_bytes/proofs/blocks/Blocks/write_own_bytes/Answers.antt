use Rattle.std.proofs.Common.{◌≡◌, ◌+◌, ◌++◌, take, ap, ◌∙◌, subst, arith, take_at}
use Rattle.mac_base.specs.HeadKind.{zone_header}
use Rattle.raw_region.specs.Bytes.{written}
use Rattle.block_bytes.specs.Layout.{RawBlock, Layout, address_after, header_bytes, rendered, size_of}
use Rattle.block_bytes.specs.Reading.{layout_of}
use Rattle.block_bytes.specs.Structure.{AreWritten, EachMaster, HasHeaders, own_bytes}
use Rattle.block_bytes.proofs.Comparing.{enough-bytes}
use Rattle.block_bytes.proofs.Parts.{length-header}
use Rattle.block_bytes.proofs.Settled.{header-free}
use Rattle.block_bytes.proofs.Structures.{enough, structure-from}
use Rattle.block_bytes.proofs.WrittenOwn.{next-block, own-all, own-more, own-none, read-there}
use Rattle.block_bytes.proofs.blocks.Blocks.write_own_bytes.Goals as goal

pub write_zone_head-requires-clause-free : goal.write_zone_head-requires-clause-free
write_zone_head-requires-clause-free c = header-free c.self.inside c.self.invariant.layout

pub loop-at-init : goal.loop-at-init
loop-at-init c =
    let l = layout_of c.self.inside in
    let front : take zone_header c.self.inside.memory.bytes ≡ header_bytes c.args.self.now =
    ap (take zone_header) c.self.invariant.layout.form ∙ take_at (header_bytes l) (rendered l.heads l.base l.blocks ++ l.spare) zone_header (length-header l) ∙ ap header_bytes c.self.view_is in
    rw (c.write_zone_head.ensures ∙ ap (written c.args.bytes.now 0) front) (own-none c.args.self.now c.args.bytes.now (let fits = enough c.args.self.now c.args.bytes.now c.requires.whole in omega arith))

pub write_block-at-requires-clause-block : goal.write_block-at-requires-clause-block
write_block-at-requires-clause-block c =
    let value = c.size-size.ensures.value in let ends = c.self.invariant.layout.ends in let end = ap (λ (l : Layout). address_after l l.blocks) c.self.view_is in
    let base = ap (λ (l : Layout). l.base) c.self.view_is in let below = c.loop-at-test.true in
    let n = next-block c.args.self.now c.args.bytes.now c.loop-at.bytes c.loop-at.at c.loop-at.invariant (omega arith) in
    n.block

pub overflow_add-at : goal.overflow_add-at
overflow_add-at c =
    let value = c.size-size.ensures.value in let ends = c.self.invariant.layout.ends in let end = ap (λ (l : Layout). address_after l l.blocks) c.self.view_is in
    let base = ap (λ (l : Layout). l.base) c.self.view_is in let below = c.loop-at-test.true in
    let n = next-block c.args.self.now c.args.bytes.now c.loop-at.bytes c.loop-at.at c.loop-at.invariant (omega arith) in
    let r = read-there c.self.inside c.self.invariant.layout c.size-size.ensures.possible c.args.self.now c.self.view_is c.loop-at.at n.block in let within = r.below in let some = r.some in
    let size = c.write_block-at.ensures.size n.block in
    let high = c.self.invariant.layout.high in let few = c.size-size.ensures.possible.small_enough in omega arith

pub loop-at-smaller : goal.loop-at-smaller
loop-at-smaller c =
    let value = c.size-size.ensures.value in let ends = c.self.invariant.layout.ends in let end = ap (λ (l : Layout). address_after l l.blocks) c.self.view_is in
    let base = ap (λ (l : Layout). l.base) c.self.view_is in let below = c.loop-at-test.true in
    let n = next-block c.args.self.now c.args.bytes.now c.loop-at.bytes c.loop-at.at c.loop-at.invariant (omega arith) in
    let r = read-there c.self.inside c.self.invariant.layout c.size-size.ensures.possible c.args.self.now c.self.view_is c.loop-at.at n.block in let within = r.below in let some = r.some in
    let size = c.write_block-at.ensures.size n.block in
    omega arith

pub loop-at-preserved : goal.loop-at-preserved
loop-at-preserved c =
    let value = c.size-size.ensures.value in let ends = c.self.invariant.layout.ends in let end = ap (λ (l : Layout). address_after l l.blocks) c.self.view_is in
    let base = ap (λ (l : Layout). l.base) c.self.view_is in let below = c.loop-at-test.true in
    let n = next-block c.args.self.now c.args.bytes.now c.loop-at.bytes c.loop-at.at c.loop-at.invariant (omega arith) in
    let r = read-there c.self.inside c.self.invariant.layout c.size-size.ensures.possible c.args.self.now c.self.view_is c.loop-at.at n.block in let within = r.below in let some = r.some in
    let size = c.write_block-at.ensures.size n.block in
    let l = c.args.self.now in let own = ap (size_of l.heads) n.same in let high = c.self.invariant.layout.high in
    let long = enough-bytes c.self.inside c.self.invariant.layout l c.self.view_is c.args.bytes.now c.requires.whole in
    rw (c.write_block-at.ensures.written n.block ∙ ap (λ (b : RawBlock). written c.loop-at.bytes c.loop-at.at (own_bytes l.heads l.base b)) n.same)
    (own-more l c.args.bytes.now c.loop-at.bytes c.loop-at.at n (omega arith) (c.loop-at.at + c.write_block-at.result) (omega arith))

pub returns-clause-same : goal.returns-clause-same
returns-clause-same c =
    let value = c.size-size.ensures.value in let ends = c.self.invariant.layout.ends in let end = ap (λ (l : Layout). address_after l l.blocks) c.self.view_is in
    let base = ap (λ (l : Layout). l.base) c.self.view_is in let above = c.loop-at-test.false in let l = c.args.self.now in let r = c.loop-at.invariant in
    let all = own-all l c.args.bytes.now c.loop-at.bytes c.loop-at.at r (omega arith) in
    structure-from l c.loop-at.bytes (record { all = r.all ∙ c.requires.whole; head = r.head }) (subst (HasHeaders l c.loop-at.bytes zone_header) all r.headers)

pub returns-clause-masters : goal.returns-clause-masters
returns-clause-masters c =
    let value = c.size-size.ensures.value in let ends = c.self.invariant.layout.ends in let end = ap (λ (l : Layout). address_after l l.blocks) c.self.view_is in
    let base = ap (λ (l : Layout). l.base) c.self.view_is in let above = c.loop-at-test.false in let l = c.args.self.now in let r = c.loop-at.invariant in
    let all = own-all l c.args.bytes.now c.loop-at.bytes c.loop-at.at r (omega arith) in
    subst (EachMaster (AreWritten c.loop-at.bytes) l.heads zone_header) all r.masters
