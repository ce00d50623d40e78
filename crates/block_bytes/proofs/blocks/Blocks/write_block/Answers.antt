use Rattle.std.proofs.Common.{◌≡◌, ◌+◌, ℕ, true, false, length, drop, sym, ap, ◌∙◌, subst, arith}
use Rattle.raw_region.specs.Bytes.{length-written, part, written}
use Rattle.raw_region.specs.Span.{IsFree}
use Rattle.mac_base.specs.declared.block.HeadKind.{HeadKind}
use Rattle.mac_base.specs.HeadKind.{head_size}
use Rattle.block_bytes.specs.declared.header.Header.{Header}
use Rattle.block_bytes.specs.Head.{header_in, head_bytes}
use Rattle.block_bytes.specs.Layout.{Layout, header_of}
use Rattle.block_bytes.specs.Structure.{is_master}
use Rattle.block_bytes.proofs.Comparing.{enough-bytes}
use Rattle.block_bytes.proofs.WrittenOwn.{master-unlent, read-there, written-master, written-other}
use Rattle.block_bytes.proofs.blocks.Blocks.write_block.Goals as goal

pub write_header-requires-clause-inside : goal.write_header-requires-clause-inside
write_header-requires-clause-inside c =
    let n = read-there c.self.inside c.self.invariant.layout c.base-base.ensures.possible c.args.self.now c.self.view_is c.args.at c.requires.block in
    let heads = ap head_size c.heads-heads.ensures in let below = n.below in let headed = n.headed in let high = c.self.invariant.layout.high in let all = c.self.invariant.layout.all_bytes in omega arith

pub write_header-requires-clause-within : goal.write_header-requires-clause-within
write_header-requires-clause-within c =
    let n = read-there c.self.inside c.self.invariant.layout c.base-base.ensures.possible c.args.self.now c.self.view_is c.args.at c.requires.block in
    let heads = ap head_size c.heads-heads.ensures in let below = n.below in let headed = n.headed in let high = c.self.invariant.layout.high in
    let long = enough-bytes c.self.inside c.self.invariant.layout c.args.self.now c.self.view_is c.args.bytes.now c.requires.whole in omega arith

pub write_header-requires-clause-free : goal.write_header-requires-clause-free
write_header-requires-clause-free c =
    let n = read-there c.self.inside c.self.invariant.layout c.base-base.ensures.possible c.args.self.now c.self.view_is c.args.at c.requires.block in
    let heads = ap head_size c.heads-heads.ensures in subst (λ (k : ℕ). IsFree c.self.inside.memory.lent c.args.at k) (sym heads) n.free

pub header-header-requires-clause-inside : goal.header-header-requires-clause-inside
header-header-requires-clause-inside c =
    let n = read-there c.self.inside c.self.invariant.layout c.base-base.ensures.possible c.args.self.now c.self.view_is c.args.at c.requires.block in
    let heads = ap head_size c.heads-heads.ensures in let below = n.below in let headed = n.headed in let high = c.self.invariant.layout.high in let all = c.self.invariant.layout.all_bytes in omega arith

pub header-header-requires-clause-free : goal.header-header-requires-clause-free
header-header-requires-clause-free c =
    let n = read-there c.self.inside c.self.invariant.layout c.base-base.ensures.possible c.args.self.now c.self.view_is c.args.at c.requires.block in
    let heads = ap head_size c.heads-heads.ensures in subst (λ (k : ℕ). IsFree c.self.inside.memory.lent c.args.at k) (sym heads) n.free

pub overflow_add-base : goal.overflow_add-base
overflow_add-base c =
    let n = read-there c.self.inside c.self.invariant.layout c.base-base.ensures.possible c.args.self.now c.self.view_is c.args.at c.requires.block in
    let below = n.below in let high = c.self.invariant.layout.high in let value = c.base-base.ensures.value in let reach = c.base-base.ensures.reach in omega arith

pub overflow_add-start : goal.overflow_add-start
overflow_add-start c =
    let n = read-there c.self.inside c.self.invariant.layout c.base-base.ensures.possible c.args.self.now c.self.view_is c.args.at c.requires.block in
    let below = n.below in let headed = n.headed in let high = c.self.invariant.layout.high in let few = c.base-base.ensures.possible.small_enough in let heads = ap head_size c.heads-heads.ensures in
    let head = c.head_size.ensures in omega arith

pub contents-requires : goal.contents-requires
contents-requires c =
    let b = c.requires.block in let n = read-there c.self.inside c.self.invariant.layout c.base-base.ensures.possible c.args.self.now c.self.view_is c.args.at b in
    let header : c.header-header.result ≡ header_of c.args.self.now.heads b.here = (c.header-header.ensures ∙ ap (λ (heads : HeadKind). header_in heads (drop c.args.at c.self.inside.memory.bytes)) c.heads-heads.ensures ∙ n.header) in
    let master : is_master b.here.role ≡ true = ap (λ (h : Header). is_master h.role) (sym header) ∙ sym c.is_master.ensures ∙ c.if-is_master.true in
    let base = ap (λ (l : Layout). l.base) c.self.view_is in let value = c.base-base.ensures.value in let place = b.place in
    record {
      block = record { before = b.before; here = b.here; after = b.after; blocks = b.blocks; place = omega arith };
      unlent = master-unlent c.self.inside c.self.invariant.layout c.args.self.now c.self.view_is (c.args.self.now.base + c.args.at) b master;
    }

pub write_at-requires : goal.write_at-requires
write_at-requires c =
    let b = c.requires.block in let n = read-there c.self.inside c.self.invariant.layout c.base-base.ensures.possible c.args.self.now c.self.view_is c.args.at b in
    let base = ap (λ (l : Layout). l.base) c.self.view_is in let value = c.base-base.ensures.value in let place = b.place in
    let contents = ap length (c.contents.ensures (record { before = b.before; here = b.here; after = b.after; blocks = b.blocks; place = omega arith })) in
    let heads = ap head_size c.heads-heads.ensures in let same = n.same in let head = c.head_size.ensures in let below = n.below in let high = c.self.invariant.layout.high in
    let long = enough-bytes c.self.inside c.self.invariant.layout c.args.self.now c.self.view_is c.args.bytes.now c.requires.whole in
    let kept = ap length c.write_header.ensures ∙ length-written c.args.bytes.now c.args.at (part c.self.inside.memory.bytes c.args.at (head_size c.heads-heads.result)) in omega arith

pub returns-then-is_master-clause-size : goal.returns-then-is_master-clause-size
returns-then-is_master-clause-size c = λ b. let n = read-there c.self.inside c.self.invariant.layout c.base-base.ensures.possible c.args.self.now c.self.view_is c.args.at b in
    ap (λ (h : Header). h.size) (c.header-header.ensures ∙ ap (λ (heads : HeadKind). header_in heads (drop c.args.at c.self.inside.memory.bytes)) c.heads-heads.ensures ∙ n.header)

pub returns-else-is_master-clause-size : goal.returns-else-is_master-clause-size
returns-else-is_master-clause-size c = λ b. let n = read-there c.self.inside c.self.invariant.layout c.base-base.ensures.possible c.args.self.now c.self.view_is c.args.at b in
    ap (λ (h : Header). h.size) (c.header-header.ensures ∙ ap (λ (heads : HeadKind). header_in heads (drop c.args.at c.self.inside.memory.bytes)) c.heads-heads.ensures ∙ n.header)

pub returns-then-is_master-clause-written : goal.returns-then-is_master-clause-written
returns-then-is_master-clause-written c = λ b. let n = read-there c.self.inside c.self.invariant.layout c.base-base.ensures.possible c.args.self.now c.self.view_is c.args.at b in
    let heads = ap head_size c.heads-heads.ensures in let l = c.args.self.now in
    let written_head : c.write_header.new.bytes ≡ written c.args.bytes.now c.args.at (head_bytes l.heads l.base (header_of l.heads b.here)) =
    c.write_header.ensures ∙ ap (λ (k : ℕ). written c.args.bytes.now c.args.at (part c.self.inside.memory.bytes c.args.at k)) heads ∙ ap (written c.args.bytes.now c.args.at) n.head in
    let header : c.header-header.result ≡ header_of l.heads b.here = (c.header-header.ensures ∙ ap (λ (heads : HeadKind). header_in heads (drop c.args.at c.self.inside.memory.bytes)) c.heads-heads.ensures ∙ n.header) in
    let master : is_master b.here.role ≡ true = ap (λ (h : Header). is_master h.role) (sym header) ∙ sym c.is_master.ensures ∙ c.if-is_master.true in
    let base = ap (λ (l : Layout). l.base) c.self.view_is in let value = c.base-base.ensures.value in let place = b.place in
    let contents = c.contents.ensures (record { before = b.before; here = b.here; after = b.after; blocks = b.blocks; place = omega arith }) in
    let same = n.same in let head = c.head_size.ensures in
    c.write_at.ensures ∙ (λ i. written (written_head i) (c.args.at + c.head_size.result) (contents i))
    ∙ written-master l.heads l.base b.here c.args.bytes.now c.args.at (c.args.at + c.head_size.result) master (omega arith)

pub returns-else-is_master-clause-written : goal.returns-else-is_master-clause-written
returns-else-is_master-clause-written c = λ b. let n = read-there c.self.inside c.self.invariant.layout c.base-base.ensures.possible c.args.self.now c.self.view_is c.args.at b in
    let heads = ap head_size c.heads-heads.ensures in let l = c.args.self.now in
    let written_head : c.write_header.new.bytes ≡ written c.args.bytes.now c.args.at (head_bytes l.heads l.base (header_of l.heads b.here)) =
    c.write_header.ensures ∙ ap (λ (k : ℕ). written c.args.bytes.now c.args.at (part c.self.inside.memory.bytes c.args.at k)) heads ∙ ap (written c.args.bytes.now c.args.at) n.head in
    let header : c.header-header.result ≡ header_of l.heads b.here = (c.header-header.ensures ∙ ap (λ (heads : HeadKind). header_in heads (drop c.args.at c.self.inside.memory.bytes)) c.heads-heads.ensures ∙ n.header) in
    let other : is_master b.here.role ≡ false = ap (λ (h : Header). is_master h.role) (sym header) ∙ sym c.is_master.ensures ∙ c.if-is_master.false in
    written_head ∙ written-other l.heads l.base b.here c.args.bytes.now c.args.at other
