use Rattle.std.proofs.Common.{◌≡◌, ◌+◌, ◌-◌, length, ap, ◌∙◌, subst, arith}
use Rattle.mac_base.specs.HeadKind.{head_size}
use Rattle.block_bytes.specs.declared.header.Header.{Header}
use Rattle.block_bytes.specs.Layout.{Layout, BlockAt, header_of, size_of}
use Rattle.block_bytes.proofs.Here.{IsHere-from, unlent-here}
use Rattle.block_bytes.proofs.ReadParts.{contents-read}
use Rattle.block_bytes.proofs.blocks.Blocks.contents.Goals as goal

pub overflow_sub-length : goal.overflow_sub-length
overflow_sub-length c =
    let h = IsHere-from c.self.inside c.self.invariant.layout c.args.self.now c.self.view_is c.args.at c.entry_at-header.result c.requires.block (c.entry_at-header.ensures c.requires.block) in
    let e = c.head_size-head_size.ensures ∙ ap head_size c.heads.ensures in omega arith

pub overflow_sub-length-2 : goal.overflow_sub-length-2
overflow_sub-length-2 c =
    let h = IsHere-from c.self.inside c.self.invariant.layout c.args.self.now c.self.view_is c.args.at c.entry_at-header.result c.requires.block (c.entry_at-header.ensures c.requires.block) in
    let e = c.head_size-head_size.ensures ∙ ap head_size c.heads.ensures in omega arith

pub bytes-requires-clause-inside : goal.bytes-requires-clause-inside
bytes-requires-clause-inside c =
    let h = IsHere-from c.self.inside c.self.invariant.layout c.args.self.now c.self.view_is c.args.at c.entry_at-header.result c.requires.block (c.entry_at-header.ensures c.requires.block) in
    let e = ap head_size c.heads.ensures in omega arith

pub bytes-requires-clause-free : goal.bytes-requires-clause-free
bytes-requires-clause-free c =
    let h = IsHere-from c.self.inside c.self.invariant.layout c.args.self.now c.self.view_is c.args.at c.entry_at-header.result c.requires.block (c.entry_at-header.ensures c.requires.block) in
    let e = ap head_size c.heads.ensures in
    unlent-here c.self.inside c.self.invariant.layout c.args.self.now c.self.view_is c.args.at c.entry_at-header.result c.requires.block (c.entry_at-header.ensures c.requires.block) c.requires.unlent
    (c.args.at - c.base.result + c.head_size-head_size.result) (c.entry_at-header.result.size - c.head_size-head_size.result - c.entry_at-header.result.correction) (omega arith) (omega arith)

pub returns : goal.returns
returns c = λ b. let at = c.args.at in let h = c.entry_at-header.result in
    subst (λ (l : Layout). (b : BlockAt l at) → h ≡ header_of l.heads b.here → c.bytes.result.now ≡ b.here.contents) c.self.view_is (λ b is.
    let size : h.size ≡ size_of c.self.inside.spec.heads b.here = ap (λ (h : Header). h.size) is in let slack : h.correction ≡ length b.here.slack = ap (λ (h : Header). h.correction) is in
    let e = ap head_size c.heads.ensures in let place = b.place in
    c.bytes.ensures
    ∙ contents-read c.self.inside c.self.invariant.layout b.before b.here b.after b.blocks (c.args.at - c.base.result + c.head_size-head_size.result)
    (h.size - c.head_size-head_size.result - h.correction) (omega arith) (omega arith)) b (c.entry_at-header.ensures b)
