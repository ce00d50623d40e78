use Rattle.std.proofs.Common.{◌-◌, ℕ, sym, ap, ◌∙◌, subst, arith, drop}
use Rattle.std.specs.Option.{IfNone, IfSome}
use Rattle.raw_region.specs.Span.{IsFree}
use Rattle.mac_base.specs.declared.block.HeadKind.{HeadKind}
use Rattle.mac_base.specs.HeadKind.{head_size}
use Rattle.block_bytes.specs.declared.header.Header.{Header}
use Rattle.block_bytes.specs.Finding.{OwnedAt}
use Rattle.block_bytes.specs.Head.{header_in, owner_of}
use Rattle.block_bytes.specs.Layout.{Layout, BlockAt}
use Rattle.block_bytes.specs.Reading.{layout_of}
use Rattle.block_bytes.proofs.OwnersRead.{owner-none, owner-there}
use Rattle.block_bytes.proofs.Parts.{IsIn-from}
use Rattle.block_bytes.proofs.Settled.{head-free}
use Rattle.block_bytes.proofs.ReadParts.{header-read}
use Rattle.block_bytes.proofs.blocks.Blocks.owner_at.Goals as goal

pub returns-then-not-is_block-clause-none : goal.returns-then-not-is_block-clause-none
returns-then-not-is_block-clause-none c = λ offset owned. cc (sym c.if-not-is_block.true ∙ c.is_block.ensures.1 owned.block)

pub owner-requires-clause-inside : goal.owner-requires-clause-inside
owner-requires-clause-inside c =
    let b = subst (λ (l : Layout). BlockAt l c.args.at) (sym c.self.view_is) (c.is_block.ensures.0 c.if-not-is_block.false) in
    let i = IsIn-from c.self.inside c.self.invariant.layout b.before b.here b.after b.blocks in let e = ap head_size c.heads.ensures in omega arith

pub owner-requires-clause-free : goal.owner-requires-clause-free
owner-requires-clause-free c =
    let b = subst (λ (l : Layout). BlockAt l c.args.at) (sym c.self.view_is) (c.is_block.ensures.0 c.if-not-is_block.false) in
    subst (λ (n : ℕ). IsFree c.self.inside.memory.lent (c.args.at - c.base.result) n) (sym (ap head_size c.heads.ensures))
    (head-free c.self.inside c.self.invariant.layout b.before b.here b.after b.blocks (c.args.at - c.base.result) (omega arith))

pub returns-clause-owner : goal.returns-clause-owner
returns-clause-owner c = subst (λ (l : Layout). BlockAt l c.args.at → IfSome c.owner.result (λ offset. OwnedAt l c.args.at offset)) c.self.view_is (λ b.
    owner-there (layout_of c.self.inside) c.args.at b c.owner.result (c.owner.ensures
    ∙ ap (λ (heads : HeadKind). owner_of (header_in heads (drop (c.args.at - c.base.result) c.self.inside.memory.bytes)).role) c.heads.ensures
    ∙ ap (λ (h : Header). owner_of h.role) (header-read c.self.inside c.self.invariant.layout b.before b.here b.after b.blocks c.base.ensures.possible (c.args.at - c.base.result) (omega arith))))
    (c.is_block.ensures.0 c.if-not-is_block.false)

pub returns-clause-none : goal.returns-clause-none
returns-clause-none c = subst (λ (l : Layout). BlockAt l c.args.at → IfNone c.owner.result ((offset : ℕ) → OwnedAt l c.args.at offset → ⊥)) c.self.view_is (λ b.
    owner-none (layout_of c.self.inside) c.args.at b c.owner.result (c.owner.ensures
    ∙ ap (λ (heads : HeadKind). owner_of (header_in heads (drop (c.args.at - c.base.result) c.self.inside.memory.bytes)).role) c.heads.ensures
    ∙ ap (λ (h : Header). owner_of h.role) (header-read c.self.inside c.self.invariant.layout b.before b.here b.after b.blocks c.base.ensures.possible (c.args.at - c.base.result) (omega arith))))
    (c.is_block.ensures.0 c.if-not-is_block.false)
