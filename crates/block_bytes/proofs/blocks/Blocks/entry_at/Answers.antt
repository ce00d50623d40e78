use Rattle.std.proofs.Common.{◌≡◌, ◌-◌, sym, ap, ◌∙◌, subst, arith, drop, ℕ}
use Rattle.raw_region.specs.Span.{IsFree}
use Rattle.mac_base.specs.declared.block.HeadKind.{HeadKind}
use Rattle.mac_base.specs.HeadKind.{head_size}
use Rattle.block_bytes.specs.Head.{header_in}
use Rattle.block_bytes.specs.Layout.{Layout, BlockAt, header_of}
use Rattle.block_bytes.proofs.Parts.{IsIn-from}
use Rattle.block_bytes.proofs.Settled.{head-free}
use Rattle.block_bytes.proofs.ReadParts.{header-read}
use Rattle.block_bytes.proofs.blocks.Blocks.entry_at.Goals as goal

pub header-requires-clause-inside : goal.header-requires-clause-inside
header-requires-clause-inside c =
    let b = subst (λ (l : Layout). BlockAt l c.args.at) (sym c.self.view_is) c.requires in
    let i = IsIn-from c.self.inside c.self.invariant.layout b.before b.here b.after b.blocks in let e = ap head_size c.heads.ensures in omega arith

pub header-requires-clause-free : goal.header-requires-clause-free
header-requires-clause-free c =
    let b = subst (λ (l : Layout). BlockAt l c.args.at) (sym c.self.view_is) c.requires in
    subst (λ (n : ℕ). IsFree c.self.inside.memory.lent (c.args.at - c.base.result) n) (sym (ap head_size c.heads.ensures))
    (head-free c.self.inside c.self.invariant.layout b.before b.here b.after b.blocks (c.args.at - c.base.result) (omega arith))

pub returns : goal.returns
returns c = subst (λ (l : Layout). (b : BlockAt l c.args.at) → c.header.result ≡ header_of l.heads b.here) c.self.view_is (λ b.
    c.header.ensures ∙ ap (λ (heads : HeadKind). header_in heads (drop (c.args.at - c.base.result) c.self.inside.memory.bytes)) c.heads.ensures
    ∙ header-read c.self.inside c.self.invariant.layout b.before b.here b.after b.blocks c.base.ensures.possible (c.args.at - c.base.result) (omega arith))
