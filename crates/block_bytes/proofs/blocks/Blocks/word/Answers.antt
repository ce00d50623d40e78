use Rattle.std.proofs.Common.{◌≡◌, ◌-◌, [], ◌∷◌, sym, ap, ◌∙◌, subst, arith}
use Rattle.byteorder.specs.Endian.{big_number}
use Rattle.raw_region.specs.Bytes.{part}
use Rattle.block_bytes.specs.Layout.{Layout, WordAt}
use Rattle.block_bytes.proofs.Parts.{IsIn-from}
use Rattle.block_bytes.proofs.Settled.{unlent-free}
use Rattle.block_bytes.proofs.ReadParts.{part-read}
use Rattle.block_bytes.proofs.blocks.Blocks.word.Goals as goal

pub word-requires-clause-inside : goal.word-requires-clause-inside
word-requires-clause-inside c =
    let w = subst (λ (l : Layout). WordAt l c.args.at) (sym c.self.view_is) c.requires in
    let i = IsIn-from c.self.inside c.self.invariant.layout w.before w.here w.after w.blocks in omega arith

pub word-requires-clause-free : goal.word-requires-clause-free
word-requires-clause-free c =
    let w = subst (λ (l : Layout). WordAt l c.args.at) (sym c.self.view_is) c.requires in
    let i = IsIn-from c.self.inside c.self.invariant.layout w.before w.here w.after w.blocks in
    unlent-free c.self.inside c.self.invariant.layout w.before (w.here ∷ []) w.after w.blocks (w.unlent, tt) (c.args.at - c.base.result) 4 (omega arith) (omega arith)

pub returns : goal.returns
returns c = subst (λ (l : Layout). (w : WordAt l c.args.at) → c.word.result ≡ big_number 4 (part w.here.contents w.offset 4)) c.self.view_is (λ w.
    c.word.ensures ∙ ap (big_number 4) (part-read c.self.inside c.self.invariant.layout w.before w.here w.after w.blocks (c.args.at - c.base.result) w.offset 4 (omega arith) w.inside))
