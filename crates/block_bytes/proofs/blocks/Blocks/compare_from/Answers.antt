use Rattle.std.proofs.Common.{◌-◌, ap, subst, ◌∙◌, arith, List}
use Rattle.block_bytes.specs.Layout.{RawBlock, total_of}
use Rattle.block_bytes.specs.Structure.{Compares}
use Rattle.block_bytes.proofs.Begun.{begun-all}
use Rattle.block_bytes.proofs.Rendered.{total_of-append}
use Rattle.block_bytes.proofs.blocks.Blocks.compare_from.Goals as goal

pub returns : goal.returns
returns c = λ s.
    let l = c.args.self.now in let sum = ap (total_of l.heads) s.blocks ∙ total_of-append l.heads s.before s.after in let place = s.place in let end = c.end.ensures in
    subst (λ (bs : List RawBlock). Compares l c.args.bytes.now (c.args.from - l.base) bs c.compare_until.result) (begun-all l.heads c.end.result c.args.from s.after (omega arith)) (c.compare_until.ensures s)
