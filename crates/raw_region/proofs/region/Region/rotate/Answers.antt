use Rattle.raw_region.proofs.Fronts.{written-all}
use Rattle.raw_region.proofs.Laws.{length-part}
use Rattle.std.proofs.Common.{◌++◌, ◌-◌, ℕ, List, take, drop, ap, ◌∙◌, length, arith}
use Rattle.raw_region.specs.Bytes.{written}
use Rattle.raw_region.proofs.Moves.{rotated}
use Rattle.raw_region.proofs.region.Region.rotate.Goals as goal

pub returns-clause-bytes : goal.returns-clause-bytes
returns-clause-bytes c =
    let k = c.args.mid - c.args.at in
    written-all c.args.self.now.bytes c.args.at (c.args.end - c.args.at) c.rotate_left.new.self (c.rotate_left.ensures.len ∙ ap length c.bytes_mut.ensures.value
    ∙ length-part c.args.self.now.bytes c.args.at (c.args.end - c.args.at) (omega (arith, c.requires.order.0, c.requires.order.1, c.requires.inside)))
    ∙ ap (written c.args.self.now.bytes c.args.at) (c.rotate_left.ensures.after ∙ ap (λ (l : List ℕ). drop k l ++ take k l) c.bytes_mut.ensures.value
    ∙ rotated c.args.self.now.bytes c.args.at c.args.mid c.args.end c.requires.order.0 c.requires.order.1 c.requires.inside)
