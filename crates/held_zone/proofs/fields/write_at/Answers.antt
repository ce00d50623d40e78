use Rattle.std.proofs.Common.{◌≡◌, ◌+◌, ◌-◌, ◌++◌, length, take, drop, sym, ◌∙◌, arith}
use Rattle.raw_region.proofs.Lists.{written_is}
use Rattle.held_zone.proofs.fields.write_at.Goals as goal

pub returns : goal.returns
returns c =
    let xs = c.args.bytes.now in let ws = c.args.others.now in let at = c.args.start in let copied = c.copy_from_slice.ensures.after in
    let rest : at + length ws - at ≡ length ws = omega arith in
    (λ i. take at xs ++ (copied i ++ drop (rest i) (drop at xs))) ∙ sym (written_is xs at ws c.requires)
