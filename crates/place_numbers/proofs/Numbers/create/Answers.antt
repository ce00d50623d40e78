use Rattle.std.proofs.Common.{◌∙◌}
use Rattle.place_numbers.specs.Numbers.{numbers_of}
use Rattle.place_numbers.proofs.Parts.{zeros, no-parts}
use Rattle.place_numbers.proofs.Numbers.create.Goals as goal

pub invariant_of-result : goal.invariant_of-result
invariant_of-result c = rw (c.in_ok-create.ensures, c.in_ok-create-2.ensures, c.in_ok-create-3.ensures) (no-parts c.args.count)

pub returns : goal.returns
returns c = (λ i. numbers_of (c.in_ok-create.ensures i) (c.in_ok-create-2.ensures i) (c.in_ok-create-3.ensures i)) ∙ zeros c.args.count
