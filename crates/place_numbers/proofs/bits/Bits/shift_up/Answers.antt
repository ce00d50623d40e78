use Rattle.std.proofs.Common.{List, ℕ, ap, ◌∙◌}
use Rattle.place_numbers.specs.Shifted.{shifted_down}
use Rattle.place_numbers.proofs.Cleared.{up-cleared}
use Rattle.place_numbers.proofs.bits.Bits.shift_up.Goals as goal

pub returns : goal.returns
returns c =
    let from = c.args.from in let to = c.args.to in
    c.clear.ensures ∙ ap (λ (l : List ℕ). shifted_down to from 0 l) c.copy_up.ensures ∙ up-cleared c.args.self.now from to c.args.count c.requires.order c.requires.inside
