use Rattle.std.proofs.Common.{◌+◌, List, ℕ, ap, ◌∙◌}
use Rattle.place_numbers.specs.Shifted.{shifted_down}
use Rattle.place_numbers.proofs.Cleared.{down-cleared}
use Rattle.place_numbers.proofs.bits.Bits.shift_down.Goals as goal

pub returns : goal.returns
returns c =
    let from = c.args.from in let to = c.args.to in let n = c.args.count in
    c.clear.ensures ∙ ap (λ (l : List ℕ). shifted_down (from + n) (to + n) 0 l) c.copy_down.ensures ∙ down-cleared c.args.self.now from to n c.requires.order c.requires.inside
