use Rattle.std.proofs.Common.{List, ℕ, subst}
use Rattle.place_numbers.specs.Bits.{AreWritten}
use Rattle.place_numbers.proofs.Marked.{set-written}
use Rattle.place_numbers.proofs.level.Level.set.Goals as goal

pub returns : goal.returns
returns g c =
    set-written c.args.self.now c.write-some.new.self c.args.place c.from.result c.args.marked c.requires c.from.ensures
    (subst (λ (xs : List ℕ). AreWritten xs c.write-some.new.self c.args.place 1 c.from.result) c.self.view_is c.write-some.ensures.written)
