use Rattle.std.proofs.Common.{ℕ, ◌==◌, List, [], ap, subst, sym}
use Rattle.std.specs.List.{list_any}
use Rattle.held_calls.specs.Holding.{Holds}
use Rattle.held_calls.specs.declared.loans.Held.{Held}
use Rattle.toolbox.proofs.toolbox.Toolbox.open.Goals as goal

pub invariant_of-result : goal.invariant_of-result
invariant_of-result g c =
    let none : Holds c.args.memory [] = record { each = tt; once = tt; all = λ x. ap (λ (xs : List ℕ). list_any (λ y. y == x) xs) c.requires } in
    subst (λ (hs : List Held). Holds c.args.memory hs) (sym c.new.ensures) none
