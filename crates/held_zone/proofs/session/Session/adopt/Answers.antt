use Rattle.std.proofs.Common.{rules, ◌≡◌, [], List, sym, subst}
use Rattle.held_calls.specs.Holding.{Holds}
use Rattle.held_calls.specs.declared.loans.Held.{Held}
use Rattle.held_zone.proofs.Written.{Holds-none}
use Rattle.held_zone.proofs.session.Session.adopt.Goals as goal

pub invariant_of-session : goal.invariant_of-session
invariant_of-session c =
    let lent : c.in-Ok-adopt.memory.heap.table.lent ≡ [] = search rules in
    (subst (λ (hs : List Held). Holds c.in-Ok-adopt.memory hs) (sym c.new.ensures) (Holds-none c.in-Ok-adopt.memory lent), λ awake. c.new-2.ensures)
