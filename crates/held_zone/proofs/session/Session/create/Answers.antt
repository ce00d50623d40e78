use Rattle.std.proofs.Common.{rules, ◌≡◌, [], List, sym, subst}
use Rattle.held_calls.specs.Holding.{Holds}
use Rattle.held_calls.specs.declared.loans.Held.{Held}
use Rattle.held_zone.proofs.Written.{Holds-none}
use Rattle.held_zone.proofs.session.Session.create.Goals as goal

pub invariant_of-session : goal.invariant_of-session
invariant_of-session c =
    let lent : c.in_ok-memory.memory.heap.table.lent ≡ [] = search rules in
    (subst (λ (hs : List Held). Holds c.in_ok-memory.memory hs) (sym c.new.ensures) (Holds-none c.in_ok-memory.memory lent), λ awake. c.new-2.ensures)
