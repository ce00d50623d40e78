-- What a start finds, by what a crash leaves.
use Rattle.std.proofs.Common.{◌≡◌, inl, inr, ℕ, List, sym, ◌∙◌, subst}
use Rattle.fork_disk.specs.Crash.{AlwaysFinds, FoundBeforeOr, at_first, and_then}
use Rattle.fork_journal.specs.Crash.{Contents, History, MayLeave, AlwaysLeaves}
use Rattle.fork_journal.specs.Recovery.{settled_fork, IsBeforeOrAfter, IsSameChoice, MayFind}

-- what holds of each outcome gives what holds of the fork that is found there
module _ (P : Contents → Type 0) (Q : List ℕ → Type 0) (gives : (c : Contents) → P c → Q (settled_fork c)) where
  of_found : (history : History) → ((c : Contents) → MayLeave history c → P c) → (found : List ℕ) → MayFind history found → Q found
  of_found history here found may = subst Q (sym may.2) (gives may.0 (here may.0 may.1))

  finds_along : (old new : History) → AlwaysLeaves P old new → AlwaysFinds MayFind Q old new
  finds_along old new (at_first here) = at_first (of_found old here)
  finds_along old new (and_then {event} {past} so_far here) = and_then (finds_along old past so_far) (of_found new here)

pub finds_choice : (old new : History) → AlwaysLeaves (IsSameChoice old) old new → AlwaysFinds MayFind (MayFind old) old new
finds_choice old new = finds_along (IsSameChoice old) (MayFind old) (λ c same. same) old new

-- the fork from before is one that a start might have found, since the pair reads as a crash may leave it
module _ (contents : Contents) (before after : List ℕ) (old : History) (is : settled_fork contents ≡ before) (outcome : MayLeave old contents) where
  before_or : (c : Contents) → IsBeforeOrAfter before after c → FoundBeforeOr MayFind old after (settled_fork c)
  before_or c (inl same) = inl (contents, outcome, same ∙ sym is)
  before_or c (inr new) = inr new

  pub finds_before_or : (new : History) → AlwaysLeaves (IsBeforeOrAfter before after) old new → AlwaysFinds MayFind (FoundBeforeOr MayFind old after) old new
  finds_before_or new = finds_along (IsBeforeOrAfter before after) (FoundBeforeOr MayFind old after) before_or old new
