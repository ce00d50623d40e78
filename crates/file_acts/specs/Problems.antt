-- What is in the way of a command.
use Rattle.std.specs.Prelude.{◌≡◌, ℕ, List, Err, ⊤}
use Rattle.fork_answer.specs.Answer.{IsReadOf}
use Rattle.fork_answer.specs.Source.{IsNoForkIn}
use Rattle.fork_answer.specs.declared.answer.Failure.{Failure}
use Rattle.fork_answer.specs.declared.answer.Failure.TheVariants as failure
use Rattle.fork_answer.specs.declared.source.NoFork.{NoFork}
use Rattle.fork_bytes.specs.declared.fault.ForkFault.{ForkFault}
use Rattle.fork_edit.specs.declared.change.NotChanged.{NotChanged}
use Rattle.fork_edit.specs.declared.change.NotChanged.TheVariants as unchanged
use Rattle.fork_report.specs.declared.refusal.Refusal.{Refusal}
use Rattle.fork_report.specs.Refused.{IsToldOf}
use Rattle.fork_report.specs.Salvaged.{CanBeSalvaged}
use Rattle.file_acts.specs.declared.message.Problem.{Problem}
use Rattle.file_acts.specs.declared.message.Problem.TheVariants as problem

-- why nothing is shown of a file: this refusal, and where its container has a fault, that it can be salvaged
abbrev pub IsRefusedAs : List ℕ → Refusal → Problem → Type 0
IsRefusedAs file why (problem.Refused told) = told ≡ why
IsRefusedAs file why (problem.Salvageable told) = (told ≡ why) × CanBeSalvaged file
IsRefusedAs file why other = ⊥

-- what is reported of a file of which something isn't shown because of this
abbrev pub IsToldOfFailure : List ℕ → Failure → Problem → Type 0
IsToldOfFailure file failure told = (why : Refusal) × IsToldOf file failure why × IsRefusedAs file why told

-- what is reported of a file that isn't changed
abbrev pub IsToldOfChange : List ℕ → NotChanged → Problem → Type 0
IsToldOfChange file (unchanged.Read failure) told = IsToldOfFailure file failure told
IsToldOfChange file (unchanged.Edit refusal) told = told ≡ problem.Edit refusal
IsToldOfChange file (unchanged.Write fault) told = told ≡ problem.Write fault
IsToldOfChange file unchanged.HostFull told = told ≡ problem.HostFull

-- the problem, where a file is changed already: that the standard output takes no more isn't all then
abbrev pub after_change : Problem → Problem
after_change (problem.Print error) = problem.Said error
after_change other = other

-- why no fork is found in a file; and why a fork that was found is none
abbrev pub LacksFork : List ℕ → Problem → Type 0
LacksFork file told = (fault : NoFork) × IsNoForkIn file fault × IsToldOfFailure file (failure.NoFork fault) told

abbrev pub IsForkRefused : List ℕ → List ℕ → Problem → Type 0
IsForkRefused file fork told = (fault : ForkFault) × IsReadOf fork (Err fault) × IsToldOfFailure file (failure.Fork fault) told

-- that there is no such resource, unless the host has no memory to say so
abbrev pub IsMissing : Problem → Type 0
IsMissing (problem.NotFound text) = ⊤
IsMissing problem.HostFull = ⊤
IsMissing other = ⊥
