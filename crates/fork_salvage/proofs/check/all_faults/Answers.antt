use Rattle.std.proofs.Common.{◌≡◌, List, ◌∷◌, ◌++◌, not, ap, ◌∙◌, inr}
use Rattle.std.specs.List.{filter}
use Rattle.std.proofs.lemmas.Result.{IfOk-weaker}
use Rattle.fork_salvage.specs.declared.fault.Fault.{Fault}
use Rattle.fork_salvage.specs.contracts.fault.FaultPartialEq.TheImpl.{ghosts}
use Rattle.fork_salvage.specs.Faults.{found_faults}
use Rattle.fork_salvage.proofs.Checked.{not_refused}
use Rattle.fork_salvage.proofs.check.all_faults.Goals as goal

-- a fault, and the others of these
abbrev first_of : Fault → List Fault → List Fault
first_of first found = first ∷ filter (λ (other : Fault). not (ghosts.eq other first)) found

pub returns-clause-none : goal.returns-clause-none
returns-clause-none c =
    IfOk-weaker c.with_first.result (λ all. all.items ≡ first_of c.in-Some.first c.as_slice.result.now) _
    (λ all is fork. absurd (not_refused c.args.fork.now c.in-Some.first c.in-Some.ensures.refuses fork)) c.with_first.ensures

pub returns-clause-fork : goal.returns-clause-fork
returns-clause-fork c =
    IfOk-weaker c.with_first.result (λ all. all.items ≡ first_of c.in-Some.first c.as_slice.result.now) _
    (λ all is none. absurd (cc (is, none))) c.with_first.ensures

pub returns-clause-all : goal.returns-clause-all
returns-clause-all c =
    let found = found_faults c.args.fork.now in
    let are : c.as_slice.result.now ≡ found =
    c.as_slice.ensures.value ∙ c.in_ok-push_found.ensures ∙ ap (λ (fs : List Fault). fs ++ found) c.new-found.ensures.items in
    IfOk-weaker c.with_first.result (λ all. all.items ≡ first_of c.in-Some.first c.as_slice.result.now) _
    (λ all is. inr (c.in-Some.first, c.in-Some.ensures.fault, c.in-Some.ensures.refuses, is ∙ ap (first_of c.in-Some.first) are)) c.with_first.ensures
