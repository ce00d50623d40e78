use Rattle.std.proofs.Common.{◌≡◌, ap, Bool, false, ℕ, List, Result, Err, inr, subst, sym, ◌∙◌}
use Rattle.std.specs.Prelude.{IsErrAnd, ⊤}
use Rattle.std.proofs.lemmas.Result.{err_from_is_err_and}
use Rattle.fork_answer.specs.Source.{IsForkIn}
use Rattle.mac_files.specs.OldFiles.{fork_of}
use Rattle.file_acts.specs.Problems.{IsForkRefused}
use Rattle.file_acts.specs.declared.message.Problem.{Problem}
use Rattle.fork_saves.specs.Converting.{IsChecked}
use Rattle.fork_saves.proofs.convert.check_fork.Goals as goal

-- bytes that aren't known for sure, whose fork has a fault
refused : (sure : Bool) (bytes : List ℕ) (result : Result ⊤ Problem) (why : Problem) (fork : List ℕ) → sure ≡ false → IsErrAnd result (λ told. told ≡ why) → IsForkIn bytes fork → IsForkRefused bytes fork why → IsChecked sure bytes result
refused sure bytes result why fork is was there fault = let p = err_from_is_err_and result was in
    subst (λ (end : Result ⊤ Problem). IsChecked sure bytes end) (sym (p.1 ∙ ap (λ (e : Problem). Err e) p.2)) (subst (λ (b : Bool). IsChecked b bytes (Err why)) (sym is) (inr (fork, there, fault)))

pub returns-in_err-table_found : goal.returns-in_err-table_found
returns-in_err-table_found c = refused _ _ c.from_residual-in_err-table_found.result c.in_err-table_found.field-0.0 (fork_of c.in_ok-found.found) (sym c.is_sure.ensures ∙ c.if-is_sure.false) c.from_residual-in_err-table_found.ensures.1 c.in_ok-found.ensures.fork c.in_err-table_found.ensures.refused
