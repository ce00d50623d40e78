use Rattle.std.proofs.Common.{◌++◌, List, ℕ, codes, decimal, sym, ap, ◌∙◌}
use Rattle.std.proofs.Output.{has_written_of_eq}
use Rattle.fork_answer.specs.Lines.{place_text}
use Rattle.fork_answer.specs.Warnings.{warning_text}
use Rattle.fork_answer.proofs.warning.WarningDisplay.fmt.Goals as goal

pub returns-in-OfNone-clause-writes : goal.returns-in-OfNone-clause-writes
returns-in-OfNone-clause-writes g c = λ plain ok. (
    let text : List ℕ → List ℕ = λ pool. decimal c.in-OfNone.count ++ (codes " bytes among the " ++ (pool ++ (codes " belong to no resource\n  at " ++ place_text c.in-OfNone.place))) in
    has_written_of_eq _ _ _ _ _ (ap text c.name-pool-in-OfNone.ensures ∙ ap warning_text (sym c.in-OfNone.is)) (c.write-in-OfNone.ensures.writes plain ok))
