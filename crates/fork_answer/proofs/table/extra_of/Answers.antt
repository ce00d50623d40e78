use Rattle.std.proofs.Common.{ℕ, List, ◌++◌, replicate, take, ap, ◌∙◌}
use Rattle.std.proofs.lemmas.List.{take_rest}
use Rattle.fork_answer.proofs.table.extra_of.Goals as goal

pub returns : goal.returns
returns c = c.extra_bytes-2.ensures ∙ ap (λ (xs : List ℕ). take 240 (xs ++ replicate 240 0)) (take_rest c.args.fork.now 16)
