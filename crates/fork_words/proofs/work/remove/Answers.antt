use Rattle.std.proofs.Common.{refl}
use Rattle.fork_words.proofs.Naming.{found_each}
use Rattle.fork_words.proofs.work.remove.Goals as goal

pub returns-clause-asked : goal.returns-clause-asked
returns-clause-asked c =
    let kind = rw c.word.ensures at c.in_ok-kind.ensures.kind in
    let each = found_each _ c.get_strs.result _ _ _ _ refl c.get_strs.ensures c.unwrap_or.ensures c.in_ok-whats.ensures.whats in
    let file = rw c.word-2.ensures at c.in_ok-target.ensures.target in
    (refl, record { resources = (c.in_ok-kind.kind, kind, each); target = file })
