use Rattle.std.proofs.Common.{ℕ, List, subst, sym}
use Rattle.fork_edit.specs.Files.{IsSourceOf}
use Rattle.fork_edit.proofs.change.changed.Goals as goal

pub returns-in-Err-read_table : goal.returns-in-Err-read_table
returns-in-Err-read_table c =
    (c.fork.result.now, subst (λ (fork : List ℕ). IsSourceOf c.args.file.now fork) (sym c.fork.ensures) c.in-Ok.ensures.fork, c.in-Err-read_table.ensures)
