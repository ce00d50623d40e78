use Rattle.std.proofs.Common.{◌≡◌, ℕ, List, take}
use Rattle.std.specs.Prelude.{bytes_eq, count_by}
use Rattle.fork_folder.specs.Counts.{kind_count}
use Rattle.fork_folder.specs.Names.{folded}
use Rattle.fork_folder.proofs.types.Types.of_rows.Given as goal

-- the types of the rows so far are counted, with and without regard to case
abbrev pub invariant-loop-row : goal.invariant-loop-row
invariant-loop-row l =
    ((kind : List ℕ) → kind_count l.exact kind ≡ count_by (λ row. bytes_eq row.kind kind) (take l.row-index l.rows))
    × ((small : List ℕ) → kind_count l.small small ≡ count_by (λ row. bytes_eq (folded row.kind) small) (take l.row-index l.rows))
