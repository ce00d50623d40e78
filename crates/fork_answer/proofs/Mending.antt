-- The table of what is read.
use Rattle.std.proofs.Common.{◌≡◌, ◌≢◌, ℕ, List, Result, Ok, Err, IfErr, IfOk, inl, inr, refl, sym, subst, arith}
use Rattle.fork_bytes.specs.declared.table.Table.{Table}
use Rattle.fork_bytes.specs.declared.fault.Condition.TheVariants.{Types}
use Rattle.fork_bytes.specs.declared.fault.ForkFault.{ForkFault}
use Rattle.fork_bytes.specs.declared.fault.ForkFault.TheVariants.{EndOfFile, BadMap, HostFull}
use Rattle.fork_bytes.specs.declared.fault.WriteFault.{WriteFault}
use Rattle.fork_bytes.specs.declared.fault.WriteFault.TheVariants.{TooBig}
use Rattle.fork_bytes.specs.Fork.{IsForkWithin, RefusesWithin, data_of, format_limits, map_of}
use Rattle.fork_bytes.specs.Laws.{IsGrouped}
use Rattle.fork_bytes.proofs.Grouped.{map_grouped}
use Rattle.fork_answer.specs.Salvaged.{IsTooMuch, salvaged_table}
use Rattle.fork_answer.specs.Answer.{IsReadOf, IsTableOf}
use Rattle.fork_answer.specs.Mended.{IsMended, IsTooBig}

-- the rows of a table that is read are grouped
pub table_grouped : (fork : List ℕ) (table : Table) → IsTableOf fork table → IsGrouped table.rows
table_grouped fork table (inl (none, is)) =
    let P : Table → Type 0 = λ t. IsGrouped t.rows in subst P (sym is) (λ i j d below within. absurd (omega arith))
table_grouped fork table (inr stands) =
    let P : Table → Type 0 = λ t. IsGrouped t.rows in subst P (sym stands.1) (map_grouped (data_of fork) (map_of fork) (stands.0.holds Types).distinct)

-- bytes that are refused are no fork
no_fork : (fork : List ℕ) (fault : ForkFault) → fault ≢ HostFull → RefusesWithin format_limits fork fault → ¬ IsForkWithin format_limits fork
no_fork fork EndOfFile told short is = let long = is.header in omega arith
no_fork fork (BadMap condition) told refuses is = refuses.1.fails (is.holds condition)
no_fork fork HostFull told refuses is = told refl

-- what can be read of them may be too much
pub told_too_big : (fork : List ℕ) (fault : ForkFault) (salvaged : Result Table WriteFault) → fault ≢ HostFull → IsReadOf fork (Err fault)
    → IfErr salvaged (λ why. why ≡ TooBig → IsTooMuch fork) → IfErr salvaged (λ why. why ≡ TooBig → IsTooBig fork)
told_too_big fork fault (Ok table) told read much = tt
told_too_big fork fault (Err why) told read much = λ is. inr (read.0, no_fork fork fault told read.1, much is)

-- and is a table of what is left
pub salvages : (fork : List ℕ) (fault : ForkFault) (salvaged : Result Table WriteFault) → fault ≢ HostFull → IsReadOf fork (Err fault)
    → IfOk salvaged (λ table. table ≡ salvaged_table fork) → IfOk salvaged (IsMended fork)
salvages fork fault (Ok table) told read is = inr (read.0, no_fork fork fault told read.1, is)
salvages fork fault (Err why) told read is = tt
