use Rattle.std.proofs.Common.{◌≢◌}
use Rattle.fork_bytes.specs.declared.fault.ForkFault.TheVariants.{HostFull}
use Rattle.fork_answer.proofs.Mending.{salvages, table_grouped, told_too_big}
use Rattle.fork_answer.proofs.mend.mended_table.Goals as goal

pub returns-in-Ok-clause-grouped : goal.returns-in-Ok-clause-grouped
returns-in-Ok-clause-grouped c = table_grouped c.args.fork.now c.in-Ok.table c.in-Ok.ensures

pub returns-in-Err-EndOfFile-clause-too_big : goal.returns-in-Err-EndOfFile-clause-too_big
returns-in-Err-EndOfFile-clause-too_big c =
    let short = c.in-Err-EndOfFile.field-0-is in
    let other : c.in-Err-EndOfFile.field-0 ≢ HostFull = λ is. absurd cc in
    told_too_big _ _ c.salvaged_table.result other c.in-Err-EndOfFile.ensures c.salvaged_table.ensures.too_big

pub returns-in-Err-BadMap-clause-table : goal.returns-in-Err-BadMap-clause-table
returns-in-Err-BadMap-clause-table c =
    let bad = c.in-Err-BadMap.field-0-is in
    let other : c.in-Err-BadMap.field-0 ≢ HostFull = λ is. absurd cc in
    salvages _ _ c.salvaged_table-in-Err-BadMap.result other c.in-Err-BadMap.ensures c.salvaged_table-in-Err-BadMap.ensures.table

pub returns-in-Err-BadMap-clause-too_big : goal.returns-in-Err-BadMap-clause-too_big
returns-in-Err-BadMap-clause-too_big c =
    let bad = c.in-Err-BadMap.field-0-is in
    let other : c.in-Err-BadMap.field-0 ≢ HostFull = λ is. absurd cc in
    told_too_big _ _ c.salvaged_table-in-Err-BadMap.result other c.in-Err-BadMap.ensures c.salvaged_table-in-Err-BadMap.ensures.too_big
