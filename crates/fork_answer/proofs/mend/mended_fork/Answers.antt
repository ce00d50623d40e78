use Rattle.std.proofs.Common.{inl, rules}
use Rattle.fork_answer.proofs.mend.mended_fork.Goals as goal

pub returns-in-Ok-clause-fork : goal.returns-in-Ok-clause-fork
returns-in-Ok-clause-fork c = record {
  table = c.in_ok-table.table;
  mends = c.in_ok-table.ensures.table;
  is = c.in-Ok.ensures.written;
  stands = c.in-Ok.ensures.stands c.in_ok-table.ensures.grouped;
}

pub returns-clause-too_big : goal.returns-clause-too_big
returns-clause-too_big c = λ is. inl (c.in_ok-table.table, c.in_ok-table.ensures.table, c.in-Err.ensures.too_big.0 (search rules))
