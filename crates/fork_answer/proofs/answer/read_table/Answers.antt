use Rattle.std.proofs.Common.{inl}
use Rattle.fork_list.proofs.Reading.{empty_if}
use Rattle.fork_answer.proofs.answer.read_table.Goals as goal

pub returns-then-is_empty : goal.returns-then-is_empty
returns-then-is_empty c = inl (empty_if _ _ c.is_empty.ensures c.if-is_empty.true, c.no_resources.ensures)
