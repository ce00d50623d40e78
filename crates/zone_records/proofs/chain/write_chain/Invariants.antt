use Rattle.zone_records.proofs.Words.{Chaining}
use Rattle.zone_records.proofs.chain.write_chain.Given as goal

abbrev pub invariant-loop-index : goal.invariant-loop-index
invariant-loop-index l = Chaining l.fn.heads l.fn.first l.fn.last l.fn.words l.index l.next l.words
