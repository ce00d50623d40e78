use Rattle.std.proofs.Common.{◌≢◌, ◌∙◌, ap, arith, rules}
use Rattle.fork_disk.specs.Disk.{bytes_at}
use Rattle.fork_journal.specs.Crash.{Contents}
use Rattle.fork_journal.proofs.Usable.{must_shut_read}
use Rattle.fork_journal.proofs.reading.is_shutting_due.Goals as goal

pub returns-clause-answers : goal.returns-clause-answers
returns-clause-answers g c honest =
    let reads = c.in_ok-read_at.ensures.reads honest in
    let measures = c.in_ok-len.ensures.measures reads.keeps.honest in
    let journal = (g.P.PairDisk.contents c.args.pair.now).journal in
    let some : c.in_ok-len.field-0 ≢ 0 = omega arith in
    let gate = reads.read ∙ ap (λ (d : Contents). bytes_at 1 0 d.journal) measures.keeps.same in
    let value = must_shut_read journal c.read_at.new.buffer c.in_ok-len.field-0 measures.value some gate in search rules
