use Rattle.std.proofs.Common.{◌≡◌, ◌+◌, ◌≤◌, length, ◌∙◌, sym, ap, subst, arith, rules}
use Rattle.std.proofs.lemmas.Result.{err_from_is_err_and}
use Rattle.fork_disk.specs.Disk.{bytes_at}
use Rattle.fork_disk.proofs.Passing.{passed_on}
use Rattle.fork_journal.specs.Crash.{Contents}
use Rattle.fork_journal.proofs.Usable.{unusable_under, unusable_cut, usable_whole, fork_read, some_copied}
use Rattle.fork_journal.proofs.reading.usable_fork.Goals as goal

pub returns-then-len-lt5-clause-finds : goal.returns-then-len-lt5-clause-finds
returns-then-len-lt5-clause-finds g c honest =
    let value = unusable_under _ c.in_ok-len.len (c.in_ok-len.ensures.measures honest).value c.if-len-lt5.true in search rules

pub returns-then-len-told-clause-finds : goal.returns-then-len-told-clause-finds
returns-then-len-told-clause-finds g c honest =
    let reads = c.in_ok-read_at.ensures.reads honest in
    let measures = c.in_ok-len.ensures.measures reads.keeps.honest in
    let journal = (g.P.PairDisk.contents c.args.pair.now).journal in
    let head = reads.read ∙ ap (λ (d : Contents). bytes_at 5 0 d.journal) measures.keeps.same in
    let value = unusable_cut journal c.read_at.new.buffer c.in_ok-len.len c.told_length-told.result measures.value c.if-len-lt5.false head c.told_length-told.ensures.value (omega (arith, c.if-len-told.true)) in search rules

pub returns-clause-finds : goal.returns-clause-finds
returns-clause-finds g c honest =
    let tells = c.in_ok-fork.ensures.answers honest in
    let reads = c.in_ok-read_at.ensures.reads tells.keeps.honest in
    let measures = c.in_ok-len.ensures.measures reads.keeps.honest in
    let journal = (g.P.PairDisk.contents c.args.pair.now).journal in
    let head = reads.read ∙ ap (λ (d : Contents). bytes_at 5 0 d.journal) measures.keeps.same in
    let same = reads.keeps.same ∙ measures.keeps.same in
    let usable = usable_whole journal c.read_at.new.buffer c.in_ok-len.len c.told_length-told.result measures.value c.if-len-lt5.false head c.told_length-told.ensures.value (omega (arith, c.if-len-told.false)) c.if-head-ne1.false in
    let fork = tells.value ∙ ap (λ (d : Contents). bytes_at c.told_length-told.result 5 d.journal) same
    ∙ fork_read journal c.read_at.new.buffer c.in_ok-len.len c.told_length-told.result measures.value c.if-len-lt5.false head c.told_length-told.ensures.value in search rules

pub read_journal-requires : goal.read_journal-requires
read_journal-requires g c honest =
    let reads = c.in_ok-read_at.ensures.reads honest in
    let measures = c.in_ok-len.ensures.measures reads.keeps.honest in
    let here = g.P.PairDisk.contents c.args.pair.now in
    let long : c.in_ok-len.len ≡ length here.journal = measures.value in
    let enough : 5 + c.told_length-told.result ≤ length here.journal = omega (arith, long, c.if-len-told.false) in
    subst (λ (d : Contents). 5 + c.told_length-told.result ≤ length d.journal) (sym (reads.keeps.same ∙ measures.keeps.same)) enough

pub returns-in_err-fork-clause-finds : goal.returns-in_err-fork-clause-finds
returns-in_err-fork-clause-finds g c honest =
    let tells = c.in_err-fork.ensures.answers honest in
    let reads = c.in_ok-read_at.ensures.reads tells.keeps.honest in
    let measures = c.in_ok-len.ensures.measures reads.keeps.honest in
    let journal = (g.P.PairDisk.contents c.args.pair.now).journal in
    let head = reads.read ∙ ap (λ (d : Contents). bytes_at 5 0 d.journal) measures.keeps.same in
    let p = err_from_is_err_and c.from_residual-in_err-fork.result c.from_residual-in_err-fork.ensures.1 in record {
      keeps = search rules;
      value = search rules;
      memory = λ full.
          some_copied journal c.read_at.new.buffer c.in_ok-len.len c.told_length-told.result measures.value c.if-len-lt5.false head c.told_length-told.ensures.value (omega (arith, c.if-len-told.false)) c.if-head-ne1.false (c.read_journal.ensures.memory (passed_on _ _ _ _ c.in_err-fork.was p.1 p.2 full));
    }
