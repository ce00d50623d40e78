use Rattle.std.proofs.lemmas.Result.{err_from_is_err_and}
use Rattle.mac_files.proofs.BinHexRuns.{runs_cut, runs_end, runs_literal, runs_more, runs_no_count, runs_nothing, runs_plain}
use Rattle.mac_files.proofs.bin_hex.runs.Runs.next_run.Goals as goal

pub returns-in_err-byte-clause-takes : goal.returns-in_err-byte-clause-takes
returns-in_err-byte-clause-takes c =
    let p = err_from_is_err_and c.from_residual.result c.from_residual.ensures.1 in
    rw (p.1, p.2) (runs_end c.args.self.now.last _ _ c.in_err-byte.ensures.takes)

pub returns-in_default-clause-takes : goal.returns-in_default-clause-takes
returns-in_default-clause-takes c = runs_end c.args.self.now.last _ _ (rw c.in_default.is at c.in_ok-byte.ensures.takes)

pub returns-then-value-clause-takes : goal.returns-then-value-clause-takes
returns-then-value-clause-takes c =
    runs_plain c.args.self.now.last _ _ c.in-Some.byte (rw c.in-Some.is at c.in_ok-byte.ensures.takes) c.if-value.true

pub returns-in_err-count-clause-takes : goal.returns-in_err-count-clause-takes
returns-in_err-count-clause-takes c =
    let p = err_from_is_err_and c.from_residual-in_err-count.result c.from_residual-in_err-count.ensures.1 in
    let byte = rw c.in-Some.is at c.in_ok-byte.ensures.takes in
    rw (p.1, p.2) (runs_cut c.args.self.now.last _ _ c.in-Some.byte _ byte c.if-value.false c.in_err-count.ensures.takes)

pub returns-in_default-2-clause-takes : goal.returns-in_default-2-clause-takes
returns-in_default-2-clause-takes c =
    let byte = rw c.in-Some.is at c.in_ok-byte.ensures.takes in
    let rest = rw c.in_default-2.is at c.in_ok-count.ensures.takes in
    runs_no_count c.args.self.now.last _ _ c.in-Some.byte _ byte c.if-value.false rest

pub returns-then-count-eq0-clause-takes : goal.returns-then-count-eq0-clause-takes
returns-then-count-eq0-clause-takes c =
    let byte = rw c.in-Some.is at c.in_ok-byte.ensures.takes in
    let count = rw c.in-Some-2.is at c.in_ok-count.ensures.takes in
    runs_literal c.args.self.now.last _ _ _ c.in-Some.byte c.in-Some-2.count byte c.if-value.false count c.if-count-eq0.true

pub returns-in_default-last-clause-takes : goal.returns-in_default-last-clause-takes
returns-in_default-last-clause-takes c =
    let byte = rw c.in-Some.is at c.in_ok-byte.ensures.takes in
    let count = rw c.in-Some-2.is at c.in_ok-count.ensures.takes in
    rw c.in_default-last.is (runs_nothing _ _ _ c.in-Some.byte c.in-Some-2.count byte c.if-value.false count c.if-count-eq0.false)

pub returns-clause-takes : goal.returns-clause-takes
returns-clause-takes c =
    let byte = rw c.in-Some.is at c.in_ok-byte.ensures.takes in
    let count = rw c.in-Some-2.is at c.in_ok-count.ensures.takes in
    rw c.in-Some-last.is (runs_more c.in-Some-last.last _ _ _ c.in-Some.byte c.in-Some-2.count byte c.if-value.false count c.if-count-eq0.false)
