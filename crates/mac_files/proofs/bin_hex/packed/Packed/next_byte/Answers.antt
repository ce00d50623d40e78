use Rattle.std.proofs.lemmas.Result.{err_from_is_err_and}
use Rattle.mac_files.proofs.BinHexBytes.{bytes_end, bytes_end_inside, bytes_first, bytes_second, bytes_third}
use Rattle.mac_files.proofs.bin_hex.packed.Packed.next_byte.Goals as goal

pub returns-in_err-digit-clause-takes : goal.returns-in_err-digit-clause-takes
returns-in_err-digit-clause-takes c =
    let p = err_from_is_err_and c.from_residual.result c.from_residual.ensures.1 in
    rw (p.1, p.2) (bytes_end c.args.self.now.held _ _ c.in_err-digit.ensures.takes)

pub returns-in_default-clause-takes : goal.returns-in_default-clause-takes
returns-in_default-clause-takes c = bytes_end c.args.self.now.held _ _ (rw c.in_default.is at c.in_ok-digit.ensures.takes)

pub returns-in_err-second-in-Nothing-clause-takes :
    goal.returns-in_err-second-in-Nothing-clause-takes
returns-in_err-second-in-Nothing-clause-takes c =
    let p = err_from_is_err_and c.from_residual-in_err-second-in-Nothing.result c.from_residual-in_err-second-in-Nothing.ensures.1 in
    let first = rw c.in-Some.is at c.in_ok-digit.ensures.takes in
    rw (p.1, p.2, c.in-Nothing.is) (bytes_end_inside _ _ _ _ first c.in_err-second-in-Nothing.ensures.takes)

pub returns-in_default-2-clause-takes : goal.returns-in_default-2-clause-takes
returns-in_default-2-clause-takes c =
    let first = rw c.in-Some.is at c.in_ok-digit.ensures.takes in
    let rest = rw c.in_default-2.is at c.in_ok-second-in-Nothing.ensures.takes in
    rw c.in-Nothing.is (bytes_end_inside _ _ _ _ first rest)

pub returns-in-Nothing-clause-takes : goal.returns-in-Nothing-clause-takes
returns-in-Nothing-clause-takes c =
    let first = rw c.in-Some.is at c.in_ok-digit.ensures.takes in
    let second = rw c.in-Some-2.is at c.in_ok-second-in-Nothing.ensures.takes in
    rw c.in-Nothing.is (bytes_first _ _ _ _ _ first second)

pub returns-in-Second-clause-takes : goal.returns-in-Second-clause-takes
returns-in-Second-clause-takes c =
    let digit = rw c.in-Some.is at c.in_ok-digit.ensures.takes in
    rw c.in-Second.is (bytes_second _ _ c.in-Second.second _ digit)

pub returns-in-Third-clause-takes : goal.returns-in-Third-clause-takes
returns-in-Third-clause-takes c =
    let digit = rw c.in-Some.is at c.in_ok-digit.ensures.takes in
    rw c.in-Third.is (bytes_third _ _ c.in-Third.third _ digit)
