use Rattle.std.proofs.Common.{◌≤◌, arith}
use Rattle.std.proofs.lemmas.Bool.Decides.{nat_tests}
use Rattle.zone_index.proofs.Passed.{used-all, used-up_to}
use Rattle.zone_index.proofs.leaves.is_used.Goals as goal

pub returns-in-Some : goal.returns-in-Some
returns-in-Some c is split = used-up_to split c.args.high c.in-Some.at (c.in-Some.ensures.next split) (let past : c.args.high ≤ c.in-Some.at = grind (arith, nat_tests) in past)

pub returns-in-None : goal.returns-in-None
returns-in-None c is split = used-all split c.args.high (c.in-None.ensures.none split)
