use Rattle.std.specs.BTreeSet.{IsFromIterResult}
use Rattle.std.specs.Cmp.Lexicographic.{slice_cmp}
use Rattle.std.specs.Ordering.{nat_cmp}
use Rattle.std.proofs.lemmas.Iterator.{YieldsList-from_slice}
use Rattle.std.proofs.lemmas.Iterator.Adapters.{fact_from_collect}
use Rattle.std.proofs.lemmas.Iterator.Consumers.{YieldsList-from_copied}
use Rattle.fork_bytes.proofs.types.set_of.Goals as goal

pub returns : goal.returns
returns c =
    fact_from_collect (IsFromIterResult (slice_cmp nat_cmp)) c.collect.result c.collect.ensures.ran (YieldsList-from_copied (YieldsList-from_slice c.args.kinds.now (cc)))
