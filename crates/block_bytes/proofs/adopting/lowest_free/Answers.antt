use Rattle.std.proofs.Common.{sym, arith}
use Rattle.block_bytes.proofs.Starts.{first_marked-found, first_marked-missing}
use Rattle.block_bytes.proofs.adopting.lowest_free.Goals as goal

pub returns-in-Some : goal.returns-in-Some
returns-in-Some c = let found = c.in-Some.ensures.first in
    sym (first_marked-found c.args.index.now c.args.base c.in-Some.place found.inside.1 found.large (λ j before. found.first j (omega arith) before))

pub returns-in-None : goal.returns-in-None
returns-in-None c = sym (first_marked-missing c.args.index.now c.args.base (λ j inside. c.in-None.ensures.none j (omega arith) inside))
