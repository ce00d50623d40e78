use Rattle.std.proofs.Common.{◌++◌, List, ℕ, map, Bor}
use Rattle.clap.specs.Words.{Text}
use Rattle.run_stores.proofs.Opening.{journalled_opened}
use Rattle.run_stores.proofs.stores.journalled_stores.Goals as goal

abbrev now_of : Bor (List ℕ) → Text
now_of path = path.now

pub returns-clause-stores : goal.returns-clause-stores
returns-clause-stores g c =
    let opened = c.in-Ok.ensures.pairs in
    let on = c.pairs_on.ensures in
    (opened.0, opened.1, journalled_opened g.O.Opens.asking g.O.Opens.pairs (map now_of c.args.paths.now ++ map now_of c.args.journals.now) opened.0 c.in-Ok.pairs.items opened.2 c.pairs_on.result on.stores on.full)
