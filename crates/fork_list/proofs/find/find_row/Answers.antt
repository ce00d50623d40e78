use Rattle.std.proofs.Common.{rules, tests}
use Rattle.std.proofs.lemmas.Iterator.{YieldsList-from_slice}
use Rattle.std.proofs.lemmas.Iterator.Consumers.{YieldsList-from_filter, nth_from_yields_List}
use Rattle.fork_list.specs.Find.{is_wanted}
use Rattle.fork_list.proofs.find.find_row.Goals as goal

pub returns : goal.returns
returns g c =
    nth_from_yields_List c.nth.result c.nth.new.self c.args.wanted.now.nth c.nth.ensures.ran
    (YieldsList-from_filter _ (is_wanted c.args.wanted.now) (YieldsList-from_slice c.args.rows.now cc) c.filter.ensures.closure (λ x r q k. search (rules, tests)))
