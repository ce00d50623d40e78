use Rattle.fork_list.proofs.Reading.{kind_exact, listed_kind}
use Rattle.fork_list.proofs.kind.kind_of.Goals as goal

pub returns-clause-exact : goal.returns-clause-exact
returns-clause-exact c =
    kind_exact c.args.text.now c.without_quotes.result.now c.bare_kind.result c.without_quotes.ensures.quotes c.without_quotes.ensures.between c.bare_kind.ensures

pub returns-clause-listed : goal.returns-clause-listed
returns-clause-listed c = listed_kind c.args.text.now c.bare_kind.result (returns-clause-exact c)
