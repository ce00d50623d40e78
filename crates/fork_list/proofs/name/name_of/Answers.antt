use Rattle.fork_list.proofs.Naming.{all_exact}
use Rattle.fork_list.proofs.name.name_of.Goals as goal

pub returns : goal.returns
returns c =
    all_exact (λ bytes. bytes.items) c.args.text.now c.without_quotes.result.now c.bare_name.result c.without_quotes.ensures.between c.without_quotes.ensures.bare
    c.without_quotes.ensures.unquotes c.bare_name.ensures
