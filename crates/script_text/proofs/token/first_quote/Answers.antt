use Rattle.script_text.specs.Front.{is_quote}
use Rattle.script_text.proofs.Fronts.{first_is_position}
use Rattle.script_text.proofs.token.first_quote.Goals as goal

pub returns : goal.returns
returns c = first_is_position (is_quote c.args.quote) c.args.line.now c.memchr.result c.memchr.ensures
