use Rattle.std.proofs.Common.{subst, sym, Err}
use Rattle.file_replace.specs.declared.prepared.NotBoth.{NotBoth}
use Rattle.fork_saves.specs.Putting.{IsEndOfBoth}
use Rattle.fork_saves.proofs.save.not_both.Goals as goal

pub returns-in-First : goal.returns-in-First
returns-in-First c = subst (λ (it : NotBoth). IsEndOfBoth c.args.first.now c.args.second.now (Err it) (Err c.not_saved.result)) (sym c.in-First.is) c.not_saved.ensures.told

pub returns-in-Second : goal.returns-in-Second
returns-in-Second c = subst (λ (it : NotBoth). IsEndOfBoth c.args.first.now c.args.second.now (Err it) (Err c.not_saved-in-Second.result)) (sym c.in-Second.is) c.not_saved-in-Second.ensures.told
