use Rattle.script_text.proofs.TokenLaws.{shown_token, shown_end, shown_none, shown_shorter}
use Rattle.script_text.proofs.token.first_token.Goals as goal

pub returns-clause-token : goal.returns-clause-token
returns-clause-token c = shown_token c.args.line.now c.token_at.result (rw c.after_blanks.ensures at c.token_at.ensures)

pub returns-clause-end : goal.returns-clause-end
returns-clause-end c = shown_end c.args.line.now c.token_at.result (rw c.after_blanks.ensures at c.token_at.ensures)

pub returns-clause-none : goal.returns-clause-none
returns-clause-none c = shown_none c.args.line.now c.token_at.result (rw c.after_blanks.ensures at c.token_at.ensures)

pub returns-clause-shorter : goal.returns-clause-shorter
returns-clause-shorter c = shown_shorter c.args.line.now c.token_at.result (rw c.after_blanks.ensures at c.token_at.ensures)
