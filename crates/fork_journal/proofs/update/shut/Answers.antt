use Rattle.std.proofs.Common.{sym, ◌∙◌, rules}
use Rattle.fork_journal.proofs.Updating.{rests, gates}
use Rattle.fork_journal.proofs.update.shut.Goals as goal

pub returns-in-Ok-false-clause-shuts : goal.returns-in-Ok-false-clause-shuts
returns-in-Ok-false-clause-shuts g c honest =
    let tells = c.in-Ok-false.ensures.answers honest in
    let any_moment = rests _ _ _ (c.requires tells.keeps.honest) tells.keeps.calm in search rules

pub returns-in-Err-clause-shuts : goal.returns-in-Err-clause-shuts
returns-in-Err-clause-shuts g c honest =
    let tells = c.in-Err.ensures.answers honest in
    let any_moment = rests _ _ _ (c.requires tells.keeps.honest) tells.keeps.calm in search rules

pub returns-in-Ok-clause-shuts : goal.returns-in-Ok-clause-shuts
returns-in-Ok-clause-shuts g c honest =
    let puts = c.in-Ok.ensures.puts honest in
    let tells = c.in-Ok-true.ensures.answers puts.honest in
    let any_moment = gates _ _ _ _ (c.requires tells.keeps.honest) tells.keeps.calm (sym tells.value ∙ c.in-Ok-true.field-0-test) puts.any_moment in search rules

pub returns-in-Err-put_gate-clause-shuts : goal.returns-in-Err-put_gate-clause-shuts
returns-in-Err-put_gate-clause-shuts g c honest =
    let puts = c.in-Err-put_gate.ensures.puts honest in
    let tells = c.in-Ok-true.ensures.answers puts.honest in
    let any_moment = gates _ _ _ _ (c.requires tells.keeps.honest) tells.keeps.calm (sym tells.value ∙ c.in-Ok-true.field-0-test) puts.any_moment in
    let late = sym tells.value ∙ c.in-Ok-true.field-0-test in search rules
