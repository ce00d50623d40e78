use Rattle.std.proofs.lemmas.List.{map_push}
use Rattle.script_text.proofs.Reading.{reading_more, reading_all}
use Rattle.script_text.proofs.token.read_tokens.Goals as goal

pub returns-in_default-first : goal.returns-in_default-first
returns-in_default-first c =
    let ended = rw c.in_default-first.is at c.in-Ok.ensures.end in
    reading_all _ _ _ c.loop-first.invariant ended

pub loop-first-preserved : goal.loop-first-preserved
loop-first-preserved c =
    let takes = rw c.in-Some.is at c.in-Ok.ensures.token in
    rw (c.in_ok-push.ensures.items, map_push) (reading_more _ _ _ _ _ c.loop-first.invariant takes)
