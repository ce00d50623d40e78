use Rattle.std.proofs.Common.{sym, ◌∙◌}
use Rattle.std.proofs.lemmas.Str.{IsUtf8-past_char, chars_past_char}
use Rattle.std.proofs.StrCases.{chars_of_empty}
use Rattle.path_text.proofs.harm.has_harmful.Goals as goal

pub returns-then-is_harmful : goal.returns-then-is_harmful
returns-then-is_harmful c =
    let held = c.loop-character.invariant in
    let step = chars_past_char _ _ c.in-Some.character held.0 c.in-Some.ensures.steps.0 in
    let harmful = sym c.is_harmful.ensures ∙ c.if-is_harmful.true in
    rw (step, harmful) at held.1

pub loop-character-preserved : goal.loop-character-preserved
loop-character-preserved c =
    let held = c.loop-character.invariant in
    let parts = c.in-Some.ensures.steps.0 in
    let harmless = sym c.is_harmful.ensures ∙ c.if-is_harmful.false in
    (IsUtf8-past_char _ _ c.in-Some.character held.0 parts, rw (chars_past_char _ _ c.in-Some.character held.0 parts, harmless) at held.1)

pub returns : goal.returns
returns c = rw (chars_of_empty _ c.in-None.ensures.steps.0.0) at c.loop-character.invariant.1
