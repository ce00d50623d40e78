use Rattle.std.proofs.Common.{rules, ◌++◌, ◌∙◌, sym, true, false, [], append_assoc, append-nil}
use Rattle.std.proofs.lemmas.Str.{IsUtf8-past_char, chars_past_char}
use Rattle.std.proofs.StrCases.{chars_of_empty}
use Rattle.path_text.specs.FileNames.{escaped}
use Rattle.macheap.proofs.Saying.{says_cut, says_is, says_nothing, says_then}
use Rattle.macheap.proofs.name.write_characters.Goals as goal

pub loop-character-init : goal.loop-character-init
loop-character-init g c = (search rules, [], says_nothing g.M.Write.contents _, (cc))

pub returns-then-not-write_character : goal.returns-then-not-write_character
returns-then-not-write_character g c =
    let held = c.loop-character.invariant in
    let step = chars_past_char _ _ c.in-Some.character held.0 c.in-Some.ensures.steps.0 in
    let said = says_then g.M.Write.contents _ _ _ false held.1 _ held.2 (says_cut g.M.Write.contents _ _ (escaped c.in-Some.character) _ c.if-not-write_character.ensures) in
    says_is g.M.Write.contents _ _ false _ _ (rw step at held.3) said

pub loop-character-preserved : goal.loop-character-preserved
loop-character-preserved g c =
    let held = c.loop-character.invariant in
    let parts = c.in-Some.ensures.steps.0 in
    let step = chars_past_char _ _ c.in-Some.character held.0 parts in (
      IsUtf8-past_char _ _ c.in-Some.character held.0 parts,
      held.1 ++ escaped c.in-Some.character,
      says_then g.M.Write.contents _ _ _ true held.1 (escaped c.in-Some.character) held.2 c.if-not-write_character.ensures,
      append_assoc held.1 (escaped c.in-Some.character) _ ∙ (rw step at held.3),
    )

pub returns : goal.returns
returns g c =
    let held = c.loop-character.invariant in
    let none = chars_of_empty _ c.in-None.ensures.steps.0.0 in
    says_is g.M.Write.contents _ _ true held.1 _ (sym (append-nil held.1) ∙ (rw none at held.3)) held.2
