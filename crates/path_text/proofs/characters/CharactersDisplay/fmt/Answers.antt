use Rattle.std.proofs.Common.{rules, ◌++◌, ◌∙◌, sym, refl, true, [], append_assoc, append-nil}
use Rattle.std.proofs.Output.{has_written_append, has_written_of_eq, writes_in_calls_nil}
use Rattle.std.proofs.lemmas.Str.{IsUtf8-past_char, chars_past_char}
use Rattle.std.proofs.StrCases.{chars_of_empty}
use Rattle.path_text.specs.Ways.{shown_by}
use Rattle.path_text.proofs.characters.CharactersDisplay.fmt.Goals as goal

pub loop-character-init : goal.loop-character-init
loop-character-init g c = (search rules, λ plain. ([], record { wrote = writes_in_calls_nil _ _; plain = plain }, (cc)))

pub loop-character-preserved : goal.loop-character-preserved
loop-character-preserved g c =
    let held = c.loop-character.invariant in
    let parts = c.in-Some.ensures.steps.0 in
    let step = chars_past_char _ _ c.in-Some.character held.0 parts in (
      IsUtf8-past_char _ _ c.in-Some.character held.0 parts,
      λ plain.
          let so_far = held.1 plain in (
            so_far.0 ++ shown_by c.args.self.now.way c.in-Some.character,
            has_written_append _ _ _ _ _ _ so_far.1 (c.in_ok-write.ensures.writes so_far.1.plain (refl {a = true})),
            append_assoc so_far.0 (shown_by c.args.self.now.way c.in-Some.character) _ ∙ (rw step at so_far.2),
          ),
    )

pub returns-clause-writes : goal.returns-clause-writes
returns-clause-writes g c plain ok =
    let so_far = c.loop-character.invariant.1 plain in
    let none = chars_of_empty _ c.in-None.ensures.steps.0.0 in
    has_written_of_eq _ _ _ _ _ (sym (append-nil so_far.0) ∙ (rw none at so_far.2)) so_far.1
