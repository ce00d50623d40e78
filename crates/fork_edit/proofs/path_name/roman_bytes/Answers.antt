use Rattle.std.proofs.Common.{rules, ◌∷◌, ◌++◌, [], List, ℕ, sym, ap, subst, ◌∙◌, append_assoc, append-nil}
use Rattle.std.proofs.lemmas.Str.{IsUtf8-past_char, chars_past_char}
use Rattle.std.proofs.StrCases.{chars_of_empty}
use Rattle.fork_edit.specs.PathNames.{AreBytesOf}
use Rattle.fork_edit.proofs.PathNames.{bytes_more}
use Rattle.fork_edit.proofs.path_name.roman_bytes.Goals as goal

pub loop-character-init : goal.loop-character-init
loop-character-init c = (search rules, ([], cc, search rules))

pub loop-character-preserved : goal.loop-character-preserved
loop-character-preserved c =
    let held = c.loop-character.invariant in let so_far = held.1 in
    let character = c.in-Some.character in
    let parts = c.in-Some.ensures.steps.0 in
    let step = chars_past_char _ _ character held.0 parts in (
      IsUtf8-past_char _ _ character held.0 parts,
      (
        so_far.0 ++ character ∷ [],
        so_far.1 ∙ ap (λ (cs : List ℕ). so_far.0 ++ cs) step ∙ sym (append_assoc so_far.0 (character ∷ []) _),
        subst (AreBytesOf (so_far.0 ++ character ∷ [])) (sym c.in_ok-push.ensures.items) (bytes_more so_far.0 _ character c.roman_byte.result so_far.2 c.roman_byte.ensures),
      ),
    )

pub returns : goal.returns
returns c =
    let so_far = c.loop-character.invariant.1 in
    let none = chars_of_empty _ c.in-None.ensures.steps.0.0 in
    subst (λ (cs : List ℕ). AreBytesOf cs c.loop-character.bytes.items) (sym (so_far.1 ∙ ap (λ (cs : List ℕ). so_far.0 ++ cs) none ∙ append-nil so_far.0)) so_far.2
