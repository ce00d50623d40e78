use Rattle.std.proofs.Common.{◌≡◌, ℕ, List, ◌++◌, [], drop, sym, ap, ◌∙◌}
use Rattle.std.proofs.lemmas.List.{drop_all}
use Rattle.mac_write.specs.HexText.{in_lines}
use Rattle.mac_write.proofs.HexLines.{line_ends}
use Rattle.mac_write.proofs.hex_text.push_lines.Goals as goal

pub returns : goal.returns
returns c =
    let old = c.loop-character.new.items in let characters = c.args.characters.now in
    let none : drop c.loop-character.character-index characters ≡ [] = drop_all c.loop-character.character-index characters c.loop-character-test.false in
    c.in_ok-extend_from_slice.ensures.items ∙ ap (λ (xs : List ℕ). old ++ xs) (sym (line_ends c.loop-character.room))
    ∙ ap (λ (xs : List ℕ). old ++ in_lines c.loop-character.room xs) (sym none) ∙ c.loop-character.invariant.lines
