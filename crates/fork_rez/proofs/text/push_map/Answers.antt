use Rattle.std.proofs.Common.{◌≡◌, ◌∙◌, ◌++◌, List, [], ◌∷◌, ℕ, false, sym, ap}
use Rattle.std.specs.Prelude.{◌==◌, codes}
use Rattle.std.specs.List.{list_all}
use Rattle.std.proofs.lemmas.Bool.{cond-false}
use Rattle.fork_rez.specs.Text.{line_text, map_word}
use Rattle.fork_rez.proofs.Pieces.{five_pieces}
use Rattle.fork_rez.proofs.text.push_map.Goals as goal

pub returns : goal.returns
returns c =
    let out = c.args.out.now.items in
    let line = line_text c.args.bytes.now in
    let feed : List ℕ = 10 ∷ [] in
    let tail : List ℕ = codes "\n*/\n\n" in
    let some : list_all (λ byte. byte == 0) c.args.bytes.now ≡ false = sym c.are_zeros.ensures ∙ c.if-are_zeros.false in
    c.in_ok-extend_from_slice-3.ensures.items
    ∙ ap (λ (t : List ℕ). t ++ tail) (c.in_ok-push_line.ensures ∙ ap (λ (t : List ℕ). t ++ line) (c.in_ok-extend_from_slice-2.ensures.items ∙ ap (λ (t : List ℕ). t ++ feed) c.in_ok-extend_from_slice.ensures.items))
    ∙ five_pieces out map_word feed line tail
    ∙ ap (λ (t : List ℕ). out ++ t) (sym (cond-false _ _ _ some))
