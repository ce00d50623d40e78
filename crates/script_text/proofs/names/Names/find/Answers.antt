use Rattle.std.proofs.Common.{◌≡◌, ◌∙◌, refl, sym, ap, ℕ, List}
use Rattle.script_text.specs.declared.hashing.Spelling.{Spelling}
use Rattle.script_text.specs.Names.{place_of}
use Rattle.script_text.proofs.Named.{place_of-map}
use Rattle.script_text.proofs.names.Names.find.Goals as goal

pub returns : goal.returns
returns c =
    let spelled : Spelling → List ℕ = λ k. k.0.now in
    let same : place_of c.args.self.now c.args.word.now ≡ c.get_index_of.result =
    sym (c.get_index_of.ensures.index ∙ sym (place_of-map spelled c.args.word.now c.self.inside.names.keys) ∙ ap (λ (n : List (List ℕ)). place_of n c.args.word.now) c.self.view_is)
    in
    rw (same, c.in_ok-place.was, c.at.ensures) refl

pub returns-in_err-place : goal.returns-in_err-place
returns-in_err-place c =
    let spelled : Spelling → List ℕ = λ k. k.0.now in
    let same : place_of c.args.self.now c.args.word.now ≡ c.get_index_of.result =
    sym (c.get_index_of.ensures.index ∙ sym (place_of-map spelled c.args.word.now c.self.inside.names.keys) ∙ ap (λ (n : List (List ℕ)). place_of n c.args.word.now) c.self.view_is)
    in
    c.from_residual.ensures ∙ sym (same ∙ c.in_err-place.was)
