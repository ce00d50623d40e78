use Rattle.std.proofs.Common.{◌≡◌, sym, arith, ◌∷◌, [], map, List, ℕ, ap, ◌∙◌}
use Rattle.std.proofs.lemmas.List.{nil_from_length}
use Rattle.script_text.specs.declared.token.Token.{Token as Read}
use Rattle.script_text.specs.declared.token.Token.TheVariants.{Equals}
use Rattle.script_text.specs.Front.{view}
use Rattle.script_text.specs.Tokens as tokens
use Rattle.script_text.proofs.AnswerLaws.{same_word}
use Rattle.script_text.proofs.Lists.{first_and_rest}
use Rattle.script_text.proofs.answer.value_and_calls.Goals as goal

pub returns-in-len1-up-clause-found : goal.returns-in-len1-up-clause-found
returns-in-len1-up-clause-found c =
    let same = same_word c.in_ok-word.word.now _ c.ne.result c.ne.ensures c.if-ne.false ∙ c.as_slice.ensures in
    c.in_ok-word.ensures.found
    ∙ ap (λ (word : List ℕ). tokens.Word word ∷ map view c.in_ok-word.rest.now) same
    ∙ ap (λ (t : List Read). tokens.Word (103 ∷ 122 ∷ []) ∷ map view t) (first_and_rest c.in_ok-word.rest.now Equals c.in-len1-up.len_at_least)

pub returns-in-empty-clause-none : goal.returns-in-empty-clause-none
returns-in-empty-clause-none c = λ value calls is.
    let none = nil_from_length c.in_ok-word.rest.now (omega (arith, c.in-empty.len_below)) in
    let begins : tokens.Word c.in_ok-word.word.now ∷ [] ≡ tokens.Word (103 ∷ 122 ∷ []) ∷ value ∷ calls =
    sym (c.in_ok-word.ensures.found ∙ ap (λ (t : List Read). tokens.Word c.in_ok-word.word.now ∷ map view t) none) ∙ is
    in
    absurd cc
