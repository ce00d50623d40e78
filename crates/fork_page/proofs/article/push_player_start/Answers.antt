use Rattle.std.proofs.Common.{◌≡◌, ℕ, List, [], ◌∷◌, ◌++◌, ◌∙◌, subst, codes}
use Rattle.std.specs.Prelude.{OnOk}
use Rattle.html_text.specs.declared.tag.AttributeName.TheVariants.{Controls, Label, Source}
use Rattle.html_text.specs.declared.tag.Tag.TheVariants.{Audio}
use Rattle.html_text.specs.Texts.{start_tag}
use Rattle.fork_page.specs.Articles.{player_start, source_text}
use Rattle.fork_page.proofs.article.push_player_start.Goals as goal

pub returns : goal.returns
unfolding player_start
returns c =
    let adds : List ℕ → List ℕ → Type 0 = λ title source. OnOk c.push_start.result
    (c.push_start.new.page.items ≡ c.args.page.now.items ++ start_tag Audio ((Controls, []) ∷ (Label, title) ∷ (Source, source) ∷ [])) in
    let source = source_text (codes "data:audio/wav;base64,") c.args.wav.now in
    let sourced : adds c.as_bytes.result.now source =
    subst (λ it. adds c.as_bytes.result.now it) (c.as_bytes-2.ensures.value ∙ c.in_ok-source.ensures) c.push_start.ensures in
    subst (λ it. adds it source) c.as_bytes.ensures.value sourced
