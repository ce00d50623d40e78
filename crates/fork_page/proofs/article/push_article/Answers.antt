use Rattle.base64.proofs.ReadLemmas.{on_ok-map}
use Rattle.fork_page.proofs.article.push_article.Goals as goal

pub returns : goal.returns
returns c = on_ok-map c.push_shown.result _ _ c.push_shown.ensures (λ same. (c.in_ok-shown.shown, c.in_ok-shown.ensures, same))
