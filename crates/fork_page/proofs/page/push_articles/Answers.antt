use Rattle.std.proofs.Common.{◌≡◌, ◌∷◌, [], ◌++◌, ◌∙◌, ap, take, get_or, subst, sym, arith}
use Rattle.std.proofs.lemmas.List.{take_more}
use Rattle.fork_page.specs.Pages.{AreArticles}
use Rattle.fork_page.proofs.Rows.{none_yet, one_more}
use Rattle.fork_page.proofs.page.push_articles.Goals as goal

pub loop-row-init : goal.loop-row-init
loop-row-init c = none_yet c.args.rows.now c.args.page.now.items

pub loop-row-preserved : goal.loop-row-preserved
loop-row-preserved c =
    let all = c.args.rows.now in
    let row = c.row-item.result in
    let same : get_or all c.loop-row.row-index row ≡ row = cc in
    let more = c.in_ok-push_article.ensures in
    let added = one_more all (take c.loop-row.row-index all) row more.0 c.args.page.now.items c.loop-row.page.items c.push_article.new.page.items c.loop-row.invariant more.1 more.2 in
    subst (λ rows. AreArticles all rows c.args.page.now.items c.push_article.new.page.items) (sym (take_more all c.loop-row.row-index row (omega arith) ∙ ap (λ one. take c.loop-row.row-index all ++ one ∷ []) same)) added
