-- One more resource on a page.
use Rattle.std.proofs.Common.{◌≡◌, ℕ, List, [], ◌∷◌, ◌++◌, refl, ◌∙◌, ap}
use Rattle.fork_bytes.specs.Rows.{Row}
use Rattle.fork_page.specs.declared.shown.Shown.{Shown}
use Rattle.fork_page.specs.Articles.{article}
use Rattle.fork_page.specs.Pages.{AreArticles}
use Rattle.fork_page.specs.Shown.{IsShown}

pub none_yet : (all : List Row) (page : List ℕ) → AreArticles all [] page page
unfolding AreArticles
none_yet all page = refl

pub one_more : (all rows : List Row) (row : Row) (it : Shown) (old page new : List ℕ) → AreArticles all rows old page → IsShown all row it → new ≡ page ++ article row it
    → AreArticles all (rows ++ row ∷ []) old new
unfolding AreArticles
one_more all [] row it old page new before shown same = (it, shown, same ∙ ap (λ all. all ++ article row it) before)
one_more all (first ∷ rows) row it old page new before shown same = (before.0, before.1, one_more all rows row it (old ++ article first before.0) page new before.2 shown same)
