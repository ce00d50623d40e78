-- Files on a page.
use Rattle.std.specs.Prelude.{◌≡◌, ℕ, List, [], ◌∷◌, ◌++◌}
use Rattle.fork_bytes.specs.Rows.{Row}
use Rattle.html_text.specs.declared.tag.Tag.TheVariants.{Heading2, Paragraph, Section}
use Rattle.html_text.specs.Texts.{end_tag, start_tag}
use Rattle.fork_page.specs.declared.shown.Shown.{Shown}
use Rattle.fork_page.specs.Articles.{article, element}
use Rattle.fork_page.specs.Shown.{IsShown}

-- these rows among all were added to a page, each
unfoldable pub AreArticles : List Row → List Row → List ℕ → List ℕ → Type 0
AreArticles all [] old new = new ≡ old
AreArticles all (row ∷ rows) old new = (it : Shown) × IsShown all row it × AreArticles all rows (old ++ article row it) new

-- a file was added to a page: its name, what it is, and each of its resources
abbrev pub AddsFile : List ℕ → List ℕ → List Row → List ℕ → List ℕ → Type 0
AddsFile name facts rows old new = (last : List ℕ)
    × AreArticles rows rows (((old ++ start_tag Section []) ++ element Heading2 name) ++ element Paragraph facts) last × (new ≡ last ++ end_tag Section)
