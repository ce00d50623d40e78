use Rattle.std.proofs.Common.{take}
use Rattle.fork_page.specs.Pages.{AreArticles}
use Rattle.fork_page.proofs.page.push_articles.Given as goal

-- the resources so far were added
abbrev pub invariant-loop-row : goal.invariant-loop-row
invariant-loop-row l = AreArticles l.rows (take l.row-index l.rows) l.fn.page.items l.page.items
