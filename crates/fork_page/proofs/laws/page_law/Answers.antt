use Rattle.fork_page.proofs.Tags.{no_other_tags}
use Rattle.fork_page.proofs.laws.page_law.Goals as goal

pub returns : goal.returns
returns c = no_other_tags
