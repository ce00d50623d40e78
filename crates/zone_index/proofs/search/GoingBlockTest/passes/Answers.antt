use Rattle.std.proofs.Common.{◌∙◌, ap}
use Rattle.zone_index.specs.Purging.{may_purge}
use Rattle.zone_index.proofs.Rules.{flags-go}
use Rattle.zone_index.proofs.search.GoingBlockTest.passes.Goals as goal

pub returns : goal.returns
returns c t flags = c.may_purge.ensures ∙ ap may_purge flags ∙ flags-go t c.args._kind
