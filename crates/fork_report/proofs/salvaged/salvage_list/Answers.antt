use Rattle.std.proofs.Common.{◌∙◌}
use Rattle.fork_report.proofs.Salvaging.{lists_all, lists_nothing}
use Rattle.fork_report.proofs.salvaged.salvage_list.Goals as goal

pub returns-then-shows_nothing-clause-refused : goal.returns-then-shows_nothing-clause-refused
returns-then-shows_nothing-clause-refused c =
    lists_nothing c.args.letters c.args.bytes.now _ _ _ _ _ c.in_ok-file.ensures.file c.in_ok-fork.ensures.fork c.damage_by-damage.ensures
    (c.as_str.ensures.value ∙ c.in-Ok.ensures) (c.shows_nothing.ensures.nothing c.if-shows_nothing.true) c.nothing_left.ensures

pub returns-clause-list : goal.returns-clause-list
returns-clause-list c =
    lists_all c.args.letters c.args.bytes.now _ _ _ c.in_ok-file.ensures.file c.in_ok-fork.ensures.fork c.in-Ok.ensures
    (λ damaged none. c.shows_nothing.ensures.some c.if-shows_nothing.false damaged (c.as_str.ensures.value ∙ none)) c.damage_by-damage.ensures
