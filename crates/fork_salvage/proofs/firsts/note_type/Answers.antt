use Rattle.fork_salvage.proofs.Earlier.{added, earlier_has, kept, none_has}
use Rattle.fork_salvage.proofs.firsts.note_type.Goals as goal

pub returns-in-Some-clause-some : goal.returns-in-Some-clause-some
returns-in-Some-clause-some c =
    earlier_has c.args.firsts.now c.args.map.now c.args.types c.args.index c.told_list-kind.result c.in-Some.first c.requires.firsts c.told_list-kind.ensures.list c.in-Some.ensures

pub returns-in-Some-clause-noted : goal.returns-in-Some-clause-noted
returns-in-Some-clause-noted c =
    kept c.args.firsts.now c.args.map.now c.args.types c.args.index c.told_list-kind.result c.in-Some.first c.requires.firsts c.told_list-kind.ensures.list c.in-Some.ensures

pub returns-in_ok-insert-in-None-clause-none : goal.returns-in_ok-insert-in-None-clause-none
returns-in_ok-insert-in-None-clause-none c =
    none_has c.args.firsts.now c.args.map.now c.args.types c.args.index c.told_list-kind.result c.requires.firsts c.told_list-kind.ensures.list c.in-None.ensures

pub returns-in_ok-insert-in-None-clause-noted : goal.returns-in_ok-insert-in-None-clause-noted
returns-in_ok-insert-in-None-clause-noted c =
    added c.args.firsts.now c.insert.new.self c.args.map.now c.args.types c.args.index c.told_list-kind.result c.bytes.result c.requires.firsts c.told_list-kind.ensures.list c.in-None.ensures
    c.bytes.ensures.same c.in_ok-insert-in-None.ensures.updates
