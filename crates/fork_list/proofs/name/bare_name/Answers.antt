use Rattle.fork_list.proofs.Naming.{all_named, none_named, reads_more}
use Rattle.fork_list.proofs.Reading.{empty_if, some_if}
use Rattle.fork_list.proofs.name.bare_name.Goals as goal

pub returns-in_default : goal.returns-in_default
returns-in_default c =
    none_named _ _ c.loop-rest.rest.now (some_if _ _ c.is_empty.ensures c.loop-rest-test.true) c.in_default.ensures.none c.loop-rest.invariant

pub loop-rest-preserved : goal.loop-rest-preserved
loop-rest-preserved c =
    rw c.in_ok-push.ensures.items (reads_more _ _ c.loop-rest.rest.now _ _ (some_if _ _ c.is_empty.ensures c.loop-rest-test.true) c.in-Some.ensures.named c.loop-rest.invariant)

pub returns : goal.returns
returns c = all_named _ _ c.loop-rest.rest.now (empty_if _ _ c.is_empty.ensures c.loop-rest-test.false) c.loop-rest.invariant
