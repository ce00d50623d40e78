use Rattle.fork_edit.proofs.Becoming.{set_becomes}
use Rattle.fork_edit.proofs.edit.set_in.Goals as goal

pub returns : goal.returns
returns c =
    set_becomes c.args.table c.args.what.now c.args.change c.set.result c.set.ensures.changed c.set.ensures.there c.set.ensures.free c.set.ensures.missing c.set.ensures.gone c.set.ensures.refused
    c.set.ensures.fault
