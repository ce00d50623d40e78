use Rattle.std.proofs.Common.{◌∙◌, rules}
use Rattle.fork_journal.proofs.Updating.{texts, texts_recoverable, opens, opens_recoverable, front_of}
use Rattle.fork_journal.proofs.update.stage.Goals as goal

pub put_text-requires-clause-gate : goal.put_text-requires-clause-gate
put_text-requires-clause-gate g c honest =
    (c.requires.shut honest _ (g.met.P.PairDisk.reads_is_outcome c.args.pair.now honest)).has_gate

pub returns-in_err-put_text-clause-stages : goal.returns-in_err-put_text-clause-stages
returns-in_err-put_text-clause-stages g c honest =
    let puts = c.in_err-put_text.ensures.puts honest in
    let shut = c.requires.shut puts.honest in
    let here = g.P.PairDisk.history c.args.pair.now in
    let any_moment = texts _ c.args.fork.now _ _ here shut c.requires.short puts.any_moment in
    let recoverable = texts_recoverable _ c.args.fork.now _ _ here shut c.requires.short (g.P.PairDisk.contents c.put_text.new.pair) puts.kept puts.any_moment in search rules

pub returns-in_err-put_gate-clause-stages : goal.returns-in_err-put_gate-clause-stages
returns-in_err-put_gate-clause-stages g c honest =
    let gate = c.in_err-put_gate.ensures.puts honest in
    let puts = c.in_ok-put_text.ensures.puts gate.honest in
    let shut = c.requires.shut puts.honest in
    let one = front_of _ (shut _ (g.met.P.PairDisk.reads_is_outcome c.args.pair.now puts.honest)).has_gate in
    let any_moment = opens _ c.args.fork.now _ _ _ shut c.requires.short _ one puts.stable gate.any_moment puts.any_moment in
    let recoverable = opens_recoverable _ c.args.fork.now (g.P.PairDisk.history c.args.pair.now) _ _ shut c.requires.short _ one puts.stable gate.any_moment (g.P.PairDisk.contents c.put_gate.new.pair) (gate.kept ∙ puts.kept) in search rules

pub returns-clause-stages : goal.returns-clause-stages
returns-clause-stages g c honest =
    let gate = c.in_ok-put_gate.ensures.puts honest in
    let puts = c.in_ok-put_text.ensures.puts gate.honest in
    let shut = c.requires.shut puts.honest in
    let one = front_of _ (shut _ (g.met.P.PairDisk.reads_is_outcome c.args.pair.now puts.honest)).has_gate in
    let any_moment = opens _ c.args.fork.now _ _ _ shut c.requires.short _ one puts.stable gate.any_moment puts.any_moment in
    let recoverable = opens_recoverable _ c.args.fork.now (g.P.PairDisk.history c.args.pair.now) _ _ shut c.requires.short _ one puts.stable gate.any_moment (g.P.PairDisk.contents c.put_gate.new.pair) (gate.kept ∙ puts.kept) in search rules
