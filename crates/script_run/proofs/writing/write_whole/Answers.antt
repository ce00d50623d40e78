use Rattle.std.proofs.Common.{◌++◌, take, ◌∙◌, [], refl}
use Rattle.script_run.proofs.Known.{Took-none, Took-then, front_and_rest, taken-counts}
use Rattle.script_run.proofs.writing.write_whole.Goals as goal

pub loop-rest-init : goal.loop-rest-init
loop-rest-init g c = ([], Took-none g.W.Write.contents c.args.writer.now, refl, refl)

pub loop-rest-preserved : goal.loop-rest-preserved
loop-rest-preserved g c =
    let before = c.loop-rest.invariant in
    let rest = c.loop-rest.rest.now in
    (before.0 ++ take c.in-Ok.count rest, Took-then _ _ _ _ _ _ before.1 (record { passed = c.in-Ok.ensures.passed; bytes = c.in-Ok.ensures.bytes }), before.2 ∙ front_and_rest before.0 rest c.in-Ok.count c.in-Ok.ensures.bound, taken-counts c.in-Ok.count _ _ c.loop-rest.rest.now c.if-count-gt0.true c.in-Ok.ensures.count ∙ before.3)
