use Rattle.std.proofs.Common.{[], ◌∷◌, ◌++◌, codes}
use Rattle.script_run.proofs.Known.{Took-then}
use Rattle.macheap.proofs.Ending.{failed_after, some_line, some_text, wrote, wrote_after}
use Rattle.macheap.proofs.program.tell.Goals as goal

pub returns-in_default : goal.returns-in_default
returns-in_default g c =
    let w = c.write_whole.ensures in
    (codes "error: the words or a line are bad\n", some_text _ _, w.written.0, w.written.1, wrote _ _ _ _ _ w.written.2 w.failures)

pub returns : goal.returns
returns g c =
    let one = c.if-not-write_whole.ensures in
    let two = c.write_whole-3.ensures in
    let text = c.as_bytes.result.now in (
      text ++ 10 ∷ [],
      some_line text,
      one.written.0 ++ two.written.0,
      Took-then _ _ _ _ _ _ one.written.1 two.written.1,
      wrote_after text one.written.0 (10 ∷ []) two.written.0 _ one.written.2 (wrote _ _ _ _ _ two.written.2 (failed_after _ _ _ _ one.failures two.failures)),
    )
