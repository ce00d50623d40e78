use Rattle.std.proofs.Common.{refl}
use Rattle.fork_report.proofs.json.refused_line.Goals as goal

pub returns : goal.returns
returns c = c.line.ensures _ (c.with-2.ensures _ _ (c.with.ensures _ _ c.of_file.ensures c.from.ensures) c.text_value.ensures) refl
