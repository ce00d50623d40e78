use Rattle.std.proofs.Common.{◌≤◌}
use Rattle.image_acts.specs.Words.{ReadsWords}
use Rattle.fork_shows.proofs.report.report_all.Given as goal

abbrev pub invariant-loop-file : goal.invariant-loop-file
invariant-loop-file g l = record {
  few : l.status ≤ 4;
  quiet : ReadsWords l.asked.files.items l.initial.acts.events l.acts.events;
}
