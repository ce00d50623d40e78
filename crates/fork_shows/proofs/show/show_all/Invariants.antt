use Rattle.std.proofs.Common.{◌≡◌, ◌≤◌, true}
use Rattle.std.specs.Prelude.{is_none}
use Rattle.image_acts.specs.Words.{ReadsWords}
use Rattle.fork_shows.proofs.show.show_all.Given as goal

abbrev pub invariant-loop-file : goal.invariant-loop-file
invariant-loop-file g l = record {
  few : l.status ≤ 4;
  quiet : is_none l.asked.output ≡ true → ReadsWords l.asked.files.items l.initial.acts.events l.acts.events;
}
