use Rattle.std.proofs.Common.{◌≡◌, ◌≤◌, take}
use Rattle.image_acts.specs.Words.{ReadsWords}
use Rattle.fork_shows.specs.Pages.{AddsFiles}
use Rattle.fork_shows.proofs.page.add_files.Given as goal

abbrev pub invariant-loop-file : goal.invariant-loop-file
invariant-loop-file l = record {
  few : l.status ≤ 4;
  quiet : ReadsWords l.files l.initial.acts.events l.acts.events;
  all : l.status ≡ 0 → AddsFiles (take l.file-index l.files) l.initial.page.items l.page.items;
}
