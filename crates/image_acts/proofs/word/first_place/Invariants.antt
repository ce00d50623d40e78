use Rattle.file_acts.specs.Saved.{ShowsSaved}
use Rattle.image_acts.specs.Places.{NoneBefore}
use Rattle.image_acts.specs.Words.{ReadsWord}
use Rattle.image_acts.proofs.word.first_place.Given as goal

-- no file is named before the colons so far
abbrev pub invariant-loop-at : goal.invariant-loop-at
invariant-loop-at l = record {
  none : NoneBefore l.fn.word l.at l.fn.acts.events l.acts.events;
  quiet : ReadsWord l.fn.word l.fn.acts.events l.acts.events;
  seen : ShowsSaved l.fn.acts.events l.acts.events;
}
