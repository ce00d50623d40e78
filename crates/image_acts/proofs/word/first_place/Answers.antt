use Rattle.std.proofs.Common.{◌≡◌, ◌+◌, sym, ◌∙◌, subst}
use Rattle.file_acts.specs.Acts.{Log, ReadsOnly}
use Rattle.file_acts.specs.Saved.{ShowsSaved}
use Rattle.image_acts.specs.Here.{here}
use Rattle.image_acts.specs.Places.{NoneBefore}
use Rattle.image_acts.specs.Words.{ReadsWord}
use Rattle.image_acts.proofs.Cut.{named_cut, none_here, none_more, reads_more}
use Rattle.image_acts.proofs.word.first_place.Goals.{in-Some+else-is_file, in_default}
use Rattle.image_acts.proofs.word.first_place.Goals as goal

pub returns-then-is_file-clause-place : goal.returns-then-is_file-clause-place
returns-then-is_file-clause-place c = named_cut c.args.word.now c.loop-at.at (here c.in-Some.place) c.in-Some.ensures

pub returns-then-is_file-clause-quiet : goal.returns-then-is_file-clause-quiet
returns-then-is_file-clause-quiet c =
    let word = c.args.word.now in
    let place = here c.in-Some.place in
    reads_more word place.image c.args.acts.now.events c.loop-at.acts.events c.is_file.new.acts.events (named_cut word c.loop-at.at place c.in-Some.ensures) c.loop-at.invariant.quiet c.is_file.ensures.quiet

pub loop-at-preserved : goal.loop-at-preserved
loop-at-preserved c =
    let word = c.args.word.now in
    let at = c.loop-at.at in
    let old = c.args.acts.now.events in
    let mid = c.loop-at.acts.events in
    let new = c.match-cut.acts.events in
    let so_far = c.loop-at.invariant in
    elim c.match-cut.branch [
      | in-Some+else-is_file w ↦
          let place = here w.in-Some.place in
          let read = w.is_file.new.acts.events in
          let same : read ≡ new = cc in
          let cut = w.in-Some.ensures in
          let asks = w.is_file.ensures.asks in
          record {
            none = none_more word at place old mid new asks.0 cut so_far.none (sym same ∙ asks.1) (sym asks.2 ∙ w.if-is_file.false);
            quiet = reads_more word place.image old mid new (named_cut word at place cut) so_far.quiet (subst (λ (log : Log). ReadsOnly place.image mid log) same w.is_file.ensures.quiet);
            seen = λ before. subst (λ (log : Log). ShowsSaved mid log) same w.is_file.ensures.seen (so_far.seen before);
          }
      | in_default w ↦
          let same : mid ≡ new = cc in
          record {
            none = subst (λ (log : Log). NoneBefore word (at + 1) old log) same (none_here word at old mid w.in_default.ensures so_far.none);
            quiet = subst (λ (log : Log). ReadsWord word old log) same so_far.quiet;
            seen = subst (λ (log : Log). ShowsSaved old log) same so_far.seen;
          }
    ]
