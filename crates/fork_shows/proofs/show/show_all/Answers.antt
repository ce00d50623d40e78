use Rattle.std.proofs.Common.{List, ℕ, rules, subst, sym}
use Rattle.std.specs.Borrow.{Bor}
use Rattle.std.specs.List.{All}
use Rattle.image_acts.specs.Words.{MayReadWord}
use Rattle.fork_shows.proofs.show.show_all.Goals as goal

pub loop-file-init : goal.loop-file-init
loop-file-init g c = record { few = search rules; quiet = λ none paths may before. before }

pub loop-file-preserved : goal.loop-file-preserved
loop-file-preserved g c = let h = c.loop-file.invariant in record {
  few = search rules;
  quiet = λ none paths may before. c.show_file-shown.ensures.quiet none paths
      (subst (λ (files : List (Bor (List ℕ))). All (λ file. MayReadWord paths file.now) files) (sym c.as_slice-files.ensures.value) may c.loop-file.file-index _ c.loop-file-test.true)
      (h.quiet none paths may before);
}
