use Rattle.std.proofs.Common.{ℕ, List, [], ◌∙◌, sym, rules, get_or}
use Rattle.std.specs.Borrow.{Bor}
use Rattle.fork_shows.specs.Pages.{AddsNamed}
use Rattle.fork_shows.proofs.Files.{none_yet, next_more}
use Rattle.fork_shows.proofs.Statuses.{is_done, neither}
use Rattle.fork_shows.proofs.page.add_files.Goals as goal

pub loop-file-init : goal.loop-file-init
loop-file-init c = record { few = search rules; quiet = λ paths may before. before; all = λ done. none_yet c.args.page.now.items }

pub loop-file-preserved : goal.loop-file-preserved
loop-file-preserved c = let h = c.loop-file.invariant in record {
  few = search rules;
  quiet = λ paths may before. c.add_file-added.ensures.quiet paths (may c.loop-file.file-index _ c.loop-file-test.true) (h.quiet paths may before);
  all = λ done.
      let none : Bor (List ℕ) = record { ref_ptr = (0, 0); now = [] } in
      let both = neither c.loop-file.status c.finish.result (sym c.higher-status.ensures ∙ done) in
      let name = (get_or c.args.files.now c.loop-file.file-index none).now in
      next_more c.args.files.now c.loop-file.file-index none c.args.page.now.items c.loop-file.page.items c.add_file-added.new.page.items c.loop-file-test.true (h.all both.0)
      (is_done (AddsNamed name c.loop-file.page.items c.add_file-added.new.page.items) c.add_file-added.result (sym c.finish.ensures.status ∙ both.1) c.add_file-added.ensures.added);
}
