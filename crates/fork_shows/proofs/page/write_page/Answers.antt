use Rattle.std.proofs.Common.{List, ℕ, ◌++◌, ◌∙◌, refl, subst, sym}
use Rattle.std.specs.Borrow.{Bor}
use Rattle.std.specs.List.{All}
use Rattle.image_acts.specs.Words.{MayReadWord}
use Rattle.fork_shows.specs.Pages.{AddsFiles}
use Rattle.fork_shows.specs.Written.{IsWritten}
use Rattle.fork_shows.proofs.Statuses.{is_done, neither}
use Rattle.fork_shows.proofs.page.write_page.Goals as goal

pub returns-clause-quiet : goal.returns-clause-quiet
returns-clause-quiet c = λ none paths may before. c.put_page-written.ensures.quiet none paths
    (c.add_files-status.ensures.quiet paths (subst (λ (files : List (Bor (List ℕ))). All (λ file. MayReadWord paths file.now) files) (sym c.as_slice.ensures.value) may) before)

pub returns-clause-all : goal.returns-clause-all
returns-clause-all c = λ done.
    let both = neither c.add_files-status.result c.finish-2.result (sym c.higher.ensures ∙ done) in
    let last = c.add_files-status.new.page.items in
    let written = is_done ((foot : List ℕ) × IsWritten c.args.asked.now.output (last ++ foot) c.put_page-written.new.acts.events) c.put_page-written.result (sym c.finish-2.ensures.status ∙ both.1) c.put_page-written.ensures.written in
    let added = subst (λ (files : List (Bor (List ℕ))). AddsFiles files c.in-Ok.page.items last) c.as_slice.ensures.value (c.add_files-status.ensures.all both.0) in
    (last ++ written.0, (c.in-Ok.page.items, last, written.0, added, refl), written.1)
