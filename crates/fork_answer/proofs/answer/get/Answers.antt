use Rattle.std.proofs.Common.{◌≡◌, ◌∙◌, List, Option, Some, sym, ap, refl, option_copied}
use Rattle.fork_bytes.specs.Rows.{Row}
use Rattle.fork_answer.specs.Answer.{wanted_row}
use Rattle.fork_answer.specs.declared.request.Request.TheVariants.{Get}
use Rattle.fork_answer.proofs.InParts.{shows, writes_same}
use Rattle.fork_answer.proofs.answer.get.Goals as goal

pub returns-in-Some-clause-shows : goal.returns-in-Some-clause-shows
returns-in-Some-clause-shows g c =
    let wanted = c.args.wanted.now in
    let row = c.in-Some.row.now in
    let found : wanted_row wanted c.args.table.now.rows ≡ Some row =
    ap (λ (rows : List Row). wanted_row wanted rows) (sym c.as_slice.ensures) ∙ sym c.find_row.ensures ∙ ap (λ (found : Option _). option_copied found) c.in-Some.is in
    shows (Get wanted) c.args.table.now row.datum _ _ _ (row, found, refl) (writes_same _ _ _ _ _ c.as_slice-in-Some.ensures c.write.ensures.writes)
