use Rattle.std.proofs.Common.{List, None, length, ap, subst, sym}
use Rattle.fork_bytes.specs.Rows.{Row}
use Rattle.fork_list.specs.Compressed.{unpacked_length}
use Rattle.fork_list.specs.Listing.{listing}
use Rattle.fork_list.specs.Types.{type_lines}
use Rattle.fork_answer.specs.Answer.{Shows}
use Rattle.fork_answer.specs.declared.request.Request.{Request}
use Rattle.fork_answer.specs.declared.request.Request.TheVariants as request
use Rattle.fork_answer.proofs.InParts.{shows}
use Rattle.fork_answer.proofs.answer.answer_of.Goals as goal

pub returns-in-List-clause-shows : goal.returns-in-List-clause-shows
returns-in-List-clause-shows g c =
    let choice = c.in-List.choice in
    let contents = g.W.Write.contents in
    let P : Request → Type 0 = λ asked. Shows asked c.args.table.now (contents c.args.output.now) (contents c.list.new.output) c.list.result in
    subst P (sym c.in-List.is) (shows (request.List choice) c.args.table.now _ _ _ c.list.result (ap (λ (rows : List Row). listing length unpacked_length choice.letters choice.kinds.items rows) c.as_slice-rows.ensures) c.list.ensures.writes)

pub returns-in-Types-clause-shows : goal.returns-in-Types-clause-shows
returns-in-Types-clause-shows g c =
    let choice = c.in-Types.choice in
    let contents = g.W.Write.contents in
    let P : Request → Type 0 = λ asked. Shows asked c.args.table.now (contents c.args.output.now) (contents c.list_types.new.output) c.list_types.result in
    subst P (sym c.in-Types.is) (shows (request.Types choice) c.args.table.now _ _ _ c.list_types.result (ap (λ (rows : List Row). type_lines choice.letters choice.kinds.items rows None rows) c.as_slice-rows.ensures) c.list_types.ensures.writes)
