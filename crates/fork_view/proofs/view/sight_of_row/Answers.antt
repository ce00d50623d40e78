use Rattle.std.proofs.Common.{rules, ◌∙◌, sym}
use Rattle.fork_view.proofs.Reasons.{shows_drawing, shows_none}
use Rattle.fork_view.proofs.view.sight_of_row.Goals as goal

pub returns-in-Some : goal.returns-in-Some
returns-in-Some c = shows_none c.args.form c.args.rows.now c.args.row.now c.in-Some.why (sym c.in_ok-why.ensures ∙ c.in-Some.is)

pub returns-then-is_sketch : goal.returns-then-is_sketch
returns-then-is_sketch c =
    shows_drawing c.args.form c.args.rows.now c.args.row.now c.drawing_sight.result (sym c.is_sketch.ensures ∙ c.if-is_sketch.true)
    (search rules) c.drawing_sight.ensures
