use Rattle.std.proofs.Common.{◌≡◌, sym, ap, ◌∙◌, get_or, true, false}
use Rattle.std.specs.Option.{is_some}
use Rattle.std.specs.List.{list_any}
use Rattle.res_table.specs.Rows.{has_handle}
use Rattle.res_files.proofs.AmongHandles.{among_none, any_this, none_more, some_position}
use Rattle.res_files.proofs.handles.has_row_among.Goals as goal

pub loop-handle-init : goal.loop-handle-init
loop-handle-init c = among_none false c.args.rows.now

pub returns-then-is_some : goal.returns-then-is_some
returns-then-is_some c =
    let has : list_any (has_handle (get_or c.args.handles.now c.loop-handle.handle-index 0)) c.args.rows.now ≡ true = ap (λ h. list_any (has_handle h) c.args.rows.now) (sym c.new.ensures) ∙ sym (some_position (has_handle c.new.result) c.args.rows.now) ∙ ap is_some (sym c.row_of_handle.ensures) ∙ sym c.is_some.ensures ∙ c.if-is_some.true in
    sym (any_this false c.args.handles.now c.loop-handle.handle-index 0 c.loop-handle-test.true c.args.rows.now has)

pub loop-handle-preserved : goal.loop-handle-preserved
loop-handle-preserved c =
    let none : list_any (has_handle (get_or c.args.handles.now c.loop-handle.handle-index 0)) c.args.rows.now ≡ false = ap (λ h. list_any (has_handle h) c.args.rows.now) (sym c.new.ensures) ∙ sym (some_position (has_handle c.new.result) c.args.rows.now) ∙ ap is_some (sym c.row_of_handle.ensures) ∙ sym c.is_some.ensures ∙ c.if-is_some.false in
    none_more false c.args.handles.now c.loop-handle.handle-index 0 c.loop-handle-test.true c.args.rows.now c.loop-handle.invariant none
