use Rattle.std.proofs.Common.{◌≡◌, sym, ap, ◌∙◌, get_or, true, false}
use Rattle.std.specs.List.{list_any}
use Rattle.res_table.specs.Rows.{has_changed}
use Rattle.res_files.proofs.AmongHandles.{counts_with, among_none, any_this, none_more}
use Rattle.res_files.proofs.handles.has_changed_row_among.Goals as goal

pub loop-handle-init : goal.loop-handle-init
loop-handle-init c = among_none true c.args.rows.now

pub returns-then-has_changed : goal.returns-then-has_changed
returns-then-has_changed c =
    let has : list_any (counts_with true (get_or c.args.handles.now c.loop-handle.handle-index 0)) c.args.rows.now ≡ true = ap (λ h. has_changed h c.args.rows.now) (sym c.new.ensures) ∙ sym c.has_changed.ensures ∙ c.if-has_changed.true in
    sym (any_this true c.args.handles.now c.loop-handle.handle-index 0 c.loop-handle-test.true c.args.rows.now has)

pub loop-handle-preserved : goal.loop-handle-preserved
loop-handle-preserved c =
    let none : list_any (counts_with true (get_or c.args.handles.now c.loop-handle.handle-index 0)) c.args.rows.now ≡ false = ap (λ h. has_changed h c.args.rows.now) (sym c.new.ensures) ∙ sym c.has_changed.ensures ∙ c.if-has_changed.false in
    none_more true c.args.handles.now c.loop-handle.handle-index 0 c.loop-handle-test.true c.args.rows.now c.loop-handle.invariant none
