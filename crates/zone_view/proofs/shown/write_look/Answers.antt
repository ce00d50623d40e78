use Rattle.std.proofs.Common.{◌++◌, List, subst}
use Rattle.std.specs.Io.KnownBytes.{Appends}
use Rattle.std.specs.List.{flat_map}
use Rattle.mac_base.specs.declared.block.Block.{Block}
use Rattle.zone_view.specs.Shown.{closing_text, opening_text, row_text, rows_of}
use Rattle.zone_view.specs.Writing.{WritesFront}
use Rattle.zone_view.proofs.Written.{fails, front_after, front_of_more, writes_after}
use Rattle.zone_view.proofs.shown.write_look.Goals as goal

pub returns-in_err-write_shown : goal.returns-in_err-write_shown
returns-in_err-write_shown g c =
    let opening = opening_text c.args.is_json c.args.blocks.now in
    let rows = flat_map (row_text c.args.is_json) (rows_of c.args.is_json c.args.blocks.now) in
    let closing = closing_text c.args.is_json c.args.blocks.now c.args.found in
    fails _ _ _ _ _ c.from_residual.ensures.1 (front_of_more opening (rows ++ closing) _ _ c.in_err-write_shown.ensures)

pub returns-in_err-write_rows : goal.returns-in_err-write_rows
returns-in_err-write_rows g c =
    let opening = opening_text c.args.is_json c.args.blocks.now in
    let rows = flat_map (row_text c.args.is_json) (rows_of c.args.is_json c.args.blocks.now) in
    let closing = closing_text c.args.is_json c.args.blocks.now c.args.found in
    let cut = subst (λ (blocks : List Block). WritesFront (flat_map (row_text c.args.is_json) blocks) (g.W.Write.contents c.write_shown.new.output) (g.W.Write.contents c.write_rows.new.output)) c.rows_of.ensures c.in_err-write_rows.ensures in
    fails _ _ _ _ _ c.from_residual-in_err-write_rows.ensures.1 (front_after opening (rows ++ closing) _ _ _ c.in_ok-write_shown.ensures (front_of_more rows closing _ _ cut))

pub returns : goal.returns
returns g c =
    let opening = opening_text c.args.is_json c.args.blocks.now in
    let rows = flat_map (row_text c.args.is_json) (rows_of c.args.is_json c.args.blocks.now) in
    let closing = closing_text c.args.is_json c.args.blocks.now c.args.found in
    let written = subst (λ (blocks : List Block). Appends (g.W.Write.contents c.write_shown.new.output) (g.W.Write.contents c.write_rows.new.output) (flat_map (row_text c.args.is_json) blocks)) c.rows_of.ensures c.in_ok-write_rows.ensures in
    writes_after opening (rows ++ closing) _ _ _ _ c.in_ok-write_shown.ensures (writes_after rows closing _ _ _ _ written c.write_shown-2.ensures)
