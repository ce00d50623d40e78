use Rattle.std.proofs.Common.{◌++◌, ◌∙◌, sym, ap, refl, true, take, List, [], ◌∷◌}
use Rattle.std.specs.List.{flat_map}
use Rattle.std.proofs.Output.{has_written_append, has_written_of_eq, writes_in_calls_nil}
use Rattle.std.proofs.lemmas.List.{take_more, flat_map_more}
use Rattle.mac_base.specs.declared.resource.Resource.{Resource}
use Rattle.fork_list.specs.Listing.{row_line}
use Rattle.fork_list.proofs.list.LinesDisplay.fmt.Goals as goal

pub loop-row-init : goal.loop-row-init
loop-row-init g c plain = record { wrote = writes_in_calls_nil _ _; plain = plain }

pub loop-row-preserved : goal.loop-row-preserved
loop-row-preserved g c plain =
    let so_far = c.loop-row.invariant plain in
    let rows = c.args.self.now.rows.now in
    let line = row_line g.D.HasSize.size g.D.HasSize.unpacked c.args.self.now.letters c.args.self.now.kinds.now in
    let row = c.row-item.result in
    let before = take c.loop-row.row-index rows in
    let more = take_more rows c.loop-row.row-index row c.loop-row-test.true in
    has_written_of_eq _ _ _ _ _
    (flat_map_more line [] before row ∙ ap (λ (shown : List (Resource _)). flat_map line shown) (ap (λ (last : Resource _). before ++ last ∷ []) c.row-item.is ∙ sym more))
    (has_written_append _ _ _ _ _ _ so_far (c.in_ok-write.ensures.writes so_far.plain (refl {a = true})))
