use Rattle.std.proofs.Common.{ap, ◌∙◌}
use Rattle.std.proofs.lemmas.List.{length-set}
use Rattle.fork_bytes.specs.Rows.{Row}
use Rattle.fork_c.specs.Told.{name_of, shown_row}
use Rattle.fork_c.proofs.Pieces.{may_put, more_put, one_put}
use Rattle.fork_c.proofs.all.put_rows.Goals as goal

pub put-names_end-requires : goal.put-names_end-requires
put-names_end-requires c =
    may_put name_of c.args.found.now c.loop-i.i c.loop-i.names_end c.loop-i.names c.loop-i.invariant.2 _ c.name_of.result.now c.loop-i-test.true
    (c.name_of.ensures.bytes ∙ ap name_of c.index-found-i.is)

pub put-contents_end-requires : goal.put-contents_end-requires
put-contents_end-requires c =
    may_put (λ (row : Row). row.datum) c.args.found.now c.loop-i.i c.loop-i.contents_end c.loop-i.contents c.loop-i.invariant.3 _ c.as_slice.result.now c.loop-i-test.true
    (c.as_slice.ensures ∙ ap (λ (row : Row). row.datum) c.index-found-i.is)

pub loop-i-preserved : goal.loop-i-preserved
loop-i-preserved c = (
  one_put shown_row c.args.found.now c.loop-i.rows c.loop-i.i c.loop-i.invariant.1 c.loop-i.invariant.0 _ c.shown_row.result c.loop-i-test.true
      (c.shown_row.ensures ∙ ap shown_row c.index-found-i.is),
  length-set c.loop-i.rows c.loop-i.i c.shown_row.result ∙ c.loop-i.invariant.1,
  more_put name_of c.args.found.now c.loop-i.i c.loop-i.names_end c.loop-i.names c.loop-i.invariant.2 _ c.name_of.result.now c.put-names_end.new.others c.put-names_end.result
      c.loop-i-test.true (c.name_of.ensures.bytes ∙ ap name_of c.index-found-i.is) c.put-names_end.ensures.put c.put-names_end.ensures.end,
  more_put (λ (row : Row). row.datum) c.args.found.now c.loop-i.i c.loop-i.contents_end c.loop-i.contents c.loop-i.invariant.3 _ c.as_slice.result.now c.put-contents_end.new.others
      c.put-contents_end.result c.loop-i-test.true (c.as_slice.ensures ∙ ap (λ (row : Row). row.datum) c.index-found-i.is) c.put-contents_end.ensures.put c.put-contents_end.ensures.end,
)
