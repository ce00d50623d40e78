use Rattle.std.proofs.Common.{◌≡◌, ◌≤◌, ◌∙◌, length, refl, arith}
use Rattle.std.proofs.lemmas.List.{length-set}
use Rattle.raw_region.specs.Runs.{noted}
use Rattle.zone_records.proofs.Listed.{listed-more, one-listed, within-next}
use Rattle.zone_records.proofs.listing.list_runs.Goals as goal

pub returns-then-count-ranges-clause-listed : goal.returns-then-count-ranges-clause-listed
returns-then-count-ranges-clause-listed c =
    let long = c.loop-run.invariant.2 in let some = c.requires.room in
    one-listed (noted c.args.runs.now) c.args.all c.loop-run.ranges (record { from = 0; count = c.args.all }) c.requires.within (omega arith) refl refl

pub range_of-requires-clause-small : goal.range_of-requires-clause-small
range_of-requires-clause-small c =
    let ends = within-next (noted c.args.runs.now) c.args.all c.loop-run.from c.in-Some.run' c.requires.within c.in-Some.ensures in let small = c.ranges.all.fits in omega arith

pub loop-run-smaller : goal.loop-run-smaller
loop-run-smaller c =
    let ends = within-next (noted c.args.runs.now) c.args.all c.loop-run.from c.in-Some.run' c.requires.within c.in-Some.ensures in
    let begins = c.in-Some.ensures.0 in let some = c.in-Some.ensures.1 in omega arith

pub loop-run-preserved : goal.loop-run-preserved
loop-run-preserved c =
    let ends = within-next (noted c.args.runs.now) c.args.all c.loop-run.from c.in-Some.run' c.requires.within c.in-Some.ensures in
    let before = c.loop-run.invariant in let few = before.1 in let more = c.if-count-ranges.false in
    let long = length-set c.loop-run.ranges c.loop-run.count c.range_of.result in (
      ends,
      omega arith,
      long ∙ before.2,
      listed-more (noted c.args.runs.now) c.loop-run.from c.loop-run.count c.loop-run.ranges c.in-Some.run' c.range_of.result before.3 (omega arith) c.in-Some.ensures c.range_of.ensures,
    )
