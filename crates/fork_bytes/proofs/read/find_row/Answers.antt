use Rattle.std.proofs.Common.{subst, sym, ap, ◌∙◌}
use Rattle.fork_bytes.specs.declared.layout.Header.{Header}
use Rattle.fork_bytes.specs.Fork.{data_of}
use Rattle.fork_bytes.specs.Reading.{HasDatum, PlacedRow, IsWithin, row_at}
use Rattle.fork_bytes.proofs.Placing.{HasWholeData, length_outside, placed_in_fork, datum_within, on_err, row_is_at, row_is_within}
use Rattle.fork_bytes.proofs.read.find_row.Goals as goal

pub returns-in_err-at-clause-fails : goal.returns-in_err-at-clause-fails
returns-in_err-at-clause-fails c =
    let outside = length_outside c.args.fork.now c.args.header c.args.row c.requires.header c.requires.whole c.in_err-at.ensures.fails in on_err _ _ outside

pub returns-in_err-placed-clause-fails : goal.returns-in_err-placed-clause-fails
returns-in_err-placed-clause-fails c =
    let within = datum_within c.args.fork.now c.args.header c.args.row c.read_four.result c.in_ok-at.field-0 c.requires.header c.requires.whole c.in_ok-at.ensures.place c.in_ok-at.ensures.inside c.read_four.ensures in
    let outside : HasDatum (data_of c.args.fork.now) c.args.row → ⊥ = λ has. c.in_err-placed.ensures.fails (within.1 has) in on_err _ _ outside

pub row_at-requires : goal.row_at-requires
row_at-requires c =
    let fork = c.args.fork.now in
    let P : Header → Type 0 = HasWholeData fork in
    let within = datum_within fork c.args.header c.args.row c.read_four.result c.in_ok-at.field-0 c.requires.header c.requires.whole c.in_ok-at.ensures.place c.in_ok-at.ensures.inside c.read_four.ensures in
    let same = placed_in_fork fork c.args.header c.args.row c.read_four.result c.in_ok-at.field-0 c.requires.header c.in_ok-at.ensures.place c.in_ok-at.ensures.inside c.read_four.ensures in
    let Q : PlacedRow → Type 0 = IsWithin fork in
    subst Q (sym (c.in_ok-placed.ensures.row ∙ same)) (row_is_within fork (subst P c.requires.header c.requires.whole) c.args.row (within.0 c.in_ok-placed.ensures.inside))

pub returns-clause-row : goal.returns-clause-row
returns-clause-row c =
    let fork = c.args.fork.now in
    let P : Header → Type 0 = HasWholeData fork in
    let within = datum_within fork c.args.header c.args.row c.read_four.result c.in_ok-at.field-0 c.requires.header c.requires.whole c.in_ok-at.ensures.place c.in_ok-at.ensures.inside c.read_four.ensures in
    let same = placed_in_fork fork c.args.header c.args.row c.read_four.result c.in_ok-at.field-0 c.requires.header c.in_ok-at.ensures.place c.in_ok-at.ensures.inside c.read_four.ensures in
    c.row_at.ensures ∙ ap (row_at fork) (c.in_ok-placed.ensures.row ∙ same)
    ∙ sym (row_is_at fork (subst P c.requires.header c.requires.whole) c.args.row (within.0 c.in_ok-placed.ensures.inside))

pub returns-clause-has : goal.returns-clause-has
returns-clause-has c =
    let within = datum_within c.args.fork.now c.args.header c.args.row c.read_four.result c.in_ok-at.field-0 c.requires.header c.requires.whole c.in_ok-at.ensures.place c.in_ok-at.ensures.inside c.read_four.ensures in
    within.0 c.in_ok-placed.ensures.inside
