use Rattle.std.proofs.Common.{◌∙◌, ap}
use Rattle.std.proofs.lemmas.Result.{err_from_is_err_and}
use Rattle.fork_bytes.specs.declared.fault.Condition.TheVariants.{Places}
use Rattle.fork_bytes.specs.Fork.{number_at}
use Rattle.fork_bytes.proofs.Faults.{fault_known}
use Rattle.fork_bytes.proofs.Pieces.{number_of_piece}
use Rattle.fork_bytes.proofs.Placing.{length_outside, placed_in_fork, datum_within}
use Rattle.fork_rows.proofs.Kept.{unread}
use Rattle.fork_rows.proofs.part.read_row.Goals as goal

pub returns-in_err-at-clause-reads : goal.returns-in_err-at-clause-reads
returns-in_err-at-clause-reads g c = λ honest. (
    let fork = g.S.ForkStore.fork c.args.store.now in
    let known = c.requires.header honest in
    let outside = length_outside fork c.args.header c.args.row known.1.0 known.1.1 c.in_err-at.ensures.fails in
    let p = err_from_is_err_and c.from_residual.result c.from_residual.ensures.1 in
    record { keeps = unread g.S.ForkStore c.args.store.now honest known.0; told = rw (p.1, p.2) (fault_known Places _ outside _ c.in_err-at.ensures.fault) })

pub returns-in_err-place_row-clause-reads : goal.returns-in_err-place_row-clause-reads
returns-in_err-place_row-clause-reads g c = λ honest. (
    let fork = g.S.ForkStore.fork c.args.store.now in
    let read = c.in_ok-read_at.ensures.reads honest in
    let known = c.requires.header read.keeps.honest in
    let told = c.read_u32.ensures ∙ ap (number_at 4 0) read.read ∙ number_of_piece 4 c.in_ok-at.at fork in
    let within = datum_within fork c.args.header c.args.row c.read_u32.result c.in_ok-at.at known.1.0 known.1.1 c.in_ok-at.ensures.place c.in_ok-at.ensures.inside told in
    let p = err_from_is_err_and c.from_residual-in_err-place_row.result c.from_residual-in_err-place_row.ensures.1 in
    record {
      keeps = read.keeps;
      told = rw (p.1, p.2) (fault_known Places _ (λ has. c.in_err-place_row.ensures.fails (within.1 has)) _ c.in_err-place_row.ensures.fault);
    })

pub returns-clause-reads : goal.returns-clause-reads
returns-clause-reads g c = λ honest. (
    let fork = g.S.ForkStore.fork c.args.store.now in
    let read = c.in_ok-read_at.ensures.reads honest in
    let known = c.requires.header read.keeps.honest in
    let told = c.read_u32.ensures ∙ ap (number_at 4 0) read.read ∙ number_of_piece 4 c.in_ok-at.at fork in
    let within = datum_within fork c.args.header c.args.row c.read_u32.result c.in_ok-at.at known.1.0 known.1.1 c.in_ok-at.ensures.place c.in_ok-at.ensures.inside told in
    record {
      keeps = read.keeps;
      told = (
        c.in_ok-place_row.ensures.row ∙ placed_in_fork fork c.args.header c.args.row c.read_u32.result c.in_ok-at.at known.1.0 c.in_ok-at.ensures.place c.in_ok-at.ensures.inside told,
        within.0 c.in_ok-place_row.ensures.inside,
      );
    })
