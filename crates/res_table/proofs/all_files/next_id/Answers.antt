use Rattle.std.proofs.Common.{◌+◌, ℕ, sym, subst, arith, Option}
use Rattle.std.specs.Option.{IfNone}
use Rattle.res_table.specs.AllFiles.{all_rows}
use Rattle.res_table.specs.Rows.{largest_id, AreTaken}
use Rattle.res_table.proofs.AllFiles.{taken_on, free_on}
use Rattle.res_table.proofs.all_files.next_id.Goals as goal

pub returns-in_err-next-clause-none : goal.returns-in_err-next-clause-none
returns-in_err-next-clause-none g c =
    subst (λ (none : Option ℕ). IfNone none (AreTaken c.args.kind c.args.id (largest_id + 1) (all_rows c.args.files.now))) (sym c.from_residual.ensures)
    (taken_on c.args.kind c.args.id c.loop-file.next (largest_id + 1) c.args.files.now c.loop-file.file-index c.file-item.result c.loop-file-test.true c.file-item.is c.loop-file.invariant.taken c.in_err-next.ensures.none)

pub loop-file-preserved : goal.loop-file-preserved
loop-file-preserved g c =
    let told = c.in_ok-next.ensures.some in let before = c.loop-file.invariant in let from = before.from in let least = told.0 in record {
      from = omega (arith, from, least);
      small = told.1;
      taken = taken_on c.args.kind c.args.id c.loop-file.next c.in_ok-next.next c.args.files.now c.loop-file.file-index c.file-item.result c.loop-file-test.true c.file-item.is before.taken told.2;
      free = λ same. free_on c.args.kind c.args.id c.in_ok-next.next c.args.files.now c.loop-file.file-index c.file-item.result c.loop-file-test.true c.file-item.is same told.3 (before.free (omega (arith, from, least, same)));
    }
