use Rattle.std.proofs.Common.{◌≡◌, ℤ, to_z, of_z, Option, Some, Err, ap, sym, subst, inl, ◌∙◌}
use Rattle.std.specs.Int.{w16}
use Rattle.fork_bytes.specs.declared.table.Table.{Table}
use Rattle.fork_bytes.specs.declared.fault.WriteFault.TheVariants.{TooBig}
use Rattle.fork_c.specs.Given.{IsForkOf, IsUnwritten, rows_given, table_given}
use Rattle.fork_c.proofs.Grouped.{grouped_rows}
use Rattle.fork_c.proofs.Parts.{given_together}
use Rattle.fork_c.proofs.write.written.Goals as goal

pub returns-in-Ok-clause-fork : goal.returns-in-Ok-clause-fork
returns-in-Ok-clause-fork c =
    let given : Some c.in-Ok-Some.table ≡ table_given c.args.extra.now (rows_given c.args.rows.now c.args.names.now c.args.contents.now) = sym c.in-Ok-Some.field-0-is ∙ c.in-Ok-Some.ensures in
    subst (λ (t : Option Table). IsForkOf t c.in-Ok.fork.items) given (c.in-Ok.ensures.stands (grouped_rows c.in-Ok-Some.table.rows (given_together c.args.extra.now (rows_given c.args.rows.now c.args.names.now c.args.contents.now) c.in-Ok-Some.table (sym given))), c.in-Ok.ensures.written)

pub returns-in-Err-TooBig-clause-refused : goal.returns-in-Err-TooBig-clause-refused
returns-in-Err-TooBig-clause-refused c =
    let given : Some c.in-Ok-Some.table ≡ table_given c.args.extra.now (rows_given c.args.rows.now c.args.names.now c.args.contents.now) = sym c.in-Ok-Some.field-0-is ∙ c.in-Ok-Some.ensures in
    let fault : c.in-Err-TooBig.field-0 ≡ TooBig = c.in-Err-TooBig.field-0-is in
    subst (λ (t : Option Table). IsUnwritten t (to_z w16 (of_z w16 c.code-in-Err-TooBig.result))) given (inl (c.in-Err-TooBig.ensures.too_big.0 (ap Err fault), ap (λ (z : ℤ). to_z w16 (of_z w16 z)) c.code-in-Err-TooBig.ensures))
