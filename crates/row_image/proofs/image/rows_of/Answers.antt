use Rattle.row_image.specs.declared.fault.SaveFault.TheVariants.{NotSound}
use Rattle.row_image.proofs.Faults.{passed}
use Rattle.row_image.proofs.Images.{none_said}
use Rattle.row_image.proofs.image.rows_of.Goals as goal

pub returns-in_err-row-clause-refused : goal.returns-in_err-row-clause-refused
returns-in_err-row-clause-refused c = λ is rows all.
    none_said c.args.resources.now c.loop-resource.resource-index c.resource-item.result c.loop-resource-test.true c.resource-item.is
    (c.in_err-row.ensures.refused (passed c.from_residual.result c.in_err-row.field-0.0 NotSound c.from_residual.ensures.1 is)) rows all
