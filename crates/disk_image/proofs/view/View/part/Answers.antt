use Rattle.std.proofs.Common.{refl, arith}
use Rattle.disk_image.proofs.Views.{view_is, part_view, part_is}
use Rattle.disk_image.proofs.view.View.part.Goals as goal

pub returns-clause-sound : goal.returns-clause-sound
returns-clause-sound c =
    let both = part_view c.args.self.now c.in_ok-within.field-0.items c.min-start.result c.min-size.result c.requires (omega (arith, c.min-start.ensures, c.min-size.ensures))
    (rw c.deref.ensures.value at c.in_ok-within.ensures) in
    view_is _ _ refl both.0 both.1

pub returns-clause-bytes : goal.returns-clause-bytes
returns-clause-bytes c = λ file same.
    part_is c.args.self.now file c.in_ok-within.field-0.items c.args.at c.args.count c.min-start.result c.min-size.result c.requires same c.min-start.ensures c.min-size.ensures
    (rw c.deref.ensures.value at c.in_ok-within.ensures)
