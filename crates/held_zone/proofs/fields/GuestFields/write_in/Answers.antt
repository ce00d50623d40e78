use Rattle.std.proofs.Common.{arith}
use Rattle.held_zone.proofs.Headers.{written-fields}
use Rattle.held_zone.proofs.fields.GuestFields.write_in.Goals as goal

pub returns-clause-region : goal.returns-clause-region
returns-clause-region c =
    written-fields c.args.self.now c.args.region.now c.copy_from_slice.new.self c.copy_from_slice-2.new.self (record { purge_ptr = omega arith; others = omega arith })
    c.copy_from_slice.ensures.after c.copy_from_slice-2.ensures.after
