use Rattle.held_calls.proofs.Places.{part_of_loan}
use Rattle.held_calls.proofs.loans.write_over.Goals as goal

pub returns : goal.returns
returns c = part_of_loan c.args.loan.now c.args.at c.args.bytes.now c.bytes_mut.result.now c.copy_from_slice.new.self c.requires.within c.bytes_mut.ensures.value c.copy_from_slice.ensures.after
