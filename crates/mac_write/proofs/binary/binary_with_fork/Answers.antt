use Rattle.std.proofs.Common.{◌≡◌, rules, arith, length, None}
use Rattle.std.proofs.lemmas.Grind.{common_steps}
use Rattle.mac_write.specs.Forks.{binary_why}
use Rattle.mac_write.specs.MacBinary.{binary_with_fork}
use Rattle.mac_write.proofs.BinaryRead.{changes, comment_changes}
use Rattle.mac_write.proofs.binary.binary_with_fork.Goals as goal

pub returns-clause-changes : goal.returns-clause-changes
returns-clause-changes c =
    let new = c.extend_from_slice.new.self.items in
    let written : new ≡ binary_with_fork c.args.version c.args.file.now c.args.fork.now = grind (arith, common_steps) in
    let none : binary_why c.args.version c.args.file.now (length c.args.fork.now) ≡ None = first_of (search rules, grind (arith, common_steps)) in
    changes c.args.version c.args.file.now c.args.fork.now new written none (λ k. omega (arith, c.type_inv.file k))

pub returns-clause-comment : goal.returns-clause-comment
returns-clause-comment c =
    let new = c.extend_from_slice.new.self.items in
    let written : new ≡ binary_with_fork c.args.version c.args.file.now c.args.fork.now = grind (arith, common_steps) in
    let none : binary_why c.args.version c.args.file.now (length c.args.fork.now) ≡ None = first_of (search rules, grind (arith, common_steps)) in
    comment_changes c.args.version c.args.file.now c.args.fork.now new written none
