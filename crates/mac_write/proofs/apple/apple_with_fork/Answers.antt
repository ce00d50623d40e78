use Rattle.std.proofs.Common.{◌≡◌, rules, arith, length, None}
use Rattle.std.proofs.lemmas.Grind.{common_steps}
use Rattle.mac_write.specs.Forks.{apple_why}
use Rattle.mac_write.specs.Apple.{apple_with_fork}
use Rattle.mac_write.proofs.AppleChanged.{changes}
use Rattle.mac_write.proofs.apple.apple_with_fork.Goals as goal

pub returns-clause-single : goal.returns-clause-single
returns-clause-single c =
    let new = c.push_body.new.new.items in
    let written : new ≡ apple_with_fork c.args.file.now c.args.fork.now = grind (arith, common_steps) in
    let none : apple_why c.args.file.now (length c.args.fork.now) ≡ None = first_of (search rules, grind (arith, common_steps)) in
    (changes c.args.file.now c.args.fork.now new written none (λ k. omega (arith, c.type_inv.file k))).0

pub returns-clause-double : goal.returns-clause-double
returns-clause-double c =
    let new = c.push_body.new.new.items in
    let written : new ≡ apple_with_fork c.args.file.now c.args.fork.now = grind (arith, common_steps) in
    let none : apple_why c.args.file.now (length c.args.fork.now) ≡ None = first_of (search rules, grind (arith, common_steps)) in
    (changes c.args.file.now c.args.fork.now new written none (λ k. omega (arith, c.type_inv.file k))).1

pub returns-clause-entries : goal.returns-clause-entries
returns-clause-entries c =
    let new = c.push_body.new.new.items in
    let written : new ≡ apple_with_fork c.args.file.now c.args.fork.now = grind (arith, common_steps) in
    let none : apple_why c.args.file.now (length c.args.fork.now) ≡ None = first_of (search rules, grind (arith, common_steps)) in
    (changes c.args.file.now c.args.fork.now new written none (λ k. omega (arith, c.type_inv.file k))).2
