use Rattle.std.proofs.Common.{◌≡◌, ◌≢◌, subst, [], List, ℕ, map, length, sym, arith, Bor}
use Rattle.std.proofs.lemmas.Bool.Decides.{nat_tests}
use Rattle.std.proofs.lemmas.List.{append-nil}
use Rattle.clap.specs.Words.{Text}
use Rattle.run_stores.specs.Claiming.{AreNamed}
use Rattle.host_paths.specs.declared.host.Found.{Found}
use Rattle.run_stores.specs.declared.claimed.Naming.TheVariants.{Repeated}
use Rattle.run_stores.proofs.Opening.{no_names, some_names}
use Rattle.run_stores.proofs.Opening.{none_given, plain_opened}
use Rattle.run_stores.proofs.stores.plain_stores.Goals as goal

abbrev now_of : Bor (List ℕ) → Text
now_of path = path.now

pub returns-then-is_empty-clause-stores : goal.returns-then-is_empty-clause-stores
returns-then-is_empty-clause-stores g c =
    let is = c.is_empty.ensures in
    let so = c.if-is_empty.true in
    let empty : length c.args.paths.now ≡ 0 = grind (arith, nat_tests, is, so) in
    let one = c.one_in_memory.ensures in
    ([], sym (append-nil _), none_given g.O.Opens.asking g.S.ForkStore g.O.Opens.plain (map now_of c.args.paths.now) (no_names now_of c.args.paths.now empty) c.one_in_memory.result one.stores one.full)

pub returns-clause-stores : goal.returns-clause-stores
returns-clause-stores g c =
    let is = c.is_empty.ensures in
    let so = c.if-is_empty.false in
    let some : length c.args.paths.now ≢ 0 = grind (arith, nat_tests, is, so) in
    let opened = c.in-Ok.ensures.files in
    let on = c.stores_on.ensures in
    (opened.0, opened.1, plain_opened g.O.Opens.asking g.S.ForkStore g.O.Opens.plain (map now_of c.args.paths.now) c.in-Ok.opened.files.items opened.0 (some_names now_of c.args.paths.now some) opened.2 c.stores_on.result on.stores on.full c.in-Ok.ensures.named)
