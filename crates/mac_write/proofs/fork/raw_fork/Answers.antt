use Rattle.std.proofs.Common.{sym, subst}
use Rattle.mac_files.specs.declared.container.Container.TheVariants.{Raw}
use Rattle.mac_write.specs.Forks.{ChangesFork}
use Rattle.mac_write.proofs.RawChanged.{changes}
use Rattle.mac_write.proofs.fork.raw_fork.Goals as goal

pub returns-clause-changes : goal.returns-clause-changes
returns-clause-changes c = λ file. subst (ChangesFork Raw file c.args.fork.now) (sym c.in_ok-new.ensures.items) (changes file c.args.fork.now)
