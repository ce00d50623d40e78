use Rattle.std.proofs.Common.{List, ℕ, ◌<◌, ap, ◌∙◌, length, arith}
use Rattle.res_files.specs.FilesOn.{FailedAt, HonestAt, NoneFailed}
use Rattle.res_manager.proofs.Crash.{err_anyhow}
use Rattle.res_manager.proofs.Filling.{answered-read, filled-contents, loans-filled}
use Rattle.res_manager.proofs.Stepping.{told_so}
use Rattle.res_manager.proofs.load.read_bytes.Goals as goal

pub returns-clause-filled : goal.returns-clause-filled
returns-clause-filled g c =
    let long = c.read.ensures.length ∙ ap (λ (l : List ℕ). length l) c.contents_mut.ensures.value in (
      c.read.new.buffer,
      filled-contents _ _ _ _ _ c.requires.placed c.number.ensures long,
      answered-read (HonestAt g.S.ForkStore.is_honest c.read.new.self.stores c.args.place.file) _ _ _ _ _ c.requires.placed c.number.ensures long _ _ _ c.map_err.ensures.variant c.read.ensures.reads,
    )

pub returns-clause-loans : goal.returns-clause-loans
returns-clause-loans g c = loans-filled _ _ _ _ _ c.requires.placed c.number.ensures

pub returns-clause-some : goal.returns-clause-some
returns-clause-some g c = let some = c.if-size-eq0.false in err_anyhow (0 < c.args.size) c.map_err.result (omega arith)

pub returns-clause-cause : goal.returns-clause-cause
returns-clause-cause g c = told_so (FailedAt g.S.ForkStore.failures c.args.place.file c.args.files.now.stores c.read.new.self.stores) (NoneFailed g.S.ForkStore.failures c.args.files.now.stores c.read.new.self.stores) c.read.result c.map_err.result c.map_err.ensures.variant c.read.ensures.cause
