use Rattle.std.proofs.Common.{◌≡◌, refl, [], IfSome, rules}
use Rattle.std.specs.Option.{option_map_or}
use Rattle.res_manager.proofs.Keeping.{one_kept}
use Rattle.res_manager.proofs.LeavingForks.{opens_fork}
use Rattle.res_manager.proofs.OpenedFiles.{opens, opens_none}
use Rattle.res_manager.proofs.opening.open.Goals as goal

pub returns-in-Ok-clause-opened : goal.returns-in-Ok-clause-opened
returns-in-Ok-clause-opened g c = λ zone.
    let opened = rw c.in-Ok.is at c.in_ok-open.ensures.opened in
    let works = rw c.in-Ok.is at c.in_ok-open.ensures.works in
    opens g.S.ForkStore zone c.args.files.now c.open.new.self c.args.number (one_kept c.args.number c.args.files.now.stores c.open.new.self.stores c.open.ensures.others (λ was now. IfSome now g.S.ForkStore.is_honest → option_map_or g.S.ForkStore.fork now [] ≡ option_map_or g.S.ForkStore.fork was []) (λ o honest. refl) (λ h. (c.open.ensures.opens h).fork)) c.open.ensures.loads c.open.ensures.count opened.0 opened.1.0 opened.1.1 opened.2 works

pub returns-in-Err-clause-opened : goal.returns-in-Err-clause-opened
returns-in-Err-clause-opened g c = λ zone.
    let why = rw c.in-Err.is at c.in_ok-open.ensures.refused in
    let same = rw c.in-Err.is at c.in_ok-open.ensures.same in
    opens_none g.S.ForkStore zone c.args.files.now c.open.new.self c.args.number (one_kept c.args.number c.args.files.now.stores c.open.new.self.stores c.open.ensures.others (λ was now. IfSome now g.S.ForkStore.is_honest → option_map_or g.S.ForkStore.fork now [] ≡ option_map_or g.S.ForkStore.fork was []) (λ o honest. refl) (λ h. (c.open.ensures.opens h).fork)) c.open.ensures.loads c.open.ensures.count c.in-Err.code why same

pub returns-in-Ok-clause-opens : goal.returns-in-Ok-clause-opens
returns-in-Ok-clause-opens g c =
    opens_fork g.S.ForkStore c.args.number c.args.files.now.stores c.open.new.self.stores c.open.ensures.others _ _ c.open.ensures.opens (λ journal honest. (rw c.in-Ok.is at (c.in_ok-open.ensures.opens honest).settled) journal)

pub returns-in-Err-clause-opens : goal.returns-in-Err-clause-opens
returns-in-Err-clause-opens g c = opens_fork g.S.ForkStore c.args.number c.args.files.now.stores c.open.new.self.stores c.open.ensures.others _ _ c.open.ensures.opens tt

pub returns-in_err-open-clause-opens : goal.returns-in_err-open-clause-opens
returns-in_err-open-clause-opens g c = opens_fork g.S.ForkStore c.args.number c.args.files.now.stores c.open.new.self.stores c.open.ensures.others _ _ c.open.ensures.opens (search rules)
