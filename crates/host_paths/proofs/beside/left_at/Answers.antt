use Rattle.std.proofs.Common.{refl}
use Rattle.host_paths.proofs.Sweeping.{keeps_asked}
use Rattle.host_paths.proofs.beside.left_at.Goals as goal

pub returns-in_err-leads_to-clause-kept : goal.returns-in_err-leads_to-clause-kept
returns-in_err-leads_to-clause-kept c =
    keeps_asked c.args.path.now c.in_ok-file.file c.args.log.now.events c.lock.new.log.events c.leads_to.new.log.events c.leads_to.ensures.asks
    (λ users swept. rw (c.lock.ensures, c.found_of.ensures, c.open.ensures, c.found_at.ensures) ((((swept, refl), refl), refl), refl))
