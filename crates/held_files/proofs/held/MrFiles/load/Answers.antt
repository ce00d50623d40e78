use Rattle.std.proofs.Common.{◌≡◌, sym, subst, Option, Some, Err}
use Rattle.held_files.specs.Saving.{IsSavedOver, Loads}
use Rattle.held_files.specs.Forks.{ForksState}
use Rattle.held_zone.specs.State.{State}
use Rattle.row_image.specs.declared.fault.SaveFault.TheVariants.{NotSound}
use Rattle.held_files.proofs.held.MrFiles.load.Goals as goal

pub returns-in-Err-clause-loads : goal.returns-in-Err-clause-loads
returns-in-Err-clause-loads c =
    let fault = c.in-Err.fault in
    let session = c.in_ok-session.session.value in
    let Said : Option State → Option ForksState → Type 0 = λ zone files. Loads zone files c.args.bytes.now (Some (Err fault)) c.take.new.self.held.files in
    let refused : fault ≡ NotSound → (other : ForksState) → ¬ IsSavedOver c.deref.result.now.zone other c.args.bytes.now = λ is. c.in-Err.ensures.refused (cc) in
    let none = subst (λ (s : State). fault ≡ NotSound → (other : ForksState) → ¬ IsSavedOver s.zone other c.args.bytes.now) c.deref.ensures refused in
    let said : Said (Some session) c.args.self.now.held.files = subst (λ (files : Option ForksState). Said (Some session) files) (sym c.in_default.ensures.given) (c.take.ensures.none, none) in
    subst (λ (zone : Option State). Said zone c.args.self.now.held.files) (sym c.in_ok-session.ensures.given) said
