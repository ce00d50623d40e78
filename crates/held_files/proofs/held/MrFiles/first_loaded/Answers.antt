use Rattle.std.proofs.Common.{◌≡◌, ◌∙◌, ap, refl, subst, pos, Some}
use Rattle.held_files.specs.Elsewhere.{IsFirstLoaded}
use Rattle.held_files.specs.Forks.{ForksState}
use Rattle.held_files.specs.Told.{FirstLoadedTold}
use Rattle.held_zone.specs.State.{State}
use Rattle.mac_base.specs.HeadKind.{Shape}
use Rattle.mac_base.specs.ZoneSizes.{shape_of}
use Rattle.mac_base.specs.ZoneState.{ZoneState}
use Rattle.res_update.specs.Changes.{Files}
use Rattle.held_files.proofs.held.MrFiles.first_loaded.Goals as goal

pub returns-in-Some-found : goal.returns-in-Some-found
returns-in-Some-found c =
    let session = c.in-Some.session.value in let files = c.in-Some.files.value in
    let shape = ap shape_of c.spec.ensures.sizes ∙ ap (λ (z : ZoneState). z.shape) c.linked.ensures.zone ∙ ap (λ (s : State). s.zone.shape) (c.behind-session.view_is ∙ c.deref-2.ensures) in
    let same = ap (λ (f : ForksState). f.files) c.deref.ensures in
    let first : IsFirstLoaded session.zone.shape files.files (Some c.in-Some-found.first) =
    subst (λ (s : Shape). IsFirstLoaded s files.files (Some c.in-Some-found.first)) shape
    (subst (λ (fs : Files). IsFirstLoaded (shape_of c.spec.result) fs (Some c.in-Some-found.first)) same c.in-Some-found.ensures) in
    let said : FirstLoadedTold (Some session) (Some files) (pos 0) c.args.handle.now c.in-Some-found.first (Some session) (Some files) =
    (Some c.in-Some-found.first, first, (refl, refl), refl, refl) in
    rw (c.in-Some.ensures.session, c.in-Some.ensures.files, c.put-2.ensures, c.put.ensures) said
