use Rattle.std.proofs.Common.{ℕ, List, refl, subst}
use Rattle.zone_view.specs.Looking.{Shows, looked, unread, unwritten}
use Rattle.zone_view.proofs.looking.look_at.Goals as goal

pub returns-in-Err : goal.returns-in-Err
returns-in-Err g c = unread c.in-Err.why c.in-Err.ensures refl refl

pub returns-in-Ok-show : goal.returns-in-Ok-show
returns-in-Ok-show g c =
    let (text, found, shows, wrote, is) = c.in-Ok-show.ensures in
    looked c.in-Ok.bytes.items text found c.in-Ok.ensures.0 (subst (λ (bytes : List ℕ). Shows c.args.request.now bytes found text) c.as_slice.ensures.value shows) wrote refl is

pub returns : goal.returns
returns g c =
    let (text, found, shows, front) = c.in-Err-show.ensures in
    unwritten c.in-Ok.bytes.items text found c.in-Ok.ensures.0 (subst (λ (bytes : List ℕ). Shows c.args.request.now bytes found text) c.as_slice.ensures.value shows) front refl
