use Rattle.std.proofs.Common.{sym, ap, subst, arith}
use Rattle.std.proofs.lemmas.List.{get_or_read}
use Rattle.disk_image.specs.declared.place.Placed.{Placed}
use Rattle.disk_image.specs.Images.{IsPlaced}
use Rattle.disk_image.proofs.VolumesPlaced.{each_at}
use Rattle.disk_image.proofs.image.Image.into_volume.Goals as goal

pub returns-clause-there : goal.returns-clause-there
returns-clause-there c =
    let volumes = c.args.self.contents.volumes in
    let P : Placed → Type 0 = λ placed. IsPlaced c.args.self.size placed in
    subst P (sym c.swap_remove-placed.ensures.value) (each_at c.args.self.size volumes.items c.args.index _ (omega (arith, c.if-index-len.false, c.len.ensures, volumes.ok.0)) c.requires)

pub returns-clause-value : goal.returns-clause-value
returns-clause-value c = λ other.
    let volumes = c.args.self.contents.volumes in
    sym (ap (λ (placed : Placed). placed.found)
    (get_or_read volumes.items c.args.index _ (omega (arith, c.if-index-len.false, c.len.ensures, volumes.ok.0)) c.swap_remove-placed.ensures.value other))
