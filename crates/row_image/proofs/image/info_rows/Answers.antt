use Rattle.std.proofs.Common.{◌++◌, ◌∷◌, [], map, ap, ◌∙◌}
use Rattle.mac_base.specs.declared.resource.Resource.{Resource}
use Rattle.row_image.specs.declared.info.RowInfo.{RowInfo}
use Rattle.row_image.specs.Infos.{info_resource}
use Rattle.row_image.specs.Images.{IsToldRow}
use Rattle.row_image.proofs.Images.{step_map, step_all}
use Rattle.row_image.proofs.image.info_rows.Goals as goal

pub loop-index-preserved : goal.loop-index-preserved
loop-index-preserved c =
    let rows = c.args.rows.now in let i = c.loop-index.index in let r = c.row.result.now in
    let items = c.in_ok-push.ensures.items ∙ ap (λ (x : Resource RowInfo). c.loop-index.made.items ++ x ∷ []) c.in_ok-resource.ensures.resource in (
      step_map info_resource rows i r c.loop-index.made.items _ (map info_resource rows) c.row.ensures items c.loop-index.invariant.0,
      λ others. c.loop-index.invariant.1 (step_all IsToldRow rows i r c.row.ensures c.info_resource.ensures.told others),
    )
