use Rattle.std.proofs.Common.{◌≡◌, ℕ, List, sym, subst, ap, ◌∙◌}
use Rattle.fork_bytes.specs.declared.table.Table.{Table}
use Rattle.fork_bytes.specs.Fork.{StandsFor}
use Rattle.fork_bytes.specs.Written.{plain_rows, plain_table, types_of, written, IsTooBig}
use Rattle.mac_base.specs.declared.resource.Resource.{Resource}
use Rattle.res_table.specs.Saved.{bare}
use Rattle.row_image.specs.declared.info.RowInfo.{RowInfo}
use Rattle.row_image.specs.Infos.{image_text, info_table, info_text}
use Rattle.row_image.proofs.Images.{grouped_by, types_info}
use Rattle.row_image.proofs.image.image_of.Goals as goal

pub returns-in-Ok-clause-written : goal.returns-in-Ok-clause-written
unfolding image_text
returns-in-Ok-clause-written c =
    let table = c.args.table.now in
    c.in-Ok.ensures.written ∙ ap (λ (rows : List (Resource RowInfo)). written (plain_table info_text rows table.extra table.map_attributes)) (c.deref.ensures.value ∙ c.in_ok-rows.ensures.rows)

pub returns-in-Ok-clause-has : goal.returns-in-Ok-clause-has
unfolding image_text
returns-in-Ok-clause-has c =
    let table = c.args.table.now in
    let rows_are = c.deref.ensures.value ∙ c.in_ok-rows.ensures.rows in
    let same : plain_table info_text c.deref.result.now table.extra table.map_attributes ≡ info_table table =
    ap (λ (rows : List (Resource RowInfo)). plain_table info_text rows table.extra table.map_attributes) rows_are in
    let text : c.in-Ok.image.items ≡ written (info_table table) = c.in-Ok.ensures.written ∙ ap written same in
    let types : types_of (bare table.rows) ≡ types_of (plain_rows info_text c.deref.result.now) =
    sym (types_info table.rows) ∙ sym (ap (λ (rows : List (Resource RowInfo)). types_of (plain_rows info_text rows)) rows_are) in
    let stands = c.in-Ok.ensures.stands (grouped_by (bare table.rows) (plain_rows info_text c.deref.result.now) types c.requires) in
    record {
      told = c.in_ok-rows.ensures.told;
      fits = λ big. cc (c.in-Ok.ensures.too_big.1 (subst IsTooBig (sym same) big));
      stands = subst (λ (bytes : List ℕ). StandsFor bytes (info_table table)) text (subst (λ (t : Table). StandsFor c.in-Ok.image.items t) same stands);
    }

pub returns-in-Err-TooBig-clause-refused : goal.returns-in-Err-TooBig-clause-refused
returns-in-Err-TooBig-clause-refused c = λ _ has.
    let table = c.args.table.now in
    let same : plain_table info_text c.deref.result.now table.extra table.map_attributes ≡ info_table table =
    ap (λ (rows : List (Resource RowInfo)). plain_table info_text rows table.extra table.map_attributes) (c.deref.ensures.value ∙ c.in_ok-rows.ensures.rows) in
    has.fits (subst IsTooBig same (c.in-Err-TooBig.ensures.too_big.0 (cc c.in-Err-TooBig.field-0-is)))
