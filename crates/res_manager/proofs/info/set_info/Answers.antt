use Rattle.std.proofs.Common.{sym, ap, ◌∙◌, Option, List, ℕ, ℤ, w16, to_z, of_z}
use Rattle.std.proofs.lemmas.Int.{to_z-of_z}
use Rattle.std.specs.Option.{option_map_or}
use Rattle.res_update.specs.Changes.{row_changed}
use Rattle.res_files.specs.FilesOn.{FilesOn}
use Rattle.res_table.specs.Info.{with_info}
use Rattle.res_table.specs.OpenFiles.{place_of_handle}
use Rattle.res_table.specs.declared.chain.RowPlace.{RowPlace}
use Rattle.res_manager.proofs.info.set_info.Goals as goal

pub returns-clause-set : goal.returns-clause-set
returns-clause-set g c =
    let on = c.args.files.now in
    let changed : Option RowPlace → ℤ → Option (List ℕ) → FilesOn _ =
    λ place id name. record { files = option_map_or (λ p. row_changed p (with_info id name) on.files) place on.files; loads = on.loads; stores = on.stores } in
    let place = place_of_handle c.args.handle on.files in
    c.in_ok-set_info.ensures.set
    ∙ ap (λ (place : Option RowPlace). changed place (to_z w16 (of_z w16 c.args.id)) c.in_ok-name.name) (sym c.in-Ok.ensures.value)
    ∙ ap (λ (id : ℤ). changed place id c.in_ok-name.name) (to_z-of_z w16 c.args.id c.ranges.id)
    ∙ ap (λ (name : Option (List ℕ)). changed place c.args.id name) c.in_ok-name.ensures
