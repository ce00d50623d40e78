use Rattle.std.proofs.Common.{◌≡◌, ◌≤◌, ℕ, ℤ, Option, Some, ap, get_or, length, position, subst, sym, ◌∙◌, w16}
use Rattle.std.proofs.lemmas.Int.{to_z-of_z}
use Rattle.std.proofs.lemmas.Result.{on_ok_weaker}
use Rattle.std.specs.Option.{option_map}
use Rattle.std.specs.Prelude.{IfSome}
use Rattle.fork_bytes.specs.Fork.{max_rows}
use Rattle.res_table.specs.declared.chain.OpenFile.{OpenFile}
use Rattle.res_table.specs.declared.chain.ResourceTable.{ResourceTable}
use Rattle.res_table.specs.Info.{with_info}
use Rattle.res_table.specs.Rows.{changed_at}
use Rattle.res_table.specs.OpenFiles.{OpenFiles, is_numbered, table_in, table_of}
use Rattle.res_table.proofs.Files.{file_found, file_there, row_inside, rows_written}
use Rattle.res_table.proofs.chain.Chain.set_info.Goals as goal

pub unwrap-at-requires : goal.unwrap-at-requires
unwrap-at-requires g c = file_there c.args.place c.args.self.now c.position_of.result c.position_of.ensures c.requires.there

pub set_info-requires-clause-within : goal.set_info-requires-clause-within
set_info-requires-clause-within g c = row_inside c.args.place.file c.self.inside.files.items c.self.inside.current c.args.self.now c.position_of.result c.unwrap-at.result c.index_mut.result.now c.self.view_is c.position_of.ensures c.unwrap-at.ensures c.index_mut.ensures.value c.args.place.index c.requires.there

-- the file of the number has few rows
few_in : {D : Type 0} (k : ℕ) (inside now : OpenFiles D) (at : ℕ) (f : OpenFile D) → inside ≡ now → position (is_numbered k) now.files ≡ Some at → f ≡ get_or inside.files at f
    → IfSome (table_of k now) (λ table. length table.rows ≤ max_rows) → length f.table.rows ≤ max_rows
few_in {D} k inside now at f same is read few =
    let read_now : f ≡ get_or now.files at f = read ∙ ap (λ (chain : OpenFiles D). get_or chain.files at f) same in
    let found = (file_found k now.files at f is read_now).file in
    subst (λ (table : Option (ResourceTable D)). IfSome table (λ table. length table.rows ≤ max_rows)) (ap (λ (file : Option (OpenFile D)). option_map table_in file) found) few

pub set_info-requires-clause-few : goal.set_info-requires-clause-few
set_info-requires-clause-few g c = few_in c.args.place.file _ c.args.self.now c.unwrap-at.result c.index_mut.result.now c.self.view_is (sym c.position_of.ensures ∙ c.unwrap-at.ensures) c.index_mut.ensures.value c.requires.few

pub returns-clause-set : goal.returns-clause-set
returns-clause-set g c =
    let id = to_z-of_z w16 c.args.id c.ranges.id in
    on_ok_weaker c.set_info.result
    (λ changed. rows_written c.args.place.file c.self.inside.files.items c.self.inside.current c.args.self.now c.position_of.result c.unwrap-at.result c.index_mut.result.now c.self.view_is c.position_of.ensures c.unwrap-at.ensures c.index_mut.ensures.value (changed_at c.args.place.index (with_info c.args.id c.args.name)) c.set_info.new.self
    (changed ∙ ap (λ (z : ℤ). changed_at c.args.place.index (with_info z c.args.name) c.index_mut.result.now.table.rows) id))
    c.set_info.ensures.set
