use Rattle.std.proofs.Common.{◌≡◌, ◌<◌, ℕ, ap, get_or, length, position, subst, sym, ◌∙◌, Option, Some}
use Rattle.std.proofs.lemmas.Result.{on_ok_weaker}
use Rattle.std.specs.Option.{option_map}
use Rattle.std.specs.Prelude.{IfSome}
use Rattle.fork_bytes.specs.Fork.{max_rows}
use Rattle.res_table.specs.declared.chain.OpenFile.{OpenFile}
use Rattle.res_table.specs.declared.chain.ResourceTable.{ResourceTable}
use Rattle.res_table.specs.Rows.{added}
use Rattle.res_table.specs.OpenFiles.{OpenFiles, is_numbered, table_in, table_of}
use Rattle.res_table.proofs.Files.{rows_written, file_found, open_there}
use Rattle.res_table.proofs.chain.Chain.add.Goals as goal

pub unwrap-at-requires : goal.unwrap-at-requires
unwrap-at-requires g c = open_there c.args.number c.args.self.now c.position_of.result c.position_of.ensures c.requires.open

pub returns-clause-added : goal.returns-clause-added
returns-clause-added g c =
    on_ok_weaker c.add.result
    (rows_written c.args.number c.self.inside.files.items c.self.inside.current c.args.self.now c.position_of.result c.unwrap-at.result c.index_mut.result.now c.self.view_is c.position_of.ensures c.unwrap-at.ensures c.index_mut.ensures.value (added c.args.row) c.add.new.self)
    c.add.ensures.added

-- the file of the number has room
room_in : {D : Type 0} (k : ℕ) (inside now : OpenFiles D) (at : ℕ) (f : OpenFile D) → inside ≡ now → position (is_numbered k) now.files ≡ Some at → f ≡ get_or inside.files at f
    → IfSome (table_of k now) (λ table. length table.rows < max_rows) → length f.table.rows < max_rows
room_in {D} k inside now at f same is read room =
    let read_now : f ≡ get_or now.files at f = read ∙ ap (λ (chain : OpenFiles D). get_or chain.files at f) same in
    let found = (file_found k now.files at f is read_now).file in
    subst (λ (table : Option (ResourceTable D)). IfSome table (λ table. length table.rows < max_rows)) (ap (λ (file : Option (OpenFile D)). option_map table_in file) found) room

pub add-requires : goal.add-requires
add-requires g c = room_in c.args.number _ c.args.self.now c.unwrap-at.result c.index_mut.result.now c.self.view_is (sym c.position_of.ensures ∙ c.unwrap-at.ensures) c.index_mut.ensures.value c.requires.room
