use Rattle.std.proofs.Common.{◌≡◌, ◌<◌, [], length, sym, ap, ◌∙◌, subst, map, arith, Option, None, Some, ℤ, w16, to_z, of_z}
use Rattle.std.specs.Option.{option_map_or}
use Rattle.std.specs.Prelude.{IfSome}
use Rattle.fork_bytes.specs.Fork.{max_rows}
use Rattle.std.proofs.lemmas.Int.{to_z-of_z}
use Rattle.fork_bytes.specs.declared.place.Place.{Place}
use Rattle.res_table.specs.declared.chain.ResourceTable.{ResourceTable}
use Rattle.res_table.specs.declared.row.Row.{Row}
use Rattle.res_table.specs.OpenFiles.{OpenFiles, rows_changed, table_of}
use Rattle.res_table.specs.Rows.{added}
use Rattle.res_files.proofs.Mapped.{added-mapped, rows_changed-mapped}
use Rattle.res_files.proofs.Stands.{stand_added}
use Rattle.res_files.specs.Standing.{StandOn}
use Rattle.res_update.specs.Updates.{new_row}
use Rattle.res_files.proofs.On.{bytes_in, open_there, room, changed, ok_then, either_way}
use Rattle.res_files.proofs.files.ResourceFiles.add.Goals as goal

-- the file of a number has room where its rows are few
in_table : (found : Option (ResourceTable Place)) → length (option_map_or (λ (table : ResourceTable Place). table.rows) found []) < max_rows → IfSome found (λ table. length table.rows < max_rows)
in_table None few = tt
in_table (Some table) few = few

pub add-requires-clause-room : goal.add-requires-clause-room
add-requires-clause-room g c =
    in_table (table_of c.args.number c.self.inside.chain)
    (room g.S.ForkStore.fork c.self.inside.chain c.self.inside.loads c.self.inside.stores.items c.args.self.now c.self.view_is c.args.number (new_row c.args.handle c.args.kind c.args.id c.args.name) c.requires.fits)

pub add-requires-clause-open : goal.add-requires-clause-open
add-requires-clause-open g c = open_there g.S.ForkStore.fork c.self.inside.chain c.self.inside.loads c.self.inside.stores.items c.args.self.now c.self.view_is c.args.number c.requires.open

pub invariant_of-self : goal.invariant_of-self
invariant_of-self g c =
    let row_with : ℤ → Row Place = λ z. record { resource = record { kind = c.args.kind; id = z; name = c.args.name; attributes = record { 0 = 2 }; datum = record { offset = 0; length = 0 } }; handle = Some c.args.handle } in
    let new = row_with c.args.id in let with_id = λ (z : ℤ). rows_changed c.args.number (added (row_with z)) c.self.inside.chain in
    let id = ap with_id (to_z-of_z w16 c.args.id c.ranges.id) in
    let free = room g.S.ForkStore.fork c.self.inside.chain c.self.inside.loads c.self.inside.stores.items c.args.self.now c.self.view_is c.args.number (new_row c.args.handle c.args.kind c.args.id c.args.name) c.requires.fits in
    either_way c.add.result (c.add.new.self ≡ with_id (to_z w16 (of_z w16 c.args.id))) (c.add.new.self ≡ c.self.inside.chain) (StandOn g.S.ForkStore.fork g.S.ForkStore.is_ready g.S.ForkStore.is_honest c.self.inside.stores.items c.add.new.self) c.add.ensures.added c.add.ensures.same
    (λ is. subst (λ (chain : OpenFiles Place). StandOn g.S.ForkStore.fork g.S.ForkStore.is_ready g.S.ForkStore.is_honest c.self.inside.stores.items chain) (sym (is ∙ id))
    (stand_added g.S.ForkStore.fork g.S.ForkStore.is_ready g.S.ForkStore.is_honest c.self.inside.stores.items c.args.number new (omega arith) (λ bytes. omega arith) c.self.inside.chain free c.self.invariant))
    (λ is. subst (λ (chain : OpenFiles Place). StandOn g.S.ForkStore.fork g.S.ForkStore.is_ready g.S.ForkStore.is_honest c.self.inside.stores.items chain) (sym is) c.self.invariant)

pub returns-clause-added : goal.returns-clause-added
returns-clause-added g c =
    let row_with : ℤ → Row Place = λ z. record { resource = record { kind = c.args.kind; id = z; name = c.args.name; attributes = record { 0 = 2 }; datum = record { offset = 0; length = 0 } }; handle = Some c.args.handle } in
    let new = row_with c.args.id in let with_id = λ (z : ℤ). rows_changed c.args.number (added (row_with z)) c.self.inside.chain in
    let id = ap with_id (to_z-of_z w16 c.args.id c.ranges.id) in
    let row = new_row c.args.handle c.args.kind c.args.id c.args.name in
    ok_then c.add.result (c.add.new.self ≡ with_id (to_z w16 (of_z w16 c.args.id))) _ c.add.ensures.added
    (λ is. changed g.S.ForkStore.fork c.self.inside.chain c.self.inside.loads c.self.inside.stores.items c.args.self.now c.self.view_is c.add.new.self (rows_changed c.args.number (added row)) (rows_changed c.args.number (added new)) (is ∙ id)
    (rows_changed-mapped (bytes_in (map g.S.ForkStore.fork c.self.inside.stores.items)) c.args.number (added row) (added new) (λ rows. added-mapped ((bytes_in (map g.S.ForkStore.fork c.self.inside.stores.items)) c.args.number) new rows) c.self.inside.chain))
