use Rattle.std.proofs.Common.{◌≡◌, ◌≤◌, refl, sym, ap, ◌∙◌, subst, length, List, map, Option, None, Some, ℕ, ℤ, w16, to_z, of_z}
use Rattle.std.specs.Prelude.{IfSome}
use Rattle.fork_bytes.specs.Fork.{max_rows}
use Rattle.std.proofs.lemmas.Int.{to_z-of_z}
use Rattle.fork_bytes.specs.declared.place.Place.{Place}
use Rattle.res_table.specs.declared.chain.ResourceTable.{ResourceTable}
use Rattle.res_table.specs.OpenFiles.{OpenFiles, rows_changed, table_of}
use Rattle.res_table.specs.Info.{with_info}
use Rattle.res_table.specs.Rows.{changed_at}
use Rattle.res_files.proofs.Mapped.{changed_at-mapped, rows_changed-mapped}
use Rattle.res_files.proofs.Stands.{keeps_changed_at, stand_changed, table_stands}
use Rattle.res_update.specs.Changes.{row_changed}
use Rattle.res_files.specs.Standing.{StandOn}
use Rattle.res_files.proofs.On.{bytes_in, row_there, changed, either_way, ok_then}
use Rattle.res_files.proofs.files.ResourceFiles.set_info.Goals as goal

-- the file of a number has few rows
few_in : {S : Type 0} (fork : S → List ℕ) (is_ready is_honest : S → Type 0) (stores : List S) (k : ℕ) (chain : OpenFiles Place) → StandOn fork is_ready is_honest stores chain
    → (found : Option (ResourceTable Place)) → table_of k chain ≡ found → IfSome found (λ table. length table.rows ≤ max_rows)
few_in fork is_ready is_honest stores k chain stand None is = tt
few_in fork is_ready is_honest stores k chain stand (Some table) is = (table_stands fork is_ready is_honest stores k chain table stand is).2.few

pub set_info-requires-clause-few : goal.set_info-requires-clause-few
set_info-requires-clause-few g c =
    few_in g.S.ForkStore.fork g.S.ForkStore.is_ready g.S.ForkStore.is_honest c.self.inside.stores.items c.args.place.file c.self.inside.chain c.self.invariant (table_of c.args.place.file c.self.inside.chain) refl

pub set_info-requires-clause-there : goal.set_info-requires-clause-there
set_info-requires-clause-there g c = row_there g.S.ForkStore.fork c.self.inside.chain c.self.inside.loads c.self.inside.stores.items c.args.self.now c.self.view_is c.args.place c.requires

pub invariant_of-self : goal.invariant_of-self
invariant_of-self g c =
    let with_id = λ (z : ℤ). rows_changed c.args.place.file (changed_at c.args.place.index (with_info z c.args.name)) c.self.inside.chain in
    either_way c.set_info.result (c.set_info.new.self ≡ with_id (to_z w16 (of_z w16 c.args.id))) (c.set_info.new.self ≡ c.self.inside.chain)
    (StandOn g.S.ForkStore.fork g.S.ForkStore.is_ready g.S.ForkStore.is_honest c.self.inside.stores.items c.set_info.new.self) c.set_info.ensures.set c.set_info.ensures.same
    (λ is. subst (λ (chain : OpenFiles Place). StandOn g.S.ForkStore.fork g.S.ForkStore.is_ready g.S.ForkStore.is_honest c.self.inside.stores.items chain) (sym (is ∙ ap with_id (to_z-of_z w16 c.args.id c.ranges.id)))
    (stand_changed g.S.ForkStore.fork g.S.ForkStore.is_ready g.S.ForkStore.is_honest c.self.inside.stores.items c.args.place.file (changed_at c.args.place.index (with_info c.args.id c.args.name)) c.self.inside.chain
    (keeps_changed_at c.args.place.index (with_info c.args.id c.args.name) (λ r. refl) (λ r. refl)) c.self.invariant))
    (λ is. subst (λ (chain : OpenFiles Place). StandOn g.S.ForkStore.fork g.S.ForkStore.is_ready g.S.ForkStore.is_honest c.self.inside.stores.items chain) (sym is) c.self.invariant)

pub returns-clause-set : goal.returns-clause-set
returns-clause-set g c =
    let with_id = λ (z : ℤ). rows_changed c.args.place.file (changed_at c.args.place.index (with_info z c.args.name)) c.self.inside.chain in
    ok_then c.set_info.result (c.set_info.new.self ≡ with_id (to_z w16 (of_z w16 c.args.id))) _ c.set_info.ensures.set
    (λ is. changed g.S.ForkStore.fork c.self.inside.chain c.self.inside.loads c.self.inside.stores.items c.args.self.now c.self.view_is c.set_info.new.self (row_changed c.args.place (with_info c.args.id c.args.name))
    (rows_changed c.args.place.file (changed_at c.args.place.index (with_info c.args.id c.args.name))) (is ∙ ap with_id (to_z-of_z w16 c.args.id c.ranges.id))
    (rows_changed-mapped (bytes_in (map g.S.ForkStore.fork c.self.inside.stores.items)) c.args.place.file (changed_at c.args.place.index (with_info c.args.id c.args.name)) (changed_at c.args.place.index (with_info c.args.id c.args.name))
    (λ rows. changed_at-mapped ((bytes_in (map g.S.ForkStore.fork c.self.inside.stores.items)) c.args.place.file) c.args.place.index (with_info c.args.id c.args.name) (with_info c.args.id c.args.name) (λ r. refl) rows) c.self.inside.chain))
