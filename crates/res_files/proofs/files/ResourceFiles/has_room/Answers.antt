use Rattle.std.proofs.Common.{◌≤◌, List, [], length, subst, sym, ap}
use Rattle.fork_bytes.specs.Fork.{max_rows}
use Rattle.fork_bytes.specs.declared.place.Place.{Place}
use Rattle.res_table.specs.declared.row.Row.{Row}
use Rattle.res_table.specs.Rows.{added}
use Rattle.res_table.specs.Saved.{bare}
use Rattle.res_update.specs.Fitting.{rows_fit}
use Rattle.res_files.proofs.Stands.{current_small}
use Rattle.res_files.proofs.On.{asked_current}
use Rattle.res_files.proofs.Room.{same_room, alone_fits}
use Rattle.res_files.proofs.files.ResourceFiles.has_room.Goals as goal

-- the place of no bytes
none : Place
none = record { offset = 0; length = 0 }

pub fits_with-requires : goal.fits_with-requires
fits_with-requires g c =
    subst (λ (rows : List (Row Place)). length rows ≤ max_rows) (sym c.in-Some.ensures.some) (current_small g.S.ForkStore.fork g.S.ForkStore.is_ready g.S.ForkStore.is_honest c.self.inside.stores.items c.self.inside.chain c.self.invariant)

pub returns-in-Some : goal.returns-in-Some
returns-in-Some g c = λ r mine named.
    let other : Row Place = record { resource = record { kind = r.resource.kind; id = r.resource.id; name = r.resource.name; attributes = r.resource.attributes; datum = none }; handle = r.handle } in
    asked_current g.S.ForkStore.fork c.self.inside.chain c.self.inside.loads c.self.inside.stores.items c.args.self.now c.self.view_is (λ rows. rows_fit (bare (added r rows))) (λ rows. rows_fit (bare (added other rows)))
    (λ h rows. ap rows_fit (same_room h none r rows)) _ c.in-Some.rows.now (c.fits_with.ensures other mine named) c.in-Some.ensures.some

pub returns-in-None : goal.returns-in-None
returns-in-None g c = λ r mine named.
    let other : Row Place = record { resource = record { kind = r.resource.kind; id = r.resource.id; name = r.resource.name; attributes = r.resource.attributes; datum = none }; handle = r.handle } in
    asked_current g.S.ForkStore.fork c.self.inside.chain c.self.inside.loads c.self.inside.stores.items c.args.self.now c.self.view_is (λ rows. rows_fit (bare (added r rows))) (λ rows. rows_fit (bare (added other rows)))
    (λ h rows. ap rows_fit (same_room h none r rows)) _ [] (alone_fits other) (sym c.in-None.ensures.none)
