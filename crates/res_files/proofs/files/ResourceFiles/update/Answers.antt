use Rattle.std.proofs.Common.{◌≡◌, ◌-◌, ◌∙◌, refl, Option, Some, None, Ok, Err, length, sym, ap, arith, List}
use Rattle.std.specs.Prelude.{IsErrOf, IsFalse, IsSome, IfNone}
use Rattle.std.proofs.lemmas.Bool.{false≢true}
use Rattle.fork_disk.specs.declared.store.ReplaceFault.TheVariants.{BeforeFirstWrite, Later}
use Rattle.fork_bytes.specs.declared.place.Place.{Place}
use Rattle.res_table.specs.OpenFiles.{rows_changed}
use Rattle.res_update.specs.Updates.{fits_fork}
use Rattle.res_update.specs.Selected.{updated}
use Rattle.res_update.specs.declared.fault.UpdateFault.{UpdateFault}
use Rattle.res_update.specs.declared.fault.UpdateFault.TheVariants.{Device, HostFull, TooBig}
use Rattle.res_files.specs.Updating.{rows_placed}
use Rattle.res_files.proofs.Crash.{no_table, others_stay}
use Rattle.res_files.proofs.Rewritten.{low, within, small, unlent, held, fits_ok, fits_err, rows_seen, closed_seen, stand_written, stand_left, stand_unwritten, updates_ok, updates_err, of_none, fault_as, rose}
use Rattle.res_files.proofs.Using.{files_answer, none_failed, this_failed}
use Rattle.std.proofs.lemmas.List.{length-set}
use Rattle.res_files.specs.FilesOn.{FilesOn}
use Rattle.res_files.proofs.files.ResourceFiles.update.Goals as goal

-- what isn't none is there
there : {T P : Type 0} (found : Option T) → IfNone found P → (P → ⊥) → IsSome found
there None none never = absurd (never none)
there (Some x) none never = refl

pub unwrap-table-requires : goal.unwrap-table-requires
unwrap-table-requires g c =
    there c.table.result c.table.ensures.none
    (λ none. no_table c.args.number c.args.self.now.files.files (of_none g.S.ForkStore.fork c.self.inside.chain c.self.inside.loads c.self.inside.stores.items c.args.self.now c.self.view_is c.args.number none (λ _. ⊥)) c.requires.open)

pub overflow_sub-number : goal.overflow_sub-number
overflow_sub-number g c = low g.S.ForkStore c.self.inside.chain c.self.inside.loads c.self.inside.stores.items c.args.self.now c.self.view_is c.self.invariant c.args.number c.unwrap-table.result.now (rw c.unwrap-table.ensures at c.table.ensures.some)

pub index_mut-store-requires : goal.index_mut-store-requires
index_mut-store-requires g c =
    let inside = within g.S.ForkStore c.self.inside.chain c.self.inside.loads c.self.inside.stores.items c.args.self.now c.self.view_is c.self.invariant c.args.number c.unwrap-table.result.now (rw c.unwrap-table.ensures at c.table.ensures.some) in
    let ok = c.self.inside.stores.ok.0 in omega (arith, inside, ok)

pub write_table-requires-clause-held : goal.write_table-requires-clause-held
write_table-requires-clause-held g c = held g.S.ForkStore c.self.inside.chain c.self.inside.loads c.self.inside.stores.items c.args.self.now c.self.view_is c.self.invariant c.args.number c.unwrap-table.result.now (rw c.unwrap-table.ensures at c.table.ensures.some) c.index_mut-store.result.now c.index_mut-store.ensures.value

pub write_table-requires-clause-near : goal.write_table-requires-clause-near
write_table-requires-clause-near g c = (small g.S.ForkStore c.self.inside.chain c.self.inside.loads c.self.inside.stores.items c.args.self.now c.self.view_is c.self.invariant c.args.number c.unwrap-table.result.now (rw c.unwrap-table.ensures at c.table.ensures.some)).near

pub write_table-requires-clause-few : goal.write_table-requires-clause-few
write_table-requires-clause-few g c = (small g.S.ForkStore c.self.inside.chain c.self.inside.loads c.self.inside.stores.items c.args.self.now c.self.view_is c.self.invariant c.args.number c.unwrap-table.result.now (rw c.unwrap-table.ensures at c.table.ensures.some)).few

pub write_table-requires-clause-unlent : goal.write_table-requires-clause-unlent
write_table-requires-clause-unlent g c = unlent g.S.ForkStore c.self.inside.chain c.self.inside.loads c.self.inside.stores.items c.args.self.now c.self.view_is c.self.invariant c.args.number c.unwrap-table.result.now (rw c.unwrap-table.ensures at c.table.ensures.some) (g.C.Contents.table c.args.contents.now) c.args.selection c.requires.unlent

pub invariant_of-self : goal.invariant_of-self
invariant_of-self g c =
    stand_written g.S.ForkStore c.self.inside.chain c.self.inside.loads c.self.inside.stores.items c.args.self.now c.self.view_is c.self.invariant c.args.number c.unwrap-table.result.now (rw c.unwrap-table.ensures at c.table.ensures.some) c.index_mut-store.result.now c.index_mut-store.ensures.value c.write_table.new.store c.args.selection c.in-Ok.places.items c.place_rows.new.chain (c.place_rows.ensures ∙ ap (λ (places : List Place). rows_changed c.args.number (λ rows. rows_placed c.args.selection 0 rows places) c.self.inside.chain) c.deref.ensures.value) c.in-Ok.ensures.each c.in-Ok.ensures.near (λ h. (c.in-Ok.ensures.writes h).inside) (λ h. (c.in-Ok.ensures.writes h).replaces.ready)

pub returns-in-Ok-clause-rows : goal.returns-in-Ok-clause-rows
returns-in-Ok-clause-rows g c = rows_seen g.S.ForkStore c.self.inside.chain c.self.inside.loads c.self.inside.stores.items c.args.self.now c.self.view_is c.self.invariant c.args.number c.unwrap-table.result.now (rw c.unwrap-table.ensures at c.table.ensures.some) c.index_mut-store.result.now c.index_mut-store.ensures.value c.write_table.new.store (g.C.Contents.table c.args.contents.now) c.args.selection c.in-Ok.places.items c.place_rows.new.chain (c.place_rows.ensures ∙ ap (λ (places : List Place). rows_changed c.args.number (λ rows. rows_placed c.args.selection 0 rows places) c.self.inside.chain) c.deref.ensures.value) (λ h. (c.in-Ok.ensures.writes h).replaces.replaced) c.in-Ok.ensures.places

pub returns-in-Ok-clause-too_big : goal.returns-in-Ok-clause-too_big
returns-in-Ok-clause-too_big g c = fits_ok g.S.ForkStore c.self.inside.chain c.self.inside.loads c.self.inside.stores.items c.args.self.now c.self.view_is c.self.invariant c.args.number c.unwrap-table.result.now (rw c.unwrap-table.ensures at c.table.ensures.some) c.index_mut-store.result.now c.index_mut-store.ensures.value c.write_table.new.store c.in-Ok.places tt (λ shown. IsFalse (fits_fork (updated (g.C.Contents.table c.args.contents.now) c.args.selection shown))) c.in-Ok.ensures.too_big

pub returns-in-Ok-clause-none : goal.returns-in-Ok-clause-none
returns-in-Ok-clause-none g c = none_failed g.S.ForkStore.fork g.S.ForkStore.is_honest c.self.inside.chain c.self.inside.loads c.self.inside.stores.items c.args.self.now c.self.view_is (c.args.number - 1) (within g.S.ForkStore c.self.inside.chain c.self.inside.loads c.self.inside.stores.items c.args.self.now c.self.view_is c.self.invariant c.args.number c.unwrap-table.result.now (rw c.unwrap-table.ensures at c.table.ensures.some)) c.index_mut-store.result.now c.write_table.new.store c.index_mut-store.ensures.value g.S.ForkStore.failures c.in-Ok.ensures.cause

pub invariant_of-self-then-is_later : goal.invariant_of-self-then-is_later
invariant_of-self-then-is_later g c =
    stand_left g.S.ForkStore c.self.inside.chain c.self.inside.loads c.self.inside.stores.items c.args.self.now c.self.view_is c.self.invariant c.args.number c.unwrap-table.result.now (rw c.unwrap-table.ensures at c.table.ensures.some) c.index_mut-store.result.now c.index_mut-store.ensures.value c.write_table.new.store c.close.new.self c.close.ensures.closed

pub invariant_of-self-else-is_later : goal.invariant_of-self-else-is_later
invariant_of-self-else-is_later g c =
    stand_unwritten g.S.ForkStore c.self.inside.chain c.self.inside.loads c.self.inside.stores.items c.args.self.now c.self.view_is c.self.invariant c.args.number c.unwrap-table.result.now (rw c.unwrap-table.ensures at c.table.ensures.some) c.index_mut-store.result.now c.index_mut-store.ensures.value c.write_table.new.store _ c.in-Err.fault (λ is. false≢true (sym c.if-is_later.false ∙ c.is_later.ensures.1 is))
    c.in-Err.ensures.untouched c.in-Err.ensures.unasked c.in-Err.ensures.writes

pub returns-then-is_later-clause-too_big : goal.returns-then-is_later-clause-too_big
returns-then-is_later-clause-too_big g c = fits_err g.S.ForkStore c.self.inside.chain c.self.inside.loads c.self.inside.stores.items c.args.self.now c.self.view_is c.self.invariant c.args.number c.unwrap-table.result.now (rw c.unwrap-table.ensures at c.table.ensures.some) c.index_mut-store.result.now c.index_mut-store.ensures.value c.write_table.new.store _ _ c.in-Err.fault (λ shown. IsFalse (fits_fork (updated (g.C.Contents.table c.args.contents.now) c.args.selection shown))) c.in-Err.ensures.too_big

pub returns-else-is_later-clause-too_big : goal.returns-else-is_later-clause-too_big
returns-else-is_later-clause-too_big g c = fits_err g.S.ForkStore c.self.inside.chain c.self.inside.loads c.self.inside.stores.items c.args.self.now c.self.view_is c.self.invariant c.args.number c.unwrap-table.result.now (rw c.unwrap-table.ensures at c.table.ensures.some) c.index_mut-store.result.now c.index_mut-store.ensures.value c.write_table.new.store _ _ c.in-Err.fault (λ shown. IsFalse (fits_fork (updated (g.C.Contents.table c.args.contents.now) c.args.selection shown))) c.in-Err.ensures.too_big

pub returns-then-is_later-clause-closed : goal.returns-then-is_later-clause-closed
returns-then-is_later-clause-closed g c = λ is. closed_seen g.S.ForkStore c.self.inside.chain c.self.inside.loads c.self.inside.stores.items c.args.self.now c.self.view_is c.self.invariant c.args.number c.unwrap-table.result.now (rw c.unwrap-table.ensures at c.table.ensures.some) c.index_mut-store.result.now c.index_mut-store.ensures.value c.write_table.new.store c.close.new.self c.close.ensures.closed

pub returns-then-is_later-clause-cause_later : goal.returns-then-is_later-clause-cause_later
returns-then-is_later-clause-cause_later g c = λ is. this_failed g.S.ForkStore.fork g.S.ForkStore.is_honest c.self.inside.chain c.self.inside.loads c.self.inside.stores.items c.args.self.now c.self.view_is (c.args.number - 1) (within g.S.ForkStore c.self.inside.chain c.self.inside.loads c.self.inside.stores.items c.args.self.now c.self.view_is c.self.invariant c.args.number c.unwrap-table.result.now (rw c.unwrap-table.ensures at c.table.ensures.some)) c.index_mut-store.result.now c.write_table.new.store c.index_mut-store.ensures.value g.S.ForkStore.failures (rose _ _ c.write_table.result c.in-Err.fault Later c.in-Err.is c.write_table.ensures.cause is)

pub returns-else-is_later-clause-cause : goal.returns-else-is_later-clause-cause
returns-else-is_later-clause-cause g c = λ is. this_failed g.S.ForkStore.fork g.S.ForkStore.is_honest c.self.inside.chain c.self.inside.loads c.self.inside.stores.items c.args.self.now c.self.view_is (c.args.number - 1) (within g.S.ForkStore c.self.inside.chain c.self.inside.loads c.self.inside.stores.items c.args.self.now c.self.view_is c.self.invariant c.args.number c.unwrap-table.result.now (rw c.unwrap-table.ensures at c.table.ensures.some)) c.index_mut-store.result.now c.write_table.new.store c.index_mut-store.ensures.value g.S.ForkStore.failures (rose _ _ c.write_table.result c.in-Err.fault BeforeFirstWrite c.in-Err.is c.write_table.ensures.cause is)

pub returns-else-is_later-clause-before : goal.returns-else-is_later-clause-before
returns-else-is_later-clause-before g c = λ is. files_answer g.S.ForkStore.fork g.S.ForkStore.is_honest c.self.inside.chain c.self.inside.loads c.self.inside.stores.items c.args.self.now c.self.view_is (c.args.number - 1) (within g.S.ForkStore c.self.inside.chain c.self.inside.loads c.self.inside.stores.items c.args.self.now c.self.view_is c.self.invariant c.args.number c.unwrap-table.result.now (rw c.unwrap-table.ensures at c.table.ensures.some)) c.index_mut-store.result.now c.write_table.new.store c.index_mut-store.ensures.value (λ h. ((c.in-Err.ensures.writes h).replaces.before (fault_as c.in-Err.fault (Device BeforeFirstWrite) is)).same)

pub returns-in-Ok-clause-count : goal.returns-in-Ok-clause-count
returns-in-Ok-clause-count g c = length-set c.self.inside.stores.items (c.args.number - 1) c.write_table.new.store ∙ ap (λ (on : FilesOn _). length on.stores) c.self.view_is

pub returns-then-is_later-clause-count : goal.returns-then-is_later-clause-count
returns-then-is_later-clause-count g c = length-set c.self.inside.stores.items (c.args.number - 1) c.write_table.new.store ∙ ap (λ (on : FilesOn _). length on.stores) c.self.view_is

pub returns-else-is_later-clause-count : goal.returns-else-is_later-clause-count
returns-else-is_later-clause-count g c = length-set c.self.inside.stores.items (c.args.number - 1) c.write_table.new.store ∙ ap (λ (on : FilesOn _). length on.stores) c.self.view_is

-- an update that succeeded has no fault
no_fault : {A P : Type 0} (x : A) (fault : UpdateFault) → IsErrOf {T = A} {E = UpdateFault} (Ok x) fault → P
no_fault x fault told = absurd (cc told)

pub returns-in-Ok-clause-closed : goal.returns-in-Ok-clause-closed
returns-in-Ok-clause-closed g c = λ told. no_fault _ _ told

pub returns-in-Ok-clause-before : goal.returns-in-Ok-clause-before
returns-in-Ok-clause-before g c = λ told. no_fault _ _ told

-- the fault that is reported is the one that there was
err_is : {A : Type 0} (fault told : UpdateFault) → IsErrOf {T = A} {E = UpdateFault} (Err fault) told → fault ≡ told
err_is fault told is = cc

pub returns-else-is_later-clause-closed : goal.returns-else-is_later-clause-closed
returns-else-is_later-clause-closed g c = λ told. absurd (false≢true (sym c.if-is_later.false ∙ c.is_later.ensures.1 (err_is _ (Device Later) told)))

-- a fault after the first write is none of the others
too_big_isnt : {A P : Type 0} (fault : UpdateFault) → fault ≡ Device Later → IsErrOf {T = A} {E = UpdateFault} (Err fault) TooBig → P
too_big_isnt fault later told = let e : Device Later ≡ TooBig = sym later ∙ err_is fault TooBig told in absurd (cc e)

host_full_isnt : {A P : Type 0} (fault : UpdateFault) → fault ≡ Device Later → IsErrOf {T = A} {E = UpdateFault} (Err fault) HostFull → P
host_full_isnt fault later told = let e : Device Later ≡ HostFull = sym later ∙ err_is fault HostFull told in absurd (cc e)

pub returns-then-is_later-clause-untouched : goal.returns-then-is_later-clause-untouched
returns-then-is_later-clause-untouched g c = λ told. too_big_isnt _ (c.is_later.ensures.0 c.if-is_later.true) told

pub returns-then-is_later-clause-unasked : goal.returns-then-is_later-clause-unasked
returns-then-is_later-clause-unasked g c = λ told. host_full_isnt _ (c.is_later.ensures.0 c.if-is_later.true) told

pub returns-in-Ok-clause-updates : goal.returns-in-Ok-clause-updates
returns-in-Ok-clause-updates g c = updates_ok g.S.ForkStore c.self.inside.chain c.self.inside.loads c.self.inside.stores.items c.args.self.now c.self.view_is c.self.invariant c.args.number c.unwrap-table.result.now (rw c.unwrap-table.ensures at c.table.ensures.some) c.index_mut-store.result.now c.index_mut-store.ensures.value c.write_table.new.store (g.C.Contents.table c.args.contents.now) c.args.selection c.in-Ok.places tt c.in-Ok.ensures.writes

pub returns-then-is_later-clause-updates : goal.returns-then-is_later-clause-updates
returns-then-is_later-clause-updates g c = updates_err g.S.ForkStore c.self.inside.chain c.self.inside.loads c.self.inside.stores.items c.args.self.now c.self.view_is c.self.invariant c.args.number c.unwrap-table.result.now (rw c.unwrap-table.ensures at c.table.ensures.some) c.index_mut-store.result.now c.index_mut-store.ensures.value c.write_table.new.store (g.C.Contents.table c.args.contents.now) c.args.selection c.in-Err.fault c.in-Err.ensures.writes

pub returns-else-is_later-clause-updates : goal.returns-else-is_later-clause-updates
returns-else-is_later-clause-updates g c = updates_err g.S.ForkStore c.self.inside.chain c.self.inside.loads c.self.inside.stores.items c.args.self.now c.self.view_is c.self.invariant c.args.number c.unwrap-table.result.now (rw c.unwrap-table.ensures at c.table.ensures.some) c.index_mut-store.result.now c.index_mut-store.ensures.value c.write_table.new.store (g.C.Contents.table c.args.contents.now) c.args.selection c.in-Err.fault c.in-Err.ensures.writes

pub returns-in-Ok-clause-others : goal.returns-in-Ok-clause-others
returns-in-Ok-clause-others g c = others_stay g.S.ForkStore.fork g.S.ForkStore.is_honest g.S.ForkStore.history c.self.inside.chain c.self.inside.loads c.self.inside.stores.items c.args.self.now c.self.view_is c.args.number (within g.S.ForkStore c.self.inside.chain c.self.inside.loads c.self.inside.stores.items c.args.self.now c.self.view_is c.self.invariant c.args.number c.unwrap-table.result.now (rw c.unwrap-table.ensures at c.table.ensures.some)) c.index_mut-store.result.now c.write_table.new.store c.index_mut-store.ensures.value (low g.S.ForkStore c.self.inside.chain c.self.inside.loads c.self.inside.stores.items c.args.self.now c.self.view_is c.self.invariant c.args.number c.unwrap-table.result.now (rw c.unwrap-table.ensures at c.table.ensures.some))

pub returns-then-is_later-clause-others : goal.returns-then-is_later-clause-others
returns-then-is_later-clause-others g c = others_stay g.S.ForkStore.fork g.S.ForkStore.is_honest g.S.ForkStore.history c.self.inside.chain c.self.inside.loads c.self.inside.stores.items c.args.self.now c.self.view_is c.args.number (within g.S.ForkStore c.self.inside.chain c.self.inside.loads c.self.inside.stores.items c.args.self.now c.self.view_is c.self.invariant c.args.number c.unwrap-table.result.now (rw c.unwrap-table.ensures at c.table.ensures.some)) c.index_mut-store.result.now c.write_table.new.store c.index_mut-store.ensures.value (low g.S.ForkStore c.self.inside.chain c.self.inside.loads c.self.inside.stores.items c.args.self.now c.self.view_is c.self.invariant c.args.number c.unwrap-table.result.now (rw c.unwrap-table.ensures at c.table.ensures.some))

pub returns-else-is_later-clause-others : goal.returns-else-is_later-clause-others
returns-else-is_later-clause-others g c = others_stay g.S.ForkStore.fork g.S.ForkStore.is_honest g.S.ForkStore.history c.self.inside.chain c.self.inside.loads c.self.inside.stores.items c.args.self.now c.self.view_is c.args.number (within g.S.ForkStore c.self.inside.chain c.self.inside.loads c.self.inside.stores.items c.args.self.now c.self.view_is c.self.invariant c.args.number c.unwrap-table.result.now (rw c.unwrap-table.ensures at c.table.ensures.some)) c.index_mut-store.result.now c.write_table.new.store c.index_mut-store.ensures.value (low g.S.ForkStore c.self.inside.chain c.self.inside.loads c.self.inside.stores.items c.args.self.now c.self.view_is c.self.invariant c.args.number c.unwrap-table.result.now (rw c.unwrap-table.ensures at c.table.ensures.some))
