use Rattle.std.proofs.Common.{◌-◌, ◌∙◌, length, sym, ap, subst, map, set, rules}
use Rattle.fork_bytes.specs.declared.place.Place.{Place}
use Rattle.res_table.specs.OpenFiles.{OpenFiles}
use Rattle.res_files.specs.Standing.{StandOn, files_on}
use Rattle.res_files.proofs.Opened.{within, stand_kept, stand_more, closed_there, files_kept, seen_more, seen_refused, found_as_read, opens_store, on_err}
use Rattle.res_files.proofs.Crash.{others_stay}
use Rattle.res_files.proofs.Using.{none_failed}
use Rattle.std.proofs.lemmas.List.{length-set}
use Rattle.res_files.specs.FilesOn.{FilesOn}
use Rattle.res_files.proofs.files.ResourceFiles.open.Goals as goal

pub invariant_of-self : goal.invariant_of-self
invariant_of-self g c =
    stand_kept g.S.ForkStore c.self.inside.chain c.self.inside.loads c.self.inside.stores.items c.args.self.now c.self.view_is c.args.number c.requires.there.0 c.requires.there.1 c.index_mut-store.result.now c.read_table.new.store c.index_mut-store.ensures.value c.read_table.result c.read_table.ensures.reads c.self.invariant

pub returns-in_err-code_of-in-Err-clause-full : goal.returns-in_err-code_of-in-Err-clause-full
returns-in_err-code_of-in-Err-clause-full g c =
    on_err c.from_residual.result _ (files_kept g.S.ForkStore c.self.inside.chain c.self.inside.loads c.self.inside.stores.items c.args.self.now c.self.view_is c.args.number c.requires.there.0 c.requires.there.1 c.index_mut-store.result.now c.read_table.new.store c.index_mut-store.ensures.value c.read_table.result c.read_table.ensures.reads c.self.invariant c.requires.closed)

pub invariant_of-self-in-Err : goal.invariant_of-self-in-Err
invariant_of-self-in-Err g c =
    stand_kept g.S.ForkStore c.self.inside.chain c.self.inside.loads c.self.inside.stores.items c.args.self.now c.self.view_is c.args.number c.requires.there.0 c.requires.there.1 c.index_mut-store.result.now c.read_table.new.store c.index_mut-store.ensures.value c.read_table.result c.read_table.ensures.reads c.self.invariant

pub returns-in-Err-clause-refused : goal.returns-in-Err-clause-refused
returns-in-Err-clause-refused g c =
    seen_refused g.S.ForkStore c.self.inside.chain c.self.inside.loads c.self.inside.stores.items c.args.self.now c.self.view_is c.args.number c.requires.there.0 c.requires.there.1 c.index_mut-store.result.now c.read_table.new.store c.index_mut-store.ensures.value c.read_table.result c.read_table.ensures.reads g.S.ForkStore.failures c.in-Err.fault c.in_ok-code_of-in-Err.field-0 c.in_ok-code_of-in-Err.ensures (λ h. (c.in-Err.ensures.reads h).refuses) c.in-Err.ensures.cause

pub returns-in-Err-clause-same : goal.returns-in-Err-clause-same
returns-in-Err-clause-same g c =
    files_kept g.S.ForkStore c.self.inside.chain c.self.inside.loads c.self.inside.stores.items c.args.self.now c.self.view_is c.args.number c.requires.there.0 c.requires.there.1 c.index_mut-store.result.now c.read_table.new.store c.index_mut-store.ensures.value c.read_table.result c.read_table.ensures.reads c.self.invariant c.requires.closed

pub invariant_of-self-in_err-open : goal.invariant_of-self-in_err-open
invariant_of-self-in_err-open g c =
    subst (λ (chain : OpenFiles Place). StandOn g.S.ForkStore.fork g.S.ForkStore.is_ready g.S.ForkStore.is_honest (set c.self.inside.stores.items (c.args.number - 1) c.read_table.new.store) chain) (sym c.in_err-open.ensures.same) (stand_kept g.S.ForkStore c.self.inside.chain c.self.inside.loads c.self.inside.stores.items c.args.self.now c.self.view_is c.args.number c.requires.there.0 c.requires.there.1 c.index_mut-store.result.now c.read_table.new.store c.index_mut-store.ensures.value c.read_table.result c.read_table.ensures.reads c.self.invariant)

pub returns-in_err-open-clause-full : goal.returns-in_err-open-clause-full
returns-in_err-open-clause-full g c =
    on_err _ _ (ap (files_on (map g.S.ForkStore.fork (set c.self.inside.stores.items (c.args.number - 1) c.read_table.new.store))) c.in_err-open.ensures.same ∙ files_kept g.S.ForkStore c.self.inside.chain c.self.inside.loads c.self.inside.stores.items c.args.self.now c.self.view_is c.args.number c.requires.there.0 c.requires.there.1 c.index_mut-store.result.now c.read_table.new.store c.index_mut-store.ensures.value c.read_table.result c.read_table.ensures.reads c.self.invariant c.requires.closed)

pub invariant_of-self-2 : goal.invariant_of-self-2
invariant_of-self-2 g c =
    subst (λ (chain : OpenFiles Place). StandOn g.S.ForkStore.fork g.S.ForkStore.is_ready g.S.ForkStore.is_honest (set c.self.inside.stores.items (c.args.number - 1) c.read_table.new.store) chain) (sym c.in_ok-open.ensures.opened)
    (stand_more g.S.ForkStore c.self.inside.chain c.self.inside.loads c.self.inside.stores.items c.args.self.now c.self.view_is c.args.number c.requires.there.0 c.requires.there.1 c.index_mut-store.result.now c.read_table.new.store c.index_mut-store.ensures.value c.read_table.result c.read_table.ensures.reads c.in-Ok.table (closed_there g.S.ForkStore c.self.inside.chain c.self.inside.loads c.self.inside.stores.items c.args.self.now c.self.view_is c.args.number c.requires.there.0 c.requires.there.1 c.index_mut-store.result.now c.read_table.new.store c.index_mut-store.ensures.value c.read_table.result c.read_table.ensures.reads c.requires.closed) c.in-Ok.ensures.small (λ h. (c.in-Ok.ensures.reads h).inside) (λ h. (c.in-Ok.ensures.reads h).ready) c.self.invariant)

pub returns-clause-opened : goal.returns-clause-opened
returns-clause-opened g c =
    seen_more g.S.ForkStore c.self.inside.chain c.self.inside.loads c.self.inside.stores.items c.args.self.now c.self.view_is c.args.number c.requires.there.0 c.requires.there.1 c.index_mut-store.result.now c.read_table.new.store c.index_mut-store.ensures.value c.read_table.result c.read_table.ensures.reads c.in-Ok.table c.open.new.self c.in_ok-open.ensures.opened c.self.invariant c.requires.closed c.in-Ok.ensures.opening (λ h. (c.in-Ok.ensures.reads h).reads)

pub returns-in_err-open-clause-count : goal.returns-in_err-open-clause-count
returns-in_err-open-clause-count g c = length-set c.self.inside.stores.items (c.args.number - 1) c.read_table.new.store ∙ ap (λ (on : FilesOn _). length on.stores) c.self.view_is

pub returns-in_err-code_of-in-Err-clause-count : goal.returns-in_err-code_of-in-Err-clause-count
returns-in_err-code_of-in-Err-clause-count g c = length-set c.self.inside.stores.items (c.args.number - 1) c.read_table.new.store ∙ ap (λ (on : FilesOn _). length on.stores) c.self.view_is

pub returns-clause-count : goal.returns-clause-count
returns-clause-count g c = length-set c.self.inside.stores.items (c.args.number - 1) c.read_table.new.store ∙ ap (λ (on : FilesOn _). length on.stores) c.self.view_is

pub returns-in-Err-clause-count : goal.returns-in-Err-clause-count
returns-in-Err-clause-count g c = length-set c.self.inside.stores.items (c.args.number - 1) c.read_table.new.store ∙ ap (λ (on : FilesOn _). length on.stores) c.self.view_is

pub returns-clause-works : goal.returns-clause-works
returns-clause-works g c =
    none_failed g.S.ForkStore.fork g.S.ForkStore.is_honest c.self.inside.chain c.self.inside.loads c.self.inside.stores.items c.args.self.now c.self.view_is (c.args.number - 1) (within g.S.ForkStore c.self.inside.chain c.self.inside.loads c.self.inside.stores.items c.args.self.now c.self.view_is c.args.number c.requires.there.0 c.requires.there.1 c.index_mut-store.result.now c.read_table.new.store c.index_mut-store.ensures.value c.read_table.result c.read_table.ensures.reads) c.index_mut-store.result.now c.read_table.new.store c.index_mut-store.ensures.value g.S.ForkStore.failures c.in-Ok.ensures.cause

pub returns-in_err-code_of-in-Err-clause-opens : goal.returns-in_err-code_of-in-Err-clause-opens
returns-in_err-code_of-in-Err-clause-opens g c = opens_store g.S.ForkStore c.self.inside.chain c.self.inside.loads c.self.inside.stores.items c.args.self.now c.self.view_is c.args.number c.requires.there.0 c.requires.there.1 c.index_mut-store.result.now c.read_table.new.store c.index_mut-store.ensures.value c.read_table.result c.read_table.ensures.reads _ (λ _. search rules)

pub returns-in-Err-clause-opens : goal.returns-in-Err-clause-opens
returns-in-Err-clause-opens g c = opens_store g.S.ForkStore c.self.inside.chain c.self.inside.loads c.self.inside.stores.items c.args.self.now c.self.view_is c.args.number c.requires.there.0 c.requires.there.1 c.index_mut-store.result.now c.read_table.new.store c.index_mut-store.ensures.value c.read_table.result c.read_table.ensures.reads _ (λ _. tt)

pub returns-in_err-open-clause-opens : goal.returns-in_err-open-clause-opens
returns-in_err-open-clause-opens g c = opens_store g.S.ForkStore c.self.inside.chain c.self.inside.loads c.self.inside.stores.items c.args.self.now c.self.view_is c.args.number c.requires.there.0 c.requires.there.1 c.index_mut-store.result.now c.read_table.new.store c.index_mut-store.ensures.value c.read_table.result c.read_table.ensures.reads _ (λ _. search rules)

pub returns-clause-opens : goal.returns-clause-opens
returns-clause-opens g c = opens_store g.S.ForkStore c.self.inside.chain c.self.inside.loads c.self.inside.stores.items c.args.self.now c.self.view_is c.args.number c.requires.there.0 c.requires.there.1 c.index_mut-store.result.now c.read_table.new.store c.index_mut-store.ensures.value c.read_table.result c.read_table.ensures.reads _ (found_as_read g.S.ForkStore c.self.inside.chain c.self.inside.loads c.self.inside.stores.items c.args.self.now c.self.view_is c.args.number c.requires.there.0 c.requires.there.1 c.index_mut-store.result.now c.read_table.new.store c.index_mut-store.ensures.value c.read_table.result c.read_table.ensures.reads (λ h. (c.in-Ok.ensures.reads h).ready))

pub returns-in_err-code_of-in-Err-clause-others : goal.returns-in_err-code_of-in-Err-clause-others
returns-in_err-code_of-in-Err-clause-others g c = others_stay g.S.ForkStore.fork g.S.ForkStore.is_honest g.S.ForkStore.history c.self.inside.chain c.self.inside.loads c.self.inside.stores.items c.args.self.now c.self.view_is c.args.number (within g.S.ForkStore c.self.inside.chain c.self.inside.loads c.self.inside.stores.items c.args.self.now c.self.view_is c.args.number c.requires.there.0 c.requires.there.1 c.index_mut-store.result.now c.read_table.new.store c.index_mut-store.ensures.value c.read_table.result c.read_table.ensures.reads) c.index_mut-store.result.now c.read_table.new.store c.index_mut-store.ensures.value c.requires.there.0

pub returns-in-Err-clause-others : goal.returns-in-Err-clause-others
returns-in-Err-clause-others g c = others_stay g.S.ForkStore.fork g.S.ForkStore.is_honest g.S.ForkStore.history c.self.inside.chain c.self.inside.loads c.self.inside.stores.items c.args.self.now c.self.view_is c.args.number (within g.S.ForkStore c.self.inside.chain c.self.inside.loads c.self.inside.stores.items c.args.self.now c.self.view_is c.args.number c.requires.there.0 c.requires.there.1 c.index_mut-store.result.now c.read_table.new.store c.index_mut-store.ensures.value c.read_table.result c.read_table.ensures.reads) c.index_mut-store.result.now c.read_table.new.store c.index_mut-store.ensures.value c.requires.there.0

pub returns-in_err-open-clause-others : goal.returns-in_err-open-clause-others
returns-in_err-open-clause-others g c = others_stay g.S.ForkStore.fork g.S.ForkStore.is_honest g.S.ForkStore.history c.self.inside.chain c.self.inside.loads c.self.inside.stores.items c.args.self.now c.self.view_is c.args.number (within g.S.ForkStore c.self.inside.chain c.self.inside.loads c.self.inside.stores.items c.args.self.now c.self.view_is c.args.number c.requires.there.0 c.requires.there.1 c.index_mut-store.result.now c.read_table.new.store c.index_mut-store.ensures.value c.read_table.result c.read_table.ensures.reads) c.index_mut-store.result.now c.read_table.new.store c.index_mut-store.ensures.value c.requires.there.0

pub returns-clause-others : goal.returns-clause-others
returns-clause-others g c = others_stay g.S.ForkStore.fork g.S.ForkStore.is_honest g.S.ForkStore.history c.self.inside.chain c.self.inside.loads c.self.inside.stores.items c.args.self.now c.self.view_is c.args.number (within g.S.ForkStore c.self.inside.chain c.self.inside.loads c.self.inside.stores.items c.args.self.now c.self.view_is c.args.number c.requires.there.0 c.requires.there.1 c.index_mut-store.result.now c.read_table.new.store c.index_mut-store.ensures.value c.read_table.result c.read_table.ensures.reads) c.index_mut-store.result.now c.read_table.new.store c.index_mut-store.ensures.value c.requires.there.0
