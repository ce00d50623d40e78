use Rattle.std.proofs.Common.{◌≡◌, refl, ◌<◌, ◌+◌, ◌-◌, ◌∙◌, [], ap, length, arith}
use Rattle.fork_bytes.specs.Fork.{bytes_at}
use Rattle.fork_disk.specs.Disk.{Rose}
use Rattle.res_files.proofs.Stands.{row_stands, store_stands}
use Rattle.res_files.proofs.RowBytes.{none_read, within_read, part_read}
use Rattle.res_files.proofs.On.{ok_then}
use Rattle.res_files.proofs.Using.{match_then, mine, files_answer, same_honest, same_values, stand_still, none_failed, this_failed}
use Rattle.std.proofs.lemmas.List.{length-set}
use Rattle.res_files.specs.FilesOn.{FilesOn}
use Rattle.res_files.proofs.files.ResourceFiles.read_part.Goals as goal

pub overflow_sub-place : goal.overflow_sub-place
overflow_sub-place g c = (row_stands g.S.ForkStore.fork g.S.ForkStore.is_ready g.S.ForkStore.is_honest c.self.inside.stores.items c.args.place c.self.inside.chain c.in-Some.row.now c.self.invariant c.in-Some.ensures.some).0

pub index_mut-store-requires : goal.index_mut-store-requires
index_mut-store-requires g c =
    let stands = row_stands g.S.ForkStore.fork g.S.ForkStore.is_ready g.S.ForkStore.is_honest c.self.inside.stores.items c.args.place c.self.inside.chain c.in-Some.row.now c.self.invariant c.in-Some.ensures.some in
    let within : c.args.place.file - 1 < length c.self.inside.stores.items = omega (arith, stands.0, stands.1) in
    let ok = c.self.inside.stores.ok.0 in omega arith

pub invariant_of-self : goal.invariant_of-self
invariant_of-self g c =
    let stands = row_stands g.S.ForkStore.fork g.S.ForkStore.is_ready g.S.ForkStore.is_honest c.self.inside.stores.items c.args.place c.self.inside.chain c.in-Some.row.now c.self.invariant c.in-Some.ensures.some in
    let within : c.args.place.file - 1 < length c.self.inside.stores.items = omega (arith, stands.0, stands.1) in
    stand_still g.S.ForkStore.fork g.S.ForkStore.is_honest c.self.inside.chain c.self.inside.loads c.self.inside.stores.items c.args.self.now c.self.view_is (c.args.place.file - 1) within c.index_mut-store.result.now c.read_at.new.self c.index_mut-store.ensures.value g.S.ForkStore.is_ready (λ h. (c.read_at.ensures.reads h).keeps.honest) (λ h. (c.read_at.ensures.reads h).keeps.same) (λ h. (c.read_at.ensures.reads h).keeps.ready) c.self.invariant

pub returns-clause-files : goal.returns-clause-files
returns-clause-files g c =
    let stands = row_stands g.S.ForkStore.fork g.S.ForkStore.is_ready g.S.ForkStore.is_honest c.self.inside.stores.items c.args.place c.self.inside.chain c.in-Some.row.now c.self.invariant c.in-Some.ensures.some in
    let within : c.args.place.file - 1 < length c.self.inside.stores.items = omega (arith, stands.0, stands.1) in
    files_answer g.S.ForkStore.fork g.S.ForkStore.is_honest c.self.inside.chain c.self.inside.loads c.self.inside.stores.items c.args.self.now c.self.view_is (c.args.place.file - 1) within c.index_mut-store.result.now c.read_at.new.self c.index_mut-store.ensures.value (λ h. (c.read_at.ensures.reads h).keeps.same)

pub returns-clause-cause : goal.returns-clause-cause
returns-clause-cause g c =
    let stands = row_stands g.S.ForkStore.fork g.S.ForkStore.is_ready g.S.ForkStore.is_honest c.self.inside.stores.items c.args.place c.self.inside.chain c.in-Some.row.now c.self.invariant c.in-Some.ensures.some in
    let within : c.args.place.file - 1 < length c.self.inside.stores.items = omega (arith, stands.0, stands.1) in
    match_then c.read_at.result (g.S.ForkStore.failures c.read_at.new.self ≡ g.S.ForkStore.failures c.index_mut-store.result.now)
    (Rose (g.S.ForkStore.failures c.index_mut-store.result.now) (g.S.ForkStore.failures c.read_at.new.self)) _ _ c.read_at.ensures.cause
    (none_failed g.S.ForkStore.fork g.S.ForkStore.is_honest c.self.inside.chain c.self.inside.loads c.self.inside.stores.items c.args.self.now c.self.view_is (c.args.place.file - 1) within c.index_mut-store.result.now c.read_at.new.self c.index_mut-store.ensures.value g.S.ForkStore.failures) (this_failed g.S.ForkStore.fork g.S.ForkStore.is_honest c.self.inside.chain c.self.inside.loads c.self.inside.stores.items c.args.self.now c.self.view_is (c.args.place.file - 1) within c.index_mut-store.result.now c.read_at.new.self c.index_mut-store.ensures.value g.S.ForkStore.failures)

pub returns-clause-count : goal.returns-clause-count
returns-clause-count g c = length-set c.self.inside.stores.items (c.args.place.file - 1) c.read_at.new.self ∙ ap (λ (on : FilesOn _). length on.stores) c.self.view_is

pub read_at-requires : goal.read_at-requires
read_at-requires g c = λ honest.
    let within = within_read g.S.ForkStore.fork g.S.ForkStore.is_ready g.S.ForkStore.is_honest c.self.inside.chain c.self.inside.loads c.self.inside.stores.items c.args.self.now c.self.view_is c.self.invariant c.args.place c.in-Some.row.now c.args.offset (length c.args.buffer.now) c.in-Some.ensures.some c.requires.within in
    let held = store_stands g.S.ForkStore.fork g.S.ForkStore.is_ready g.S.ForkStore.is_honest c.self.inside.stores.items c.args.place c.self.inside.chain c.in-Some.row.now c.self.invariant c.in-Some.ensures.some c.index_mut-store.result.now c.index_mut-store.ensures.value honest in
    let inside = held.1 in
    record { ready = held.0; there = omega (arith, inside, within) }

pub returns-in_default-clause-reads : goal.returns-in_default-clause-reads
returns-in_default-clause-reads g c = λ honest.
    none_read g.S.ForkStore.fork g.S.ForkStore.is_ready g.S.ForkStore.is_honest c.self.inside.chain c.self.inside.loads c.self.inside.stores.items c.args.self.now c.self.view_is c.self.invariant c.args.place c.args.offset c.args.buffer.now c.args.buffer.now c.in_default.ensures.none

pub returns-clause-reads : goal.returns-clause-reads
returns-clause-reads g c = λ honest.
    let S = g.S.ForkStore in
    let stands = row_stands S.fork S.is_ready S.is_honest c.self.inside.stores.items c.args.place c.self.inside.chain c.in-Some.row.now c.self.invariant c.in-Some.ensures.some in
    let within : c.args.place.file - 1 < length c.self.inside.stores.items = omega (arith, stands.0, stands.1) in
    let row = c.in-Some.row.now in let place = row.resource.datum in let store = c.index_mut-store.result.now in
    let here = c.read_at.ensures.reads (mine S.fork S.is_honest c.self.inside.chain c.self.inside.loads c.self.inside.stores.items c.args.self.now c.self.view_is (c.args.place.file - 1) within store c.read_at.new.self c.index_mut-store.ensures.value honest) in
    ok_then c.read_at.result (c.read_at.new.buffer ≡ bytes_at (length c.args.buffer.now) (place.offset + c.args.offset) (S.fork store)) _ here.read
    (part_read S.fork S.is_ready S.is_honest c.self.inside.chain c.self.inside.loads c.self.inside.stores.items c.args.self.now c.self.view_is c.self.invariant c.args.place row c.args.offset c.args.buffer.now c.read_at.new.buffer c.in-Some.ensures.some store c.index_mut-store.ensures.value
    (store_stands S.fork S.is_ready S.is_honest c.self.inside.stores.items c.args.place c.self.inside.chain row c.self.invariant c.in-Some.ensures.some store c.index_mut-store.ensures.value here.keeps.honest).1
    (within_read S.fork S.is_ready S.is_honest c.self.inside.chain c.self.inside.loads c.self.inside.stores.items c.args.self.now c.self.view_is c.self.invariant c.args.place row c.args.offset (length c.args.buffer.now) c.in-Some.ensures.some c.requires.within))

pub returns-in_default-clause-keeps : goal.returns-in_default-clause-keeps
returns-in_default-clause-keeps g c = λ k honest. record { honest = honest; fork = refl; calm = refl }

pub returns-then-is_empty-clause-keeps : goal.returns-then-is_empty-clause-keeps
returns-then-is_empty-clause-keeps g c = λ k honest. record { honest = honest; fork = refl; calm = refl }

pub returns-clause-keeps : goal.returns-clause-keeps
returns-clause-keeps g c = λ k honest.
    let S = g.S.ForkStore in
    let stands = row_stands S.fork S.is_ready S.is_honest c.self.inside.stores.items c.args.place c.self.inside.chain c.in-Some.row.now c.self.invariant c.in-Some.ensures.some in
    let within : c.args.place.file - 1 < length c.self.inside.stores.items = omega (arith, stands.0, stands.1) in
    let store = c.index_mut-store.result.now in
    record {
      honest = same_honest S.fork S.is_honest c.self.inside.chain c.self.inside.loads c.self.inside.stores.items c.args.self.now c.self.view_is (c.args.place.file - 1) within store c.read_at.new.self c.index_mut-store.ensures.value (λ h. (c.read_at.ensures.reads h).keeps.honest) k honest;
      fork = same_values S.fork S.is_honest c.self.inside.chain c.self.inside.loads c.self.inside.stores.items c.args.self.now c.self.view_is (c.args.place.file - 1) within store c.read_at.new.self c.index_mut-store.ensures.value S.fork [] (λ h. (c.read_at.ensures.reads h).keeps.same) k honest;
      calm = same_values S.fork S.is_honest c.self.inside.chain c.self.inside.loads c.self.inside.stores.items c.args.self.now c.self.view_is (c.args.place.file - 1) within store c.read_at.new.self c.index_mut-store.ensures.value S.history [] (λ h. (c.read_at.ensures.reads h).keeps.calm) k honest;
    }

-- files are as the devices answered where they are the same
pub returns-in_default-clause-files : goal.returns-in_default-clause-files
returns-in_default-clause-files g c = λ known are. refl

pub returns-then-is_empty-clause-files : goal.returns-then-is_empty-clause-files
returns-then-is_empty-clause-files g c = λ known are. refl
