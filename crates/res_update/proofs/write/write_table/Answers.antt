use Rattle.std.proofs.Common.{◌≤◌, ◌≡◌, ◌∙◌, List, [], ℕ, Ok, Err, Bool, true, length, refl, sym, subst}
use Rattle.std.specs.Prelude.{All, IsErrOf, IsFalse}
use Rattle.fork_disk.specs.declared.store.ReplaceFault.{ReplaceFault}
use Rattle.res_update.specs.declared.fault.UpdateFault.{UpdateFault}
use Rattle.res_update.specs.declared.fault.UpdateFault.TheVariants.{Device, HostFull, TooBig}
use Rattle.res_update.specs.Placed.{IsInside}
use Rattle.res_update.proofs.Placing.{seen_draft, kept_within, places_near, places_each, fits_is, kept_found, gathered_is, places_read, places_within}
use Rattle.res_update.proofs.ReadAgain.{stands_again}
use Rattle.res_update.proofs.Replacing.{replaced_as, failed_as, unasked}
use Rattle.fork_bytes.specs.Fork.{max_fork}
use Rattle.res_update.proofs.write.write_table.Goals as goal

-- no other answer says that the fork is too big
host_full : {A P : Type 0} → IsErrOf {T = A} {E = UpdateFault} (Err HostFull) TooBig → P
host_full told = absurd (cc told)

no_fault : {A P : Type 0} (x : A) → IsErrOf {T = A} {E = UpdateFault} (Ok x) TooBig → P
no_fault x told = absurd (cc told)

device_faults : {A P : Type 0} (fault : ReplaceFault) → IsErrOf {T = A} {E = UpdateFault} (Err (Device fault)) TooBig → P
device_faults fault told = absurd (cc told)

-- nor does the fork, which fits
unfit_never : {P : Type 0} (fits : Bool) → fits ≡ true → IsFalse fits → P
unfit_never fits fit unfit = absurd (cc (unfit, fit))

-- no device is asked
too_big_is_none : (told : ReplaceFault) → TooBig ≡ Device told → ⊥
too_big_is_none told is = cc

host_full_is_none : (told : ReplaceFault) → HostFull ≡ Device told → ⊥
host_full_is_none told is = cc

pub returns-then-not-fits-clause-writes : goal.returns-then-not-fits-clause-writes
returns-then-not-fits-clause-writes g c = λ honest. record { replaces = unasked g.S.ForkStore c.args.store.now _ TooBig too_big_is_none honest; stands = tt; inside = tt }

pub returns-then-not-fits-clause-too_big : goal.returns-then-not-fits-clause-too_big
returns-then-not-fits-clause-too_big g c =
    (λ _. sym (fits_is (g.C.Contents.table c.args.contents.now) c.args.selection c.args.table.now [] [] [] _) ∙ (sym c.fits.ensures ∙ c.if-not-fits.true), λ _. refl)

pub returns-in_default-clause-writes : goal.returns-in_default-clause-writes
returns-in_default-clause-writes g c = λ honest. record { replaces = unasked g.S.ForkStore c.args.store.now _ HostFull host_full_is_none honest; stands = tt; inside = tt }

pub returns-in_default-clause-too_big : goal.returns-in_default-clause-too_big
returns-in_default-clause-too_big g c =
    let fit = sym (fits_is (g.C.Contents.table c.args.contents.now) c.args.selection c.args.table.now [] [] [] (g.S.ForkStore.fork c.args.store.now)) ∙ (sym c.fits.ensures ∙ c.if-not-fits.false) in
    (host_full, unfit_never _ fit)

pub returns-in-Ok-update-clause-too_big : goal.returns-in-Ok-update-clause-too_big
returns-in-Ok-update-clause-too_big g c =
    let fit = sym (fits_is (g.C.Contents.table c.args.contents.now) c.args.selection c.args.table.now [] [] [] (g.S.ForkStore.fork c.args.store.now)) ∙ (sym c.fits.ensures ∙ c.if-not-fits.false) in
    (no_fault _, unfit_never _ fit)

pub returns-in-Err-clause-too_big : goal.returns-in-Err-clause-too_big
returns-in-Err-clause-too_big g c =
    let fit = sym (fits_is (g.C.Contents.table c.args.contents.now) c.args.selection c.args.table.now [] [] [] (g.S.ForkStore.fork c.args.store.now)) ∙ (sym c.fits.ensures ∙ c.if-not-fits.false) in
    (device_faults c.in-Err.fault, unfit_never _ fit)

pub update-requires-clause-inside : goal.update-requires-clause-inside
update-requires-clause-inside g c = kept_within _ _ _ _ _ _ (seen_draft _ _ _ _ _ _ _ _ c.in-Ok.ensures.draft c.deref_mut.ensures.value c.deref.ensures.value)

pub update-requires-clause-there : goal.update-requires-clause-there
update-requires-clause-there g c = λ honest.
    let held = c.requires.held honest in
    record { ready = held.0; there = kept_found _ _ _ _ _ _ _ held.1 (seen_draft _ _ _ _ _ _ _ _ c.in-Ok.ensures.draft c.deref_mut.ensures.value c.deref.ensures.value) }

pub returns-in-Ok-update-clause-writes : goal.returns-in-Ok-update-clause-writes
returns-in-Ok-update-clause-writes g c = λ honest.
    let is = seen_draft _ _ _ _ _ _ _ _ c.in-Ok.ensures.draft c.deref_mut.ensures.value c.deref.ensures.value in
    let update = (c.in-Ok-update.ensures.updates honest).replaces in
    let replaces = replaced_as g.S.ForkStore _ _ _ _ (gathered_is _ _ _ _ _ _ _ (c.requires.held update.honest).1 is) _ c.in-Ok.draft.places update in
    let small = subst (λ (xs : List ℕ). length xs ≤ max_fork) c.in-Ok.ensures.draft.bytes_are c.in-Ok.ensures.draft.small in
    let P : List ℕ → Type 0 = λ fork. All (IsInside fork) c.in-Ok.draft.places.items in
    record {
      replaces = replaces;
      stands = stands_again (g.C.Contents.table c.args.contents.now) c.args.selection c.args.table.now (g.S.ForkStore.fork c.args.store.now) c.fork_laws.ensures.read_again c.in-Ok.ensures.table c.in-Ok.ensures.fits small _ replaces.replaced;
      inside = subst P (sym replaces.replaced) (places_within _ _ _ _ _ _ _ is);
    }

pub returns-in-Ok-update-clause-places : goal.returns-in-Ok-update-clause-places
returns-in-Ok-update-clause-places g c = places_read _ _ _ _ _ _ _ (seen_draft _ _ _ _ _ _ _ _ c.in-Ok.ensures.draft c.deref_mut.ensures.value c.deref.ensures.value)

pub returns-in-Ok-update-clause-near : goal.returns-in-Ok-update-clause-near
returns-in-Ok-update-clause-near g c = places_near _ _ _ _ _ _ c.in-Ok.ensures.draft

pub returns-in-Ok-update-clause-each : goal.returns-in-Ok-update-clause-each
returns-in-Ok-update-clause-each g c = places_each _ _ _ _ _ _ c.in-Ok.ensures.draft

pub returns-in-Err-clause-writes : goal.returns-in-Err-clause-writes
returns-in-Err-clause-writes g c = λ honest.
    let is = seen_draft _ _ _ _ _ _ _ _ c.in-Ok.ensures.draft c.deref_mut.ensures.value c.deref.ensures.value in
    let update = (c.in-Err.ensures.updates honest).replaces in
    record { replaces = failed_as g.S.ForkStore _ _ _ _ (gathered_is _ _ _ _ _ _ _ (c.requires.held update.honest).1 is) c.in-Err.fault update; stands = tt; inside = tt }
