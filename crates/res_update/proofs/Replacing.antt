-- A replacement whose faults are reported as those of an update.
use Rattle.std.proofs.Common.{refl, ap, subst, ◌≡◌, List, ℕ, Ok, Err}
use Rattle.std.specs.Prelude.{IsErrOf}
use Rattle.fork_disk.specs.declared.store.ForkStore.{Ghosts}
use Rattle.fork_disk.specs.declared.store.ReplaceFault.{ReplaceFault}
use Rattle.fork_disk.specs.declared.store.ReplaceFault.TheVariants.{BeforeFirstWrite, Later}
use Rattle.fork_disk.specs.Stores.{Replaces}
use Rattle.fork_disk.proofs.Crash.{finds_before_or}
use Rattle.res_update.specs.declared.fault.UpdateFault.{UpdateFault}
use Rattle.res_update.specs.declared.fault.UpdateFault.TheVariants.{Device}

-- the device's fault in the answer is that of the replacement
device_fault : {T U : Type 0} (fault told : ReplaceFault) → IsErrOf {T = T} {E = UpdateFault} (Err (Device fault)) (Device told) → IsErrOf {T = U} {E = ReplaceFault} (Err fault) told
device_fault fault told is = let same : fault ≡ told = cc in ap (λ (e : _). Err e) same

module _ {S : Type 0} (store : Ghosts S) (old new : S) (this that : List ℕ) (same : this ≡ that) {T U : Type 0} where
  -- it succeeded
  pub replaced_as : (x : T) (y : U) → Replaces store old new BeforeFirstWrite Later this (Ok x) → Replaces store old new (Device BeforeFirstWrite) (Device Later) that (Ok y)
  replaced_as x y done =
      let r = subst (λ (fork : List ℕ). Replaces store old new BeforeFirstWrite Later fork (Ok x)) same done in record {
        honest = r.honest;
        replaced = r.replaced;
        ready = r.ready;
        stable = r.stable;
        before = λ told. absurd (cc told);
        left = λ told. absurd (cc told);
        any_moment = r.any_moment;
      }

  -- it failed
  pub failed_as : (fault : ReplaceFault) → Replaces {T = T} store old new BeforeFirstWrite Later this (Err fault) → Replaces {T = U} store old new (Device BeforeFirstWrite) (Device Later) that (Err (Device fault))
  failed_as fault failed =
      let P : List ℕ → Type 0 = λ fork. Replaces {T = T} store old new BeforeFirstWrite Later fork (Err fault) in
      let r = subst P same failed in record {
        honest = r.honest;
        replaced = tt;
        ready = tt;
        stable = tt;
        before = λ told. r.before (device_fault fault BeforeFirstWrite told);
        left = λ told. r.left (device_fault fault Later told);
        any_moment = r.any_moment;
      }

-- the store was not asked
pub unasked : {S T : Type 0} (store : Ghosts S) (s : S) (this : List ℕ) (fault : UpdateFault) → ((told : ReplaceFault) → fault ≡ Device told → ⊥) → store.is_honest s
    → Replaces {T = T} store s s (Device BeforeFirstWrite) (Device Later) this (Err fault)
unasked store s this fault other honest = record {
  honest = honest;
  replaced = tt;
  ready = tt;
  stable = tt;
  before = λ told. absurd (other BeforeFirstWrite (cc told));
  left = λ told. absurd (other Later (cc told));
  any_moment = finds_before_or store.may_find this (store.history s) (store.history s) refl;
}
