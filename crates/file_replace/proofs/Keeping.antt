-- What was done at a place of the host, from its first call on.
use Rattle.std.proofs.Common.{◌≡◌, ℕ, List, [], Option, Result, Err, sym, subst}
use Rattle.std.specs.declared.io.Error.{Error}
use Rattle.file_replace.specs.declared.pair.PairFault.{PairFault}
use Rattle.file_replace.specs.declared.place.FolderSync.{FolderSync}
use Rattle.file_replace.specs.declared.prepared.NotBoth.{NotBoth}
use Rattle.file_replace.specs.declared.prepared.NotBoth.TheVariants.{First, Second}
use Rattle.file_replace.specs.declared.replacement.Fault.{Fault}
use Rattle.file_replace.specs.declared.rights.Owner.{Owner}
use Rattle.file_replace.specs.declared.rights.Rights.{Rights}
use Rattle.file_replace.specs.declared.told.NotReplaced.TheVariants as refusals
use Rattle.file_replace.specs.Calls.{HeldAt, seen_at}
use Rattle.file_replace.specs.Held.{EndsBoth, IsPrepared}
use Rattle.file_replace.specs.Place.{Answered, IfHonest}
use Rattle.file_replace.specs.Replacing.{CallsOf, CallsToPrepare, Prepares, ReplacesFile}

module _ (there : HeldAt) (rights : Option Rights) (bytes : List ℕ) (start calls : List Answered) (first : start ≡ []) where
  pub prepared : (result : Result (Option Owner) (Fault Error)) → CallsToPrepare rights bytes result start calls → IfHonest (Prepares rights bytes result) (seen_at there start) (seen_at there calls) → IsPrepared there rights bytes result calls
  prepared result made prepares = (subst (λ (s : List Answered). CallsToPrepare rights bytes result s calls) first made, subst (λ (s : List Answered). IfHonest (Prepares rights bytes result) (seen_at there s) (seen_at there calls)) first prepares)

  pub replaced : (result : Result FolderSync (Fault Error)) → CallsOf rights bytes result start calls → IfHonest (ReplacesFile rights bytes result) (seen_at there start) (seen_at there calls)
      → CallsOf rights bytes result [] calls × IfHonest (ReplacesFile rights bytes result) (seen_at there []) (seen_at there calls)
  replaced result made replaces = (subst (λ (s : List Answered). CallsOf rights bytes result s calls) first made, subst (λ (s : List Answered). IfHonest (ReplacesFile rights bytes result) (seen_at there s) (seen_at there calls)) first replaces)

-- what is true of an end is true of it as it is reported
module _ (P : Result (FolderSync × FolderSync) (PairFault Error Error) → Type 0) (fault : PairFault Error Error) where
  pub ends : (refusal : NotBoth) → EndsBoth (λ end. end ≡ Err fault) (Err refusal) → P (Err fault) → EndsBoth P (Err refusal)
  ends (First (refusals.Stopped stop) left) is has = (subst P (sym is.0) has, is.1)
  ends (First (refusals.Open error) left) is has = absurd is
  ends (First refusals.NotAFile left) is has = absurd is
  ends (First refusals.InUse left) is has = absurd is
  ends (First refusals.Moved left) is has = absurd is
  ends (First (refusals.NoBackup name stop) left) is has = absurd is
  ends (First (refusals.Stream error) left) is has = absurd is
  ends (First refusals.HostFull left) is has = absurd is
  ends (Second (refusals.Stopped stop)) is has = subst P (sym is) has
  ends (Second (refusals.Open error)) is has = absurd is
  ends (Second refusals.NotAFile) is has = absurd is
  ends (Second refusals.InUse) is has = absurd is
  ends (Second refusals.Moved) is has = absurd is
  ends (Second (refusals.NoBackup name stop)) is has = absurd is
  ends (Second (refusals.Stream error)) is has = absurd is
  ends (Second refusals.HostFull) is has = absurd is
