-- Files that are ready to be written, and that they are saved.
use Rattle.std.specs.Prelude.{◌≡◌, ◌≢◌, ◌⊎◌, ℕ, List, [], Option, codes, string_bytes}
use Rattle.file_replace.specs.declared.calls.HeldCall.{HeldCall}
use Rattle.file_replace.specs.declared.prepared.Prepared.{Prepared}
use Rattle.file_replace.specs.declared.prepared.Prepared.TheVariants as prepared
use Rattle.file_replace.specs.declared.rights.Owner.{Owner}
use Rattle.file_replace.specs.declared.rights.Rights.{Rights}
use Rattle.file_replace.specs.Replacing.{prepared_calls}
use Rattle.file_acts.specs.declared.message.Problem.{Problem}
use Rattle.file_acts.specs.declared.message.Problem.TheVariants as problem
use Rattle.file_acts.specs.Acts.{Log}
use Rattle.file_acts.specs.Saved.{ArePut, JustRead, JustSaved, SavedAndSaid}
use Rattle.fork_saves.specs.declared.ready.Ready.{Ready}
use Rattle.fork_saves.specs.declared.ready.Ready.TheVariants as ready

-- the path at which a file is put; "-" is the standard output
abbrev pub ready_path : Ready → List ℕ
ready_path (ready.Output bytes) = codes "-"
ready_path (ready.File file) = file.path.now

-- These bytes are whole and synced in a file beside its path; or they are to be written to what is no regular file.
abbrev pub IsOf : {F : Type 0} → List ℕ → Prepared F → Type 0
IsOf bytes prepared.Unchanged = ⊥
IsOf bytes (prepared.File file) = (rights : Option Rights) × (now : Owner) × (file.place.log.events ≡ prepared_calls rights now bytes [])
IsOf bytes (prepared.Stream stream) = stream.bytes.now ≡ bytes

-- these bytes are ready to be written
abbrev pub IsReadyOf : List ℕ → Ready → Type 0
IsReadyOf bytes (ready.Output out) = out.now ≡ bytes
IsReadyOf bytes (ready.File file) = IsOf bytes file.prepared

abbrev pub IsWhole : Ready → Type 0
IsWhole it = (bytes : List ℕ) × IsReadyOf bytes it

-- they aren't for the standard output
abbrev pub IsForPath : Ready → Type 0
IsForPath it = ready_path it ≢ codes "-"

-- they were put so, or nothing had to be done: the file had them before
abbrev pub AreRenewed : List ℕ → List ℕ → List HeldCall → Type 0
AreRenewed before after calls = ((before ≡ after) × (calls ≡ [])) ⊎ ArePut after calls

-- what was ready is saved now
abbrev pub SavesReady : Ready → Log → Type 0
SavesReady it new = (bytes : List ℕ) → IsReadyOf bytes it → JustSaved bytes new

-- a file was saved, or it was read, and nothing had to change
abbrev pub EndsSaved : Log → Type 0
EndsSaved new = (bytes : List ℕ) × (SavedAndSaid bytes new ⊎ JustRead bytes new)

-- why bytes aren't written to a file of this name, or to the standard output, which "-" is
abbrev pub IsNotSaved : List ℕ → Problem → Type 0
IsNotSaved path problem.Terminal = path ≡ codes "-"
IsNotSaved path (problem.Print error) = path ≡ codes "-"
IsNotSaved path (problem.Output name error) = (path ≢ codes "-") × (string_bytes name ≡ path)
IsNotSaved path problem.HostFull = path ≢ codes "-"
IsNotSaved path other = ⊥
