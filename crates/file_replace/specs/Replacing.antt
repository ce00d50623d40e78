-- What a replacement does to a place of any kind.
use Rattle.std.specs.Prelude.{◌≡◌, ℕ, ◌⊎◌, Bool, true, false, not, if◌then◌else◌, List, [], ◌∷◌, Option, Some, None, IfSome, is_some, option_map, Result, IfOk, IfErr, OnOk, MatchResult}
use Rattle.fork_disk.specs.Crash.{AlwaysFinds, Finds}
use Rattle.fork_disk.specs.Disk.{Rose}
use Rattle.file_replace.specs.declared.calls.Call.TheVariants as calls
use Rattle.file_replace.specs.declared.place.PlainFile.{PlainFile}
use Rattle.file_replace.specs.declared.place.FolderSync.{FolderSync}
use Rattle.file_replace.specs.declared.place.FolderSync.TheVariants.{Done, NotOffered}
use Rattle.file_replace.specs.declared.place.Event.TheVariants.{Asked}
use Rattle.file_replace.specs.declared.replacement.Fault.{Fault}
use Rattle.file_replace.specs.declared.replacement.Stopped.{Stopped}
use Rattle.file_replace.specs.declared.replacement.Step.{Step}
use Rattle.file_replace.specs.declared.replacement.Step.TheVariants.{Create, Write, SetOwner, SetMode, Sync, Check, Rename, SyncFolder}
use Rattle.file_replace.specs.declared.rights.Owner.{Owner}
use Rattle.file_replace.specs.declared.rights.Rights.{Rights}
use Rattle.file_replace.specs.Place.{Answered, History, MayBe, MayLeave, MaySettle, Seen, has_failed}
use Rattle.file_replace.specs.OnPlace.{answered}
use Rattle.file_replace.specs.Rights.{mode_of}

-- a file at a path, or none
abbrev pub Left : Type 0
Left = Option PlainFile

-- a file of these bytes; in the place of an old one of these rights it has the mode that its owner allows
abbrev pub IsNew : Option Rights → List ℕ → Left → Type 0
IsNew old bytes left = (file : PlainFile) × (left ≡ Some file) × (file.bytes ≡ bytes) × IfSome old (λ rights. file.mode ≡ mode_of rights file.owner)

-- there is a file, which belongs to these
abbrev pub BelongsTo : Owner → Left → Type 0
BelongsTo owner left = (file : PlainFile) × (left ≡ Some file) × (file.owner ≡ owner)

-- which file the path has after a step that failed: the old one until the rename, either after that failed, and later
-- the new one, which has P
abbrev pub HasAfter : Step → (Left → Type 0) → Left → Left → Type 0
HasAfter Create P old now = now ≡ old
HasAfter Write P old now = now ≡ old
HasAfter SetOwner P old now = now ≡ old
HasAfter SetMode P old now = now ≡ old
HasAfter Sync P old now = now ≡ old
HasAfter Check P old now = now ≡ old
HasAfter Rename P old now = (now ≡ old) ⊎ P now
HasAfter SyncFolder P old now = P now

-- what a crash might have left before, or the new file, which has P
abbrev pub IsOldOr : History → (Left → Type 0) → Left → Type 0
IsOldOr past P left = MayLeave past left ⊎ P left

-- this file
abbrev pub Is : Left → Left → Type 0
Is this left = left ≡ this

-- the count of failures rose, and rose again
abbrev pub RoseTwice : ℕ → ℕ → Type 0
RoseTwice before now = (between : ℕ) × Rose before between × Rose between now

-- the owner that is asked for, and the mode that is set once the file belongs to the second; without an old file none is
abbrev pub asked_owner : Option Rights → Owner
asked_owner None = record { user = 0; group = 0 }
asked_owner (Some rights) = rights.owner

abbrev pub asked_mode : Option Rights → Owner → ℕ
asked_mode None now = 0
asked_mode (Some rights) now = mode_of rights now

-- the call of a step that failed; a new file in the place of an old one is private until it has its mode
abbrev pub failed_call : Step → Option Rights → Owner → List ℕ → Answered
failed_call Create old now bytes = answered (calls.Create (is_some old)) false []
failed_call Write old now bytes = answered calls.Write false bytes
failed_call SetOwner old now bytes = answered (calls.SetOwner (asked_owner old) (asked_owner old)) false []
failed_call SetMode old now bytes = answered (calls.SetMode (asked_mode old now)) false []
failed_call Sync old now bytes = answered calls.Sync false []
failed_call Check old now bytes = answered calls.Check false []
failed_call Rename old now bytes = answered calls.Rename false []
failed_call SyncFolder old now bytes = answered (calls.SyncFolder NotOffered) false []

-- a file was made and written, after these calls
abbrev pub written_calls : Option Rights → List ℕ → List Answered → List Answered
written_calls old bytes past = answered calls.Write true bytes ∷ answered (calls.Create (is_some old)) true [] ∷ past

-- it was asked to be given the old owner, and belongs to these
abbrev pub owned_calls : Option Rights → Owner → List Answered → List Answered
owned_calls old now past = answered (calls.SetOwner (asked_owner old) now) true [] ∷ past

-- in the place of an old file it gets an owner, and after that the mode that goes with it
abbrev pub dressed_calls : Option Rights → Owner → List Answered → List Answered
dressed_calls None now past = past
dressed_calls (Some rights) now past = answered (calls.SetMode (mode_of rights now)) true [] ∷ answered (calls.SetOwner rights.owner now) true [] ∷ past

-- it was made, written, given its rights and synced
abbrev pub prepared_calls : Option Rights → Owner → List ℕ → List Answered → List Answered
prepared_calls old now bytes past = answered calls.Sync true [] ∷ dressed_calls old now (written_calls old bytes past)

-- the calls of the steps before a step, all done, the last one first, and then what came before them
abbrev pub before_step : Step → Option Rights → Owner → List ℕ → List Answered → List Answered
before_step Create old now bytes past = past
before_step Write old now bytes past = answered (calls.Create (is_some old)) true [] ∷ past
before_step SetOwner old now bytes past = written_calls old bytes past
before_step SetMode old now bytes past = owned_calls old now (written_calls old bytes past)
before_step Sync old now bytes past = dressed_calls old now (written_calls old bytes past)
before_step Check old now bytes past = prepared_calls old now bytes past
before_step Rename old now bytes past = answered calls.Check true [] ∷ prepared_calls old now bytes past
before_step SyncFolder old now bytes past = answered calls.Rename true [] ∷ answered calls.Check true [] ∷ prepared_calls old now bytes past

-- the new file is beside the path in this step
abbrev pub is_beside : Step → Bool
is_beside Create = false
is_beside Write = true
is_beside SetOwner = true
is_beside SetMode = true
is_beside Sync = true
is_beside Check = true
is_beside Rename = true
is_beside SyncFolder = false

-- a file that is beside where a step fails is removed
abbrev pub with_removal : Step → Bool → List Answered → List Answered
with_removal step is_left made = if is_beside step then answered calls.Remove (not is_left) [] ∷ made else made

-- the calls up to a step that failed
abbrev pub FailsAt : {E : Type 0} → Option Rights → Owner → List ℕ → Fault E → List Answered → List Answered → Type 0
FailsAt old now bytes fault past new = new ≡ with_removal fault.step fault.is_left (failed_call fault.step old now bytes ∷ before_step fault.step old now bytes past)

-- a step before the new file is whole, or one after that
abbrev pub is_early : Step → Bool
is_early Create = true
is_early Write = true
is_early SetOwner = true
is_early SetMode = true
is_early Sync = true
is_early Check = false
is_early Rename = false
is_early SyncFolder = false

-- the owner that is reported of a new file: none without an old one
abbrev pub IsTold : Option Rights → Owner → Option Owner → Type 0
IsTold old now told = told ≡ option_map (λ rights. now) old

-- the calls that make a file beside: each step's is done, or one failed after all before it were done, and no later one
-- was made
abbrev pub CallsToPrepare : {E : Type 0} → Option Rights → List ℕ → Result (Option Owner) (Fault E) → List Answered → List Answered → Type 0
CallsToPrepare old bytes result past new = (now : Owner)
    × MatchResult result (λ told. IsTold old now told × (new ≡ prepared_calls old now bytes past)) (λ fault. (is_early fault.step ≡ true) × FailsAt old now bytes fault past new)

-- the calls that give a file its rights, or the one that failed
abbrev pub CallsToDress : {E : Type 0} → Option Rights → Result (Option Owner) (Stopped E) → List Answered → List Answered → Type 0
CallsToDress old result past new = (now : Owner) × MatchResult result (λ told. IsTold old now told × (new ≡ dressed_calls old now past))
    (λ stopped. ((stopped.step ≡ SetOwner) × (new ≡ failed_call SetOwner old now [] ∷ past)) ⊎ ((stopped.step ≡ SetMode) × (new ≡ failed_call SetMode old now [] ∷ owned_calls old now past)))

-- the calls of the steps between the making of a file and its rename, or up to the one that failed
abbrev pub CallsToFill : {E : Type 0} → Option Rights → List ℕ → Result (Option Owner) (Stopped E) → List Answered → List Answered → Type 0
CallsToFill old bytes result made new = (past : List Answered) → made ≡ answered (calls.Create (is_some old)) true [] ∷ past → (now : Owner)
    × MatchResult result (λ told. IsTold old now told × (new ≡ prepared_calls old now bytes past))
    (λ stopped. (is_early stopped.step ≡ true) × (is_beside stopped.step ≡ true) × (new ≡ failed_call stopped.step old now bytes ∷ before_step stopped.step old now bytes past))

-- the calls of the steps from the check to a step, all done, and then what came before them
abbrev pub after_check : Step → List Answered → List Answered
after_check Rename past = answered calls.Check true [] ∷ past
after_check SyncFolder past = answered calls.Rename true [] ∷ answered calls.Check true [] ∷ past
after_check step past = past

-- the calls that put the file beside: the path is asked what it leads to, then comes the rename, and then the folder is
-- synced; or one failed after all before it were done
abbrev pub CallsToPut : {E : Type 0} → Result FolderSync (Fault E) → List Answered → List Answered → Type 0
CallsToPut result past new = MatchResult result (λ answer. new ≡ answered (calls.SyncFolder answer) true [] ∷ after_check SyncFolder past)
    (λ fault. (is_early fault.step ≡ false) × (new ≡ with_removal fault.step fault.is_left (failed_call fault.step None (asked_owner None) [] ∷ after_check fault.step past)))

-- the calls up to the rename, or to the one that failed
abbrev pub CallsToRename : {T E : Type 0} → Result T (Stopped E) → List Answered → List Answered → Type 0
CallsToRename result past new = MatchResult result (λ _. new ≡ after_check SyncFolder past)
    (λ stopped. (is_early stopped.step ≡ false) × (is_beside stopped.step ≡ true) × (new ≡ failed_call stopped.step None (asked_owner None) [] ∷ after_check stopped.step past))

-- the calls of a replacement
abbrev pub CallsOf : {E : Type 0} → Option Rights → List ℕ → Result FolderSync (Fault E) → List Answered → List Answered → Type 0
CallsOf old bytes result past new = (now : Owner)
    × MatchResult result (λ answer. new ≡ answered (calls.SyncFolder answer) true [] ∷ before_step SyncFolder old now bytes past) (λ fault. FailsAt old now bytes fault past new)

-- a crash leaves the file beside as it is
abbrev pub IsReady : Seen → Type 0
IsReady place = Finds MayBe (λ file. place.files.beside ≡ Some file) place.history

-- where it is honest, an empty file is beside the path, and no sync of it has failed
abbrev pub HasEmpty : Seen → Type 0
HasEmpty place = place.is_honest → ((file : PlainFile) × (place.files.beside ≡ Some file) × (file.bytes ≡ [])) × (has_failed place.history ≡ false)

-- the path is as it was, also after a crash, whenever it comes
pub record Spares (old new : Seen) : Type 0 where
  pub path : new.files.path ≡ old.files.path
  pub any_moment : AlwaysFinds MayLeave (MayLeave old.history) old.history new.history

-- A file of any bytes beside the path keeps them, and gets its rights.
pub record Dresses {E : Type 0} (rights : Option Rights) (result : Result (Option Owner) (Stopped E)) (old new : Seen) : Type 0 where
  pub spares : Spares old new
  pub trusted : has_failed old.history ≡ false → has_failed new.history ≡ false
  pub made : (bytes : List ℕ) → IsNew None bytes old.files.beside → OnOk result (IsNew rights bytes new.files.beside)
  pub owned : (bytes : List ℕ) → IsNew None bytes old.files.beside → IfOk result (λ told. IfSome told (λ now. BelongsTo now new.files.beside))

-- The empty file beside the path is written, gets its rights, and is made stable.
pub record Fills {E : Type 0} (rights : Option Rights) (bytes : List ℕ) (result : Result (Option Owner) (Stopped E)) (old new : Seen) : Type 0 where
  pub spares : Spares old new
  pub made : OnOk result (IsNew rights bytes new.files.beside)
  pub owned : IfOk result (λ told. IfSome told (λ now. BelongsTo now new.files.beside))
  pub ready : OnOk result (IsReady new)

-- The file beside is renamed to the path.
pub record Moves {T E : Type 0} (result : Result T (Stopped E)) (old new : Seen) : Type 0 where
  pub any_moment : IsReady old → AlwaysFinds MayLeave (IsOldOr old.history (Is old.files.beside)) old.history new.history
  pub put : OnOk result (new.files.path ≡ old.files.beside)
  pub gone : OnOk result (new.files.beside ≡ None)
  pub settles : IsReady old → OnOk result (Finds MaySettle (Is old.files.beside) new.history)
  pub left : IfErr result (λ stopped. HasAfter stopped.step (Is old.files.beside) old.files.path new.files.path)

-- The new file is beside the path, whole, and a crash leaves it as it is. The path is as it was, also after a crash
-- whenever it comes. Where this fails no file is beside but where this is said.
pub record Prepares {E : Type 0} (rights : Option Rights) (bytes : List ℕ) (result : Result (Option Owner) (Fault E)) (old new : Seen) : Type 0 where
  pub spares : Spares old new
  pub made : OnOk result (IsNew rights bytes new.files.beside)
  pub owned : IfOk result (λ told. IfSome told (λ now. BelongsTo now new.files.beside))
  pub ready : OnOk result (IsReady new)
  pub cleaned : IfErr result (λ fault. fault.is_left ≡ false → new.files.beside ≡ None)

-- The path has the file that was beside it. Where it fails, the step says whether it has the old one, and no file is
-- beside but where this is said. Where a crash left the file beside as it was: whenever a crash comes, it leaves what it
-- might have left before, or that file, and only that one once the folder was synced.
pub record Puts {E : Type 0} (result : Result FolderSync (Fault E)) (old new : Seen) : Type 0 where
  pub any_moment : IsReady old → AlwaysFinds MayLeave (IsOldOr old.history (Is old.files.beside)) old.history new.history
  pub put : OnOk result (new.files.path ≡ old.files.beside)
  pub gone : OnOk result (new.files.beside ≡ None)
  pub told : IfOk result (λ answer. (past : History) × (new.history ≡ Asked answer ∷ past))
  pub stable : IsReady old → IfOk result (λ answer. answer ≡ Done → Finds MayLeave (Is old.files.beside) new.history)
  pub left : IfErr result (λ fault. HasAfter fault.step (Is old.files.beside) old.files.path new.files.path)
  pub cleaned : IfErr result (λ fault. fault.is_left ≡ false → new.files.beside ≡ None)

-- The path has the new file. Where it fails, the step says whether it has the old one, and no file is beside but where
-- this is said. Whenever a crash comes, it leaves what it might have left before, or the new file; and only that one
-- once the folder was synced.
pub record ReplacesFile {E : Type 0} (rights : Option Rights) (bytes : List ℕ) (result : Result FolderSync (Fault E)) (old new : Seen) : Type 0 where
  pub any_moment : AlwaysFinds MayLeave (IsOldOr old.history (IsNew rights bytes)) old.history new.history
  pub put : OnOk result (IsNew rights bytes new.files.path)
  pub gone : OnOk result (new.files.beside ≡ None)
  pub told : IfOk result (λ answer. (past : History) × (new.history ≡ Asked answer ∷ past))
  pub stable : IfOk result (λ answer. answer ≡ Done → Finds MayLeave (IsNew rights bytes) new.history)
  pub left : IfErr result (λ fault. HasAfter fault.step (IsNew rights bytes) old.files.path new.files.path)
  pub cleaned : IfErr result (λ fault. fault.is_left ≡ false → new.files.beside ≡ None)
