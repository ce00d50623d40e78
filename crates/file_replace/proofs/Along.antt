-- How what a crash may leave goes on from call to call.
use Rattle.std.proofs.Common.{◌≡◌, ◌⊎◌, inl, inr, ℕ, true, false, List, [], ◌∷◌, ◌++◌, Option, Some, None, Result, Ok, Err, refl, sym, ◌∙◌, ap, subst}
use Rattle.fork_disk.specs.Crash.{AlwaysFinds, Finds, at_first, and_then}
use Rattle.file_replace.specs.declared.calls.Call.TheVariants as calls
use Rattle.file_replace.specs.declared.place.PlainFile.{PlainFile}
use Rattle.file_replace.specs.declared.place.Event.{Event}
use Rattle.file_replace.specs.declared.place.Event.TheVariants.{Made, Changed, Synced, Failed, Renamed, Tried, Asked}
use Rattle.file_replace.specs.declared.place.FolderSync.{FolderSync}
use Rattle.file_replace.specs.declared.place.FolderSync.TheVariants.{Done, NotOffered}
use Rattle.file_replace.specs.declared.replacement.Fault.{Fault}
use Rattle.file_replace.specs.declared.replacement.Step.{Step}
use Rattle.file_replace.specs.declared.replacement.Step.TheVariants.{Create, Write, SetOwner, SetMode, Sync, Check, Rename, SyncFolder}
use Rattle.file_replace.specs.declared.replacement.Stopped.{Stopped}
use Rattle.file_replace.specs.declared.rights.Owner.{Owner}
use Rattle.file_replace.specs.declared.rights.Rights.{Rights}
use Rattle.file_replace.specs.Place.{Folder, History, MayBe, MayLeave, MaySettle, Seen, has_failed}
use Rattle.file_replace.specs.OnPlace.{Fits, happened, moved, synced}
use Rattle.file_replace.specs.Replacing.{BelongsTo, Dresses, Fills, Moves, HasAfter, Is, IsNew, IsOldOr, IsReady, Left, Prepares, Puts, ReplacesFile, Spares, is_early}
use Rattle.file_replace.specs.Rights.{mode_of}

module _ (P : Left → Type 0) where
  -- a crash now leaves what has P
  pub leaves_now : (old new : History) → AlwaysFinds MayLeave P old new → Finds MayLeave P new
  leaves_now old new (at_first here) = here
  leaves_now old new (and_then so_far here) = here

  pub same_end : (old mid new : History) → AlwaysFinds MayLeave P old mid → new ≡ mid → AlwaysFinds MayLeave P old new
  same_end old mid new so_far same = subst (λ (h : History). AlwaysFinds MayLeave P old h) (sym same) so_far

-- two stretches in a row, the second by what might be left after the first
pub along_then : (P : Left → Type 0) (old mid new : History) → AlwaysFinds MayLeave P old mid → AlwaysFinds MayLeave P mid new → AlwaysFinds MayLeave P old new
along_then P old mid new first (at_first here) = first
along_then P old mid new first (and_then {event} {past} so_far here) = and_then (along_then P old mid past first so_far) here

pub weaker : (P Q : Left → Type 0) (old new : History) → ((left : Left) → P left → Q left) → AlwaysFinds MayLeave P old new → AlwaysFinds MayLeave Q old new
weaker P Q old new gives (at_first here) = at_first (λ left may. gives left (here left may))
weaker P Q old new gives (and_then {event} {past} so_far here) = and_then (weaker P Q old past gives so_far) (λ left may. gives left (here left may))

-- nothing that was done so far is seen in the path
pub stays : (place : Seen) → Spares place place
stays place = record { path = refl; any_moment = at_first (λ left may. may) }

-- An event that changes nothing at the path: it was spared by one call, and then by another.
module _ (event : Event) (quiet : (past : History) (left : Left) → MayLeave (event ∷ past) left → MayLeave past left) where
  pub spares_event : (old new : Seen) → new.files.path ≡ old.files.path → new.history ≡ event ∷ old.history → Spares old new
  spares_event old new path is = record {
    path = path;
    any_moment = same_end (MayLeave old.history) old.history (event ∷ old.history) new.history (and_then (at_first (λ left may. may)) (quiet old.history)) is;
  }

pub spares_changed : (old new : Seen) → new.files.path ≡ old.files.path → new.history ≡ Changed ∷ old.history → Spares old new
spares_changed = spares_event Changed (λ past left may. may)

pub spares_failed : (old new : Seen) → new.files.path ≡ old.files.path → new.history ≡ Failed ∷ old.history → Spares old new
spares_failed = spares_event Failed (λ past left may. may)

pub spares_synced : (file : PlainFile) (old new : Seen) → new.files.path ≡ old.files.path → new.history ≡ Synced file ∷ old.history → Spares old new
spares_synced file = spares_event (Synced file) (λ past left may. may)

pub spares_made : (old new : Seen) → new.files.path ≡ old.files.path → new.history ≡ Made ∷ old.history → Spares old new
spares_made = spares_event Made (λ past left may. may)

-- nothing happened
pub spares_same : (old new : Seen) → new.files.path ≡ old.files.path → new.history ≡ old.history → Spares old new
spares_same old new path is = record { path = path; any_moment = same_end (MayLeave old.history) old.history old.history new.history (at_first (λ left may. may)) is }

-- one stretch after another
pub spares_then : (old mid new : Seen) → Spares old mid → Spares mid new → Spares old new
spares_then old mid new first second = record {
  path = second.path ∙ first.path;
  any_moment = along_then (MayLeave old.history) old.history mid.history new.history first.any_moment
      (weaker (MayLeave mid.history) (MayLeave old.history) mid.history new.history (leaves_now (MayLeave old.history) old.history mid.history first.any_moment) second.any_moment);
}

-- no sync has failed by a change
pub trusted_changed : (old new : Seen) → new.history ≡ Changed ∷ old.history → has_failed old.history ≡ false → has_failed new.history ≡ false
trusted_changed old new is trusted = ap has_failed is ∙ trusted

-- the empty file is filled
pub written : (bytes : List ℕ) (old new : Folder) → ((file : PlainFile) × (old.beside ≡ Some file) × (file.bytes ≡ [])) → Fits calls.Write true bytes old new → IsNew None bytes new.beside
written bytes old new empty fits = (record empty.0 { bytes = empty.0.bytes ++ bytes }, fits.1 refl empty.0 empty.1, ap (λ (l : List ℕ). l ++ bytes) empty.2, tt)

-- it gets an owner, and the mode that goes with that
pub dressed : (bytes : List ℕ) (rights : Rights) (now : Owner) (mode : ℕ) (old mid new : Folder) → mode ≡ mode_of rights now → Fits (calls.SetOwner rights.owner now) true [] old mid → Fits (calls.SetMode mode) true [] mid new
    → IsNew None bytes old.beside → IsNew (Some rights) bytes new.beside × BelongsTo now new.beside
dressed bytes rights now mode old mid new fit owns fits had =
    let given = owns.1 refl had.0 had.1 in
    let file = record given.0 { mode = mode } in
    let beside = fits.1 refl given.0 given.1 in
    ((file, beside, given.2 ∙ had.2, fit ∙ ap (mode_of rights) (sym given.3)), (file, beside, given.3))

-- nothing was to be given
pub undressed : {E : Type 0} (place : Seen) → Dresses {E = E} None (Ok None) place place
undressed place = record { spares = stays place; trusted = λ was. was; made = λ bytes is. is; owned = λ bytes is. tt }

-- it failed on the way
pub half_dressed : {E : Type 0} (rights : Option Rights) (stopped : Stopped E) (old new : Seen) → Spares old new → (has_failed old.history ≡ false → has_failed new.history ≡ false) → Dresses rights (Err stopped) old new
half_dressed rights stopped old new spares trusted = record { spares = spares; trusted = trusted; made = λ bytes is. tt; owned = λ bytes is. tt }

pub half_filled : {E : Type 0} (rights : Option Rights) (bytes : List ℕ) (stopped : Stopped E) (old new : Seen) → Spares old new → Fills rights bytes (Err stopped) old new
half_filled rights bytes stopped old new spares = record { spares = spares; made = tt; owned = tt; ready = tt }

-- a sync of the file beside
pub synced_is : (here : Folder) (old new : History) → new ≡ happened calls.Sync true here old → (file : PlainFile) → here.beside ≡ Some file → new ≡ Synced file ∷ old
synced_is here old new was file beside = was ∙ ap (λ (b : Left). synced b old) beside

-- a file that was synced stays
pub ready : (file : PlainFile) (past : History) (place : Seen) → place.files.beside ≡ Some file → place.history ≡ Synced file ∷ past → has_failed past ≡ false → IsReady place
ready file past place beside is trusted left may =
    let synced : MayBe (Synced file ∷ past) left = subst (λ (h : History). MayBe h left) is may in beside ∙ ap Some (sym (synced trusted))

-- what is made of the file beside is that file
pub comes : (place : Seen) → IsReady place → (left : Left) → ((file : PlainFile) × MayBe place.history file × (left ≡ Some file)) → Is place.files.beside left
comes place ready left made = made.2 ∙ sym (ready made.0 made.1)

module _ (place : Seen) (ready : IsReady place) where
  of_made : (left : Left) → MayLeave place.history left ⊎ ((file : PlainFile) × MayBe place.history file × (left ≡ Some file)) → IsOldOr place.history (Is place.files.beside) left
  of_made left (inl old) = inl old
  of_made left (inr made) = inr (comes place ready left made)

  -- the file was renamed, or that failed
  pub along_renamed : (new : History) → new ≡ Renamed ∷ place.history → AlwaysFinds MayLeave (IsOldOr place.history (Is place.files.beside)) place.history new
  along_renamed new is = same_end (IsOldOr place.history (Is place.files.beside)) place.history (Renamed ∷ place.history) new (and_then (at_first (λ left may. inl may)) of_made) is

  pub along_tried : (new : History) → new ≡ Tried ∷ place.history → AlwaysFinds MayLeave (IsOldOr place.history (Is place.files.beside)) place.history new
  along_tried new is = same_end (IsOldOr place.history (Is place.files.beside)) place.history (Tried ∷ place.history) new (and_then (at_first (λ left may. inl may)) of_made) is

  pub along_none : (new : History) → new ≡ place.history → AlwaysFinds MayLeave (IsOldOr place.history (Is place.files.beside)) place.history new
  along_none new is = same_end (IsOldOr place.history (Is place.files.beside)) place.history place.history new (at_first (λ left may. inl may)) is

  pub settles : (new : History) → new ≡ Renamed ∷ place.history → Finds MaySettle (Is place.files.beside) new
  settles new is left may = comes place ready left (subst (λ (h : History). MaySettle h left) is may)

-- the file beside goes to the path, or that fails
pub moves : {T E : Type 0} (value : T) (place mid new : Seen) → mid.files ≡ place.files → mid.history ≡ place.history → Fits calls.Rename true [] mid.files new.files → new.history ≡ Renamed ∷ mid.history → Moves {T = T} {E = E} (Ok value) place new
moves value place mid new files history fits is =
    let now : new.history ≡ Renamed ∷ place.history = is ∙ ap (λ (h : History). Renamed ∷ h) history in
    record {
      any_moment = λ ready. along_renamed place ready new.history now;
      put = ap (λ (f : Folder). f.path) fits ∙ ap (λ (f : Folder). f.beside) files;
      gone = ap (λ (f : Folder). f.beside) fits;
      settles = λ ready. settles place ready new.history now;
      left = tt;
    }

pub half_moved : {T E : Type 0} (error : E) (place mid new : Seen) → mid.files ≡ place.files → mid.history ≡ place.history → Fits calls.Rename false [] mid.files new.files → new.history ≡ Tried ∷ mid.history
    → Moves {T = T} (Err (record { step = Rename; error = error })) place new
half_moved error place mid new files history fits is =
    record {
      any_moment = λ ready. along_tried place ready new.history (is ∙ ap (λ (h : History). Tried ∷ h) history);
      put = tt;
      gone = tt;
      settles = λ ready. tt;
      left = either fits;
    }
  where
    either : (new.files ≡ moved mid.files) ⊎ (new.files ≡ mid.files) → (new.files.path ≡ place.files.path) ⊎ (new.files.path ≡ place.files.beside)
    either (inl moves) = inr (ap (λ (f : Folder). f.path) moves ∙ ap (λ (f : Folder). f.beside) files)
    either (inr same) = inl (ap (λ (f : Folder). f.path) same ∙ ap (λ (f : Folder). f.path) files)

pub not_moved : {T E : Type 0} (error : E) (place new : Seen) → new.files ≡ place.files → new.history ≡ place.history → Moves {T = T} (Err (record { step = Check; error = error })) place new
not_moved error place new files history = record {
  any_moment = λ ready. along_none place ready new.history history;
  put = tt;
  gone = tt;
  settles = λ ready. tt;
  left = ap (λ (f : Folder). f.path) files;
}

-- the folder was to be synced
pub along_asked : (P : Left → Type 0) (start mid new : History) (answer : FolderSync) → AlwaysFinds MayLeave (IsOldOr start P) start mid → Finds MaySettle P mid → new ≡ Asked answer ∷ mid → AlwaysFinds MayLeave (IsOldOr start P) start new
along_asked P start mid new Done so_far settles is = same_end (IsOldOr start P) start (Asked Done ∷ mid) new (and_then so_far (λ left may. inr (settles left may))) is
along_asked P start mid new NotOffered so_far settles is = same_end (IsOldOr start P) start (Asked NotOffered ∷ mid) new (and_then so_far (leaves_now (IsOldOr start P) start mid so_far)) is

pub stable : (P : Left → Type 0) (mid new : History) (answer : FolderSync) → Finds MaySettle P mid → new ≡ Asked answer ∷ mid → answer ≡ Done → Finds MayLeave P new
stable P mid new answer settles is done left may =
    let now : MayLeave (Asked Done ∷ mid) left = subst (λ (a : FolderSync). MayLeave (Asked a ∷ mid) left) done (subst (λ (h : History). MayLeave h left) is may) in settles left now

-- what is true of the path after a step is true of it where the new file has more
pub has_more : (P Q : Left → Type 0) (step : Step) (old now : Left) → ((left : Left) → P left → Q left) → HasAfter step P old now → HasAfter step Q old now
has_more P Q Create old now gives has = has
has_more P Q Write old now gives has = has
has_more P Q SetOwner old now gives has = has
has_more P Q SetMode old now gives has = has
has_more P Q Sync old now gives has = has
has_more P Q Check old now gives has = has
has_more P Q Rename old now gives (inl same) = inl same
has_more P Q Rename old now gives (inr has) = inr (gives now has)
has_more P Q SyncFolder old now gives has = gives now has

-- before the new file is whole the path has the old one
pub early_has : (P : Left → Type 0) (step : Step) (old now : Left) → is_early step ≡ true → now ≡ old → HasAfter step P old now
early_has P Create old now early same = same
early_has P Write old now early same = same
early_has P SetOwner old now early same = same
early_has P SetMode old now early same = same
early_has P Sync old now early same = same
early_has P Check old now early same = same
early_has P Rename old now early same = inl same
early_has P SyncFolder old now early same = let e : false ≡ true = early in absurd (cc)

-- a file that was prepared was put
module _ (rights : Option Rights) (bytes : List ℕ) (old mid new : Seen) (spares : Spares old mid) (made : IsNew rights bytes mid.files.beside) (ready : IsReady mid) where
  is_new : (left : Left) → Is mid.files.beside left → IsNew rights bytes left
  is_new left is = subst (IsNew rights bytes) (sym is) made

  any_moment : AlwaysFinds MayLeave (IsOldOr mid.history (Is mid.files.beside)) mid.history new.history → AlwaysFinds MayLeave (IsOldOr old.history (IsNew rights bytes)) old.history new.history
  any_moment later = along_then (IsOldOr old.history (IsNew rights bytes)) old.history mid.history new.history
      (weaker (MayLeave old.history) (IsOldOr old.history (IsNew rights bytes)) old.history mid.history (λ left may. inl may) spares.any_moment)
      (weaker (IsOldOr mid.history (Is mid.files.beside)) (IsOldOr old.history (IsNew rights bytes)) mid.history new.history either later)
    where
      either : (left : Left) → IsOldOr mid.history (Is mid.files.beside) left → IsOldOr old.history (IsNew rights bytes) left
      either left (inl may) = inl (leaves_now (MayLeave old.history) old.history mid.history spares.any_moment left may)
      either left (inr is) = inr (is_new left is)

  pub replaces : {E : Type 0} (result : Result FolderSync (Fault E)) → Puts result mid new → ReplacesFile rights bytes result old new
  replaces (Ok answer) puts = record {
    any_moment = any_moment (puts.any_moment ready);
    put = is_new new.files.path puts.put;
    gone = puts.gone;
    told = puts.told;
    stable = λ done left may. is_new left (puts.stable ready done left may);
    left = tt;
    cleaned = tt;
  }
  replaces (Err fault) puts = record {
    any_moment = any_moment (puts.any_moment ready);
    put = tt;
    gone = tt;
    told = tt;
    stable = tt;
    left = subst (λ (path : Left). HasAfter fault.step (IsNew rights bytes) path new.files.path) spares.path (has_more (Is mid.files.beside) (IsNew rights bytes) fault.step mid.files.path new.files.path is_new puts.left);
    cleaned = puts.cleaned;
  }

-- no file was prepared
pub not_replaced : {E : Type 0} (rights : Option Rights) (bytes : List ℕ) (fault : Fault E) (old new : Seen) → is_early fault.step ≡ true → Prepares rights bytes (Err fault) old new → ReplacesFile rights bytes (Err fault) old new
not_replaced rights bytes fault old new early prepares = record {
  any_moment = weaker (MayLeave old.history) (IsOldOr old.history (IsNew rights bytes)) old.history new.history (λ left may. inl may) prepares.spares.any_moment;
  put = tt;
  gone = tt;
  told = tt;
  stable = tt;
  left = early_has (IsNew rights bytes) fault.step old.files.path new.files.path early prepares.spares.path;
  cleaned = prepares.cleaned;
}
