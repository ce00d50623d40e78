-- What a path has once a file was put there.
use Rattle.std.proofs.Common.{◌≡◌, ◌⊎◌, inl, inr, ℕ, Bool, true, false, List, [], ◌∷◌, ◌++◌, Option, Some, None, Result, Ok, Err, refl, sym, ◌∙◌, ap, subst}
use Rattle.std.specs.Prelude.{⊤}
use Rattle.fork_disk.specs.Crash.{AlwaysFinds, Finds, at_first, and_then}
use Rattle.file_replace.specs.declared.calls.Call.TheVariants as calls
use Rattle.file_replace.specs.declared.place.PlainFile.{PlainFile}
use Rattle.file_replace.specs.declared.place.Event.TheVariants.{Made, Changed, Synced, Renamed, Asked, Found}
use Rattle.file_replace.specs.declared.place.FolderSync.{FolderSync}
use Rattle.file_replace.specs.declared.place.FolderSync.TheVariants.{Done, NotOffered}
use Rattle.file_replace.specs.declared.replacement.Step.TheVariants.{SyncFolder}
use Rattle.file_replace.specs.declared.rights.Owner.{Owner}
use Rattle.file_replace.specs.declared.rights.Rights.{Rights}
use Rattle.file_replace.specs.Calls.{HeldAt, IsHonest, history_of, seen_at}
use Rattle.file_replace.specs.OnPlace.{answered, moved, synced}
use Rattle.file_replace.specs.Place.{Answered, Folder, History, IsMade, MayBe, MayLeave, MaySettle, Seen, has_failed}
use Rattle.file_replace.specs.Replacing.{CallsOf, IsNew, IsOldOr, Left, ReplacesFile, before_step, prepared_calls}
use Rattle.file_replace.specs.Rights.{mode_of}
use Rattle.fork_saves.specs.Lasting.{PutFilesLast}

-- A file was made beside a path that had another at the start, and nothing was seen there so far.
module _ (rights : Option Rights) (bytes : List ℕ) (file : PlainFile) (is_new : IsNew rights bytes (Some file)) (start : Left) (past : History) where
  -- what is at the path is as it was, or the new file
  abbrev IsEither : Left → Type 0
  IsEither = IsOldOr (Found start ∷ []) (IsNew rights bytes)

  made_left : has_failed past ≡ false → (left : Left) → IsMade (Synced file ∷ past) left → IsNew rights bytes left
  made_left trusted left made = subst (IsNew rights bytes) (sym (made.2 ∙ ap Some (made.1 trusted))) is_new

  renamed_left : has_failed past ≡ false → ((left : Left) → MayLeave past left → left ≡ start) → Finds MayLeave IsEither (Renamed ∷ Synced file ∷ past)
  renamed_left trusted calm left (inl before) = inl (calm left before)
  renamed_left trusted calm left (inr made) = inr (made_left trusted left made)

  asked_left : has_failed past ≡ false → ((left : Left) → MayLeave past left → left ≡ start) → (answer : FolderSync) → Finds MayLeave IsEither (Asked answer ∷ Renamed ∷ Synced file ∷ past)
  asked_left trusted calm Done left made = inr (made_left trusted left made)
  asked_left trusted calm NotOffered left may = renamed_left trusted calm left may

  settled_left : has_failed past ≡ false → (answer : FolderSync) → answer ≡ Done → Finds MayLeave (IsNew rights bytes) (Asked answer ∷ Renamed ∷ Synced file ∷ past)
  settled_left trusted Done is left made = made_left trusted left made
  settled_left trusted NotOffered is left may = absurd (cc)

  -- then it was synced and renamed, and its folder was to be synced
  replaced : has_failed past ≡ false → ((left : Left) → MayLeave past left → left ≡ start) → AlwaysFinds MayLeave IsEither (Found start ∷ []) past → (answer : FolderSync) (beside : Option PlainFile)
      → beside ≡ Some file → (old new : Seen) → old.history ≡ Found start ∷ [] → new.history ≡ Asked answer ∷ Renamed ∷ synced beside past → new.files.path ≡ beside → new.files.beside ≡ None
      → ReplacesFile {E = ⊤} rights bytes (Ok answer) old new
  replaced trusted calm so_far answer beside is old new begins ends path gone =
      let ended : new.history ≡ Asked answer ∷ Renamed ∷ Synced file ∷ past = ends ∙ ap (λ (b : Option PlainFile). Asked answer ∷ Renamed ∷ synced b past) is in
      let along : AlwaysFinds MayLeave IsEither (Found start ∷ []) (Asked answer ∷ Renamed ∷ Synced file ∷ past) =
      and_then (and_then (and_then so_far (λ left may. inl (calm left may))) (renamed_left trusted calm)) (asked_left trusted calm answer) in
      record {
        any_moment = subst (λ (first : History). AlwaysFinds MayLeave (IsOldOr first (IsNew rights bytes)) first new.history) (sym begins)
            (subst (λ (last : History). AlwaysFinds MayLeave IsEither (Found start ∷ []) last) (sym ended) along);
        put = subst (IsNew rights bytes) (sym (path ∙ is)) is_new;
        gone = gone;
        told = (Renamed ∷ synced beside past, ends);
        stable = λ done. subst (λ (last : History). Finds MayLeave (IsNew rights bytes) last) (sym ended) (settled_left trusted answer done);
        left = tt;
        cleaned = tt;
      }

-- the file after its making and its write
written : (is_private : Bool) (there : HeldAt) (bytes : List ℕ) → IsHonest there (answered calls.Write true bytes ∷ answered (calls.Create is_private) true [] ∷ [])
    → (file : PlainFile) × ((there (answered calls.Write true bytes ∷ answered (calls.Create is_private) true [] ∷ [])).beside ≡ Some file) × (file.bytes ≡ bytes)
written is_private there bytes honest = let made = honest.0.1.1 in (record made.0 { bytes = made.0.bytes ++ bytes }, honest.1.1 refl made.0 made.1, ap (λ (front : List ℕ). front ++ bytes) made.2)

-- nothing is seen of changes beside
calm_once : (start : Left) (P : Left → Type 0) → AlwaysFinds MayLeave (λ left. (left ≡ start) ⊎ P left) (Found start ∷ []) (Changed ∷ Made ∷ Found start ∷ [])
calm_once start P = and_then (and_then (at_first (λ left may. inl may)) (λ left may. inl may)) (λ left may. inl may)

put_none : (bytes : List ℕ) (now : Owner) (answer : FolderSync) (there : HeldAt) → IsHonest there (answered (calls.SyncFolder answer) true [] ∷ before_step SyncFolder None now bytes [])
    → ReplacesFile {E = ⊤} None bytes (Ok answer) (seen_at there []) (seen_at there (answered (calls.SyncFolder answer) true [] ∷ before_step SyncFolder None now bytes []))
put_none bytes now answer there honest =
    let w = written false there bytes honest.0.0.0.0 in
    let start = (there []).path in
    let last = honest.1 ∙ (honest.0.1 ∙ ap moved (honest.0.0.1 ∙ honest.0.0.0.1)) in
    replaced None bytes w.0 (w.0, refl, w.2, tt) start (Changed ∷ Made ∷ Found start ∷ []) refl (λ left may. may) (calm_once start (IsNew None bytes)) answer
    _ w.1 (seen_at there []) (seen_at there (answered (calls.SyncFolder answer) true [] ∷ before_step SyncFolder None now bytes [])) refl refl
    (ap (λ (folder : Folder). folder.path) last) (ap (λ (folder : Folder). folder.beside) last)

put_some : (rights : Rights) (bytes : List ℕ) (now : Owner) (answer : FolderSync) (there : HeldAt) → IsHonest there (answered (calls.SyncFolder answer) true [] ∷ before_step SyncFolder (Some rights) now bytes [])
    → ReplacesFile {E = ⊤} (Some rights) bytes (Ok answer) (seen_at there []) (seen_at there (answered (calls.SyncFolder answer) true [] ∷ before_step SyncFolder (Some rights) now bytes []))
put_some rights bytes now answer there honest =
    let w = written true there bytes honest.0.0.0.0.0.0 in
    let given = honest.0.0.0.0.0.1.1 refl w.0 w.1 in
    let file : PlainFile = record given.0 { mode = mode_of rights now } in
    let start = (there []).path in
    let last = honest.1 ∙ (honest.0.1 ∙ ap moved (honest.0.0.1 ∙ honest.0.0.0.1)) in
    replaced (Some rights) bytes file (file, refl, given.2 ∙ w.2, ap (mode_of rights) (sym given.3)) start (Changed ∷ Changed ∷ Changed ∷ Made ∷ Found start ∷ []) refl (λ left may. may)
    (and_then (and_then (calm_once start (IsNew (Some rights) bytes)) (λ left may. inl may)) (λ left may. inl may)) answer
    _ (honest.0.0.0.0.1.1 refl given.0 given.1) (seen_at there []) (seen_at there (answered (calls.SyncFolder answer) true [] ∷ before_step SyncFolder (Some rights) now bytes [])) refl refl
    (ap (λ (folder : Folder). folder.path) last) (ap (λ (folder : Folder). folder.beside) last)

put_either : (rights : Option Rights) (bytes : List ℕ) (now : Owner) (answer : FolderSync) (there : HeldAt) → IsHonest there (answered (calls.SyncFolder answer) true [] ∷ before_step SyncFolder rights now bytes [])
    → ReplacesFile {E = ⊤} rights bytes (Ok answer) (seen_at there []) (seen_at there (answered (calls.SyncFolder answer) true [] ∷ before_step SyncFolder rights now bytes []))
put_either None bytes now answer there honest = put_none bytes now answer there honest
put_either (Some rights) bytes now answer there honest = put_some rights bytes now answer there honest

pub put_files_last : PutFilesLast
put_files_last rights bytes answer calls there put honest =
    subst (λ (all : List Answered). ReplacesFile {E = ⊤} rights bytes (Ok answer) (seen_at there []) (seen_at there all)) (sym put.1)
    (put_either rights bytes put.0 answer there (subst (IsHonest there) put.1 honest))
