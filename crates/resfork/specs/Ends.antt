-- What commands do that copy resources, or make a fork of a text or a folder, act by act.
use Rattle.std.specs.Borrow.{Bor}
use Rattle.std.specs.List.{filter, find}
use Rattle.std.specs.Prelude.{◌≡◌, ◌⊎◌, ◌||◌, ℕ, Bool, true, false, List, [], ◌∷◌, Option, None, Some, is_some, Result, Ok, Err, Vec, ⊤, bytes_eq, codes}
use Rattle.std.specs.Global.{Global}
use Rattle.host_paths.specs.declared.host.Answer.{Answer}
use Rattle.host_paths.specs.declared.host.Answer.TheVariants as answers
use Rattle.fork_bytes.specs.Rows.{Row}
use Rattle.fork_bytes.specs.declared.table.Table.{Table}
use Rattle.fork_change.specs.Copies.{is_chosen, is_unmet, second_of}
use Rattle.fork_change.specs.declared.copying.Choice.{Choice}
use Rattle.fork_change.specs.declared.copying.Choice.TheVariants as choices
use Rattle.fork_change.specs.declared.copying.Collision.{Collision}
use Rattle.fork_change.specs.declared.refusal.Refusal.TheVariants as refusal
use Rattle.fork_edit.specs.declared.edit.Edit.{Edit}
use Rattle.fork_edit.specs.declared.edit.Edit.TheVariants as edits
use Rattle.fork_words.specs.declared.work.Target.{Target}
use Rattle.file_acts.specs.Acts.{Finds, Log, ReadsOther, Then}
use Rattle.file_acts.specs.declared.acts.Act.TheVariants as act
use Rattle.file_acts.specs.declared.message.Problem.{Problem}
use Rattle.file_acts.specs.declared.message.Problem.TheVariants as problem
use Rattle.image_acts.specs.Words.{ReadsWord}
use Rattle.fork_saves.specs.Changing.{Changes, WritesTo, goes_to, written_file}
use Rattle.fork_saves.specs.Converting.{SaysSome}
use Rattle.fork_edit.specs.Files.{HasTable, Refuses as RefusesTable}
use Rattle.fork_edit.specs.Replaced.{IsLost}
use Rattle.fork_edit.specs.declared.replaced.Lost.TheVariants as losses
use Rattle.fork_rez.specs.Said.{table_of}
use Rattle.fork_rez.specs.declared.fault.RezFault.TheVariants as rez
use Rattle.host_paths.specs.Asked.{is_regular}
use Rattle.mac_files.specs.Kinds.{is_alone, kind_of}
use Rattle.fork_shows.specs.declared.failed.Failed.{Failed}
use Rattle.resfork.specs.declared.rez.Like.{Like}

-- the end, without the name of the file that is in the way
abbrev pub ended : {T : Type 0} → Result T Failed → Result T Problem
ended (Ok done) = Ok done
ended (Err failed) = Err failed.problem

-- What is read.

-- it was looked whether a word names a place in a disk image: nothing but what it names was read
abbrev pub ChecksPlace : List ℕ → Result ⊤ Problem → Log → Log → Type 0
ChecksPlace word result = ReadsWord word

-- rm, set and put.

-- a file that is in no disk image was changed
unfoldable pub ChangesOutside : Target → List Row → Edit → Result ℕ Problem → Log → Log → Type 0
ChangesOutside target from edit = Then {T = ⊤} (ChecksPlace target.file.now) (λ _. Changes target from edit)

-- cp.

-- what is reported of a choice that means no row
abbrev pub unmet_why : Option Choice → Option Problem
unmet_why (Some (choices.One what)) = Some (problem.Edit (refusal.Missing what))
unmet_why (Some (choices.Kind kind)) = Some (problem.NoKind kind)
unmet_why other = None

-- each choice means a row, and no two rows that are meant have one type and id; or what is reported, unless the host has
-- no memory
abbrev pub CanCopy : List Choice → List Row → Result ⊤ Problem → Type 0
CanCopy chosen rows (Ok done) = (unmet_why (find (is_unmet rows) chosen) ≡ None) × (second_of [] (filter (is_chosen chosen) rows) ≡ None)
CanCopy chosen rows (Err told) = (told ≡ problem.HostFull) ⊎ ((unmet_why (find (is_unmet rows) chosen) ≡ Some told)
    ⊎ ((told ≡ problem.Twice) × (is_some (second_of [] (filter (is_chosen chosen) rows)) ≡ true)))

-- the chosen ones of these rows were copied to a file
unfoldable pub CopiesChosen : Target → List Choice → Collision → List Row → Result ℕ Problem → Log → Log → Type 0
CopiesChosen target chosen how rows result old new = (lent : Bor (List Choice)) × (lent.now ≡ chosen) × ChangesOutside target rows (edits.Copy lent how) result old new

-- the same, if they can be
unfoldable pub CopiesRows : Target → List Choice → Collision → List Row → Result ℕ Problem → Log → Log → Type 0
CopiesRows target chosen how rows = Then {T = ⊤} (Finds (CanCopy chosen rows)) (λ _. CopiesChosen target chosen how rows)

-- rez and pack.

-- the table of a text; or what is reported, unless the host has no memory
abbrev pub IsRezzed : List ℕ → Result Table Problem → Type 0
IsRezzed text (Ok table) = table_of text ≡ Ok table
IsRezzed text (Err (problem.Rez (rez.Refused fault))) = table_of text ≡ Err fault
IsRezzed text (Err (problem.Rez rez.HostFull)) = ⊤
IsRezzed text (Err problem.HostFull) = ⊤
IsRezzed text (Err other) = ⊥

-- a file like another one, with a table as its own; or what is reported
abbrev pub IsFileLike : List ℕ → Table → Result (Vec ℕ Global) Problem → Type 0
IsFileLike like table (Ok new) = HasTable like table new.items
IsFileLike like table (Err (problem.Write fault)) = RefusesTable like table (Some fault)
IsFileLike like table (Err (problem.Apart shown)) = ⊤
IsFileLike like table (Err problem.HostFull) = ⊤
IsFileLike like table (Err other) = ⊥

-- a file loses nothing where this one with a table takes its place; or what is reported, unless the host has no memory
abbrev pub IsFree : List ℕ → Table → List ℕ → Result ⊤ Problem → Type 0
IsFree file table new (Ok done) = (is_alone (kind_of file) ≡ false → HasTable file table new) × IsLost file table.rows losses.Nothing
IsFree file table new (Err (problem.Container shown)) = is_alone (kind_of file) ≡ false
IsFree file table new (Err (problem.Lacking shown count)) = IsLost file table.rows (losses.Resources count)
IsFree file table new (Err (problem.NotFork shown)) = IsLost file table.rows losses.Unknown
IsFree file table new (Err problem.HostFull) = ⊤
IsFree file table new (Err other) = ⊥

-- by what a path leads to: a regular file was read that would be replaced
unfoldable pub ChecksAt : Bool → List ℕ → Table → List ℕ → Result ⊤ Problem → Log → Log → Type 0
ChecksAt true path table new = Then (ReadsOther path) (λ bytes. Finds (IsFree bytes.items table new))
ChecksAt false path table new = Finds (λ end. end ≡ Ok tt)

abbrev pub leads_to_file : Answer → Bool
leads_to_file (answers.Is found) = is_regular found.kind
leads_to_file other = false

-- it was asked what a path leads to, and looked whether that loses something; not of the standard output, nor where it may
unfoldable pub ChecksFree : Bool → List ℕ → Table → List ℕ → Result ⊤ Problem → Log → Log → Type 0
ChecksFree true path table new result old now = Finds (λ end. end ≡ Ok tt) result old now
ChecksFree false path table new result old now = (answer : Answer) × ChecksAt (leads_to_file answer) path table new result (act.Asked path answer ∷ old) now

-- a file was written, and that was said
unfoldable pub WritesAndSays : Target → List ℕ → Result ℕ Problem → Log → Log → Type 0
WritesAndSays target file = Then {T = ⊤} (WritesTo (goes_to target) file) (λ _. SaysSome target)

-- a new file with a table was written, unless one that is there would lose something by that
unfoldable pub WritesNew : Target → Bool → Table → List ℕ → Result ℕ Problem → Log → Log → Type 0
WritesNew target is_forced table file = Then {T = ⊤} (ChecksFree (is_forced || bytes_eq (written_file target) (codes "-")) (written_file target) table file) (λ _. WritesAndSays target file)

unfoldable pub WritesTable : Target → Bool → List ℕ → Table → Result ℕ Problem → Log → Log → Type 0
WritesTable target is_forced like table = Then (Finds (IsFileLike like table)) (λ file. WritesNew target is_forced table file.items)

-- what is reported where rows are put, of which some are there already
abbrev pub with_advice : Result ℕ Problem → Result ℕ Problem
with_advice (Err (problem.Edit refusal.Taken)) = Err problem.IsThere
with_advice other = other

-- the bytes of a file that another one is to be like; none where it is to be like none
abbrev pub like_bytes : Option Like → List ℕ
like_bytes (Some like) = like.bytes.now
like_bytes None = []
