-- What becomes of a file that is changed, and is saved.
use Rattle.std.specs.Option.{option_map_or, option_or}
use Rattle.std.specs.Prelude.{◌≡◌, ◌≢◌, ◌⊎◌, ◌&&◌, ◌||◌, not, if◌then◌else◌, ℕ, Bool, List, [], Option, Some, None, Result, Ok, Err, Vec, ⊤, bytes_eq, codes, string_bytes, false, true, is_some, IfSome}
use Rattle.std.specs.Borrow.{Bor}
use Rattle.std.specs.Global.{Global}
use Rattle.fork_bytes.specs.Rows.{Row}
use Rattle.fork_edit.specs.Changes.{Comes}
use Rattle.fork_edit.specs.declared.change.NewFile.{NewFile}
use Rattle.fork_edit.specs.declared.change.NotChanged.{NotChanged}
use Rattle.fork_edit.specs.declared.edit.Edit.{Edit}
use Rattle.fork_words.specs.declared.work.Conversion.{Conversion}
use Rattle.fork_words.specs.declared.work.Target.{Target}
use Rattle.file_replace.specs.declared.held.Held.{Held}
use Rattle.file_acts.specs.Acts.{Finds, Log, Prints, Reads, ReadsHeld, Then}
use Rattle.file_acts.specs.Problems.{IsToldOfChange, after_change}
use Rattle.file_acts.specs.declared.message.Problem.{Problem}
use Rattle.file_acts.specs.Saved.{JustRead, SavedAndSaid}
use Rattle.fork_saves.specs.Putting.{OpensFile, Renews, Saves}
use Rattle.fork_saves.specs.declared.source.Source.{Source}
use Rattle.fork_saves.specs.declared.source.Source.TheVariants as source

-- a changed file was saved; where nothing changes, the bytes as they were, or these were read and that was all
abbrev pub EndsAs : List ℕ → Option NewFile → Log → Type 0
EndsAs old (Some changed) new = SavedAndSaid changed.file.items new
EndsAs old None new = SavedAndSaid old new ⊎ JustRead old new

-- the same of what comes of these bytes by an edit
abbrev pub EndsBy : List ℕ → List Row → Edit → Log → Type 0
EndsBy old from edit new = (changed : Option NewFile) × Comes old from edit (Ok changed) × EndsAs old changed new

-- a file is changed: it isn't only said what would be done, and the changed one doesn't go to the standard output
abbrev pub IsForFile : Target → Type 0
IsForFile target = (target.is_dry ≡ false) × IfSome target.output (λ path. path.now ≢ codes "-")

-- the same, and another one is written than is read
abbrev pub IsForOther : Target → Type 0
IsForOther target = IsForFile target × (is_some target.output ≡ true)

-- the file that is written: another one, or the one that is read
abbrev pub written_file : Target → List ℕ
written_file target = option_map_or (λ path. path.now) target.output target.file.now

-- and of a file in another container, and its data fork
abbrev pub IsForNew : Conversion → Type 0
IsForNew asked = (asked.target.is_dry ≡ false) × (written_file asked.target ≢ codes "-") × IfSome asked.data (λ path. path.now ≢ codes "-")

-- the bytes of a file that was opened to be changed
abbrev pub source_bytes : Source → List ℕ
source_bytes (source.Read bytes) = bytes.items
source_bytes (source.Held held bytes) = bytes.items

abbrev pub is_held : Source → Bool
is_held (source.Read bytes) = false
is_held (source.Held held bytes) = true

-- they were just read, where the file is held
abbrev pub IsJustRead : Source → Log → Type 0
IsJustRead (source.Read bytes) new = ⊤
IsJustRead (source.Held held bytes) new = JustRead bytes.items new

-- nothing is written: no other file is named, or it is only said what would be done
abbrev pub IsIdle : Target → Type 0
IsIdle target = (target.output ≡ None) ⊎ (target.is_dry ≡ true)

-- What is done, act by act.

-- what comes of bytes by an edit, or what is reported where nothing does
abbrev pub IsOutcome : List ℕ → List Row → Edit → Result (Option NewFile) Problem → Type 0
IsOutcome file from edit (Ok changed) = Comes file from edit (Ok changed)
IsOutcome file from edit (Err told) = (fault : NotChanged) × Comes file from edit (Err fault) × IsToldOfChange file fault told

-- the other file that is written, if one is
abbrev pub goes_to : Target → Option (Bor (List ℕ))
goes_to target = if target.is_dry then None else target.output

-- the file that is read isn't written: another one is, or none
abbrev pub is_elsewhere : Target → Bool
is_elsewhere target = target.is_dry || is_some target.output

-- a file is held that is to be replaced, and no other one
abbrev pub IsOpenedFor : Target → Source → Type 0
IsOpenedFor target it = is_held it ≡ not (is_elsewhere target)

-- the standard output, which "-" is
abbrev pub is_output : Option (Bor (List ℕ)) → Bool
is_output None = false
is_output (Some path) = bytes_eq path.now (codes "-")

-- it is said what was done, or would be: not where that isn't wanted, or the file itself goes to the standard output
abbrev pub is_said : Target → Bool
is_said target = not target.is_quiet && not (is_output (goes_to target))

-- bytes were written to the other file, if one is written
unfoldable pub WritesTo : Option (Bor (List ℕ)) → List ℕ → Result ⊤ Problem → Log → Log → Type 0
WritesTo None bytes = Finds (λ end. end ≡ Ok tt)
WritesTo (Some path) bytes = Saves path.now bytes

-- it was said what was done, if that is wanted
unfoldable pub SaysIf : Bool → List ℕ → Result ℕ Problem → Log → Log → Type 0
SaysIf true text = Then {T = ⊤} (Prints text) (λ _. Finds (λ end. end ≡ Ok 0))
SaysIf false text = Finds (λ end. end ≡ Ok 0)

unfoldable pub Says : Target → List ℕ → Result ℕ Problem → Log → Log → Type 0
Says target text = SaysIf (is_said target) text

-- the end, where a file is changed already
abbrev pub after_end : Result ℕ Problem → Result ℕ Problem
after_end (Ok status) = Ok status
after_end (Err why) = Err (after_change why)

-- the same, after a file was changed
unfoldable pub SaysAfter : Target → List ℕ → Result ℕ Problem → Log → Log → Type 0
SaysAfter target text result old new = (said : Result ℕ Problem) × Says target text said old new × (result ≡ after_end said)

-- a changed file was written to the other file, and then it was said what changed
unfoldable pub WritesChanged : Target → NewFile → Result ℕ Problem → Log → Log → Type 0
WritesChanged target changed = Then (WritesTo (goes_to target) changed.file.items) (λ _. Says target (string_bytes changed.told))

-- the same of what comes of bytes; where nothing changes, of the bytes as they are
unfoldable pub WritesOutcome : Target → List ℕ → Option NewFile → Result ℕ Problem → Log → Log → Type 0
WritesOutcome target before None = Then (WritesTo (goes_to target) before) (λ _. Finds (λ end. end ≡ Ok 0))
WritesOutcome target before (Some changed) = WritesChanged target changed

-- a changed file was put in the place of one that is held, and then it was said what changed
unfoldable pub Replaces : Target → Held → List ℕ → NewFile → Result ℕ Problem → Log → Log → Type 0
Replaces target held before changed = Then (Renews target.keeps_old held before changed.file.items) (λ _. SaysAfter target (string_bytes changed.told))

-- the same of what comes of its bytes; where nothing changes, nothing was done
unfoldable pub ReplacesBy : Target → Held → List ℕ → Option NewFile → Result ℕ Problem → Log → Log → Type 0
ReplacesBy target held before None = Finds (λ end. end ≡ Ok 0)
ReplacesBy target held before (Some changed) = Replaces target held before changed

-- what comes of these bytes goes to the other file
unfoldable pub ChangesInto : Target → List ℕ → List Row → Edit → Result ℕ Problem → Log → Log → Type 0
ChangesInto target before from edit = Then (Finds (IsOutcome before from edit)) (WritesOutcome target before)

-- what comes of the bytes of a file that is held goes to its place
unfoldable pub RenewsBy : Target → Held → List ℕ → List Row → Edit → Result ℕ Problem → Log → Log → Type 0
RenewsBy target held before from edit = Then (Finds (IsOutcome before from edit)) (ReplacesBy target held before)

-- a file was opened and locked, and that one read
unfoldable pub HoldsFile : List ℕ → Result Source Problem → Log → Log → Type 0
HoldsFile path = Then (OpensFile path) (λ held. Then (ReadsHeld held.file) (λ bytes. Finds (λ end. end ≡ Ok (source.Held held bytes))))

-- a file was read that isn't to be replaced
unfoldable pub ReadsSource : List ℕ → Result Source Problem → Log → Log → Type 0
ReadsSource path = Then (Reads path) (λ bytes. Finds (λ end. end ≡ Ok (source.Read bytes)))

unfoldable pub OpensIf : Bool → List ℕ → Result Source Problem → Log → Log → Type 0
OpensIf true = ReadsSource
OpensIf false = HoldsFile

-- a file that is to be changed was opened, once
unfoldable pub OpensSource : Target → Result Source Problem → Log → Log → Type 0
OpensSource target = OpensIf (is_elsewhere target) target.file.now

-- what comes of its bytes goes to its place, or to another
unfoldable pub ChangesSource : Target → Source → List Row → Edit → Result ℕ Problem → Log → Log → Type 0
ChangesSource target (source.Read bytes) = ChangesInto target bytes.items
ChangesSource target (source.Held held bytes) = RenewsBy target held bytes.items

-- a file was changed, in its own place or in another
unfoldable pub Changes : Target → List Row → Edit → Result ℕ Problem → Log → Log → Type 0
Changes target from edit = Then (OpensSource target) (λ source. ChangesSource target source from edit)

-- the file that is made is the other one, if one is named, or the one that would be read
abbrev pub to_new : Target → Target
to_new target = record target { output = option_or target.output (Some target.file) }

-- a file was made
unfoldable pub Creates : Target → List Row → Edit → Result ℕ Problem → Log → Log → Type 0
Creates target from edit = ChangesInto (to_new target) [] from edit
