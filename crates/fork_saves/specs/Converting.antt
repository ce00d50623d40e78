-- A file in another container, act by act.
use Rattle.std.specs.Prelude.{◌≡◌, ◌≢◌, ◌⊎◌, ◌&&◌, ◌==◌, not, if◌then◌else◌, ℕ, Bool, true, false, List, [], ◌∷◌, length, Option, Some, None, is_some, Result, Ok, Err, Vec, ⊤, bytes_eq, codes}
use Rattle.std.specs.Borrow.{Bor}
use Rattle.std.specs.Global.{Global}
use Rattle.fork_answer.specs.Answer.{IsTableOf}
use Rattle.fork_answer.specs.Source.{IsForkIn}
use Rattle.fork_answer.specs.declared.answer.Failure.TheVariants as failure
use Rattle.fork_answer.specs.declared.source.NoFork.TheVariants as no_fork
use Rattle.fork_bytes.specs.declared.table.Table.{Table}
use Rattle.fork_edit.specs.Convert.{IsConverted}
use Rattle.fork_edit.specs.PathNames.{IsNameOfPath}
use Rattle.fork_edit.specs.declared.convert.NotConverted.{NotConverted}
use Rattle.fork_edit.specs.declared.convert.NotConverted.TheVariants as unconverted
use Rattle.fork_edit.specs.declared.convert.Rewritten.{Rewritten}
use Rattle.fork_edit.specs.declared.convert.Transfer.{Transfer}
use Rattle.fork_words.specs.declared.work.Conversion.{Conversion}
use Rattle.fork_words.specs.declared.work.Target.{Target}
use Rattle.host_paths.specs.declared.identity.Identity.{Identity}
use Rattle.host_paths.specs.contracts.identity.IdentityPartialEq.TheImpl as identity
use Rattle.mac_files.specs.Kinds.{kind_of}
use Rattle.mac_files.specs.OldFiles.{Opens, kind_by, said_by}
use Rattle.mac_files.specs.declared.container.Container.TheVariants.{Raw, AppleSingle, AppleDouble, MacBinary}
use Rattle.mac_files.specs.declared.container.Version.TheVariants as version
use Rattle.mac_files.specs.declared.kind.FileKind.{FileKind}
use Rattle.mac_files.specs.declared.kind.FileKind.TheVariants as kind
use Rattle.mac_files.specs.declared.old_file.FileFault.{FileFault}
use Rattle.mac_files.specs.declared.old_file.OldFile.{OldFile}
use Rattle.mac_write.specs.Lost.{holds}
use Rattle.mac_write.specs.OldParts.{old_parts}
use Rattle.mac_write.specs.Parts.{view}
use Rattle.mac_write.specs.declared.detail.Detail.TheVariants.{DataFork}
use Rattle.mac_write.specs.declared.mac_file.MacFile.{MacFile}
use Rattle.mac_write.specs.declared.target.Target.{Target as Kind}
use Rattle.mac_write.specs.declared.target.Target.TheVariants as target_kind
use Rattle.file_acts.specs.Acts.{Finds, Knows, Log, ReadsOther, Then}
use Rattle.file_acts.specs.Problems.{IsForkRefused, IsToldOfFailure, LacksFork}
use Rattle.file_acts.specs.declared.message.Problem.{Problem}
use Rattle.file_acts.specs.declared.message.Problem.TheVariants as problem
use Rattle.fork_saves.specs.Changing.{Says, written_file}
use Rattle.fork_saves.specs.Order.{order_of}
use Rattle.fork_saves.specs.Putting.{MakesReady, PutsBoth, Saves}
use Rattle.fork_saves.specs.declared.order.Order.{Order}
use Rattle.fork_saves.specs.declared.order.Order.TheVariants as order
use Rattle.fork_saves.specs.declared.ready.Ready.{Ready}

-- The order of the two files.

abbrev pub order_or : Option Order → Result Order Problem
order_or (Some it) = Ok it
order_or None = Err problem.OneFile

-- it was asked which files three paths lead to, and two of them are put in this order; or both are one file
unfoldable pub OrdersFiles : List ℕ → List ℕ → List ℕ → Result Order Problem → Log → Log → Type 0
OrdersFiles input output fork result old new = ((fork ≡ output) × (result ≡ Err problem.OneFile) × (new ≡ old))
    ⊎ ((a : Option Identity) × (b : Option Identity) × (c : Option Identity) × (one : Log) × (two : Log)
    × Knows input a old one × Knows output b one two × Knows fork c two new × (result ≡ order_or (order_of identity.ghosts.eq a b c)))

-- the same, where the data fork has a file of its own
abbrev pub OrdersBy : Option (Bor (List ℕ)) → Target → Result Order Problem → Log → Log → Type 0
OrdersBy None target = Finds (λ end. end ≡ Ok order.DataFirst)
OrdersBy (Some path) target = OrdersFiles target.file.now (written_file target) path.now

-- What is read.

-- bytes are known for sure as a container, or a BinHex text
abbrev pub is_sure_kind : FileKind → Bool
is_sure_kind (kind.Container Raw) = true
is_sure_kind (kind.Container AppleSingle) = true
is_sure_kind (kind.Container AppleDouble) = true
is_sure_kind (kind.Container (MacBinary version.I)) = false
is_sure_kind (kind.Container (MacBinary version.II)) = true
is_sure_kind (kind.Container (MacBinary version.III)) = true
is_sure_kind kind.BinHex = true
is_sure_kind (kind.Archive archive) = false
is_sure_kind kind.Unknown = false

abbrev pub is_sure : List ℕ → Bool
is_sure bytes = is_sure_kind (kind_of bytes)

-- bytes that aren't known for sure are a resource fork with a table, or what is reported where they aren't
abbrev pub IsChecked : Bool → List ℕ → Result ⊤ Problem → Type 0
IsChecked true bytes result = result ≡ Ok tt
IsChecked false bytes (Ok done) = (fork : List ℕ) × (table : Table) × IsForkIn bytes fork × IsTableOf fork table
IsChecked false bytes (Err told) = LacksFork bytes told ⊎ ((fork : List ℕ) × IsForkIn bytes fork × IsForkRefused bytes fork told)

-- what bytes hold, once they are checked; or what is reported where they aren't opened
abbrev pub IsOpenedAs : List ℕ → Result OldFile Problem → Type 0
IsOpenedAs bytes (Ok found) = IsChecked (is_sure bytes) bytes (Ok tt) × Opens (kind_of bytes) bytes (Ok found)
IsOpenedAs bytes (Err told) = IsChecked (is_sure bytes) bytes (Err told)
    ⊎ ((fault : FileFault) × IsChecked (is_sure bytes) bytes (Ok tt) × Opens (kind_of bytes) bytes (Err fault) × IsToldOfFailure bytes (failure.NoFork (no_fork.File fault)) told)

-- the data fork is in the file itself
abbrev pub is_inside_kind : FileKind → Bool
is_inside_kind (kind.Container Raw) = false
is_inside_kind (kind.Container AppleSingle) = true
is_inside_kind (kind.Container AppleDouble) = false
is_inside_kind (kind.Container (MacBinary which)) = true
is_inside_kind kind.BinHex = true
is_inside_kind (kind.Archive archive) = false
is_inside_kind kind.Unknown = false

-- these bytes again, unless the host has no memory
abbrev pub IsCopy : List ℕ → Result (Vec ℕ Global) Problem → Type 0
IsCopy bytes (Ok copy) = copy.items ≡ bytes
IsCopy bytes (Err why) = why ≡ problem.HostFull

-- the file that --data names was read, or there is none for it
abbrev pub FindsOther : Bool → List ℕ → Result (Vec ℕ Global) Problem → Log → Log → Type 0
FindsOther true path = ReadsOther path
FindsOther false path = Finds (λ end. end ≡ Err problem.NoDataFile)

-- By whether the new container holds data forks, and whether the file's is in it, where --data names a file: it is read
-- for a fork that is elsewhere, or it is to be written.
abbrev pub FindsNamed : List ℕ → Bool → Bool → List ℕ → Result (Vec ℕ Global) Problem → Log → Log → Type 0
FindsNamed path true is_inside fork = FindsOther (not is_inside && (length fork == 0)) path
FindsNamed path false true fork = Finds (IsCopy fork)
FindsNamed path false false fork = Finds (λ end. end ≡ Err problem.NoDataFile)

-- the file's own data fork, unless it would be lost
abbrev pub IsOwnData : Bool → List ℕ → Result (Vec ℕ Global) Problem → Type 0
IsOwnData true fork result = result ≡ Err problem.DataLost
IsOwnData false fork result = IsCopy fork result

-- the data fork that the new file gets, or that is written to a file of its own
abbrev pub FindsData : Option (Bor (List ℕ)) → Bool → Bool → List ℕ → Result (Vec ℕ Global) Problem → Log → Log → Type 0
FindsData (Some path) holds is_inside fork = FindsNamed path.now holds is_inside fork
FindsData None holds is_inside fork = Finds (IsOwnData (not holds && not (length fork == 0)) fork)

-- What is written.

-- the new file has a name, which is that of the path where the file has none
abbrev pub is_named_kind : Kind → Bool
is_named_kind target_kind.MacBinary = true
is_named_kind target_kind.BinHex = true
is_named_kind target_kind.Raw = false
is_named_kind target_kind.AppleDouble = false
is_named_kind target_kind.AppleSingle = false

abbrev pub is_named_by_path : Conversion → MacFile → Bool
is_named_by_path asked file = is_named_kind asked.kind && (length file.name.now == 0) && not (bytes_eq asked.target.file.now (codes "-"))

-- the name of the new file: the one that is asked for, that of the path, or its own
abbrev pub IsNameBy : Option (Vec ℕ Global) → Bool → List ℕ → List ℕ → List ℕ → Type 0
IsNameBy (Some given) by_path path own name = name ≡ given.items
IsNameBy None true path own name = IsNameOfPath path name
IsNameBy None false path own name = name ≡ own

-- what is asked for of a file that was found in these bytes, with this data fork
unfoldable pub IsTransfer : Conversion → List ℕ → MacFile → List ℕ → Transfer → Type 0
IsTransfer asked bytes file fork it = (it.bytes.now ≡ bytes) × (it.file ≡ file) × (it.data_fork.now ≡ fork)
    × IsNameBy asked.name (is_named_by_path asked file) asked.target.file.now file.name.now it.name.now
    × (it.is_data_named ≡ is_some asked.data) × (it.target ≡ asked.kind) × (it.is_lossy ≡ asked.is_lossy)

-- what is reported where a file isn't written in another container, unless the host has no memory
abbrev pub IsToldUnconverted : NotConverted → Problem → Type 0
IsToldUnconverted (unconverted.NotHeld lost) (problem.Lost words) = ⊤
IsToldUnconverted (unconverted.NotHeld lost) told = told ≡ problem.HostFull
IsToldUnconverted (unconverted.Write fault) told = told ≡ problem.Convert fault
IsToldUnconverted unconverted.HostFull told = told ≡ problem.HostFull

-- the file in its new container, or what is reported where it isn't written
abbrev pub IsRewritten : Conversion → List ℕ → MacFile → List ℕ → Result Rewritten Problem → Type 0
IsRewritten asked bytes file fork (Ok new) = (it : Transfer) × IsTransfer asked bytes file fork it × IsConverted it (Ok new)
IsRewritten asked bytes file fork (Err told) = (told ≡ problem.HostFull)
    ⊎ ((it : Transfer) × (fault : NotConverted) × IsTransfer asked bytes file fork it × IsConverted it (Err fault) × IsToldUnconverted fault told)

-- two that are ready were put, in this order
abbrev pub PutsIn : Order → Ready → Ready → Result ⊤ Problem → Log → Log → Type 0
PutsIn order.OutputFirst file fork = PutsBoth file fork
PutsIn order.DataFirst file fork = PutsBoth fork file

-- the new file was written, and its data fork where that has a file of its own; both were made before either was put
abbrev pub WritesForks : Option (Bor (List ℕ)) → List ℕ → Order → List ℕ → List ℕ → Result ⊤ Problem → Log → Log → Type 0
WritesForks None path order new fork = Saves path new
WritesForks (Some other) path order new fork = Then (MakesReady path new) (λ file. Then (MakesReady other.now fork) (PutsIn order file))

-- the file of the data fork that is written, if one is
abbrev pub data_goes_to : Conversion → Option (Bor (List ℕ))
data_goes_to asked = if holds asked.kind DataFork then None else asked.data

-- the same, unless it is only said what would be done
abbrev pub WritesUnless : Bool → Conversion → Order → List ℕ → List ℕ → Result ⊤ Problem → Log → Log → Type 0
WritesUnless true asked order new fork = Finds (λ end. end ≡ Ok tt)
WritesUnless false asked order new fork = WritesForks (data_goes_to asked) (written_file asked.target) order new fork

-- some text was said, if that is wanted; or the host has no memory for it
unfoldable pub SaysSome : Target → Result ℕ Problem → Log → Log → Type 0
SaysSome target result old new = ((text : List ℕ) × Says target text result old new) ⊎ ((result ≡ Err problem.HostFull) × (new ≡ old))

-- the new file was written, and that was said
abbrev pub WritesNew : Conversion → Order → List ℕ → List ℕ → Result ℕ Problem → Log → Log → Type 0
WritesNew asked order new fork = Then (WritesUnless asked.target.is_dry asked order new fork) (λ _. SaysSome asked.target)

-- a file that was found in bytes was written in another container, with this data fork
abbrev pub ConvertsWith : Conversion → Order → List ℕ → MacFile → List ℕ → Result ℕ Problem → Log → Log → Type 0
ConvertsWith asked order bytes file fork = Then (Finds (IsRewritten asked bytes file fork)) (λ new. WritesNew asked order new.file.items fork)

-- the same with the data fork that it gets
abbrev pub ConvertsFound : Conversion → Order → List ℕ → MacFile → Result ℕ Problem → Log → Log → Type 0
ConvertsFound asked order bytes file = Then (FindsData asked.data (holds asked.kind DataFork) (is_inside_kind (kind_of bytes)) file.data_fork.now) (λ fork. ConvertsWith asked order bytes file fork.items)

-- the same of what an opened file is
unfoldable pub ConvertsOpened : Conversion → Order → List ℕ → OldFile → Result ℕ Problem → Log → Log → Type 0
ConvertsOpened asked order bytes found result old new = (file : MacFile) × (view file ≡ old_parts (kind_by found) (said_by found)) × ConvertsFound asked order bytes file result old new

-- the same of bytes
abbrev pub ConvertsBytes : Conversion → Order → List ℕ → Result ℕ Problem → Log → Log → Type 0
ConvertsBytes asked order bytes = Then (Finds (IsOpenedAs bytes)) (ConvertsOpened asked order bytes)

-- a file with these bytes was written in another container, and its data fork to a file of its own
abbrev pub Converts : Conversion → List ℕ → Result ℕ Problem → Log → Log → Type 0
Converts asked bytes = Then (OrdersBy asked.data asked.target) (λ order. ConvertsBytes asked order bytes)
