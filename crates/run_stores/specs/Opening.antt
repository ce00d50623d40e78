-- Why a file isn't opened, as it is reported.
use Rattle.std.specs.Prelude.{ℕ, List, codes}
use Rattle.std.specs.declared.io.ErrorKind.{ErrorKind}
use Rattle.std.specs.declared.io.ErrorKind.TheVariants as kind
use Rattle.run_stores.specs.declared.opened.NotOpened.{NotOpened}
use Rattle.run_stores.specs.declared.opened.NotOpened.TheVariants.{NoFolder, Folder, Denied, ReadOnly, InUse, Twice, Other}

-- the reason and what to do, after the name of the file
abbrev pub reason : NotOpened → List ℕ
reason NoFolder = codes ": there is no such folder; make it first\n"
reason Folder = codes ": it is a folder; name a file\n"
reason Denied = codes ": permission denied; ask its owner for it, or name another file\n"
reason ReadOnly = codes ": it is missing, and nothing can be made there; name another file\n"
reason InUse = codes ": another program is at work on it; wait for its end, or name another file\n"
reason Twice = codes ": a word before it names the same file; name another file\n"
reason Other = codes ": the system refuses it; name another file\n"

-- why the host doesn't open a file, by the kind of its error
abbrev pub because : ErrorKind → NotOpened
because kind.NotFound = NoFolder
because kind.NotADirectory = NoFolder
because kind.IsADirectory = Folder
because kind.PermissionDenied = Denied
because kind.ReadOnlyFilesystem = ReadOnly
because _ = Other
