-- How the bytes of a file are read that is looked at.
use Rattle.std.specs.Prelude.{◌≡◌, ◌⊎◌, ⊤, ℕ, ◌≤◌, true, false, List, ◌∷◌, length, Result, Ok, Err, Vec}
use Rattle.std.specs.Global.{Global}
use Rattle.std.specs.IoError.{error_kind}
use Rattle.std.specs.declared.fs.File.{File}
use Rattle.std.specs.declared.io.ErrorKind.{ErrorKind}
use Rattle.clap.specs.Words.{Text}
use Rattle.host_paths.specs.Asked.{Log, is_regular}
use Rattle.host_paths.specs.declared.host.Access.TheVariants.{Read}
use Rattle.host_paths.specs.declared.host.Answer.TheVariants.{Is, Nothing, Failed}
use Rattle.host_paths.specs.declared.host.Found.{Found}
use Rattle.host_paths.specs.declared.host.HostCall.TheVariants.{Of, Open, Over}
use Rattle.zone_view.specs.declared.reading.NotRead.{NotRead}
use Rattle.zone_view.specs.declared.reading.NotRead.TheVariants as not_read
use Rattle.zone_view.specs.declared.reading.ReadAnswer.{ReadAnswer}
use Rattle.zone_view.specs.declared.reading.ReadAnswer.TheVariants as answers

-- this many bytes of a file are read at most, 1 GB
abbrev pub most_bytes : ℕ
most_bytes = 0x4000_0000

-- the files that were to be read, the newest first, and what each gave
abbrev pub Reads : Type 0
Reads = List (File × ReadAnswer)

-- what was done with the host's files: the calls by which they were found and opened, and the files that were to be read
pub record Acts : Type 0 where
  pub calls : Log
  pub reads : Reads

-- what a file gave that was to be read
abbrev pub answer_of : Result (Vec ℕ Global) NotRead → ReadAnswer
answer_of (Ok bytes) = answers.Bytes bytes.items
answer_of (Err not_read.TooLong) = answers.TooLong
answer_of (Err other) = answers.Failed

-- an open file isn't read: it is too long, it fails, or the host has no memory for it
abbrev pub IsReadFault : NotRead → Type 0
IsReadFault not_read.TooLong = ⊤
IsReadFault (not_read.Failed error) = ⊤
IsReadFault other = ⊥

-- A path led to a plain file; it was opened to be read, asked what it is, and is this plain file.
abbrev pub IsOpened : Text → File → Log → Log → Type 0
IsOpened path file old new = (there : Found) × (here : Found) × (is_regular there.kind ≡ true) × (is_regular here.kind ≡ true)
    × (new ≡ Of file (Is here) ∷ Open Read path (Ok file) ∷ Over path (Is there) ∷ old)

-- a path led to no plain file, or what was opened is none
abbrev pub IsNotPlain : Text → Log → Log → Type 0
IsNotPlain path old new = ((there : Found) × (is_regular there.kind ≡ false) × (new ≡ Over path (Is there) ∷ old))
    ⊎ ((there : Found) × (file : File) × (here : Found) × (is_regular here.kind ≡ false)
    × (new ≡ Of file (Is here) ∷ Open Read path (Ok file) ∷ Over path (Is there) ∷ old))

-- a call at a path failed, with an error of this kind
abbrev pub HasFailed : Text → ErrorKind → Log → Log → Type 0
HasFailed path kind old new = (new ≡ Over path (Failed kind) ∷ old) ⊎ (((there : Found) × (new ≡ Open Read path (Err kind) ∷ Over path (Is there) ∷ old))
    ⊎ ((there : Found) × (file : File) × (new ≡ Of file (Failed kind) ∷ Open Read path (Ok file) ∷ Over path (Is there) ∷ old)))

-- the plain file of this path was opened, or why it wasn't
abbrev pub Opens : Text → Result File NotRead → Log → Log → Type 0
Opens path (Ok file) old new = IsOpened path file old new
Opens path (Err not_read.Missing) old new = new ≡ Over path Nothing ∷ old
Opens path (Err not_read.NotPlain) old new = IsNotPlain path old new
Opens path (Err (not_read.Failed error)) old new = HasFailed path (error_kind error) old new
Opens path (Err not_read.TooLong) old new = ⊥

-- just the file of this path was opened, and it was to be read
abbrev pub WasRead : Text → ReadAnswer → Acts → Acts → Type 0
WasRead path answer old new = (file : File) × IsOpened path file old.calls new.calls × (new.reads ≡ (file, answer) ∷ old.reads)

-- What was done where the file of this path was read whole, or why it wasn't. No other file was opened, and none
-- written.
abbrev pub IsReading : Text → Result (Vec ℕ Global) NotRead → Acts → Acts → Type 0
IsReading path (Ok bytes) old new = WasRead path (answers.Bytes bytes.items) old new × (length bytes.items ≤ most_bytes)
IsReading path (Err not_read.Missing) old new = (new.calls ≡ Over path Nothing ∷ old.calls) × (new.reads ≡ old.reads)
IsReading path (Err not_read.NotPlain) old new = IsNotPlain path old.calls new.calls × (new.reads ≡ old.reads)
IsReading path (Err not_read.TooLong) old new = WasRead path answers.TooLong old new
IsReading path (Err (not_read.Failed error)) old new = (HasFailed path (error_kind error) old.calls new.calls × (new.reads ≡ old.reads)) ⊎ WasRead path answers.Failed old new
