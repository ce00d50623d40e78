-- What is done to put bytes at a path, act by act. A path is the one that was asked for; of the calls that each act has,
-- the words of file_replace say which file it leads to.
use Rattle.std.specs.Prelude.{◌≡◌, ◌≢◌, ◌⊎◌, ℕ, Bool, List, [], ◌∷◌, Option, None, Some, Result, Ok, Err, ⊤, codes, string_bytes}
use Rattle.file_replace.specs.Calls.{HeldAt}
use Rattle.file_replace.specs.Held.{PreparesAt, PreparesHeld, PutsPrepared, PutsTwo}
use Rattle.file_replace.specs.Opening.{Asks, OpensAs, OpensHeld}
use Rattle.file_replace.specs.declared.calls.HeldCall.{HeldCall}
use Rattle.file_replace.specs.declared.destination.Destination.{Destination}
use Rattle.file_replace.specs.declared.held.Held.{Held}
use Rattle.file_replace.specs.declared.prepared.NotBoth.{NotBoth}
use Rattle.file_replace.specs.declared.prepared.NotBoth.TheVariants as not_both
use Rattle.file_replace.specs.declared.prepared.Outcome.{Outcome}
use Rattle.file_replace.specs.declared.prepared.Prepared.{Prepared}
use Rattle.file_replace.specs.declared.told.NotReplaced.{NotReplaced}
use Rattle.file_replace.specs.declared.world.UnknownFolder.{UnknownFolder}
use Rattle.file_acts.specs.Acts.{Log, Prints, Then}
use Rattle.file_acts.specs.declared.acts.Act.TheVariants as act
use Rattle.file_acts.specs.declared.message.Problem.{Problem}
use Rattle.file_acts.specs.declared.message.Problem.TheVariants as problem
use Rattle.fork_saves.specs.declared.ready.Ready.{Ready}
use Rattle.fork_saves.specs.declared.ready.Ready.TheVariants as ready
use Rattle.fork_saves.specs.declared.ready.ReadyFile.{ReadyFile}

-- what a path has and what is beside it: of that nothing is said
abbrev pub unknown : HeldAt
unknown calls = record { path = None; beside = None }

-- calls on files are one act, and end so
unfoldable pub ByCalls : {T : Type 0} → (Result T NotReplaced → List HeldCall → Type 0) → Result T NotReplaced → Log → Log → Type 0
ByCalls Does end old new = (calls : List HeldCall) × Does end calls × (new ≡ act.Saved calls ∷ old)

-- the end, where a file that is there was to be replaced
abbrev pub end_of : {T : Type 0} → Result T NotReplaced → Result T Problem
end_of (Ok value) = Ok value
end_of (Err why) = Err (problem.Replace why)

-- the file of a path was opened and locked, to be replaced, or why not
abbrev pub OpensFile : List ℕ → Result Held Problem → Log → Log → Type 0
OpensFile path result old new = (end : Result Held NotReplaced) × (result ≡ end_of end) × ByCalls (λ end calls. Asks (OpensHeld path end) [] calls) end old new

-- what was prepared was put, or why not; or why nothing was prepared
abbrev pub PutsMade : Result (Prepared UnknownFolder) NotReplaced → Result ⊤ NotReplaced → List HeldCall → List HeldCall → Type 0
PutsMade (Ok it) (Ok done) old new = (outcome : Outcome) × PutsPrepared unknown it (Ok outcome) old new
PutsMade (Ok it) (Err why) old new = PutsPrepared unknown it (Err why) old new
PutsMade (Err why) result old new = (result ≡ Err why) × (new ≡ old)

-- new bytes were put in the place of the old ones of a file that is held; a copy of these was put at NAME~ before, where
-- they are kept
unfoldable pub PutsOver : Bool → Held → List ℕ → List ℕ → Result ⊤ NotReplaced → List HeldCall → List HeldCall → Type 0
PutsOver keeps held before after result old new = (made : Result (Prepared UnknownFolder) NotReplaced) × (mid : List HeldCall)
    × PreparesHeld unknown unknown keeps held before after made old mid × PutsMade made result mid new

-- the same, as one act
abbrev pub Renews : Bool → Held → List ℕ → List ℕ → Result ⊤ Problem → Log → Log → Type 0
Renews keeps held before after result old new = (end : Result ⊤ NotReplaced) × (result ≡ end_of end) × ByCalls (λ end calls. PutsOver keeps held before after end [] calls) end old new

-- bytes were made into a file beside what was opened, or why not; or why nothing was opened
abbrev pub PreparesOpened : Result Destination NotReplaced → List ℕ → Result (Prepared UnknownFolder) NotReplaced → List HeldCall → List HeldCall → Type 0
PreparesOpened (Ok to) bytes result old new = PreparesAt unknown to bytes result old new
PreparesOpened (Err why) bytes result old new = (result ≡ Err why) × (new ≡ old)

-- a path was opened, and bytes made into a file beside what it leads to
unfoldable pub PreparesPath : List ℕ → List ℕ → Result (Prepared UnknownFolder) NotReplaced → List HeldCall → List HeldCall → Type 0
PreparesPath path bytes result old new = (opened : Result Destination NotReplaced) × (mid : List HeldCall) × Asks (OpensAs path opened) old mid × PreparesOpened opened bytes result mid new

-- what is reported where no file is put at a path, unless the host has no memory to say so
abbrev pub IsToldUnsaved : List ℕ → NotReplaced → Problem → Type 0
IsToldUnsaved path why (problem.Output name error) = (string_bytes name ≡ path) × (error ≡ why)
IsToldUnsaved path why problem.HostFull = ⊤
IsToldUnsaved path why other = ⊥

-- bytes are ready in a file beside a path, or why not
unfoldable pub MakesFile : List ℕ → List ℕ → Result ReadyFile Problem → Log → Log → Type 0
MakesFile path bytes (Ok file) old new = (file.path.now ≡ path) × ByCalls (λ end calls. PreparesPath path bytes end [] calls) (Ok file.prepared) old new
MakesFile path bytes (Err told) old new = (why : NotReplaced) × IsToldUnsaved path why told × ByCalls (λ end calls. PreparesPath path bytes end [] calls) (Err why) old new

-- the same of what may be the standard output, for which nothing is done, but that no bytes go to a terminal
abbrev pub MakesReady : List ℕ → List ℕ → Result Ready Problem → Log → Log → Type 0
MakesReady path bytes (Ok (ready.Output out)) old new = (path ≡ codes "-") × (out.now ≡ bytes) × (new ≡ old)
MakesReady path bytes (Ok (ready.File file)) old new = (path ≢ codes "-") × MakesFile path bytes (Ok file) old new
MakesReady path bytes (Err told) old new = ((path ≡ codes "-") × (told ≡ problem.Terminal) × (new ≡ old)) ⊎ ((path ≢ codes "-") × MakesFile path bytes (Err told) old new)

-- how a save at a path ends
abbrev pub IsEnd : {T : Type 0} → List ℕ → Result T NotReplaced → Result ⊤ Problem → Type 0
IsEnd path (Ok done) result = result ≡ Ok tt
IsEnd path (Err why) (Ok done) = ⊥
IsEnd path (Err why) (Err told) = IsToldUnsaved path why told

-- a file that is ready was put at its path, or why not
unfoldable pub PutsFile : ReadyFile → Result ⊤ Problem → Log → Log → Type 0
PutsFile file result old new = (end : Result Outcome NotReplaced) × IsEnd file.path.now end result × ByCalls (λ end calls. PutsPrepared unknown file.prepared end [] calls) end old new

-- what is ready was put, or printed
abbrev pub PutsReady : Ready → Result ⊤ Problem → Log → Log → Type 0
PutsReady (ready.Output bytes) = Prints bytes.now
PutsReady (ready.File file) = PutsFile file

-- how two saves at paths end
abbrev pub IsEndOfBoth : List ℕ → List ℕ → Result (Outcome × Outcome) NotBoth → Result ⊤ Problem → Type 0
IsEndOfBoth path next (Ok outcomes) result = result ≡ Ok tt
IsEndOfBoth path next (Err why) (Ok done) = ⊥
IsEndOfBoth path next (Err (not_both.First refusal left)) (Err told) = IsToldUnsaved path refusal told
IsEndOfBoth path next (Err (not_both.Second refusal)) (Err told) = IsToldUnsaved next refusal told

-- two files that are ready were put at their paths, the second only after the first
unfoldable pub PutsFiles : ReadyFile → ReadyFile → Result ⊤ Problem → Log → Log → Type 0
PutsFiles first second result old new = (end : Result (Outcome × Outcome) NotBoth) × (calls : List HeldCall) × IsEndOfBoth first.path.now second.path.now end result
    × PutsTwo unknown unknown first.prepared second.prepared end [] calls × (new ≡ act.Saved calls ∷ old)

-- the same of any two that are ready
abbrev pub PutsBoth : Ready → Ready → Result ⊤ Problem → Log → Log → Type 0
PutsBoth (ready.File first) (ready.File second) = PutsFiles first second
PutsBoth (ready.File first) (ready.Output bytes) = Then {T = ⊤} (PutsFile first) (λ _. Prints bytes.now)
PutsBoth (ready.Output bytes) second = Then {T = ⊤} (Prints bytes.now) (λ _. PutsReady second)

-- bytes were saved at a path, or printed where it is "-"
unfoldable pub Saves : List ℕ → List ℕ → Result ⊤ Problem → Log → Log → Type 0
Saves path bytes = Then (MakesReady path bytes) PutsReady
