-- Which folders are written to, by what the system says of them.
use Rattle.std.specs.Prelude.{◌≡◌, ◌⊎◌, ℕ, ℤ, ◌==◌, ◌&&◌, not, Bool, true, false, List, [], ◌∷◌, ◌++◌, codes, Option, None, Some, Result, Ok, Err, bit_and}
use Rattle.std.specs.Fd.{file_raw_fd}
use Rattle.std.specs.Fmt.{signed_decimal}
use Rattle.std.specs.declared.fs.File.{File}
use Rattle.host_paths.specs.declared.host.Access.TheVariants.{Read}
use Rattle.host_paths.specs.declared.host.Answer.TheVariants.{Is}
use Rattle.host_paths.specs.declared.host.Found.{Found}
use Rattle.host_paths.specs.declared.host.HostCall.TheVariants.{At, Of, Open, User, Empty}
use Rattle.host_paths.specs.Asked.{Log, is_folder, same_file}

-- an open folder is the one that is at a path, and belongs to this user
abbrev pub is_made : Found → Found → ℕ → Bool
is_made here there owner = is_folder here.kind && (is_folder there.kind && (same_file here there && here.user == owner))

-- a folder belongs to another user, and its group or others may write there
abbrev pub is_shared : Found → ℕ → Bool
is_shared found owner = not (found.user == owner) && not (bit_and found.mode 0o022 == 0)

-- this folder was opened by its path and a slash: what is no folder isn't opened so
abbrev pub Opens : List ℕ → File → Log → Log → Type 0
Opens path folder old new = new ≡ Open Read (path ++ codes "/") (Ok folder) ∷ old

-- this was opened, and is the folder of this user that is at the path, where a link isn't followed
abbrev pub OpensMade : List ℕ → ℕ → File → Log → Log → Type 0
OpensMade path owner folder old new = (here : Found) × (there : Found) × (mid : Log) × Opens path folder old mid × (is_made here there owner ≡ true) × (new ≡ At path (Is there) ∷ Of folder (Is here) ∷ mid)

-- this folder is the user's own, or no others than its owner may write there
abbrev pub IsOwned : ℕ → File → Log → Log → Type 0
IsOwned owner folder old new = (found : Found) × (is_shared found owner ≡ false) × (new ≡ Of folder (Is found) ∷ old)

-- whether a folder has nothing in it, if the system says it
abbrev pub emptiness : {E : Type 0} → Result Bool E → Option Bool
emptiness (Ok is) = Some is
emptiness (Err error) = None

-- this folder has nothing in it, and is the user's own, or no others than its owner may write there
abbrev pub IsChecked : ℕ → File → Log → Log → Type 0
IsChecked owner folder old new = IsOwned owner folder (Empty folder (Some true) ∷ old) new

-- the folder of a path is open, for the user of this process: this user's, which was made there, or one that was there;
-- and it was found good
abbrev pub IsBegun : List ℕ → ℕ → File → Log → Type 0
IsBegun path owner folder new = (mid : Log) × (OpensMade path owner folder (User (Some owner) ∷ []) mid ⊎ Opens path folder (User (Some owner) ∷ []) mid) × IsChecked owner folder mid new

-- the path of something in an open folder, by way of its descriptor
abbrev pub path_by : ℤ → List ℕ → List ℕ
path_by number name = codes "/proc/self/fd/" ++ (signed_decimal number ++ (codes "/" ++ name))

abbrev pub path_in : File → List ℕ → List ℕ
path_in folder name = path_by (file_raw_fd folder) name
