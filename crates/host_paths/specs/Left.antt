-- Which files that killed programs left are removed.
use Rattle.std.specs.Prelude.{◌≡◌, ◌≢◌, ⊤, ◌⊎◌, ℕ, ◌==◌, ◌&&◌, ◌||◌, not, length, Bool, true, false, List, [], ◌∷◌, ◌++◌, Option, Some, None, Ok, codes, option_map, unwrap_or}
use Rattle.std.specs.Char.{is_ascii_digit}
use Rattle.std.specs.List.{list_all}
use Rattle.std.specs.Path.{rsplit_once, slash}
use Rattle.std.specs.declared.fs.File.{File}
use Rattle.host_paths.specs.declared.host.Access.TheVariants.{Read}
use Rattle.host_paths.specs.declared.host.Answer.{Answer}
use Rattle.host_paths.specs.declared.host.Answer.TheVariants.{Is, Nothing, Failed}
use Rattle.host_paths.specs.declared.host.Found.{Found}
use Rattle.host_paths.specs.declared.host.HostCall.{HostCall}
use Rattle.host_paths.specs.declared.host.HostCall.TheVariants.{At, Of, Open, Lock, Make, Remove, User}
use Rattle.host_paths.specs.declared.host.Locking.TheVariants.{Taken}
use Rattle.host_paths.specs.Asked.{LeadsTo, Log, is_asking, is_regular, same_file}
use Rattle.host_paths.specs.Naming.{IsMadePath}

-- a number, with at least one digit
abbrev pub is_number : List ℕ → Bool
is_number text = not (length text == 0) && list_all is_ascii_digit text

-- the name of a file that is made beside another: `.resfork-`, a number, `.new`
abbrev pub IsNewName : List ℕ → Type 0
IsNewName name = (number : List ℕ) × (is_number number ≡ true) × (name ≡ codes ".resfork-" ++ number ++ codes ".new")

-- this number, if there is one
abbrev pub is_some_of : Option ℕ → ℕ → Bool
is_some_of None number = false
is_some_of (Some one) number = one == number

-- a regular file of one of these users
abbrev pub is_of_users : Found → ℕ × Option ℕ → Bool
is_of_users found users = is_regular found.kind && (found.user == users.0 || is_some_of users.1 found.user)

-- It was found at this path, a regular file of one of these users, opened and locked, and the path is its own still.
abbrev pub IsLeft : List ℕ → ℕ × Option ℕ → File → Log → Log → Type 0
IsLeft path users file old new = (found : Found) × (here : Found) × (is_of_users found users ≡ true) × (same_file here found ≡ true)
    × LeadsTo path file true (Lock file (Ok Taken) ∷ Of file (Is here) ∷ Open Read path (Ok file) ∷ At path (Is found) ∷ old) new

-- what follows the last slash of a path
abbrev pub last_name : List ℕ → List ℕ
last_name path = unwrap_or (option_map (λ parts. parts.1) (rsplit_once slash path)) path

-- the users of whom files may be removed, if they are known
abbrev pub Users : Type 0
Users = Option (ℕ × Option ℕ)

-- a file at this path was left, has the name of a new one, and belongs to one of these users
abbrev pub MayBeRemoved : Users → List ℕ → Log → Type 0
MayBeRemoved None path past = ⊥
MayBeRemoved (Some users) path past = IsNewName (last_name path) × ((old : Log) × (file : File) × IsLeft path users file old past)

-- what may be done to make a file beside a path: one is made so, one that was left is removed, or something is asked
abbrev pub MayBeDone : Users → HostCall → Log → Type 0
MayBeDone users (Make mode path file) past = IsMadePath path
MayBeDone users (Remove path is_done) past = MayBeRemoved users path past
MayBeDone users call past = is_asking call ≡ true

-- all calls are such
abbrev pub Swept : Users → Log → Type 0
Swept users [] = ⊤
Swept users (call ∷ past) = Swept users past × MayBeDone users call past

abbrev pub KeepsSwept : Users → Log → Log → Type 0
KeepsSwept users old new = Swept users old → Swept users new

-- the same, whoever the users are: nothing was removed
abbrev pub RemovesNone : Log → Log → Type 0
RemovesNone old new = (users : Users) → KeepsSwept users old new

-- the user to whom what was found belongs
abbrev pub owner_found : Answer → Option ℕ
owner_found (Is found) = Some found.user
owner_found Nothing = None
owner_found (Failed kind) = None

-- root may have given its new file to the owner of the one at the path, which was asked for
abbrev pub MayHaveGiven : List ℕ → ℕ → Option ℕ → Log → Log → Type 0
MayHaveGiven path user owner old new = ((user ≡ 0) × ((answer : Answer) × (owner ≡ owner_found answer) × (new ≡ At path answer ∷ old))) ⊎ ((user ≢ 0) × (owner ≡ None) × (new ≡ old))

-- these are the users of whom files are removed beside a path: the one of this process, and whom root may have given a
-- file; none where that isn't known
abbrev pub AreUsers : List ℕ → Users → Log → Log → Type 0
AreUsers path None old new = new ≡ User None ∷ old
AreUsers path (Some users) old new = MayHaveGiven path users.0 users.1 (User (Some users.0) ∷ old) new

-- beside a path files were made, and of its users such were removed that were left; nothing else was done
abbrev pub OnlyBeside : List ℕ → Log → Log → Type 0
OnlyBeside path old new = (users : Users) × (mid : Log) × AreUsers path users old mid × KeepsSwept users mid new
