-- Calls that stop, among more calls.
use Rattle.std.proofs.Common.{◌≡◌, ℕ, suc, ◌+◌, ◌<◌, true, false, Bool, if◌then◌else◌, List, [], ◌∷◌, ◌++◌, length, get_or, map, drop, Option, None, Some, Result, Ok, Err, inr, refl, sym, ap, subst, ◌∙◌, add-one, append_assoc}
use Rattle.std.specs.Prelude.{bytes_eq, codes}
use Rattle.std.proofs.Math.Seq.{drop-cons}
use Rattle.new_folder.specs.declared.calls.FolderCall.{FolderCall}
use Rattle.new_folder.specs.NewFolder.{Event, Makes, StopsIn, event, path_below, with_file, with_folder}
use Rattle.new_folder.specs.declared.calls.FolderCall.TheVariants.{Begin, MakeFolder, OpenFolder, MakeFile, Write}
use Rattle.fork_folder.specs.Unpacked.{Unpacked}
use Rattle.fork_view.specs.Unpacking.{Unpacks, all_calls, entered, files_calls, opened_folder, with_unpacked}

-- these calls come after those
pub record Follows (all old : List Event) : Type 0 where
  pub more : List Event
  pub is : all ≡ more ++ old

-- they stop among the first
pub stops_before : (all step old new : List Event) → Follows all step → StopsIn step old new → StopsIn all old new
stops_before all step old new after stops = record {
  later = after.more ++ stops.later;
  call = stops.call;
  given = stops.given;
  between = stops.between;
  wanted = after.is ∙ ap (λ (xs : List Event). after.more ++ xs) stops.wanted
      ∙ sym (append_assoc after.more stops.later (event stops.call true stops.given ∷ (stops.between ++ old)));
  made = stops.made;
}

-- they stop among the last
pub stops_after : (all middle old new : List Event) → Follows middle old → StopsIn all middle new → StopsIn all old new
stops_after all middle old new after stops =
    let joined : stops.between ++ middle ≡ (stops.between ++ after.more) ++ old =
    ap (λ (xs : List Event). stops.between ++ xs) after.is ∙ sym (append_assoc stops.between after.more old) in
    record {
      later = stops.later;
      call = stops.call;
      given = stops.given;
      between = stops.between ++ after.more;
      wanted = stops.wanted ∙ ap (λ (xs : List Event). stops.later ++ (event stops.call true stops.given ∷ xs)) joined;
      made = stops.made ∙ ap (λ (xs : List Event). event stops.call false stops.given ∷ xs) joined;
    }

-- the calls of one step follow those before it
pub follows_file : (path bytes : List ℕ) (past : List Event) → Follows (with_file path bytes past) past
follows_file path bytes past = record { more = event Write true bytes ∷ event MakeFile true path ∷ []; is = refl }

entered_by : (b : Bool) (kind : List ℕ) (past : List Event) → Follows (if b then past else with_folder kind past) past
entered_by true kind past = record { more = []; is = refl }
entered_by false kind past = record { more = event OpenFolder true kind ∷ event MakeFolder true kind ∷ []; is = refl }

pub follows_folder : (last : Option (List ℕ)) (kind : List ℕ) (past : List Event) → Follows (entered last kind past) past
follows_folder None kind past = entered_by false kind past
follows_folder (Some last) kind past = entered_by (bytes_eq last kind) kind past

pub follows : (a b c : List Event) → Follows a b → Follows b c → Follows a c
follows a b c ab bc = record {
  more = ab.more ++ bc.more;
  is = ab.is ∙ ap (λ (xs : List Event). ab.more ++ xs) bc.is ∙ sym (append_assoc ab.more bc.more c);
}

pub follows_unpacked : (last : Option (List ℕ)) (file : Unpacked) (past : List Event) → Follows (with_unpacked last file past) past
follows_unpacked last file past =
    follows (with_unpacked last file past) (entered last file.folder past) past
    (follows_file (path_below (Some file.folder) file.name) file.bytes (entered last file.folder past)) (follows_folder last file.folder past)

pub follows_files : (last : Option (List ℕ)) (files : List Unpacked) (past : List Event) → Follows (files_calls last files past) past
follows_files last [] past = record { more = []; is = refl }
follows_files last (file ∷ files) past =
    follows (files_calls last (file ∷ files) past) (with_unpacked last file past) past
    (follows_files (Some file.folder) files (with_unpacked last file past)) (follows_unpacked last file past)

-- the one call failed
pub only_failed : (a : FolderCall) (x : List ℕ) (old : List Event) → StopsIn (event a true x ∷ old) old (event a false x ∷ old)
only_failed a x old = record { later = []; call = a; given = x; between = []; wanted = refl; made = refl }

-- the file of a resource isn't made, in the folder of its type
pub file_stops : (last : Option (List ℕ)) (file : Unpacked) (name : List ℕ) (old middle new : List Event) → name ≡ file.folder
    → middle ≡ entered last file.folder old → StopsIn (with_file (path_below (Some name) file.name) file.bytes middle) middle new
    → StopsIn (with_unpacked last file old) old new
file_stops last file name old middle new same is stops =
    let start = entered last file.folder old in
    let there = subst (λ (m : List Event). StopsIn (with_file (path_below (Some name) file.name) file.bytes m) m new) is stops in
    let named = subst (λ (n : List ℕ). StopsIn (with_file (path_below (Some n) file.name) file.bytes start) start new) same there in
    stops_after (with_unpacked last file old) start old new (follows_folder last file.folder old) named

pub write_stops : (last : Option (List ℕ)) (file : Unpacked) (kind folder name bytes : List ℕ) (old middle new : List Event) → kind ≡ file.folder
    → folder ≡ kind → name ≡ file.name → bytes ≡ file.bytes → middle ≡ entered last kind old
    → StopsIn (with_file (path_below (Some folder) name) bytes middle) middle new → StopsIn (with_unpacked last file old) old new
write_stops last file kind folder name bytes old middle new of_type in_it named has is stops =
    let same : with_file (path_below (Some folder) name) bytes middle ≡ with_file (path_below (Some file.folder) file.name) file.bytes middle =
    ap (λ (x : List ℕ). with_file (path_below (Some x) name) bytes middle) (in_it ∙ of_type)
    ∙ ap (λ (x : List ℕ). with_file (path_below (Some file.folder) x) bytes middle) named
    ∙ ap (λ (x : List ℕ). with_file (path_below (Some file.folder) file.name) x middle) has in
    file_stops last file file.folder old middle new refl (is ∙ ap (λ (x : List ℕ). entered last x old) of_type)
    (subst (λ (all : List Event). StopsIn all middle new) same stops)

-- the folder of its type isn't
pub folder_stops : (last : Option (List ℕ)) (file : Unpacked) (kind : List ℕ) (old new : List Event) → kind ≡ file.folder
    → StopsIn (entered last kind old) old new → StopsIn (with_unpacked last file old) old new
folder_stops last file kind old new of_type stops =
    stops_before (with_unpacked last file old) (entered last file.folder old) old new
    (follows_file (path_below (Some file.folder) file.name) file.bytes (entered last file.folder old))
    (subst (λ (x : List ℕ). StopsIn (entered last x old) old new) of_type stops)

-- one file further
next_one : {X : Type 0} (xs : List X) (i : ℕ) (x : X) → i < length xs → get_or xs i x ≡ x → drop i xs ≡ x ∷ drop (i + 1) xs
next_one {X} xs i x within is = rw add-one (drop-cons xs i x within ∙ ap (λ (r : X). r ∷ drop (suc i) xs) is)

pub one_further : {X : Type 0} (f : X → Unpacked) (last : Option (List ℕ)) (xs : List X) (i : ℕ) (x : X) (past whole : List Event)
    → i < length xs → get_or xs i x ≡ x → files_calls last (map f (drop i xs)) past ≡ whole
    → files_calls (Some (f x).folder) (map f (drop (i + 1) xs)) (with_unpacked last (f x) past) ≡ whole
one_further {X} f last xs i x past whole within is so_far =
    sym (ap (λ (ys : List X). files_calls last (map f ys) past) (next_one xs i x within is)) ∙ so_far

pub one_more_made : {X : Type 0} (f : X → Unpacked) (last : Option (List ℕ)) (xs : List X) (i : ℕ) (x : X) (past whole : List Event) (name : List ℕ)
    (next : List Event) → i < length xs → get_or xs i x ≡ x → files_calls last (map f (drop i xs)) past ≡ whole → name ≡ (f x).folder
    → next ≡ with_unpacked last (f x) past → files_calls (Some name) (map f (drop (i + 1) xs)) next ≡ whole
one_more_made {X} f last xs i x past whole name next within is so_far named made =
    ap (λ (n : List ℕ). files_calls (Some n) (map f (drop (i + 1) xs)) next) named
    ∙ ap (λ (log : List Event). files_calls (Some (f x).folder) (map f (drop (i + 1) xs)) log) made
    ∙ one_further f last xs i x past whole within is so_far

pub follows_by : (last : Option (List ℕ)) (file : Unpacked) (past old next : List Event) → next ≡ with_unpacked last file past → Follows past old
    → Follows next old
follows_by last file past old next made after =
    let step = follows (with_unpacked last file past) past old (follows_unpacked last file past) after in
    record { more = step.more; is = made ∙ step.is }

-- one file isn't made
pub one_stops : {X : Type 0} (f : X → Unpacked) (last : Option (List ℕ)) (xs : List X) (i : ℕ) (x : X) (old past whole new : List Event)
    → i < length xs → get_or xs i x ≡ x → files_calls last (map f (drop i xs)) past ≡ whole → Follows past old
    → StopsIn (with_unpacked last (f x) past) past new → StopsIn whole old new
one_stops f last xs i x old past whole new within is so_far after stops =
    let step = with_unpacked last (f x) past in
    let further = one_further f last xs i x past whole within is so_far in
    let more = follows_files (Some (f x).folder) (map f (drop (i + 1) xs)) step in
    let all : Follows whole step = record { more = more.more; is = sym further ∙ more.is } in
    stops_after whole past old new after (stops_before whole step past new all stops)

-- the parts of all calls
follows_all : (folder : List ℕ) (files : List Unpacked) (text : List ℕ) (old : List Event)
    → Follows (all_calls folder files text old) (files_calls None files (opened_folder folder old))
follows_all folder files text old = follows_file (codes "resources.json") text (files_calls None files (opened_folder folder old))

opened_follows : (folder : List ℕ) (old : List Event) → Follows (opened_folder folder old) old
opened_follows folder old = record { more = event Begin true folder ∷ []; is = refl }

pub begin_stops : (folder : List ℕ) (files : List Unpacked) (text : List ℕ) (old new : List Event) → StopsIn (opened_folder folder old) old new
    → StopsIn (all_calls folder files text old) old new
begin_stops folder files text old new stops =
    let all = all_calls folder files text old in
    let start = opened_folder folder old in
    let middle = files_calls None files start in
    stops_before all start old new (follows all middle start (follows_all folder files text old) (follows_files None files start)) stops

pub files_stop : (folder : List ℕ) (files : List Unpacked) (text : List ℕ) (old start new : List Event) → start ≡ opened_folder folder old
    → StopsIn (files_calls None files start) start new → StopsIn (all_calls folder files text old) old new
files_stop folder files text old start new is stops =
    let first = opened_folder folder old in
    let there = subst (λ (s : List Event). StopsIn (files_calls None files s) s new) is stops in
    stops_after (all_calls folder files text old) first old new (opened_follows folder old)
    (stops_before (all_calls folder files text old) (files_calls None files first) first new (follows_all folder files text old) there)

pub manifest_stops : (folder : List ℕ) (files : List Unpacked) (text : List ℕ) (old start middle new : List Event) → start ≡ opened_folder folder old
    → middle ≡ files_calls None files start → StopsIn (with_file (codes "resources.json") text middle) middle new
    → StopsIn (all_calls folder files text old) old new
manifest_stops folder files text old start middle new is made stops =
    let first = opened_folder folder old in
    let done = files_calls None files first in
    let same : middle ≡ done = made ∙ ap (λ (s : List Event). files_calls None files s) is in
    let there = subst (λ (m : List Event). StopsIn (with_file (codes "resources.json") text m) m new) same stops in
    stops_after (all_calls folder files text old) done old new (follows done first old (follows_files None files first) (opened_follows folder old)) there

-- with a text as the manifest
unpacks_by : {T E : Type 0} (folder : List ℕ) (files : List Unpacked) (text : List ℕ) (result : Result T E) (old new : List Event) (says : List ℕ → Type 0)
    → says text → Makes result (all_calls folder files text old) old new → Unpacks folder files says result old new
unpacks_by folder files text (Ok value) old new says said makes = (text, said, makes)
unpacks_by folder files text (Err error) old new says said makes = inr (text, said, makes)

pub unpacks_with : {T E : Type 0} (folder : List ℕ) (files given : List Unpacked) (text : List ℕ) (result : Result T E) (old new : List Event) (says : List ℕ → Type 0)
    → given ≡ files → says text → Makes result (all_calls folder given text old) old new → Unpacks folder files says result old new
unpacks_with folder files given text result old new says same said makes =
    unpacks_by folder files text result old new says said (subst (λ (fs : List Unpacked). Makes result (all_calls folder fs text old) old new) same makes)

-- the manifest is made or not
pub manifest_by : {T E : Type 0} (result : Result T E) (folder : List ℕ) (files : List Unpacked) (text : List ℕ) (old start middle new : List Event)
    → start ≡ opened_folder folder old → middle ≡ files_calls None files start → Makes result (with_file (codes "resources.json") text middle) middle new
    → Makes result (all_calls folder files text old) old new
manifest_by (Ok value) folder files text old start middle new is made makes =
    makes ∙ ap (λ (m : List Event). with_file (codes "resources.json") text m) (made ∙ ap (λ (s : List Event). files_calls None files s) is)
manifest_by (Err error) folder files text old start middle new is made makes = manifest_stops folder files text old start middle new is made makes
