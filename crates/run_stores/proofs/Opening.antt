-- The files of a run, opened one after the other, and their stores.
use Rattle.std.proofs.Common.{◌≡◌, ◌≢◌, Result, Ok, Err, Vec, Global, ◌+◌, ◌<◌, ◌≤◌, arith, zero, suc, ℕ, List, [], ◌∷◌, ◌++◌, take, drop, length, get_or, map, refl, ap, sym, subst, ◌∙◌, append_assoc, length-append}
use Rattle.std.proofs.lemmas.List.{append-nil, length-map, take_all, take_more, map-append, take-append-drop}
use Rattle.std.specs.Prelude.{IfOk, IfErr, ⊤}
use Rattle.clap.specs.Words.{Text}
use Rattle.run_stores.specs.Claiming.{AreNamed, Asking, IsNamed}
use Rattle.host_paths.specs.declared.host.Found.{Found}
use Rattle.run_stores.specs.declared.claimed.Naming.{Naming}
use Rattle.run_stores.specs.declared.claimed.Naming.TheVariants.{Once, Repeated}
use Rattle.fork_disk.specs.declared.store.ForkStore.{Ghosts}
use Rattle.run_stores.specs.declared.opened.Refusal.{Refusal}
use Rattle.run_stores.specs.Refusing.{IsRefused}
use Rattle.run_stores.specs.declared.stores.NoStores.{NoStores}
use Rattle.run_stores.specs.declared.stores.NoStores.TheVariants.{CannotOpen, HostFull}
use Rattle.run_stores.specs.Stores.{AreJournalled, AreOn, ArePaired, ArePairs, ArePlain, Asked, IsOpened, OneCantBeOpened, Opening, SomeOpened}

-- one more file is asked for
pub asked_next : {F : Type 0} (paths : List Text) (files : List (Result F Refusal)) (openings : List (Opening F)) (path : Text) (file : Result F Refusal) → Asked paths files openings → Asked (paths ++ path ∷ []) (files ++ file ∷ []) (openings ++ (path, file) ∷ [])
asked_next {F = F} paths files openings path file asked = record {
  paths_are = map-append (λ (o : Opening F). o.0) openings ((path, file) ∷ []) ∙ ap (λ (t : List Text). t ++ path ∷ []) asked.paths_are;
  files_are = map-append (λ (o : Opening F). o.1) openings ((path, file) ∷ []) ∙ ap (λ (t : List (Result F Refusal)). t ++ file ∷ []) asked.files_are;
}

-- a run whose first files can't be opened, or for which there is no memory, is one whose files can't be
pub cant_widen : {F : Type 0} (asking : Asking F) (naming : Naming) (paths more : List Text) (openings : List (Opening F)) (path : Text) (refusal : Refusal) → OneCantBeOpened asking naming paths openings path refusal
    → OneCantBeOpened asking naming (paths ++ more) openings path refusal
cant_widen asking naming paths more openings path refusal (first, others, files, whole, asked, named, refused) =
    (first, others ++ more, files, ap (λ (t : List Text). t ++ more) whole ∙ append_assoc (first ++ path ∷ []) others more, asked, named, refused)

no_more : (paths more : List Text) → (paths ≡ [] → more ≡ []) → paths ≡ [] → paths ++ more ≡ []
no_more [] more few none = few none
no_more (path ∷ paths) more few none = cc

pub some_widen : {F : Type 0} (asking : Asking F) (naming : Naming) (paths more : List Text) (openings : List (Opening F)) → (paths ≡ [] → more ≡ []) → SomeOpened asking naming paths openings → SomeOpened asking naming (paths ++ more) openings
some_widen asking naming paths more openings few (first, others, files, whole, asked, named, some) =
    (first, others ++ more, files, ap (λ (t : List Text). t ++ more) whole ∙ append_assoc first others more, asked, named, λ none. no_more paths more few (some none))

some_pushed : (paths : List Text) (path : Text) → paths ++ path ∷ [] ≢ []
some_pushed [] path none = cc
some_pushed (p ∷ paths) path none = cc

module _ {B : Type 0} (before : List Text) (names : List B) (now : B → Text) where
  -- the paths up to the next one
  next_paths : (at : ℕ) (name : B) → at < length names → name ≡ get_or names at name → before ++ map now (take (at + 1) names) ≡ (before ++ map now (take at names)) ++ now name ∷ []
  next_paths at name lt is =
      ap (λ (l : List B). before ++ map now l) (take_more names at name lt ∙ ap (λ (b : B). take at names ++ b ∷ []) (sym is))
      ∙ ap (λ (t : List Text). before ++ t) (map-append now (take at names) (name ∷ []))
      ∙ sym (append_assoc before (map now (take at names)) (now name ∷ []))

  whole_paths : (at : ℕ) → before ++ map now names ≡ (before ++ map now (take at names)) ++ map now (drop at names)
  whole_paths at =
      ap (λ (l : List B). before ++ map now l) (sym (take-append-drop at names))
      ∙ ap (λ (t : List Text). before ++ t) (map-append now (take at names) (drop at names))
      ∙ sym (append_assoc before (map now (take at names)) (map now (drop at names)))

module _ {F B : Type 0} (before : List Text) (names : List B) (now : B → Text) where
  -- one more file is opened
  pub asked_more : (at : ℕ) (name : B) (files : List F) (file : F) (openings : List (Opening F)) → at < length names → name ≡ get_or names at name → Asked (before ++ map now (take at names)) (map Ok files) openings
      → Asked (before ++ map now (take (at + 1) names)) (map Ok (files ++ file ∷ [])) (openings ++ (now name, Ok file) ∷ [])
  asked_more at name files file openings lt is asked =
      subst (λ (fs : List (Result F Refusal)). Asked (before ++ map now (take (at + 1) names)) fs (openings ++ (now name, Ok file) ∷ [])) (sym (map-append Ok files (file ∷ [])))
      (subst (λ (ps : List Text). Asked ps (map Ok files ++ Ok file ∷ []) (openings ++ (now name, Ok file) ∷ [])) (sym (next_paths before names now at name lt is))
      (asked_next (before ++ map now (take at names)) (map Ok files) openings (now name) (Ok file) asked))

  -- the next one is refused
  pub cant_next : (asking : Asking F) (naming : Naming) (at : ℕ) (name : B) (refusal : Refusal) (files : List F) (openings : List (Opening F)) → at < length names → name ≡ get_or names at name → Asked (before ++ map now (take at names)) (map Ok files) openings
      → AreNamed asking naming [] (before ++ map now (take at names)) files → IsRefused naming (map asking.id files) (now name) refusal.why refusal.calls.events
      → OneCantBeOpened asking naming (before ++ map now names) (openings ++ (now name, Err refusal) ∷ []) (now name) refusal
  cant_next asking naming at name refusal files openings lt is asked named refused = (
    before ++ map now (take at names),
    map now (drop (at + 1) names),
    files,
    whole_paths before names now (at + 1) ∙ ap (λ (ps : List Text). ps ++ map now (drop (at + 1) names)) (next_paths before names now at name lt is),
    asked_next (before ++ map now (take at names)) (map Ok files) openings (now name) (Err refusal) asked,
    named,
    refused,
  )

  -- some first ones were opened, up to the next one
  pub some_first : (asking : Asking F) (naming : Naming) (at : ℕ) (name : B) (files : List F) (openings : List (Opening F)) → at < length names → name ≡ get_or names at name → Asked (before ++ map now (take (at + 1) names)) (map Ok files) openings
      → AreNamed asking naming [] (before ++ map now (take (at + 1) names)) files → SomeOpened asking naming (before ++ map now names) openings
  some_first asking naming at name files openings lt is asked named = (
    before ++ map now (take (at + 1) names),
    map now (drop (at + 1) names),
    files,
    whole_paths before names now (at + 1),
    asked,
    named,
    λ none. absurd (some_pushed (before ++ map now (take at names)) (now name) (sym (next_paths before names now at name lt is) ∙ none)),
  )

  -- and all
  pub all_asked : (at : ℕ) (files : List F) (openings : List (Opening F)) → length names ≤ at → Asked (before ++ map now (take at names)) (map Ok files) openings → Asked (before ++ map now names) (map Ok files) openings
  all_asked at files openings le asked = subst (λ (l : List B). Asked (before ++ map now l) (map Ok files) openings) (take_all at names le) asked

  -- none of these yet
  pub asked_none : (files : List F) (openings : List (Opening F)) → Asked before (map Ok files) openings → Asked (before ++ map now (take 0 names)) (map Ok (files ++ [])) openings
  asked_none files openings asked = subst (λ (ps : List Text). Asked ps (map Ok (files ++ [])) openings) (sym (append-nil before)) (subst (λ (fs : List F). Asked before (map Ok fs) openings) (sym (append-nil files)) asked)

-- none of these yet
pub named_none : {F B : Type 0} (asking : Asking F) (naming : Naming) (before : List Text) (names : List B) (now : B → Text) (files : List F) → AreNamed asking naming [] before files → AreNamed asking naming [] (before ++ map now (take 0 names)) (files ++ [])
named_none asking naming before names now files are =
    subst (λ (ps : List Text). AreNamed asking naming [] ps (files ++ [])) (sym (append-nil before)) (subst (AreNamed asking naming [] before) (sym (append-nil files)) are)

-- as many files as paths
pub asked_length : {F B : Type 0} (names : List B) (now : B → Text) (files : List F) (openings : List (Opening F)) → Asked (map now names) (map Ok files) openings → length files ≡ length names
asked_length names now files openings asked =
    sym (length-map files Ok) ∙ ap length (sym asked.files_are) ∙ length-map openings (λ o. o.1)
    ∙ sym (length-map openings (λ o. o.0)) ∙ ap length asked.paths_are ∙ length-map names now

-- what is at an index that is there
pub same_default : {B : Type 0} (xs : List B) (at : ℕ) (d e : B) → at < length xs → get_or xs at d ≡ get_or xs at e
same_default [] at d e lt = absurd (omega (arith, lt))
same_default (x ∷ xs) zero d e lt = refl
same_default (x ∷ xs) (suc at) d e lt = same_default xs at d e (omega (arith, lt))

-- before a fork there are fewer than all
pub fewer : {F : Type 0} (yielded items all rest : List F) (fork : F) → yielded ++ items ≡ all → items ≡ fork ∷ rest → length yielded < length all
fewer yielded items all rest fork whole next =
    let long : length yielded + length items ≡ length all = sym (length-append yielded items) ∙ ap length whole in
    let one : length items ≡ length rest + 1 = ap length next ∙ omega arith in
    omega (arith, long, one)

-- one more file has a store, of the next number
pub AreOn-push : {F S : Type 0} (plain : ℕ → F → S → Type 0) (from number : ℕ) (files : List F) (stores : List S) (file : F) (store : S) → AreOn plain from files stores → number ≡ from + length files → plain number file store → AreOn plain from (files ++ file ∷ []) (stores ++ store ∷ [])
AreOn-push plain from number [] [] file store are is one = (subst (λ n. plain n file store) (is ∙ omega arith) one, tt)
AreOn-push plain from number (f ∷ files) (s ∷ stores) file store are is one = (are.0, AreOn-push plain (suc from) number files stores file store are.1 (is ∙ omega arith) one)
AreOn-push plain from number [] (s ∷ stores) file store are is one = absurd are
AreOn-push plain from number (f ∷ files) [] file store are is one = absurd are

-- one more fork has its journal
pub ArePaired-push : {F J : Type 0} (pairs : ℕ → F → F → J → Type 0) (from number : ℕ) (forks journals : List F) (stores : List J) (fork journal : F) (store : J) → ArePaired pairs from forks journals stores
    → number ≡ from + length forks → pairs number fork journal store → ArePaired pairs from (forks ++ fork ∷ []) (journals ++ journal ∷ []) (stores ++ store ∷ [])
ArePaired-push pairs from number [] [] [] fork journal store are is one = (subst (λ n. pairs n fork journal store) (is ∙ omega arith) one, tt)
ArePaired-push pairs from number (f ∷ forks) (j ∷ journals) (s ∷ stores) fork journal store are is one = (are.0, ArePaired-push pairs (suc from) number forks journals stores fork journal store are.1 (is ∙ omega arith) one)
ArePaired-push pairs from number [] [] (s ∷ stores) fork journal store are is one = absurd are
ArePaired-push pairs from number [] (j ∷ journals) stores fork journal store are is one = absurd are
ArePaired-push pairs from number (f ∷ forks) [] stores fork journal store are is one = absurd are
ArePaired-push pairs from number (f ∷ forks) (j ∷ journals) [] fork journal store are is one = absurd are

-- why files weren't opened is why more of them weren't
pub fault_widen : {F : Type 0} (asking : Asking F) (naming : Naming) (paths more : List Text) (openings : List (Opening F)) (fault : NoStores) → (paths ≡ [] → more ≡ []) → IsOpened {T = ℕ} asking naming paths openings (λ made. ⊤) (Err fault)
    → IsOpened {T = ℕ} asking naming (paths ++ more) openings (λ made. ⊤) (Err fault)
fault_widen asking naming paths more openings (CannotOpen path refusal) few cant = (cant_widen asking naming paths more openings path.now refusal cant.0, cant.1)
fault_widen asking naming paths more openings HostFull few some = some_widen asking naming paths more openings few some

pub no_names : {B : Type 0} (now : B → Text) (names : List B) → length names ≡ 0 → map now names ≡ []
no_names now [] none = refl
no_names now (name ∷ names) none = absurd (omega (arith, none))

pub some_names : {B : Type 0} (now : B → Text) (names : List B) → length names ≢ 0 → map now names ≢ []
some_names now names some none = some (sym (length-map names now) ∙ ap length none)

-- as many journals as forks, so none where there are no forks
pub no_journals : {B : Type 0} (now : B → Text) (forks journals : List B) → length journals ≡ length forks → map now forks ≡ [] → map now journals ≡ []
no_journals now [] [] same none = refl
no_journals now [] (journal ∷ journals) same none = absurd (omega (arith, same))
no_journals now (fork ∷ forks) journals same none = cc

-- one more file is opened by its path
pub AreNamed-push : {F : Type 0} (asking : Asking F) (naming : Naming) (known : List Found) (paths : List Text) (files : List F) (path : Text) (file : F) → AreNamed asking naming known paths files → IsNamed asking naming (known ++ map asking.id files) path file
    → AreNamed asking naming known (paths ++ path ∷ []) (files ++ file ∷ [])
AreNamed-push asking naming known [] [] path file are one = (subst (λ (ids : List Found). IsNamed asking naming ids path file) (append-nil known) one, tt)
AreNamed-push asking naming known (p ∷ paths) (f ∷ files) path file are one = (
  are.0,
  AreNamed-push asking naming (known ++ asking.id f ∷ []) paths files path file are.1 (subst (λ (ids : List Found). IsNamed asking naming ids path file) (sym (append_assoc known (asking.id f ∷ []) (map asking.id files))) one),
)
AreNamed-push asking naming known [] (f ∷ files) path file are one = absurd are
AreNamed-push asking naming known (p ∷ paths) [] path file are one = absurd are

-- and by the next of these paths
pub named_more : {F B : Type 0} (asking : Asking F) (naming : Naming) (known : List Found) (before : List Text) (names : List B) (now : B → Text) (at : ℕ) (name : B) (files : List F) (file : F) → at < length names → name ≡ get_or names at name
    → AreNamed asking naming known (before ++ map now (take at names)) files → IsNamed asking naming (known ++ map asking.id files) (now name) file → AreNamed asking naming known (before ++ map now (take (at + 1) names)) (files ++ file ∷ [])
named_more asking naming known before names now at name files file lt is are one =
    subst (λ (ps : List Text). AreNamed asking naming known ps (files ++ file ∷ [])) (sym (next_paths before names now at name lt is))
    (AreNamed-push asking naming known (before ++ map now (take at names)) files (now name) file are one)

module _ {F S : Type 0} (asking : Asking F) (store : Ghosts S) (plain : ℕ → F → S → Type 0) where
  one_opened : (result : Result (Vec S Global) NoStores) → IfOk result (λ stores. ArePlain asking store plain [] [] stores.items) → IfErr result (λ fault. fault ≡ HostFull) → IsOpened {F = F} asking Repeated [] [] (ArePlain asking store plain [] []) result
  one_opened (Ok stores) are full = are
  one_opened (Err (CannotOpen path why)) are full = cc
  one_opened (Err HostFull) are full = ([], [], [], refl, record { paths_are = refl; files_are = refl }, tt, λ none. none)

  -- no path, and so a store in memory
  pub none_given : (paths : List Text) → paths ≡ [] → (result : Result (Vec S Global) NoStores) → IfOk result (λ stores. ArePlain asking store plain [] [] stores.items) → IfErr result (λ fault. fault ≡ HostFull) → IsOpened {F = F} asking Repeated paths [] (ArePlain asking store plain paths []) result
  none_given paths none result are full = subst (λ (ps : List Text). IsOpened {F = F} asking Repeated ps [] (ArePlain asking store plain ps []) result) (sym none) (one_opened result are full)

  -- the stores of the files that were opened
  pub plain_opened : (paths : List Text) (files : List F) (openings : List (Opening F)) → paths ≢ [] → Asked paths (map Ok files) openings → (result : Result (Vec S Global) NoStores) → IfOk result (λ stores. AreOn plain 0 files stores.items) → IfErr result (λ fault. fault ≡ HostFull)
      → AreNamed asking Repeated [] paths files → IsOpened asking Repeated paths openings (ArePlain asking store plain paths openings) result
  plain_opened [] files openings some asked result are full named = absurd (some refl)
  plain_opened (path ∷ paths) files openings some asked (Ok stores) are full named = (files, asked, are, named)
  plain_opened (path ∷ paths) files openings some asked (Err (CannotOpen that why)) are full named = cc
  plain_opened (path ∷ paths) files openings some asked (Err HostFull) are full named = (path ∷ paths, [], files, sym (append-nil (path ∷ paths)), asked, named, λ none. none)

-- the stores of the files that were opened, with journals
pub journalled_opened : {F J : Type 0} (asking : Asking F) (pairs : ℕ → F → F → J → Type 0) (paths : List Text) (openings : List (Opening F)) (files : List (F × F)) → ArePairs asking paths openings files → (result : Result (Vec J Global) NoStores)
    → IfOk result (λ stores. ArePaired pairs 0 (map (λ pair. pair.0) files) (map (λ pair. pair.1) files) stores.items) → IfErr result (λ fault. fault ≡ HostFull) → IsOpened asking Once paths openings (AreJournalled asking pairs paths openings) result
journalled_opened asking pairs paths openings files opened (Ok stores) are full = (map (λ pair. pair.0) files, map (λ pair. pair.1) files, opened.0, are, opened.1)
journalled_opened asking pairs paths openings files opened (Err (CannotOpen path why)) are full = cc
journalled_opened asking pairs paths openings files opened (Err HostFull) are full = (paths, [], map (λ pair. pair.0) files ++ map (λ pair. pair.1) files, sym (append-nil paths), opened.0, opened.1, λ none. none)
