-- The stores of a run, and the files that are opened for them.
use Rattle.std.specs.Prelude.{◌≡◌, ℕ, suc, ⊤, List, [], ◌∷◌, ◌++◌, Result, Ok, Err, Vec, map}
use Rattle.std.specs.Global.{Global}
use Rattle.clap.specs.Words.{Text}
use Rattle.fork_disk.specs.declared.store.ForkStore.{Ghosts}
use Rattle.run_stores.specs.Claiming.{AreNamed, Asking}
use Rattle.run_stores.specs.Refusing.{IsRefused}
use Rattle.run_stores.specs.declared.claimed.Naming.{Naming}
use Rattle.run_stores.specs.declared.claimed.Naming.TheVariants.{Once, Repeated}
use Rattle.run_stores.specs.declared.opened.NotOpened.TheVariants.{Twice}
use Rattle.run_stores.specs.declared.opened.Refusal.{Refusal}
use Rattle.run_stores.specs.declared.stores.NoStores.{NoStores}
use Rattle.run_stores.specs.declared.stores.NoStores.TheVariants.{CannotOpen, HostFull}

-- a run is over this many files at most
abbrev pub most_files : ℕ
most_files = 8

-- a file that was asked for: its path, and the file, or its refusal
abbrev pub Opening : Type 0 → Type 0
Opening F = Text × Result F Refusal

-- the files of these paths were asked for, each once and in order, and this is what each gave
pub record Asked {F : Type 0} (paths : List Text) (files : List (Result F Refusal)) (openings : List (Opening F)) : Type 0 where
  pub paths_are : map (λ opening. opening.0) openings ≡ paths
  pub files_are : map (λ opening. opening.1) openings ≡ files

-- some first ones of these paths were opened, and the next one, which is this, was refused
abbrev pub OneCantBeOpened : {F : Type 0} → Asking F → Naming → List Text → List (Opening F) → Text → Refusal → Type 0
OneCantBeOpened {F = F} asking naming paths openings path refusal = (first : List Text) × (others : List Text) × (files : List F) × (paths ≡ (first ++ path ∷ []) ++ others)
    × Asked (first ++ path ∷ []) (map Ok files ++ Err refusal ∷ []) openings × AreNamed asking naming [] first files × IsRefused naming (map asking.id files) path refusal.why refusal.calls.events

-- some first ones of these paths were opened, one at least if there is any
abbrev pub SomeOpened : {F : Type 0} → Asking F → Naming → List Text → List (Opening F) → Type 0
SomeOpened {F = F} asking naming paths openings = (first : List Text) × (others : List Text) × (files : List F) × (paths ≡ first ++ others)
    × Asked first (map Ok files) openings × AreNamed asking naming [] first files × (first ≡ [] → paths ≡ [])

-- a store whose device is honest, and whose fork has no bytes
pub record IsEmpty {S : Type 0} (store : Ghosts S) (s : S) : Type 0 where
  pub fork : store.fork s ≡ []
  pub ready : store.is_ready s
  pub honest : store.is_honest s

-- these are the stores of the forks in these files, of which the first store has this number, and each other one the
-- next
abbrev pub AreOn : {F S : Type 0} → (ℕ → F → S → Type 0) → ℕ → List F → List S → Type 0
AreOn plain from [] [] = ⊤
AreOn plain from (file ∷ files) (s ∷ stores) = plain from file s × AreOn plain (suc from) files stores
AreOn plain from [] (s ∷ stores) = ⊥
AreOn plain from (file ∷ files) [] = ⊥

-- the stores of a run over the forks in the files of these paths: where there are none, an empty one
abbrev pub ArePlain : {F S : Type 0} → Asking F → Ghosts S → (ℕ → F → S → Type 0) → List Text → List (Opening F) → List S → Type 0
ArePlain {S = S} asking store plain [] openings stores = (s : S) × (stores ≡ s ∷ []) × IsEmpty store s × (openings ≡ [])
ArePlain {F = F} asking store plain (path ∷ paths) openings stores = (files : List F) × Asked (path ∷ paths) (map Ok files) openings × AreOn plain 0 files stores
    × AreNamed asking Repeated [] (path ∷ paths) files

-- the stores of the forks in these files, each with a journal in one of those, numbered as above
abbrev pub ArePaired : {F J : Type 0} → (ℕ → F → F → J → Type 0) → ℕ → List F → List F → List J → Type 0
ArePaired pairs from [] [] [] = ⊤
ArePaired pairs from (fork ∷ forks) (journal ∷ journals) (s ∷ stores) = pairs from fork journal s × ArePaired pairs (suc from) forks journals stores
ArePaired pairs from _ _ _ = ⊥

-- the files of the forks and the journals of these paths, a fork with its journal: all are different, and all forks are
-- opened first
abbrev pub ArePairs : {F : Type 0} → Asking F → List Text → List (Opening F) → List (F × F) → Type 0
ArePairs {F = F} asking paths openings pairs = (let files = map (λ pair. pair.0) pairs ++ map (λ pair. pair.1) pairs in Asked paths (map Ok files) openings × AreNamed asking Once [] paths files)

-- the stores of a run over the forks and the journals in the files of these paths, which are all different: all forks
-- are opened first
abbrev pub AreJournalled : {F J : Type 0} → Asking F → (ℕ → F → F → J → Type 0) → List Text → List (Opening F) → List J → Type 0
AreJournalled {F = F} asking pairs paths openings stores = (forks : List F) × (journals : List F) × Asked paths (map Ok (forks ++ journals)) openings × ArePaired pairs 0 forks journals stores
    × AreNamed asking Once [] paths (forks ++ journals)

-- What is made of the files of these paths, or why it isn't: one of them can't be opened, or the host has no memory.
abbrev pub IsOpened : {F T : Type 0} → Asking F → Naming → List Text → List (Opening F) → (List T → Type 0) → Result (Vec T Global) NoStores → Type 0
IsOpened asking naming paths openings AreMade (Ok made) = AreMade made.items
IsOpened asking naming paths openings AreMade (Err (CannotOpen path refusal)) = OneCantBeOpened asking naming paths openings path.now refusal × (refusal.why ≡ Twice → naming ≡ Once)
IsOpened asking naming paths openings AreMade (Err HostFull) = SomeOpened asking naming paths openings
