-- The current file of files that were saved.
use Rattle.std.proofs.Common.{◌≡◌, ◌≢◌, ℕ, ◌≤◌, Bool, true, false, ◌||◌, List, [], ◌∷◌, unwrap_or, Option, None, Some, IfSome, refl, sym, subst, ap, ◌∙◌, arith}
use Rattle.std.specs.Prelude.{⊤, IsTrue, MatchOption, if◌then◌else◌}
use Rattle.std.specs.List.{AllByRecursion, list_any}
use Rattle.std.proofs.lemmas.Bool.{eqb-true, ne_eqb}
use Rattle.fork_bytes.specs.declared.place.Place.{Place}
use Rattle.res_table.specs.declared.chain.OpenFile.{OpenFile}
use Rattle.res_table.specs.OpenFiles.{OpenFiles, is_numbered, is_open, file_used}
use Rattle.res_update.specs.Device.{Disk}
use Rattle.res_files.specs.Standing.{StandsOn}
use Rattle.saved_files.specs.Parts.{current_in, used}
use Rattle.saved_files.specs.Sound.{HasCurrent, StandOnForks}

-- files with the same current one are the same
same_chain : (a b : OpenFiles Place) → a.files ≡ b.files → a.current ≡ b.current → a ≡ b
same_chain a b files current =
    ap (λ (xs : List (OpenFile Place)). let c : OpenFiles Place = record { files = xs; current = a.current } in c) files
    ∙ ap (λ (k : Option ℕ). let c : OpenFiles Place = record { files = b.files; current = k } in c) current

-- the number of an open file is 1 at least
open_from_one : (disks : List Disk) (k : ℕ) (files : List (OpenFile Place)) → AllByRecursion (StandsOn (λ (fork : Disk). fork) (λ _. ⊤) (λ _. ⊤) disks) files
    → list_any (is_numbered k) files ≡ true → 1 ≤ k
open_from_one disks k [] each is = absurd (cc is)
open_from_one disks k (f ∷ files) each is = by (is_numbered k f) refl (open_from_one disks k files each.1) is
  where
    by : (b : Bool) → is_numbered k f ≡ b → (list_any (is_numbered k) files ≡ true → 1 ≤ k) → (b || list_any (is_numbered k) files) ≡ true → 1 ≤ k
    by true same deeper or = let number = eqb-true f.number k same in let low = each.0.from_one in omega (arith, number, low)
    by false same deeper or = deeper or

-- the byte of the current file says it
byte_again : (k : ℕ) → 1 ≤ k → current_in k ≡ Some k
byte_again k low = let other : k ≢ 0 = λ is. omega (arith, low, is) in ap (λ (b : Bool). if b then None else Some k) (ne_eqb k 0 other)

-- no file is the current one where none is open
none_current : (disks : List Disk) (chain : OpenFiles Place) → StandOnForks disks chain → chain.files ≡ [] → chain.current ≡ None
none_current disks chain stands none = by chain.current stands.current
  where
    by : (found : Option ℕ) → IfSome found (λ k. IsTrue (is_open k chain)) → found ≡ None
    by None is = refl
    by (Some k) is =
        let nothing : is_open k chain ≡ false = ap (list_any (is_numbered k)) none in
        let there : is_open k chain ≡ true = is in absurd (cc (nothing, there))

-- the files that are read are those that were saved, once the current one is used
pub chain_used : (disks : List Disk) (s chain : OpenFiles Place) → StandOnForks disks s → HasCurrent s → StandOnForks disks chain → chain.files ≡ s.files → used (current_in (unwrap_or s.current 0)) chain ≡ s
chain_used disks s chain stands has more same = by s.current refl stands.current has
  where
    by : (found : Option ℕ) → s.current ≡ found → IfSome found (λ k. IsTrue (is_open k s)) → MatchOption found (s.files ≡ []) (λ _. ⊤) → used (current_in (unwrap_or found 0)) chain ≡ s
    by None is there none = same_chain chain s same (none_current disks chain more (same ∙ none) ∙ sym is)
    by (Some k) is there none =
        ap (λ (found : Option ℕ). used found chain) (byte_again k (open_from_one disks k s.files stands.each there))
        ∙ same_chain (file_used k chain) s same (sym is)

-- and that one is open
pub current_open : (disks : List Disk) (s chain : OpenFiles Place) → StandOnForks disks s → chain.files ≡ s.files → IfSome (current_in (unwrap_or s.current 0)) (λ k. IsTrue (is_open k chain))
current_open disks s chain stands same = by s.current stands.current
  where
    by : (found : Option ℕ) → IfSome found (λ k. IsTrue (is_open k s)) → IfSome (current_in (unwrap_or found 0)) (λ k. IsTrue (is_open k chain))
    by None there = tt
    by (Some k) there =
        subst (λ (found : Option ℕ). IfSome found (λ n. IsTrue (is_open n chain))) (sym (byte_again k (open_from_one disks k s.files stands.each there)))
        (ap (list_any (is_numbered k)) same ∙ there)
