-- Files that the manifest doesn't name are added one after the other.
use Rattle.std.proofs.Common.{◌≡◌, ◌∙◌, ℕ, zero, suc, ◌+◌, ◌<◌, List, [], ◌∷◌, ◌++◌, length, map, take, drop, get_or, inl, inr, refl, sym, ap, subst, arith}
use Rattle.std.proofs.lemmas.List.{map_push, take_more}
use Rattle.std.specs.Borrow.{Bor}
use Rattle.fork_folder.specs.Added.{AreAdded, AreNotAdded, IsAdded, IsNotAdded}
use Rattle.fork_folder.specs.declared.rows.Entry.{Entry}
use Rattle.fork_folder.specs.declared.rows.PackFault.{PackFault}

-- one more
added_more : (paths : List (List ℕ)) (path : List ℕ) (old middle new : List Entry) → AreAdded paths old middle → IsAdded path middle new → AreAdded (paths ++ path ∷ []) old new
added_more [] path old middle new same one = let P : List Entry → Type 0 = λ entries. IsAdded path entries new in (new, subst P (sym same) one, refl)
added_more (first ∷ paths) path old middle new are one = (are.0, are.1, added_more paths path are.0 middle new are.2 one)

pub added_at : (paths : List (Bor (List ℕ))) (at : ℕ) (other : Bor (List ℕ)) (old middle new : List Entry) → at < length paths
    → AreAdded (map (λ (path : Bor (List ℕ)). path.now) (take at paths)) old middle → IsAdded (get_or paths at other).now middle new
    → AreAdded (map (λ (path : Bor (List ℕ)). path.now) (take (at + 1) paths)) old new
added_at paths at other old middle new within are one =
    let now : Bor (List ℕ) → List ℕ = λ path. path.now in
    let P : List (List ℕ) → Type 0 = λ all. AreAdded all old new in
    let same = ap (λ (some : List (Bor (List ℕ))). map now some) (take_more paths at other within) ∙ map_push now (take at paths) (get_or paths at other) in
    subst P (sym same) (added_more (map now (take at paths)) (get_or paths at other).now old middle new are one)

-- the first that is refused
refused_after : (paths : List (List ℕ)) (path : List ℕ) (rest : List (List ℕ)) (old middle : List Entry) (why : PackFault) → AreAdded paths old middle → IsNotAdded path middle why
    → AreNotAdded (paths ++ path ∷ rest) old why
refused_after [] path rest old middle why same one = let P : List Entry → Type 0 = λ entries. IsNotAdded path entries why in inl (subst P (sym same) one)
refused_after (first ∷ paths) path rest old middle why are one = inr (are.0, are.1, refused_after paths path rest are.0 middle why are.2 one)

-- those before a place, that one, and those after it
parted : (paths : List (Bor (List ℕ))) (at : ℕ) (other : Bor (List ℕ)) → at < length paths
    → map (λ (path : Bor (List ℕ)). path.now) paths
    ≡ map (λ (path : Bor (List ℕ)). path.now) (take at paths) ++ (get_or paths at other).now ∷ map (λ (path : Bor (List ℕ)). path.now) (drop (suc at) paths)
parted [] at other within = absurd (omega arith)
parted (path ∷ paths) zero other within = refl
parted (path ∷ paths) (suc at) other within = ap (λ (all : List (List ℕ)). path.now ∷ all) (parted paths at other (omega arith))

pub refused_at : (paths : List (Bor (List ℕ))) (at : ℕ) (other : Bor (List ℕ)) (old middle : List Entry) (why : PackFault) → at < length paths
    → AreAdded (map (λ (path : Bor (List ℕ)). path.now) (take at paths)) old middle → IsNotAdded (get_or paths at other).now middle why
    → AreNotAdded (map (λ (path : Bor (List ℕ)). path.now) paths) old why
refused_at paths at other old middle why within are one =
    let now : Bor (List ℕ) → List ℕ = λ path. path.now in
    let P : List (List ℕ) → Type 0 = λ all. AreNotAdded all old why in
    subst P (sym (parted paths at other within))
    (refused_after (map now (take at paths)) (get_or paths at other).now (map now (drop (suc at) paths)) old middle why are one)
