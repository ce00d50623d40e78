-- One more file on a page.
use Rattle.std.proofs.Common.{◌≡◌, ◌<◌, ◌+◌, ℕ, List, [], ◌∷◌, ◌++◌, refl, subst, sym, length, take, get_or}
use Rattle.std.proofs.lemmas.List.{take_more}
use Rattle.std.specs.Borrow.{Bor}
use Rattle.fork_shows.specs.Pages.{AddsFiles, AddsNamed}

pub none_yet : (page : List ℕ) → AddsFiles [] page page
unfolding AddsFiles
none_yet page = refl

pub one_more : (files : List (Bor (List ℕ))) (file : Bor (List ℕ)) (old page new : List ℕ) → AddsFiles files old page → AddsNamed file.now page new → AddsFiles (files ++ file ∷ []) old new
unfolding AddsFiles
one_more [] file old page new before added = (new, subst (λ (it : List ℕ). AddsNamed file.now it new) before added, refl)
one_more (first ∷ files) file old page new before added = (before.0, before.1, one_more files file before.0 page new before.2 added)

pub next_more : (all : List (Bor (List ℕ))) (index : ℕ) (d : Bor (List ℕ)) (old page new : List ℕ) → index < length all → AddsFiles (take index all) old page
    → AddsNamed (get_or all index d).now page new → AddsFiles (take (index + 1) all) old new
next_more all index d old page new less before added =
    subst (λ (files : List (Bor (List ℕ))). AddsFiles files old new) (sym (take_more all index d less)) (one_more (take index all) (get_or all index d) old page new before added)
