-- Which of two calls failed.
use Rattle.std.proofs.Common.{ℕ, true, false, List, [], ◌∷◌, refl, is_ok, Result, Ok, Err}
use Rattle.new_folder.specs.declared.calls.FolderCall.{FolderCall}
use Rattle.new_folder.specs.NewFolder.{Event, Makes, StopsIn, event}

pub first_failed : (a b : FolderCall) (x y : List ℕ) (old : List Event) → StopsIn (event b true y ∷ event a true x ∷ old) old (event a false x ∷ old)
first_failed a b x y old = record { later = event b true y ∷ []; call = a; given = x; between = []; wanted = refl; made = refl }

pub second_failed : (a b : FolderCall) (x y : List ℕ) (old : List Event)
    → StopsIn (event b true y ∷ event a true x ∷ old) old (event b false y ∷ event a true x ∷ old)
second_failed a b x y old = record { later = []; call = b; given = y; between = event a true x ∷ []; wanted = refl; made = refl }

-- the second failed or not
pub second_by : {T E : Type 0} (result : Result T E) (a b : FolderCall) (x y : List ℕ) (old : List Event)
    → Makes result (event b true y ∷ event a true x ∷ old) old (event b (is_ok result) y ∷ event a true x ∷ old)
second_by (Ok value) a b x y old = refl
second_by (Err error) a b x y old = second_failed a b x y old
