-- The walk over the rows of a file that have handles.
use Rattle.std.proofs.Common.{◌≡◌, ℕ, suc, ◌+◌, ◌<◌, ◌≤◌, Bool, false, ◌||◌, List, [], ◌∷◌, ◌++◌, All, length, drop, Option, Some, None, refl, sym, ap, subst, ◌∙◌, add-one, arith, length-append, length-drop}
use Rattle.std.specs.Prelude.{◌==◌, ◌&&◌}
use Rattle.std.specs.List.{list_any}
use Rattle.std.specs.Option.{option_map_or}
use Rattle.std.proofs.lemmas.List.{drop-drop}
use Rattle.std.proofs.lemmas.List.Elements.{All-head, All-tail}
use Rattle.mac_base.specs.HandleTable.{HandleTable, is_lent}
use Rattle.mac_base.specs.HeadKind.{Shape}
use Rattle.mac_base.specs.Heap.{Heap}
use Rattle.mac_base.specs.declared.memory_call.MemoryCall.TheVariants.{OnBlock}
use Rattle.mac_base.specs.declared.memory_call.BlockCall.TheVariants.{DisposeHandle}
use Rattle.mac_base.specs.ExactStep.{IsExactStep, StepEnd}
use Rattle.mac_base.specs.Outcomes.{Outcome}
use Rattle.res_update.specs.Changes.{FileRow}
use Rattle.res_update.specs.Tests.{is_lent_row}
use Rattle.res_update.specs.Updates.{disposed, handles_of}
use Rattle.res_files.specs.Handles.{is_among}

-- the handles of a row and of others, where the row has none
without_handle : (r : FileRow) (rows : List FileRow) → r.handle ≡ None → handles_of (r ∷ rows) ≡ handles_of rows
without_handle r rows none =
    let P : Option ℕ → Type 0 = λ o. handles_of (record r { handle = o } ∷ rows) ≡ handles_of rows in
    subst P (sym none) refl

-- and where it has one
with_its_handle : (r : FileRow) (rows : List FileRow) (h : ℕ) → r.handle ≡ Some h → handles_of (r ∷ rows) ≡ h ∷ handles_of rows
with_its_handle r rows h has =
    let P : Option ℕ → Type 0 = λ o. handles_of (record r { handle = o } ∷ rows) ≡ h ∷ handles_of rows in
    subst P (sym has) refl

-- rows without handles have none
passed_over : (before rest : List FileRow) → All (λ (r : FileRow). r.handle ≡ None) before → handles_of (before ++ rest) ≡ handles_of rest
passed_over [] rest none = refl
passed_over (r ∷ rows) rest none =
    without_handle r (rows ++ rest) (All-head (λ (x : FileRow). x.handle ≡ None) r rows none) ∙ passed_over rows rest (All-tail (λ (x : FileRow). x.handle ≡ None) r rows none)

after_found : (before : List FileRow) (r : FileRow) (after : List FileRow) → drop (suc (length before)) (before ++ r ∷ after) ≡ after
after_found [] r after = refl
after_found (x ∷ before) r after = after_found before r after

-- what is known of the next row with a handle
pub record Next (rows : List FileRow) (from index h : ℕ) : Type 0 where
  pub handles : handles_of (drop from rows) ≡ h ∷ handles_of (drop (index + 1) rows)
  pub within : index < length rows
  pub later : from ≤ index

pub next_found : (rows : List FileRow) (from index h : ℕ) (before : List FileRow) (r : FileRow) (after : List FileRow) → drop from rows ≡ before ++ r ∷ after → All (λ (other : FileRow). other.handle ≡ None) before → r.handle ≡ Some h
    → index ≡ from + length before → Next rows from index h
next_found rows from index h before r after is none has at =
    let rest : drop (index + 1) rows ≡ after = rw at (sym (drop-drop (length before + 1) from rows ∙ ap (λ n. drop n rows) (omega arith)) ∙ ap (drop (length before + 1)) is ∙ rw (add-one) (after_found before r after)) in
    let long : length (drop from rows) ≡ length before + suc (length after) = ap length is ∙ length-append before (r ∷ after) in
    record {
      handles = ap handles_of is ∙ passed_over before (r ∷ after) none ∙ with_its_handle r after h has ∙ ap (λ (rs : List FileRow). h ∷ handles_of rs) (sym rest);
      within = omega (arith, long, length-drop from rows);
      later = omega arith;
    }

-- where no further row has one, there is nothing left
pub next_none : (rows : List FileRow) → All (λ (other : FileRow). other.handle ≡ None) rows → handles_of rows ≡ []
next_none [] none = refl
next_none (r ∷ rows) none = without_handle r rows (All-head (λ (x : FileRow). x.handle ≡ None) r rows none) ∙ next_none rows (All-tail (λ (x : FileRow). x.handle ≡ None) r rows none)

-- one handle more is disposed of
pub disposed_more : (s t : Shape) (old new : Heap) (h : ℕ) (hs : List ℕ) (outcome : Outcome) → t ≡ s → IsExactStep t old (OnBlock (DisposeHandle h)) [] outcome new → disposed s (h ∷ hs) old ≡ disposed s hs new
disposed_more s t old new h hs outcome same exact =
    let here : IsExactStep s old (OnBlock (DisposeHandle h)) [] outcome new = rw (← same) exact in
    ap (λ (e : StepEnd). disposed s hs e.heap) here

-- rows whose handles are among the blocks that are lent are those that are lent
pub lent_among : (t : HandleTable) (lent : List ℕ) (counts : FileRow → Bool) → ((x : ℕ) → is_lent t x ≡ list_any (λ y. y == x) lent) → (rows : List FileRow)
    → list_any (λ r. counts r && is_among lent r) rows ≡ list_any (λ r. counts r && is_lent_row t r) rows
lent_among t lent counts are [] = refl
lent_among t lent counts are (r ∷ rows) =
    ap (λ b. (counts r && b) || list_any (λ x. counts x && is_among lent x) rows) (by r.handle)
    ∙ ap (λ b. (counts r && is_lent_row t r) || b) (lent_among t lent counts are rows)
  where
    by : (h : Option ℕ) → option_map_or (λ h. list_any (λ x. x == h) lent) h false ≡ option_map_or (is_lent t) h false
    by None = refl
    by (Some h) = sym (are h)
