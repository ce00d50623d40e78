-- What comes of a change that is written.
use Rattle.std.proofs.Common.{◌≡◌, ◌≢◌, ◌∙◌, ◌↔◌, Bool, true, false, List, ℕ, None, sym, ap, subst}
use Rattle.std.specs.Prelude.{IsTrue, Result, Ok}
use Rattle.fork_bytes.specs.Rows.{Row}
use Rattle.fork_bytes.specs.declared.table.Table.{Table}
use Rattle.fork_change.specs.Rows.{with_rows}
use Rattle.fork_change.specs.declared.refusal.Refusal.{Refusal}
use Rattle.fork_edit.specs.Changes.{Differs, IsTableIn}
use Rattle.fork_edit.specs.Edits.{Becomes, edited}
use Rattle.fork_edit.specs.Files.{HasTable, Refuses}
use Rattle.fork_edit.specs.declared.edit.Edit.{Edit}

abbrev becomes : Table → Result Table Refusal
becomes after = Ok after

-- a test that failed says that the fact isn't so
pub not_so : (test : Bool) (P : Type 0) → IsTrue test ↔ P → test ≡ false → P → ⊥
not_so test P both fails holds = let two : true ≡ false = sym (both.1 holds) ∙ fails in cc two

pub comes_new : (file : List ℕ) (from : List Row) (edit : Edit) (before same after : Table) (new : List ℕ) → same ≡ before →
    Becomes same (edited edit from same.rows) (becomes after) → (after ≡ before → ⊥) → HasTable file after new → Refuses file after None → IsTableIn file before →
    (table : Table) × (rows : List Row) × Differs file from edit table rows × HasTable file (with_rows table rows) new × Refuses file (with_rows table rows) None
comes_new file from edit before same after new is made other holds none is_in =
    let P : Table → Type 0 = λ t. (edited edit from t.rows ≡ Ok after.rows) × (after ≡ with_rows t after.rows) in
    let at : P before = subst P is made in
    let differ : after.rows ≢ before.rows = λ alike. other (at.1 ∙ ap (with_rows before) alike) in
    let Q : Table → Type 0 = λ t. HasTable file t new × Refuses file t None in
    let moved : Q (with_rows before after.rows) = subst Q at.1 (holds, none) in
    (before, after.rows, (is_in, at.0, differ), moved.0, moved.1)
