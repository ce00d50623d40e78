-- The records that were read so far, with those that are left, are those of the leaves.
use Rattle.std.proofs.Common.{◌≡◌, ℕ, suc, ◌+◌, ◌<◌, ◌≤◌, List, [], ◌∷◌, ◌++◌, length, drop, get_or, Option, Some, Result, Ok, Err, refl, sym, ap, ◌∙◌}
use Rattle.std.proofs.lemmas.List.{append_assoc, append-nil, at_drop_more, at_drop_all}
use Rattle.hfs_tree.specs.declared.fault.TreeFault.{TreeFault}
use Rattle.hfs_tree.specs.declared.leaf.Leaf.{Leaf}
use Rattle.hfs_tree.specs.Leaves.{count_of}
use Rattle.hfs_tree.specs.Rows.{RowsRead, rows_before, ended, rows_from, rows_in}

module _ {T : Type 0} (row_of : Leaf → ℕ → Result T TreeFault) where
  -- one more record
  pub row_read : (rows : List T) (leaf : Leaf) (row left more : ℕ) (found : T) (rest : RowsRead T) → left ≡ suc more → Ok found ≡ row_of leaf row
      → rows_before rows (rows_from row_of leaf row left rest) ≡ rows_before (rows ++ found ∷ []) (rows_from row_of leaf (row + 1) more rest)
  unfolding rows_from
  row_read rows leaf row left more found rest some is =
      let others = rows_from row_of leaf (row + 1) more rest in
      rw some (rw (← is) (ap (λ (xs : List T). record { rows = xs; fault = others.fault }) (sym (append_assoc rows (found ∷ []) others.rows))))

  -- or a fault
  pub row_faults : (rows : List T) (leaf : Leaf) (row left more : ℕ) (fault : TreeFault) (rest : RowsRead T) → left ≡ suc more → Err fault ≡ row_of leaf row
      → rows_before rows (rows_from row_of leaf row left rest) ≡ rows_before rows (ended (Some fault) rest)
  unfolding rows_from
  row_faults rows leaf row left more fault rest some is = rw some (rw (← is) refl)

  -- and after the last
  pub no_row : (rows : List T) (leaf : Leaf) (row left : ℕ) (rest : RowsRead T) → left ≡ 0 → rows_before rows (rows_from row_of leaf row left rest) ≡ rows_before rows rest
  unfolding rows_from
  no_row rows leaf row left rest none = rw none refl

  -- the leaf at an index, before those after it
  pub leaf_read : (leaves : List Leaf) (i : ℕ) (fault : Option TreeFault) (leaf : Leaf) → i < length leaves
      → rows_in row_of (drop i leaves) fault ≡ rows_from row_of (get_or leaves i leaf) 0 (count_of (get_or leaves i leaf).bytes) (rows_in row_of (drop (i + 1) leaves) fault)
  unfolding rows_in
  leaf_read leaves i fault leaf at = at_drop_more (λ xs. rows_in row_of xs fault) leaves i leaf at

  pub no_leaf : (leaves : List Leaf) (i : ℕ) (fault : Option TreeFault) (rows : List T) → length leaves ≤ i
      → rows_before rows (rows_in row_of (drop i leaves) fault) ≡ record { rows = rows; fault = fault }
  unfolding rows_in
  no_leaf leaves i fault rows past =
      ap (rows_before rows) (at_drop_all (λ xs. rows_in row_of xs fault) leaves i past) ∙ ap (λ (xs : List T). record { rows = xs; fault = fault }) (append-nil rows)
