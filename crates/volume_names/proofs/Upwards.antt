-- A path, from a folder up to the root.
use Rattle.std.proofs.Common.{◌≡◌, ℕ, suc, ◌==◌, false, List, [], ◌∷◌, ◌++◌, reverse, Option, None, Some, refl, sym, ap, ◌∙◌}
use Rattle.std.specs.Prelude.{find}
use Rattle.std.proofs.lemmas.List.{append_assoc, reverse-append}
use Rattle.hfs_volume.specs.declared.entry.Entry.{Entry}
use Rattle.hfs_volume.specs.declared.name.Name.{Name}
use Rattle.volume_names.specs.Paths.{is_folder_with, with_name, path_within}

-- a path and more names after it
abbrev pub before_all : List Name → Option (List Name) → Option (List Name)
before_all names None = None
before_all names (Some path) = Some (path ++ names)

-- one more name before the last ones
one_up : (names : List Name) (name : Name) (path : Option (List Name)) → before_all (reverse names) (with_name name path) ≡ before_all (reverse (names ++ name ∷ [])) path
one_up names name None = refl
one_up names name (Some path) =
    ap (λ (xs : List Name). Some xs) (append_assoc path (name ∷ []) (reverse names) ∙ ap (λ (xs : List Name). path ++ xs) (sym (reverse-append names (name ∷ []))))

module _ (entries : List Entry) where
  -- the root has no names
  pub at_root : (names : List Name) (left more id : ℕ) → left ≡ suc more → id ≡ 2 → before_all names (path_within left entries id) ≡ Some names
  unfolding path_within
  at_root names left more id some root = rw some (rw root refl)

  -- a folder that isn't there has no path
  pub no_folder : (names : List Name) (left more id : ℕ) → left ≡ suc more → (id == 2) ≡ false → find (is_folder_with id) entries ≡ None → before_all names (path_within left entries id) ≡ None
  unfolding path_within
  no_folder names left more id some other none = rw some (rw (other, none) refl)

  -- else its path is that of the folder that it is in, and its name
  pub goes_up : (names : List Name) (left more id : ℕ) (folder : Entry) → left ≡ suc more → (id == 2) ≡ false → find (is_folder_with id) entries ≡ Some folder
      → before_all (reverse names) (path_within left entries id) ≡ before_all (reverse (names ++ folder.name ∷ [])) (path_within more entries folder.parent)
  unfolding path_within
  goes_up names left more id folder some other is = rw some (rw (other, is) (one_up names folder.name (path_within more entries folder.parent)))

  -- and after the most folders there is none
  pub too_deep : (names : List Name) (left id : ℕ) → left ≡ 0 → before_all names (path_within left entries id) ≡ None
  unfolding path_within
  too_deep names left id none = rw none refl

  -- The same of the path itself.
  pub root_path : (left more id : ℕ) → left ≡ suc more → id ≡ 2 → path_within left entries id ≡ Some []
  unfolding path_within
  root_path left more id some root = rw some (rw root refl)

  pub missing_path : (left more id : ℕ) → left ≡ suc more → (id == 2) ≡ false → find (is_folder_with id) entries ≡ None → path_within left entries id ≡ None
  unfolding path_within
  missing_path left more id some other none = rw some (rw (other, none) refl)

  pub path_up : (left more id : ℕ) (folder : Entry) → left ≡ suc more → (id == 2) ≡ false → find (is_folder_with id) entries ≡ Some folder
      → path_within left entries id ≡ with_name folder.name (path_within more entries folder.parent)
  unfolding path_within
  path_up left more id folder some other is = rw some (rw (other, is) refl)

  pub deep_path : (left id : ℕ) → left ≡ 0 → path_within left entries id ≡ None
  unfolding path_within
  deep_path left id none = rw none refl
