-- The things of the records so far, and of one more.
use Rattle.std.proofs.Common.{◌≡◌, ℕ, ◌+◌, ◌<◌, cond, Bool, true, false, List, [], ◌∷◌, ◌++◌, length, take, get_or, sym, ap, ◌∙◌}
use Rattle.std.specs.Prelude.{filter, is_some}
use Rattle.std.proofs.lemmas.List.{append-nil}
use Rattle.std.proofs.lemmas.List.Elements.{filter_more}
use Rattle.hfs_volume.specs.declared.entry.Entry.{Entry}
use Rattle.volume_names.specs.Things.{path_of_thing}

-- the first records that have a path, of so many
abbrev pub listed : List Entry → List Entry → List Entry
listed entries some = filter (λ entry. is_some (path_of_thing entries entry)) some

module _ (entries things : List Entry) (i : ℕ) (d : Entry) (at : i < length entries) (so_far : things ≡ listed entries (take i entries)) (is : Bool)
    (says : is ≡ is_some (path_of_thing entries (get_or entries i d))) where
  one_more : listed entries (take (i + 1) entries) ≡ things ++ cond is (get_or entries i d ∷ []) []
  one_more =
      filter_more (λ entry. is_some (path_of_thing entries entry)) entries i d at
      ∙ ap (λ (b : Bool). listed entries (take i entries) ++ cond b (get_or entries i d ∷ []) []) (sym says)
      ∙ ap (λ (xs : List Entry). xs ++ cond is (get_or entries i d ∷ []) []) (sym so_far)

  -- it is a thing
  pub a_thing : is ≡ true → things ++ get_or entries i d ∷ [] ≡ listed entries (take (i + 1) entries)
  a_thing holds = ap (λ (b : Bool). things ++ cond b (get_or entries i d ∷ []) []) (sym holds) ∙ sym one_more

  -- or none
  pub no_thing : is ≡ false → things ≡ listed entries (take (i + 1) entries)
  no_thing fails = sym (append-nil things) ∙ ap (λ (b : Bool). things ++ cond b (get_or entries i d ∷ []) []) (sym fails) ∙ sym one_more
