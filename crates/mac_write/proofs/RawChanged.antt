-- A file of nothing but a fork.
use Rattle.std.proofs.Common.{◌≡◌, ℕ, List, [], ◌∷◌, Bool, length, refl, ap, ◌∙◌, arith, None, Some, if◌then◌else◌}
use Rattle.std.specs.Prelude.{option_map}
use Rattle.std.proofs.lemmas.Bool.{cond-true, ne_eqb}
use Rattle.std.proofs.lemmas.List.{take_all}
use Rattle.mac_files.specs.declared.part.Part.{Part}
use Rattle.mac_files.specs.declared.container.Container.TheVariants.{Raw}
use Rattle.mac_files.specs.Containers.{fork_in}
use Rattle.mac_files.specs.Parts.{bytes_of}
use Rattle.mac_write.specs.Forks.{ChangesFork, fork_of}

fork_read : (fork : List ℕ) → fork_in Raw fork ≡ fork_of fork
fork_read [] = refl
fork_read (byte ∷ bytes) =
    ap (λ (b : Bool). option_map (λ (q : Part). bytes_of q (byte ∷ bytes)) (if b then None else Some (record { offset = 0; length = length (byte ∷ bytes) })))
    (ne_eqb (length (byte ∷ bytes)) 0 (λ none. omega arith))
    ∙ ap (λ (xs : List ℕ). Some xs) (take_all (length (byte ∷ bytes)) (byte ∷ bytes) (omega arith))

pub changes : (file fork : List ℕ) → ChangesFork Raw file fork fork
changes file fork = record {
  known = λ was header. cond-true _ _ _ (header refl);
  whole = refl;
  resource_fork = fork_read fork;
  data_fork = refl;
  name = refl;
  finder = refl;
  dates = refl;
}
