-- Files that bytes say are those that were saved.
use Rattle.std.proofs.Common.{◌≡◌, ℕ, Bool, true, List, refl, ap, ◌∙◌}
use Rattle.std.specs.Prelude.{bytes_eq}
use Rattle.std.proofs.lemmas.Slice.Eq.{bytes_eq-Decides}
use Rattle.fork_bytes.specs.declared.place.Place.{Place}
use Rattle.res_table.specs.OpenFiles.{OpenFiles}
use Rattle.res_update.specs.Device.{Disk}
use Rattle.saved_files.specs.Saved.{Saved}

-- what is saved is the same by its parts
pub same_saved : (a b : Saved) → a.chain ≡ b.chain → a.loads ≡ b.loads → a.disks ≡ b.disks → a ≡ b
same_saved a b chain loads disks =
    ap (λ (x : OpenFiles Place). let s : Saved = record { chain = x; loads = a.loads; disks = a.disks } in s) chain
    ∙ ap (λ (x : Bool). let s : Saved = record { chain = b.chain; loads = x; disks = a.disks } in s) loads
    ∙ ap (λ (x : List Disk). let s : Saved = record { chain = b.chain; loads = b.loads; disks = x } in s) disks

-- bytes are equal to themselves
pub same_bytes : (xs : List ℕ) → bytes_eq xs xs ≡ true
same_bytes xs = (bytes_eq-Decides xs xs).1 refl
