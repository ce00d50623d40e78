use Rattle.std.proofs.Common.{◌≡◌, ◌∙◌, List, ℕ, Option, None, Some, Ok, ap, refl}
use Rattle.std.specs.Prelude.{option_map}
use Rattle.mac_files.specs.OldFiles.{Said, old_file}
use Rattle.mac_salvage.specs.InSpite.{Left, forks_by_fault, forks_in_spite, whole_fork}
use Rattle.mac_salvage.proofs.Mending.{good_kept, mended_length}
use Rattle.mac_salvage.proofs.laws.salvage_laws.Goals as goal

bytes_kept : (fork : Option (List ℕ)) → option_map (λ (left : Left). left.bytes) (option_map whole_fork fork) ≡ fork
bytes_kept None = refl
bytes_kept (Some bytes) = refl

pub returns-clause-whole : goal.returns-clause-whole
returns-clause-whole c = λ file said is.
    ap (λ read. option_map (λ (left : Left). left.bytes) (forks_by_fault read file).resource_fork) is ∙ bytes_kept said.resource_fork

pub returns-clause-good : goal.returns-clause-good
returns-clause-good c = good_kept

pub returns-clause-places : goal.returns-clause-places
returns-clause-places c = mended_length
