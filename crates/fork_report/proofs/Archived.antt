-- Archives in the data forks of files without resources.
use Rattle.std.proofs.Common.{◌≡◌, ◌∙◌, List, None, arith, ap, sym}
use Rattle.std.specs.Prelude.{[], ◌∷◌, ◌==◌, length, unwrap_or}
use Rattle.std.proofs.lemmas.Bool.{cond-false, cond-true, ne_eqb}
use Rattle.fork_salvage.specs.declared.salvage.Item.{Item}
use Rattle.fork_salvage.specs.Salvage.{items}
use Rattle.mac_files.specs.OldFiles.{Said, data_archive}
use Rattle.fork_report.specs.Inside.{archive_inside}

-- nothing is found in its fork
pub archive_if_none : (it : Said) → items (unwrap_or it.resource_fork []) ≡ [] → data_archive it ≡ archive_inside it
archive_if_none it none = sym (cond-true _ _ _ (ap (λ (found : List Item). length found == 0) none))

-- something is found in it
pub none_if_some : (it : Said) (item : Item) (others : List Item) → items (unwrap_or it.resource_fork []) ≡ item ∷ others → None ≡ archive_inside it
none_if_some it item others some =
    sym (cond-false _ _ _ (ap (λ (found : List Item). length found == 0) some ∙ ne_eqb (length (item ∷ others)) 0 (omega arith)))
