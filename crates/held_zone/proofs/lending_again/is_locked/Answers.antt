use Rattle.std.proofs.Common.{sym, subst}
use Rattle.mac_base.specs.ZoneState.{ZoneState}
use Rattle.linked_zone.specs.Structure.{HasStructure}
use Rattle.held_zone.proofs.lending_again.is_locked.Goals as goal

pub changed_flags-requires : goal.changed_flags-requires
changed_flags-requires c = subst (λ (z : ZoneState). HasStructure z c.args.bytes.now) (sym c.linked-zone.ensures.zone) c.requires.structure
