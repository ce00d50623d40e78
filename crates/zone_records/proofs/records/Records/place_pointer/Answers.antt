use Rattle.std.proofs.Common.{refl}
use Rattle.block_bytes.specs.declared.header.Role.TheVariants.{Fixed}
use Rattle.zone_records.proofs.Held.{held-now, fields}
use Rattle.zone_records.proofs.Placing.{place-can, place-unlent, place-cleared}
use Rattle.zone_records.proofs.records.Records.place_pointer.Goals as goal

pub assign-requires : goal.assign-requires
assign-requires c = place-can _ _ (held-now c.self.invariant c.self.view_is) c.args.at c.args.length c.requires Fixed (λ k. refl) refl

pub clear-requires : goal.clear-requires
clear-requires c =
    place-unlent _ _ (held-now c.self.invariant c.self.view_is) c.args.at c.args.length c.requires Fixed (λ k. refl) refl c.assign.new.self c.assign.ensures

pub invariant_of-self : goal.invariant_of-self
invariant_of-self c =
    fields _ _ (place-cleared _ _ (held-now c.self.invariant c.self.view_is) c.args.at c.args.length c.requires Fixed (λ k. refl) refl (λ is. absurd (cc is)) c.assign.new.self c.clear.new.self c.assign.ensures c.clear.ensures)

pub returns : goal.returns
returns c r =
    (place-cleared _ _ (held-now c.self.invariant c.self.view_is) c.args.at c.args.length r Fixed (λ k. refl) refl (λ is. absurd (cc is)) c.assign.new.self c.clear.new.self c.assign.ensures c.clear.ensures).shows
