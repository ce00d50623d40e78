use Rattle.std.proofs.Common.{◌∙◌, ◌-◌, ◌++◌, ap, arith, length, replicate, sym}
use Rattle.held_zone.specs.Fields.{managed, new_fields, with_fields}
use Rattle.held_zone.proofs.Filled.{filled}
use Rattle.held_zone.proofs.Headers.{length-with}
use Rattle.held_zone.proofs.attaching.region_of.Goals as goal

pub returns-clause-bytes : goal.returns-clause-bytes
returns-clause-bytes c =
    let bytes = c.args.bytes.now in
    let long = length-with new_fields bytes in
    let room = c.requires.room in
    filled c.args.len (length bytes) c.in-Ok.region.bytes (managed bytes) c.write.new.bytes c.in-Ok.ensures.0 (sym long) (omega arith) (c.write.ensures ∙ (λ i. with_fields (c.new.ensures i) (c.copy_from_slice.ensures.after i)))
    ∙ ap (λ n. managed bytes ++ replicate (c.args.len - n) 0) long
