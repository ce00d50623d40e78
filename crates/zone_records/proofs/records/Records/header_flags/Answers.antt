use Rattle.zone_records.specs.Records.{handle_record}
use Rattle.zone_records.proofs.records.Records.header_flags.Goals as goal

pub head_at-requires : goal.head_at-requires
head_at-requires c =
    let b = c.requires in
    record { before = b.before; here = handle_record b.handle b.flags b.bytes b.size b.lent; after = b.after; blocks = b.blocks; place = b.place }
