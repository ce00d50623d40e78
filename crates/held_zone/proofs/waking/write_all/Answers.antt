use Rattle.std.proofs.Common.{◌≡◌, ◌∙◌, ℕ, List, ap, length, sym}
use Rattle.raw_region.specs.State.{State as Region}
use Rattle.mem_calls.proofs.FlagsTaken.{part-all}
use Rattle.held_zone.proofs.Guests.{all-written}
use Rattle.held_zone.proofs.waking.write_all.Goals as goal

pub copy_from_slice-requires : goal.copy_from_slice-requires
copy_from_slice-requires c =
    let own : c.bytes_mut.result.now ≡ c.args.region.now.bytes = c.bytes_mut.ensures.value ∙ part-all c.args.region.now.bytes c.len-all.result c.len-all.ensures in
    ap length own ∙ sym c.requires.long

pub returns : goal.returns
returns c =
    let given = c.args.region.now in
    let own : c.bytes_mut.result.now ≡ given.bytes = c.bytes_mut.ensures.value ∙ part-all given.bytes c.len-all.result c.len-all.ensures in
    all-written given c.copy_from_slice.new.self c.len-all.result c.len-all.ensures (c.copy_from_slice.ensures.len ∙ ap length own)
    ∙ ap (λ (xs : List ℕ). let now : Region = record given { bytes = xs } in now) c.copy_from_slice.ensures.after
