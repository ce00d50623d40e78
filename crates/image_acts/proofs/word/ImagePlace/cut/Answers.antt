use Rattle.std.proofs.Common.{◌≡◌, slice_index, arith}
use Rattle.std.proofs.lemmas.Str.{IsCharBoundary-after_ascii}
use Rattle.image_acts.proofs.word.ImagePlace.cut.Goals as goal

pub range_from-requires : goal.range_from-requires
range_from-requires c =
    let colon : slice_index c.args.word.now c.args.at ≡ 58 = cc in
    λ above. IsCharBoundary-after_ascii c.args.word.now c.args.at c.utf8.word c.requires (omega arith)
