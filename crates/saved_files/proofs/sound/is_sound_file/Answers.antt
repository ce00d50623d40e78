use Rattle.std.proofs.Common.{refl, arith}
use Rattle.std.proofs.lemmas.Option.{slice_get_within}
use Rattle.saved_files.proofs.sound.is_sound_file.Goals as goal

pub returns-then-not-is_sound_at : goal.returns-then-not-is_sound_at
returns-then-not-is_sound_at c = (
  λ is. absurd (cc is),
  λ all. absurd (cc (c.is_sound_at.ensures.1 (all c.loop-index.index c.row.result.now c.row.ensures), c.if-not-is_sound_at.true)),
)

pub returns : goal.returns
returns c = (
  λ is index r there.
      let inside = slice_get_within c.args.file.now.table.rows index r there in
      let end = c.len-index-end.ensures in let past = c.loop-index-test.false in
      c.loop-index.invariant index r (omega (arith, inside, end, past)) there,
  λ all. refl,
)
