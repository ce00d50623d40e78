use Rattle.std.proofs.Common.{◌∙◌, ap, List, [], ◌∷◌, ◌++◌}
use Rattle.std.proofs.lemmas.List.{replicate_more}
use Rattle.fork_pictures.specs.declared.pixel.Pixel.{Pixel}
use Rattle.fork_drawings.specs.Painting.{blank}
use Rattle.fork_drawings.proofs.drawing.blanks.Goals as goal

pub loop-dot-preserved : goal.loop-dot-preserved
loop-dot-preserved c =
    c.in_ok-push.ensures.items ∙ ap (λ (dots : List Pixel). dots ++ blank ∷ []) c.loop-dot.invariant ∙ replicate_more c.loop-dot._dot blank
