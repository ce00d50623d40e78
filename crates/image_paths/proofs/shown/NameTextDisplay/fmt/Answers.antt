use Rattle.std.proofs.Common.{◌∙◌, sym, ap, refl, true, take, List, ℕ, [], get_or}
use Rattle.std.specs.List.{flat_map}
use Rattle.std.proofs.Output.{has_written_append, has_written_of_eq, writes_in_calls_nil}
use Rattle.std.proofs.lemmas.List.{take_more, flat_map_more}
use Rattle.image_paths.specs.Shown.{letter}
use Rattle.image_paths.proofs.shown.NameTextDisplay.fmt.Goals as goal

pub loop-byte-init : goal.loop-byte-init
loop-byte-init g c plain = record { wrote = writes_in_calls_nil _ _; plain = plain }

pub loop-byte-preserved : goal.loop-byte-preserved
loop-byte-preserved g c plain =
    let so_far = c.loop-byte.invariant plain in
    let bytes = c.args.self.now.name.now in
    let i = c.loop-byte.byte-index in
    let shown = letter c.args.self.now.letters in
    has_written_of_eq _ _ _ _ _
    (flat_map_more shown [] (take i bytes) (get_or bytes i 0) ∙ ap (λ (front : List ℕ). flat_map shown front) (sym (take_more bytes i 0 c.loop-byte-test.true)))
    (has_written_append _ _ _ _ _ _ so_far (c.in_ok-write.ensures.writes so_far.plain (refl {a = true})))
