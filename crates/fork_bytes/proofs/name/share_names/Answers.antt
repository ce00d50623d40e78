use Rattle.std.proofs.Common.{◌≡◌, ap, ◌∙◌, take}
use Rattle.std.specs.Arc.{arc_slice_items}
use Rattle.std.proofs.lemmas.List.{take_min}
use Rattle.std.proofs.lemmas.Result.{IfOk-weaker}
use Rattle.fork_bytes.specs.Reading.{names_end}
use Rattle.fork_bytes.proofs.name.share_names.Goals as goal

pub returns : goal.returns
returns c =
    let m = c.args.map.now in
    IfOk-weaker c.from_slice.result (λ it. arc_slice_items it ≡ take c.min.result m) (λ it. arc_slice_items it ≡ take names_end m)
    (λ it same. same ∙ ap (λ n. take n m) c.min.ensures ∙ take_min names_end m) c.from_slice.ensures.ok
