use Rattle.std.proofs.Common.{◌++◌, List, ℕ, sym, subst, ap, ◌∙◌}
use Rattle.std.specs.List.{AllByRecursion}
use Rattle.std.proofs.lemmas.List.{drop_all}
use Rattle.fork_bytes.proofs.Steps.{drop_item, each_step}
use Rattle.row_image.specs.declared.fault.SaveFault.TheVariants.{NotSound}
use Rattle.row_image.specs.Images.{HasImages, IsGroupedFile}
use Rattle.row_image.proofs.Faults.{passed}
use Rattle.saved_files.specs.Saved.{block_text, file_text}
use Rattle.saved_files.proofs.Files.{all_at, all_text, step_text}
use Rattle.saved_files.proofs.saving.push_files.Goals as goal

pub image_of-requires : goal.image_of-requires
image_of-requires c =
    (subst (AllByRecursion IsGroupedFile) (drop_item c.args.files.now c.loop-file.file-index c.file-item.result c.loop-file-test.true c.file-item.is) c.loop-file.invariant.2).0

pub returns-in_err-image-clause-refused : goal.returns-in_err-image-clause-refused
returns-in_err-image-clause-refused c = λ is all.
    let file = c.file-item.result in
    c.in_err-image.ensures.refused (passed c.from_residual.result c.in_err-image.field-0.0 NotSound c.from_residual.ensures.1 is)
    (subst HasImages (sym c.file-item.is) (all_at HasImages c.args.files.now c.loop-file.file-index file c.loop-file-test.true all))

pub loop-file-preserved : goal.loop-file-preserved
loop-file-preserved c =
    let files = c.args.files.now in let i = c.loop-file.file-index in let file = c.file-item.result in let old = c.loop-file.bytes.items in
    let within = c.loop-file-test.true in let item = c.file-item.is in
    let bytes = c.in_ok-push_block.ensures ∙ ap (λ (b : List ℕ). old ++ block_text b) (c.deref.ensures.value ∙ c.in_ok-image.ensures.written) in (
      step_text file_text files i file old _ _ within item bytes c.loop-file.invariant.0,
      λ others. c.loop-file.invariant.1 (each_step HasImages files i file within item c.in_ok-image.ensures.has others),
      (subst (AllByRecursion IsGroupedFile) (drop_item files i file within item) c.loop-file.invariant.2).1,
    )

pub returns-clause-added : goal.returns-clause-added
returns-clause-added c = all_text file_text c.args.files.now c.loop-file.file-index c.loop-file.bytes.items _ c.loop-file-test.false c.loop-file.invariant.0

pub returns-clause-have : goal.returns-clause-have
returns-clause-have c =
    let none = drop_all c.loop-file.file-index c.args.files.now c.loop-file-test.false in
    c.loop-file.invariant.1 (subst (AllByRecursion HasImages) (sym none) tt)
