use Rattle.std.proofs.Common.{◌≡◌, ◌∙◌, ℕ, List, ap, inl, map, refl, subst, sym}
use Rattle.std.proofs.lemmas.Result.{err_from_is_err_and}
use Rattle.fork_folder.specs.Unpacked.{chosen, file_row, unpacked, unpacked_file}
use Rattle.fork_view.specs.Unpacking.{IsManifestText}
use Rattle.fork_view.proofs.Saying.{says_text}
use Rattle.fork_view.proofs.Stopping.{unpacks_with}
use Rattle.fork_view.proofs.unpack.unpack.Goals as goal

pub returns-in_err-files : goal.returns-in_err-files
returns-in_err-files c = let p = err_from_is_err_and c.from_residual.result c.from_residual.ensures.1 in rw p.1 (inl refl)

pub returns-in_err-text : goal.returns-in_err-text
returns-in_err-text c =
    let p = err_from_is_err_and c.from_residual-in_err-text.result c.from_residual-in_err-text.ensures.1 in
    rw p.1 (inl refl)

pub returns : goal.returns
returns c =
    let kinds = c.args.unpacking.now.kinds.items in
    let rows = c.args.table.now.rows in
    let listed = c.as_slice-listed.result.now in
    let named : map unpacked_file listed ≡ unpacked kinds rows =
    ap (map unpacked_file) c.as_slice-listed.ensures.value ∙ c.in_ok-files.ensures.files ∙ (λ i. unpacked (c.as_slice.ensures.value i) (c.as_slice-2.ensures i)) in
    let own : map file_row listed ≡ chosen kinds rows =
    ap (map file_row) c.as_slice-listed.ensures.value ∙ c.in_ok-files.ensures.rows ∙ (λ i. chosen (c.as_slice.ensures.value i) (c.as_slice-2.ensures i)) in
    let P : List ℕ → Type 0 = λ text. IsManifestText c.args.file.now kinds c.args.table.now text in
    let said : P c.as_str.result.now = subst P (sym c.as_str.ensures.value) (says_text c.args.file.now kinds c.args.table.now listed _ named own c.in_ok-text.ensures) in
    unpacks_with _ _ _ _ _ _ _ P named said c.write_files.ensures
