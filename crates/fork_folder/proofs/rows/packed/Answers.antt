use Rattle.std.proofs.Common.{◌≡◌, ◌∙◌, ◌++◌, ◌∷◌, [], List, ℕ, Some, None, Result, map, sym, ap, subst}
use Rattle.std.specs.Prelude.{option_map}
use Rattle.fork_bytes.specs.Rows.{Row}
use Rattle.fork_folder.specs.Packed.{Fails, folder_of, listed, packed}
use Rattle.fork_folder.proofs.Front.{after_rows, goes_on, lacks}
use Rattle.fork_folder.proofs.rows.packed.Goals as goal

pub returns-in_default-bytes_at : goal.returns-in_default-bytes_at
returns-in_default-bytes_at c =
    let folder = folder_of c.args.files.now in
    let entry = c.in-Some.entry.now in
    let gone : folder (listed entry).file ≡ None = ap folder (sym c.as_str.ensures.value) ∙ sym c.bytes_at.ensures ∙ ap (option_map (λ bytes. bytes.now)) c.in_default-bytes_at.is in
    subst (λ (read : Result (List Row) (List ℕ)). Fails c.missing.result read)
    (sym (lacks folder c.loop-entry.rows.items c.loop-entry.left.now c.in-Some.after.now entry _ c.in-Some.ensures.cases.0 c.loop-entry.invariant gone)) c.missing.ensures

pub loop-entry-preserved : goal.loop-entry-preserved
loop-entry-preserved c =
    let folder = folder_of c.args.files.now in
    let entry = c.in-Some.entry.now in
    let after = c.in-Some.after.now in
    let front = c.loop-entry.rows.items in
    let bytes = c.in-Some-bytes_at.bytes.now in
    let there : folder (listed entry).file ≡ Some bytes = ap folder (sym c.as_str.ensures.value) ∙ sym c.bytes_at.ensures ∙ ap (option_map (λ found. found.now)) c.in-Some-bytes_at.is in
    ap (λ (rows : List Row). after_rows rows (packed folder (map listed after))) (c.in_ok-push.ensures.items ∙ ap (λ (row : Row). front ++ row ∷ []) c.in_ok-row_with.ensures)
    ∙ goes_on folder front c.loop-entry.left.now after entry _ c.in-Some.ensures.cases.0 c.loop-entry.invariant bytes there
