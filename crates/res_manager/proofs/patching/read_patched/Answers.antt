use Rattle.std.proofs.Common.{◌≡◌, ◌∙◌, ℕ, List, ◌++◌, length, drop, refl, ap}
use Rattle.res_update.specs.Partial.{data_at}
use Rattle.res_update.specs.Patching.{patched_bytes}
use Rattle.res_table.specs.OpenFiles.{row_at}
use Rattle.res_manager.specs.Patching.{put_over}
use Rattle.res_manager.proofs.PatchedBytes.{all_long, kept_is, made_of, read_whole}
use Rattle.res_manager.proofs.patching.read_patched.Goals as goal

pub returns-clause-made : goal.returns-clause-made
returns-clause-made g c =
    let own : List ℕ = data_at c.args.place c.args.files.now.files in
    let size : ℕ = length (patched_bytes c.args.call.now own) in
    let kept : ℕ = c.min-kept.result in
    let read : List ℕ = c.read_part.new.buffer in
    let is = kept_is c.args.size size own c.args.bytes.now kept c.min-kept.ensures c.requires.size c.requires.zeros in
    let long : length read ≡ kept = c.read_part.ensures.length ∙ is.1 in
    record {
      read = read ++ drop kept own;
      long = all_long own read size kept is.0 long;
      same = λ honest. read_whole (row_at c.args.place c.args.files.now.files) read kept _ long is.1 is.2 (c.in_ok-read_part.ensures.reads honest);
      made = c.put_over.ensures ∙ ap (λ (b : List ℕ). put_over c.args.call.now (read ++ drop kept b)) c.requires.zeros ∙ made_of c.args.call.now own read size kept c.requires.within refl is.0 long;
    }
