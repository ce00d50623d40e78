use Rattle.std.proofs.Common.{◌≡◌, ◌-◌, ◌*◌, ◌∙◌, length, sym, ap, subst, arith}
use Rattle.std.specs.Prelude.{◌/◌}
use Rattle.zone_records.specs.Masters.{word_at}
use Rattle.zone_records.specs.Word.{slot_word, slot_in}
use Rattle.zone_records.proofs.Comparing.{word-read}
use Rattle.zone_records.proofs.FaultWords.{own-right}
use Rattle.zone_records.proofs.faults.agrees_with.Goals as goal

pub compare_words-requires : goal.compare_words-requires
compare_words-requires c =
    let ours = c.args.ours.now in
    let at = c.args.at in
    let long = c.requires.long in
    let inside = c.requires.inside in
    let same : 4 * (at / 4) ≡ at = omega arith in
    let here = c.read_u32-word.ensures ∙ word-read (length ours - at) ours at (omega arith) in
    ap (λ n. slot_word c.args.heads (slot_in c.args.heads n)) here
    ∙ subst (λ n. slot_word c.args.heads (slot_in c.args.heads (word_at ours n)) ≡ word_at ours n) same (own-right c.args.heads 64 ours c.requires.right (at / 4) (omega arith)) ∙ sym here
