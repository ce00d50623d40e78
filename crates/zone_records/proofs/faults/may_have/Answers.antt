use Rattle.std.proofs.Common.{◌∙◌, length, inl, inr, refl, sym, ap, arith}
use Rattle.std.specs.Prelude.{IsTrue, ◌↔◌}
use Rattle.zone_records.specs.Faults.{MayBe}
use Rattle.zone_records.specs.Word.{slots_in, words_of}
use Rattle.zone_records.proofs.MasterBlocks.{at-same, contents-long, contents-unlent, contents-words}
use Rattle.zone_records.proofs.faults.may_have.Goals as goal

pub contents-requires : goal.contents-requires
contents-requires c = contents-unlent c.args.blocks.now c.requires.sound c.args.start c.requires.block (c.requires.master c.requires.block)

pub agrees_with-requires-clause-long : goal.agrees_with-requires-clause-long
agrees_with-requires-clause-long c = let b = c.requires.block in ap length (c.contents.ensures b) ∙ contents-long c.args.blocks.now c.requires.sound c.args.start b (c.requires.master b)

pub agrees_with-requires-clause-right : goal.agrees_with-requires-clause-right
agrees_with-requires-clause-right c =
    let b = c.requires.block in
    let l = c.args.blocks.now in
    let same = c.contents.ensures b in
    let heads = sym (c.heads.ensures ∙ c.spec.ensures.heads) in
    same ∙ contents-words l c.requires.sound c.args.start b (c.requires.master b)
    ∙ (λ i. words_of (heads i) (slots_in (heads i) 64 (sym same i)))

pub returns-else-at-ge-MASTER_LENGTH : goal.returns-else-at-ge-MASTER_LENGTH
returns-else-at-ge-MASTER_LENGTH c b =
    let l = c.args.blocks.now in
    let both = at-same (λ heads at contents. IsTrue c.agrees_with.result ↔ MayBe heads contents at c.args.byte) c.heads.result l.heads c.args.at c.args.at c.contents.result.now b.here.contents
    (c.heads.ensures ∙ c.spec.ensures.heads) refl (c.contents.ensures b) c.agrees_with.ensures in
    (λ is. inr (both.0 is), λ may. elim may [ inl after ↦ absurd (omega arith) | inr among ↦ both.1 among ])
