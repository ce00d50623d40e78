use Rattle.std.proofs.Common.{◌≡◌, ◌-◌, ◌≤◌, ◌∙◌, ℕ, List, length, refl, sym, ap, arith, inl, inr}
use Rattle.std.proofs.lemmas.Bool.Decides.{nat_tests}
use Rattle.mac_base.specs.declared.block.HeadKind.{HeadKind}
use Rattle.block_bytes.specs.declared.header.Role.TheVariants as role
use Rattle.block_bytes.specs.Layout.{BlockAt}
use Rattle.zone_records.specs.Word.{slots_in, words_of}
use Rattle.zone_records.proofs.Adopted.{used-plain, used-handle, handle-used, used-master, master-length}
use Rattle.zone_records.proofs.MasterBlocks.{at-same}
use Rattle.zone_records.proofs.adopting.is_used.Goals as goal
use Rattle.zone_records.proofs.adopting.is_used.Goals.{After-contents-words}

-- it is a master block
master : (c : After-contents-words) (b : BlockAt c.args.blocks.now c.args.at) → b.here.role ≡ role.Master
master c b = sym (c.requires.role b) ∙ c.in-Master.is

-- bytes are the words of their slots
abbrev Right : HeadKind → ℕ → List ℕ → Type 0
Right heads at xs = xs ≡ words_of heads (slots_in heads 64 xs)

pub returns-then-words : goal.returns-then-words
returns-then-words c = λ b.
    let l = c.args.blocks.now in let is = master (goal.at.returns-then-words c).After-contents-words b in
    let heads = c.heads.ensures ∙ c.spec-spec.ensures.heads in let bytes = c.contents-words.ensures b in let long : length b.here.contents ≡ 256 = ap length (sym bytes) ∙ c.if-words.true in (
      λ yes. used-master l.heads l.base b.here is long (at-same Right c.heads.result l.heads 0 0 c.contents-words.result.now b.here.contents heads refl bytes (c.are_words.ensures.0 yes)),
      λ u. c.are_words.ensures.1 (at-same Right l.heads c.heads.result 0 0 b.here.contents c.contents-words.result.now (sym heads) refl (sym bytes) (u.words is)),
    )

pub returns-else-words : goal.returns-else-words
returns-else-words c = λ b.
    let l = c.args.blocks.now in let is = master (goal.at.returns-else-words c).After-contents-words b in let bytes = c.contents-words.ensures b in (
      λ yes. absurd (c.if-words.false (grind (arith, nat_tests, yes))),
      λ u. absurd (c.if-words.false (ap length bytes ∙ master-length l.heads l.base b.here is u)),
    )

pub returns-in-Free : goal.returns-in-Free
returns-in-Free c b = let role = c.requires.role b in (
  λ yes. used-plain c.args.blocks.now.heads c.args.blocks.now.base b.here (elim c.in-Free.is [ inl free ↦ inl (sym role ∙ free) | inr fixed ↦ inr (sym role ∙ fixed) ]),
  λ u. refl,
)

pub returns-in-Relocatable : goal.returns-in-Relocatable
returns-in-Relocatable c b =
    let l = c.args.blocks.now in
    let base : c.base.result ≡ l.base = c.base.ensures.value ∙ c.spec-spec.ensures.base in
    let said : b.here.role ≡ role.Relocatable c.in-Relocatable.offset c.in-Relocatable.field-1 = sym (c.requires.role b) ∙ c.in-Relocatable.is in
    let reach = c.base.ensures.reach in (
      λ yes. used-handle l.heads l.base b.here c.in-Relocatable.offset c.in-Relocatable.field-1 said (let low : c.in-Relocatable.offset ≤ 4294967295 - c.base.result = grind (arith, nat_tests, yes) in omega arith),
      λ u. let low = handle-used l.heads l.base b.here c.in-Relocatable.offset c.in-Relocatable.field-1 said u in let small : c.in-Relocatable.offset ≤ 4294967295 - c.base.result = omega arith in grind (arith, nat_tests),
    )
