use Rattle.std.proofs.Common.{◌≡◌, ◌+◌, ◌∙◌, ℕ, List, length, ap, sym, subst, arith, inl, inr, Some, None}
use Rattle.std.specs.Option.{IfNone}
use Rattle.std.specs.declared.option.Option.{Option}
use Rattle.std.proofs.lemmas.Option.{IfSome_then}
use Rattle.mac_base.specs.HeadKind.{head_size}
use Rattle.block_bytes.specs.declared.header.Role.{Role}
use Rattle.block_bytes.specs.declared.header.Role.TheVariants as role
use Rattle.block_bytes.specs.Layout.{BlockAt}
use Rattle.zone_records.specs.Linking.{KeptAs, SlotsKeep, free_count, full_count}
use Rattle.zone_records.specs.Word.{slots_in}
use Rattle.zone_records.proofs.MasterBlocks.{block-end, contents-long, contents-unlent}
use Rattle.zone_records.proofs.SaidPlaces.{said-master, said-none}
use Rattle.zone_records.proofs.Paired.{kept-none}
use Rattle.zone_records.proofs.ZoneSlots.{free-master, free-none}
use Rattle.zone_records.proofs.linking.kept_at.Goals as goal
use Rattle.zone_records.proofs.linking.kept_at.Goals.{After-kept_slots, In-Master, In-Free}

-- it is a master block
master : (c : In-Master) (b : BlockAt c.args.blocks.now c.args.at) → b.here.role ≡ role.Master
master c b = sym (c.requires.role b) ∙ c.in-Master.is

-- it isn't one
other : (c : In-Free) (b : BlockAt c.args.blocks.now c.args.at) → b.here.role ≡ role.Master → ⊥
other c b is = let said : c.args.role ≡ role.Master = c.requires.role b ∙ is in elim c.in-Free.is [
  | inl free ↦ cc (said, free)
  | inr (inl fixed) ↦ cc (said, fixed)
  | inr (inr handle) ↦ (let block = handle.2 in cc (said, block))
]

pub overflow_add-first : goal.overflow_add-first
overflow_add-first c =
    let l = c.args.blocks.now in let b = c.requires.block in let end = (block-end l c.requires.sound c.args.at b).0 in
    let head : c.head_size.result ≡ head_size l.heads = c.head_size.ensures ∙ ap head_size (c.heads.ensures ∙ c.spec.ensures.heads) in omega arith

pub contents-requires : goal.contents-requires
contents-requires c = let b = c.requires.block in contents-unlent c.args.blocks.now c.requires.sound c.args.at b (master (goal.at.contents-requires c).In-Master b)

pub kept_slots-requires-clause-long : goal.kept_slots-requires-clause-long
kept_slots-requires-clause-long c =
    let b = c.requires.block in
    ap (λ (xs : List ℕ). length xs) (c.contents.ensures b) ∙ contents-long c.args.blocks.now c.requires.sound c.args.at b (master (goal.at.kept_slots-requires-clause-long c).In-Master b)

pub kept_slots-requires-clause-low : goal.kept_slots-requires-clause-low
kept_slots-requires-clause-low c =
    let l = c.args.blocks.now in let b = c.requires.block in let end = (block-end l c.requires.sound c.args.at b).0 in
    let head : c.head_size.result ≡ head_size l.heads = c.head_size.ensures ∙ ap head_size (c.heads.ensures ∙ c.spec.ensures.heads) in
    let long = contents-long l c.requires.sound c.args.at b (master (goal.at.kept_slots-requires-clause-low c).In-Master b) in omega arith

-- what it is to keep, at the place that was computed
same : (c : After-kept_slots) (b : BlockAt c.args.blocks.now c.args.at) → SlotsKeep c.args.blocks.now 64 (c.args.at + c.head_size.result) c.contents.result.now ≡ KeptAs c.args.blocks.now c.args.at b.here.role b.here.contents
same c b =
    let l = c.args.blocks.now in
    let first : c.args.at + c.head_size.result ≡ c.args.at + head_size l.heads = ap (λ (n : ℕ). c.args.at + n) (c.head_size.ensures ∙ ap head_size (c.heads.ensures ∙ c.spec.ensures.heads)) in
    (λ i. SlotsKeep l 64 (first i) (c.contents.ensures b i)) ∙ ap (λ (r : Role). KeptAs l c.args.at r b.here.contents) (sym (sym (c.requires.role b) ∙ c.in-Master.is))

pub returns-in-Master-clause-kept : goal.returns-in-Master-clause-kept
returns-in-Master-clause-kept c =
    let i = (goal.at.returns-in-Master-clause-kept c).After-kept_slots in IfSome_then c.kept_slots.result c.kept_slots.ensures.kept (λ count keep b. subst (λ (T : Type 0). T) (same i b) keep)

pub returns-in-Master-clause-full : goal.returns-in-Master-clause-full
returns-in-Master-clause-full c =
    let l = c.args.blocks.now in let i = (goal.at.returns-in-Master-clause-full c).After-kept_slots in IfSome_then c.kept_slots.result c.kept_slots.ensures.full (λ counts is b x.
    is ∙ (λ j. full_count (slots_in l.heads 64 (c.contents.ensures b j))) ∙ said-master l.heads l.base x b.here.role b.here.contents (sym (c.requires.role b) ∙ c.in-Master.is))

pub returns-in-Master-clause-free : goal.returns-in-Master-clause-free
returns-in-Master-clause-free c =
    let l = c.args.blocks.now in let i = (goal.at.returns-in-Master-clause-free c).After-kept_slots in IfSome_then c.kept_slots.result c.kept_slots.ensures.free (λ counts is b x.
    is ∙ (λ j. free_count (slots_in l.heads 64 (c.contents.ensures b j))) ∙ free-master l.heads l.base x b.here.role b.here.contents (sym (c.requires.role b) ∙ c.in-Master.is))

-- what isn't so where there is nothing
none_then : {X : Type 0} (r : Option X) {P Q : Type 0} → IfNone r P → (P → Q) → IfNone r Q
none_then (Some x) p f = tt
none_then None p f = f p

pub returns-in-Master-clause-none : goal.returns-in-Master-clause-none
returns-in-Master-clause-none c =
    let i = (goal.at.returns-in-Master-clause-none c).After-kept_slots in none_then c.kept_slots.result c.kept_slots.ensures.none (λ never b keep. never (subst (λ (T : Type 0). T) (sym (same i b)) keep))

pub returns-in-Free-clause-kept : goal.returns-in-Free-clause-kept
returns-in-Free-clause-kept c b = kept-none c.args.blocks.now c.args.at b.here.role b.here.contents (other (goal.at.returns-in-Free-clause-kept c).In-Free b)

pub returns-in-Free-clause-full : goal.returns-in-Free-clause-full
returns-in-Free-clause-full c b x = said-none c.args.blocks.now.heads c.args.blocks.now.base x b.here.role b.here.contents (other (goal.at.returns-in-Free-clause-full c).In-Free b)

pub returns-in-Free-clause-free : goal.returns-in-Free-clause-free
returns-in-Free-clause-free c b x = free-none c.args.blocks.now.heads c.args.blocks.now.base x b.here.role b.here.contents (other (goal.at.returns-in-Free-clause-free c).In-Free b)
