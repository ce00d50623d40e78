use Rattle.std.proofs.Common.{◌≡◌, ◌+◌, ◌-◌, [], refl, subst, arith, ℕ}
use Rattle.mac_base.specs.HeadKind.{zone_header}
use Rattle.block_bytes.specs.Finding.{SplitAt}
use Rattle.block_bytes.specs.Layout.{Layout}
use Rattle.block_bytes.specs.Structure.{begun_before}
use Rattle.block_bytes.proofs.Begun.{begun-all}
use Rattle.zone_records.proofs.Between.{Tells}
use Rattle.zone_records.proofs.OwnSame.{own-tells}
use Rattle.zone_records.proofs.masters.compare_all.Goals as goal

-- all blocks come after the zone's header
abbrev all_blocks : (l : Layout) (first : ℕ) → first ≡ l.base + zone_header → SplitAt l first
all_blocks l first is = record { before = []; after = l.blocks; blocks = refl; place = omega arith }

pub compare_blocks-requires-clause-split : goal.compare_blocks-requires-clause-split
compare_blocks-requires-clause-split c = all_blocks c.args.blocks.now _ (let base = c.spec.ensures.base in let value = c.base-first.ensures.value in omega arith)

pub returns-then-has_own_bytes : goal.returns-then-has_own_bytes
returns-then-has_own_bytes c = own-tells c.args.blocks.now c.requires.sound c.args.bytes.now (c.if-has_own_bytes.ensures.0 refl)

pub returns : goal.returns
returns c =
    let l = c.args.blocks.now in
    let base = c.spec.ensures.base in
    let value = c.base-first.ensures.value in
    let ends = c.end.ensures in
    let first = c.base-first.result + 52 in
    let told : Tells l c.args.bytes.now c.compare_blocks.result (first - l.base) (begun_before l.heads first c.end.result l.blocks) = c.compare_blocks.ensures (all_blocks l first (omega arith)) in
    subst (λ n. Tells l c.args.bytes.now c.compare_blocks.result n l.blocks) (let e : first - l.base ≡ zone_header = omega arith in e)
    (subst (Tells l c.args.bytes.now c.compare_blocks.result (first - l.base)) (begun-all l.heads c.end.result first l.blocks (omega arith)) told)
