use Rattle.std.proofs.Common.{◌≡◌, ◌+◌, ◌-◌, ◌≤◌, ◌∙◌, IfNone, Option, None, Some, refl, sym, ap, subst, arith}
use Rattle.block_bytes.specs.declared.header.Header.{Header}
use Rattle.block_bytes.specs.Layout.{BlockAt}
use Rattle.block_bytes.specs.Structure.{AgreeUpTo}
use Rattle.zone_records.specs.Masters.{SameWhere}
use Rattle.zone_records.specs.Reading.{records_in}
use Rattle.zone_records.specs.Structure.{NoneChanged}
use Rattle.zone_records.proofs.Changed.{held, begins, none-changed, none-outside, first-changed}
use Rattle.zone_records.proofs.MasterBlocks.{block-end, done-all, done-more, headers-from, master-there, next-end, next_block, none-next}
use Rattle.zone_records.proofs.Structures.{agree-at, structure-agrees, structure-head_is}
use Rattle.zone_records.proofs.masters.first_changed.Goals as goal
use Rattle.zone_records.proofs.masters.first_changed.Goals.{In-NextMaster}

-- what a clause says of `None` holds where it isn't `Some`
if_none : {X P : Type 0} (r : Option X) → ((x : X) → r ≡ Some x → ⊥) → IfNone r P → P
if_none None other says = says
if_none (Some x) other says = absurd (other x refl)

pub returns-in_err-at-clause-none : goal.returns-in_err-at-clause-none
returns-in_err-at-clause-none c =
    let l = c.args.blocks.now in
    let bytes = c.args.bytes.now in
    let base : c.base-first.result ≡ l.base = c.base-first.ensures.value ∙ c.spec.ensures.base in
    let most = c.max.ensures in
    subst (λ r. IfNone r (NoneChanged (records_in l) bytes c.args.from)) (sym c.from_residual.ensures)
    (none-outside l c.requires.sound bytes c.args.from c.max.result (λ x reached low. omega arith) (omega arith) c.in_err-at.ensures.outside)

pub loop-master-init : goal.loop-master-init
loop-master-init c =
    let l = c.args.blocks.now in
    let base : c.base-first.result ≡ l.base = c.base-first.ensures.value ∙ c.spec.ensures.base in
    let most = c.max.ensures in
    begins l c.requires.sound c.args.bytes.now c.args.from c.max.result c.in_ok-at.at (λ x reached low. omega arith) c.in_ok-at.ensures.holds

pub compare_from-requires-clause-whole : goal.compare_from-requires-clause-whole
compare_from-requires-clause-whole c = let l = c.args.blocks.now in (structure-head_is l c.args.bytes.now (records_in l) (held l c.requires.sound c.args.bytes.now) c.requires.same).all

-- the next master block, as it was found
abbrev next : (c : In-NextMaster) → AgreeUpTo c.args.blocks.now c.args.bytes.now (c.loop-master.at - c.args.blocks.now.base) c.loop-master.invariant.split.after c.in-NextMaster.master
next c = c.in-NextMaster.ensures c.loop-master.invariant.split

abbrev block : (c : In-NextMaster) → BlockAt c.args.blocks.now c.in-NextMaster.master
block c = next_block c.args.blocks.now c.args.bytes.now c.loop-master.at c.loop-master.invariant.split c.in-NextMaster.master (next c)

pub changed_slot-requires : goal.changed_slot-requires
changed_slot-requires c =
    let l = c.args.blocks.now in
    let bytes = c.args.bytes.now in
    let it = (goal.at.changed_slot-requires c).In-NextMaster in
    let master = c.in-NextMaster.master in
    let same = held l c.requires.sound bytes in
    record {
      sound = c.requires.sound;
      whole = (structure-head_is l bytes (records_in l) same c.requires.same).all;
      block = block it;
      master = master-there l master (block it) (next it).master;
      agree = λ b. agree-at l bytes (structure-agrees l bytes (records_in l) same c.requires.same) master b (master-there l master (block it) (next it).master b);
    }

pub returns-in-Some-clause-first : goal.returns-in-Some-clause-first
returns-in-Some-clause-first c =
    let it = (goal.at.returns-in-Some-clause-first c).In-NextMaster in
    first-changed c.args.blocks.now c.requires.sound c.args.bytes.now c.args.from c.loop-master.at c.in-NextMaster.master c.in-Some.found.0 c.in-Some.found.1 c.loop-master.invariant (next it) (c.in-Some.ensures.first (block it))

pub entry_at-requires : goal.entry_at-requires
entry_at-requires c = block (goal.at.entry_at-requires c).In-NextMaster

pub overflow_add-at : goal.overflow_add-at
overflow_add-at c =
    let it = (goal.at.overflow_add-at c).In-NextMaster in
    let size = ap (λ (h : Header). h.size) (c.entry_at.ensures (block it)) in
    omega (arith, (block-end c.args.blocks.now c.requires.sound c.in-NextMaster.master (block it)).0)

pub loop-master-smaller : goal.loop-master-smaller
loop-master-smaller c =
    let it = (goal.at.loop-master-smaller c).In-NextMaster in
    let size = ap (λ (h : Header). h.size) (c.entry_at.ensures (block it)) in
    let ends = next-end c.args.blocks.now c.args.bytes.now c.loop-master.at c.loop-master.invariant.split c.in-NextMaster.master (next it) in
    omega (arith, ends.0, ends.1)

pub loop-master-preserved : goal.loop-master-preserved
loop-master-preserved c =
    let l = c.args.blocks.now in
    let it = (goal.at.loop-master-preserved c).In-NextMaster in
    let size = ap (λ (h : Header). c.in-NextMaster.master + h.size) (c.entry_at.ensures (block it)) in
    done-more l c.args.bytes.now (SameWhere (λ x. c.args.from ≤ x) l c.args.bytes.now) c.loop-master.at c.loop-master.invariant c.in-NextMaster.master _ (next it) size
    (if_none c.changed_slot.result c.in_default-changed_slot.not-Some c.changed_slot.ensures.none (block it))

pub returns : goal.returns
returns c =
    let l = c.args.blocks.now in
    let bytes = c.args.bytes.now in
    let done = c.loop-master.invariant in
    let headers = (structure-agrees l bytes (records_in l) (held l c.requires.sound bytes) c.requires.same).headers in
    let none = none-next l bytes (c.loop-master.at - l.base) done.split.after c.compare_from.result (c.compare_from.ensures done.split) c.in_default.not-NextMaster (headers-from l bytes c.loop-master.at done.split headers) in
    record { first = tt; none = none-changed l c.requires.sound bytes c.args.from (done-all l bytes (SameWhere (λ x. c.args.from ≤ x) l bytes) c.loop-master.at done none) }
