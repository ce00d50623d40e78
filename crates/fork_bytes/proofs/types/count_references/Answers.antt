use Rattle.std.proofs.Common.{◌+◌, ◌*◌, ◌-◌, ◌++◌, List, length, ap, sym, ◌∙◌, arith}
use Rattle.fork_bytes.specs.Fork.{references_in, references_of, Reference, TypeEntry}
use Rattle.fork_bytes.specs.Reading.{entry_of}
use Rattle.fork_bytes.proofs.Lists.{references_start, references_step, references_end, references_rest, Ends, counted_step, all_start, last_ends, ends_in_entry, all_step, all_fails, all_holds}
use Rattle.fork_bytes.proofs.types.count_references.Goals as goal

pub loop-i-init : goal.loop-i-init
loop-i-init c =
    let start = references_start c.args.map.now c.args.list c.requires.list in
    let long = ap (λ (xs : List Reference). length xs) start in
    (omega arith, all_start (Ends (length c.args.map.now)) _ _ start, omega arith)

pub returns-then-not-is_inside-clause-none : goal.returns-then-not-is_inside-clause-none
returns-then-not-is_inside-clause-none c =
    let m = c.args.map.now in let n = c.args.list.count in let at = c.args.list.offset + 2 in let i = c.loop-i.i in
    let entry = entry_of c.entry-entry.result in
    let rest = references_rest m (n - (i + 1)) (at + 8 * (i + 1)) in
    let split = references_step m n i at c.loop-i-test.true ∙ ap (λ (e : TypeEntry). references_in e ++ rest) (sym c.entry-entry.ensures.entry) in
    let told = c.is_inside.ensures.outside c.if-not-is_inside.true in let some = told.0 in let over = told.1 in
    all_fails (Ends (length m)) _ _ (references_in entry) rest c.loop-i.invariant.1 split
    (λ all. (let last = last_ends entry.kind entry.count entry.start (length m) all some in omega arith))

pub loop-i-preserved : goal.loop-i-preserved
loop-i-preserved c =
    let m = c.args.map.now in let n = c.args.list.count in let at = c.args.list.offset + 2 in let i = c.loop-i.i in
    let entry = entry_of c.entry-entry.result in
    let rest = references_rest m (n - (i + 1)) (at + 8 * (i + 1)) in
    let split = references_step m n i at c.loop-i-test.true ∙ ap (λ (e : TypeEntry). references_in e ++ rest) (sym c.entry-entry.ensures.entry) in
    let within = c.is_inside.ensures.inside c.if-not-is_inside.false in
    let few = c.entry-entry.ensures.small.0 in let total = c.loop-i.invariant.2 in
    (counted_step _ rest (references_of m) entry c.loop-i.total c.loop-i.invariant.0 split, all_step (Ends (length m)) _ _ (references_in entry) rest c.loop-i.invariant.1 split (ends_in_entry entry (length m) within), omega arith)

pub returns-clause-count : goal.returns-clause-count
returns-clause-count c =
    let m = c.args.map.now in let n = c.args.list.count in let i = c.loop-i.i in
    let none = references_end m n i (c.args.list.offset + 2 + 8 * i) (omega (arith, c.loop-i-test.false)) in
    let zero = ap (λ (xs : List Reference). length xs) none in let all = c.loop-i.invariant.0 in omega arith

pub returns-clause-some : goal.returns-clause-some
returns-clause-some c =
    let m = c.args.map.now in let n = c.args.list.count in let i = c.loop-i.i in
    all_holds (Ends (length m)) _ _ c.loop-i.invariant.1 (references_end m n i (c.args.list.offset + 2 + 8 * i) (omega (arith, c.loop-i-test.false)))
