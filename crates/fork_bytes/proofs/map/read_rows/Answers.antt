use Rattle.std.proofs.Common.{◌+◌, ◌*◌, ◌-◌, ◌++◌, List, length, map, ap, subst, sym, ◌∙◌, arith}
use Rattle.std.specs.List.{AllByRecursion}
use Rattle.std.proofs.lemmas.Result.{IfErr-weaker, err_from_is_err_and}
use Rattle.fork_bytes.specs.declared.fault.Condition.TheVariants.{Names}
use Rattle.fork_bytes.specs.Rows.{MapRow}
use Rattle.fork_bytes.specs.Fork.{map_row, references_in, Reference, TypeEntry}
use Rattle.fork_bytes.specs.Reading.{HasName, FaultsAt, entry_of}
use Rattle.fork_bytes.proofs.Lists.{references_start, references_step, references_end, references_rest, Ends, last_ends, made_step, made_end, all_start, all_step, all_fails, all_holds, all_both}
use Rattle.fork_bytes.proofs.Faults.{faults_less}
use Rattle.fork_bytes.proofs.map.read_rows.Goals as goal

pub loop-i-init : goal.loop-i-init
loop-i-init c =
    let m = c.args.map.now in
    let start = references_start m c.args.list c.requires.list in
    let P : List Reference → Type 0 = AllByRecursion (Ends (length m)) in
    let none = ap (λ (xs : List MapRow). xs ++ map (map_row m) (references_rest m (c.args.list.count - 0) (c.args.list.offset + 2 + 0))) c.in-Ok-with_capacity.ensures.items in
    (none ∙ ap (map (map_row m)) start, all_start (HasName m) _ _ start, subst P (sym start) c.requires.references)

pub push_rows-requires-clause-inside : goal.push_rows-requires-clause-inside
push_rows-requires-clause-inside c =
    let m = c.args.map.now in let n = c.args.list.count in let at = c.args.list.offset + 2 in let i = c.loop-i.i in
    let entry = entry_of c.entry.result in
    let rest = references_rest m (n - (i + 1)) (at + 8 * (i + 1)) in
    let split = references_step m n i at c.loop-i-test.true ∙ ap (λ (e : TypeEntry). references_in e ++ rest) (sym c.entry.ensures.entry) in
    let P : List Reference → Type 0 = AllByRecursion (Ends (length m)) in
    last_ends entry.kind entry.count entry.start (length m) (all_both (Ends (length m)) (references_in entry) rest (subst P split c.loop-i.invariant.2)).0

pub returns-in_err-push_rows-clause-refuses : goal.returns-in_err-push_rows-clause-refuses
returns-in_err-push_rows-clause-refuses c =
    let m = c.args.map.now in let n = c.args.list.count in let at = c.args.list.offset + 2 in let i = c.loop-i.i in
    let entry = entry_of c.entry.result in
    let rest = references_rest m (n - (i + 1)) (at + 8 * (i + 1)) in
    let split = references_step m n i at c.loop-i-test.true ∙ ap (λ (e : TypeEntry). references_in e ++ rest) (sym c.entry.ensures.entry) in
    let less = λ (fails : AllByRecursion (HasName m) (references_in entry) → ⊥). all_fails (HasName m) _ _ (references_in entry) rest c.loop-i.invariant.1 split fails in
    let p = err_from_is_err_and c.from_residual.result c.from_residual.ensures.1 in
    IfErr-weaker c.from_residual.result (FaultsAt Names (AllByRecursion (HasName m) (references_in entry) → ⊥)) _ (λ fault told. faults_less Names _ _ less fault told) (rw (p.1, p.2) c.in_err-push_rows.ensures.refuses)

pub loop-i-preserved : goal.loop-i-preserved
loop-i-preserved c =
    let m = c.args.map.now in let n = c.args.list.count in let at = c.args.list.offset + 2 in let i = c.loop-i.i in
    let entry = entry_of c.entry.result in
    let rest = references_rest m (n - (i + 1)) (at + 8 * (i + 1)) in
    let split = references_step m n i at c.loop-i-test.true ∙ ap (λ (e : TypeEntry). references_in e ++ rest) (sym c.entry.ensures.entry) in
    let P : List Reference → Type 0 = AllByRecursion (Ends (length m)) in (
      made_step (map_row m) c.loop-i.rows.items _ _ _ (references_in entry) rest c.loop-i.invariant.0 split c.in_ok-push_rows.ensures.rows,
      all_step (HasName m) _ _ (references_in entry) rest c.loop-i.invariant.1 split c.in_ok-push_rows.ensures.names,
      (all_both (Ends (length m)) (references_in entry) rest (subst P split c.loop-i.invariant.2)).1,
    )

pub returns-clause-rows : goal.returns-clause-rows
returns-clause-rows c =
    let m = c.args.map.now in let n = c.args.list.count in let i = c.loop-i.i in
    made_end (map_row m) _ _ _ c.loop-i.invariant.0 (references_end m n i (c.args.list.offset + 2 + 8 * i) (omega (arith, c.loop-i-test.false)))

pub returns-clause-names : goal.returns-clause-names
returns-clause-names c =
    let m = c.args.map.now in let n = c.args.list.count in let i = c.loop-i.i in
    all_holds (HasName m) _ _ c.loop-i.invariant.1 (references_end m n i (c.args.list.offset + 2 + 8 * i) (omega (arith, c.loop-i-test.false)))
