use Rattle.std.proofs.Common.{◌≡◌, List, map, subst, sym, ap, ◌∙◌, rules}
use Rattle.std.proofs.lemmas.List.{map-id}
use Rattle.std.proofs.lemmas.Iterator.Adapters.{YieldsList-from_vec}
use Rattle.std.proofs.lemmas.Iterator.Consumers.{YieldsList-turn, YieldsList-end}
use Rattle.std.proofs.lemmas.Result.{IfErr-weaker}
use Rattle.fork_bytes.specs.declared.fault.Condition.TheVariants.{Places}
use Rattle.fork_bytes.specs.declared.fault.ForkFault.TheVariants.{BadMap}
use Rattle.fork_bytes.proofs.Faults.{fault_known}
use Rattle.fork_bytes.specs.Rows.{MapRow}
use Rattle.fork_bytes.specs.Fork.{data_of, row_with, HasData}
use Rattle.fork_bytes.specs.Reading.{HasDatum}
use Rattle.fork_bytes.proofs.Placing.{all_push, data_fails, map_push}
use Rattle.fork_bytes.proofs.read.find_rows.Goals as goal

pub returns-in_err-find_row-clause-refuses : goal.returns-in_err-find_row-clause-refuses
returns-in_err-find_row-clause-refuses c =
    let rows = c.args.rows.items in
    let turn = YieldsList-turn (YieldsList-from_vec rows (search rules) (search rules)) c.loop-row.yielded _ c.loop-row.yielded_by _ c.next.new.self c.in-Some.row c.in-Some.is c.next.ensures.steps in
    let fails = data_fails (data_of c.args.fork.now) rows _ c.in-Some.row turn c.in_err-find_row.ensures.fails in
    IfErr-weaker c.from_residual.result (λ fault. fault ≡ BadMap Places) _ (λ fault is. fault_known Places _ fails fault is) (search rules)

pub returns-clause-rows : goal.returns-clause-rows
returns-clause-rows c =
    let all : c.loop-row.yielded ≡ c.args.rows.items =
    sym (map-id _) ∙ (YieldsList-end (YieldsList-from_vec c.args.rows.items (search rules) (search rules)) c.loop-row.yielded _ c.loop-row.yielded_by _ c.next.new.self c.in-None.is c.next.ensures.steps).0 in
    c.loop-row.invariant.2 ∙ ap (map (row_with (data_of c.args.fork.now))) all

pub returns-clause-has : goal.returns-clause-has
returns-clause-has c =
    let all : c.loop-row.yielded ≡ c.args.rows.items =
    sym (map-id _) ∙ (YieldsList-end (YieldsList-from_vec c.args.rows.items (search rules) (search rules)) c.loop-row.yielded _ c.loop-row.yielded_by _ c.next.new.self c.in-None.is c.next.ensures.steps).0 in
    let P : List MapRow → Type 0 = HasData (data_of c.args.fork.now) in subst P all c.loop-row.invariant.3

pub loop-row-preserved : goal.loop-row-preserved
loop-row-preserved c = (
  tt,
  tt,
  map_push (row_with (data_of c.args.fork.now)) c.loop-row.yielded c.in-Some.row _ _ _ c.loop-row.invariant.2 c.in_ok-find_row.ensures.row c.in_ok-push.ensures.added,
  all_push (HasDatum (data_of c.args.fork.now)) c.loop-row.yielded c.in-Some.row c.loop-row.invariant.3 c.in_ok-find_row.ensures.has,
)
