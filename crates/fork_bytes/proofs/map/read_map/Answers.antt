use Rattle.std.proofs.Common.{rules}
use Rattle.std.proofs.lemmas.Result.{IfOk-weaker, IfErr-weaker}
use Rattle.fork_bytes.specs.declared.fault.Condition.TheVariants.{Types, Names}
use Rattle.fork_bytes.specs.Fork.{HasTypes, HasNames}
use Rattle.fork_bytes.specs.Reading.{FaultsAt}
use Rattle.fork_bytes.proofs.Faults.{refuses_at, types_fail, names_fail, is_map}
use Rattle.fork_bytes.proofs.map.read_map.Goals as goal

pub returns-in_err-list-clause-refuses : goal.returns-in_err-list-clause-refuses
returns-in_err-list-clause-refuses c =
    let m = c.args.map.now in
    IfErr-weaker c.from_residual.result (FaultsAt Types (HasTypes m → ⊥)) _ (λ fault at. refuses_at c.args.limits m Types _ (types_fail c.args.limits m) fault at) (search rules)

pub returns-clause-holds : goal.returns-clause-holds
returns-clause-holds c =
    let m = c.args.map.now in let types = c.in_ok-list.ensures.types in let checked = c.in_ok-count.ensures in
    IfOk-weaker c.read_rows.result (λ _. HasNames m) _ (λ _ names. is_map c.args.limits m types checked.references checked.rows names) c.read_rows.ensures.names

pub returns-clause-refuses : goal.returns-clause-refuses
returns-clause-refuses c =
    let m = c.args.map.now in let types = c.in_ok-list.ensures.types in let checked = c.in_ok-count.ensures in
    IfErr-weaker c.read_rows.result (FaultsAt Names (HasNames m → ⊥)) _ (λ fault at. refuses_at c.args.limits m Names _ (names_fail c.args.limits m types checked.references checked.rows) fault at) c.read_rows.ensures.refuses
