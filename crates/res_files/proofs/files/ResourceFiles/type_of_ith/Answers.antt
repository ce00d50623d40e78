use Rattle.std.proofs.Common.{sym, ap, ◌∙◌, List, [], map, None}
use Rattle.fork_bytes.specs.Written.{types_of}
use Rattle.res_table.specs.Saved.{kind_of, row_types}
use Rattle.res_table.specs.Rows.{ith}
use Rattle.res_files.proofs.Mapped.{bare-mapped}
use Rattle.res_files.proofs.On.{asked_current, ith_none}
use Rattle.res_files.proofs.files.ResourceFiles.type_of_ith.Goals as goal

pub returns : goal.returns
returns g c =
    asked_current g.S.ForkStore.fork c.self.inside.chain c.self.inside.loads c.self.inside.stores.items c.args.self.now c.self.view_is (λ rows. ith c.args.index (map kind_of (row_types rows))) (λ rows. ith c.args.index (map kind_of (row_types rows)))
    (λ h rows. ap (λ (saved : List _). ith c.args.index (map kind_of (types_of saved))) (bare-mapped h rows)) _ c.in_ok-rows.rows.now c.type_of_ith.ensures c.in_ok-rows.ensures.some

pub returns-in_err-rows : goal.returns-in_err-rows
returns-in_err-rows g c =
    c.from_residual.ensures ∙ asked_current g.S.ForkStore.fork c.self.inside.chain c.self.inside.loads c.self.inside.stores.items c.args.self.now c.self.view_is (λ rows. ith c.args.index (map kind_of (row_types rows))) (λ rows. ith c.args.index (map kind_of (row_types rows)))
    (λ h rows. ap (λ (saved : List _). ith c.args.index (map kind_of (types_of saved))) (bare-mapped h rows)) None [] (sym (ith_none c.args.index)) (sym c.in_err-rows.ensures.none)
