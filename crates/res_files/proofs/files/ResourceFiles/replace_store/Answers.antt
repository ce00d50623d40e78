use Rattle.std.proofs.Common.{◌≡◌, ◌-◌, ◌<◌, ◌≤◌, ◌∙◌, refl, sym, ap, subst, arith, length, slice_get, set, List, Some}
use Rattle.std.proofs.lemmas.Option.{slice_get_read}
use Rattle.res_files.specs.FilesOn.{FilesOn}
use Rattle.res_files.proofs.Replaced.{closed_there, seen_replaced, stand_replaced}
use Rattle.res_files.proofs.files.ResourceFiles.replace_store.Goals as goal

pub invariant_of-self : goal.invariant_of-self
invariant_of-self g c =
    stand_replaced g.S.ForkStore.fork g.S.ForkStore.is_ready g.S.ForkStore.is_honest c.args.number c.requires.there.0 c.self.inside.stores.items c.replace.new.dest c.self.inside.chain
    (closed_there g.S.ForkStore.fork g.S.ForkStore.is_ready g.S.ForkStore.is_honest c.args.number c.requires.there.0 c.self.inside.stores.items c.replace.new.dest c.self.inside.chain c.self.inside.loads c.args.self.now c.self.view_is c.requires.closed)
    c.self.invariant

pub returns-clause-replaced : goal.returns-clause-replaced
returns-clause-replaced g c =
    seen_replaced g.S.ForkStore.fork g.S.ForkStore.is_ready g.S.ForkStore.is_honest c.args.number c.requires.there.0 c.self.inside.stores.items c.replace.new.dest c.self.inside.chain c.self.inside.loads c.args.self.now c.self.view_is c.self.invariant c.requires.closed
    ∙ ap (λ store. record c.args.self.now { stores = set c.args.self.now.stores (c.args.number - 1) store }) c.replace.ensures.after

pub returns-clause-was : goal.returns-clause-was
returns-clause-was g c =
    let are : c.args.self.now.stores ≡ c.self.inside.stores.items = ap (λ (v : FilesOn _). v.stores) (sym c.self.view_is) in
    let there : c.args.number ≤ length c.self.inside.stores.items = subst (λ (xs : List _). c.args.number ≤ length xs) are c.requires.there.1 in
    let low : 1 ≤ c.args.number = c.requires.there.0 in
    let within : c.args.number - 1 < length c.self.inside.stores.items = omega (arith, low, there) in
    ap (λ (xs : List _). slice_get xs (c.args.number - 1)) are
    ∙ slice_get_read c.self.inside.stores.items (length c.self.inside.stores.items) (c.args.number - 1) c.index_mut.result.now refl within c.index_mut.ensures.value
    ∙ ap Some (sym c.replace.ensures.value)
