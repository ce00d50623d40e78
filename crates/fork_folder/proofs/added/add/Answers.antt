use Rattle.std.proofs.Common.{◌≡◌, ◌∙◌, ℕ, Option, IfSome, refl, rules, sym, subst}
use Rattle.std.specs.List.{insert}
use Rattle.fork_folder.specs.Added.{IsNamedSo, count_at, with_entry}
use Rattle.fork_folder.specs.declared.added.Named.{Named}
use Rattle.fork_folder.proofs.added.add.Goals as goal

pub returns-clause-added : goal.returns-clause-added
returns-clause-added c =
    let one = c.in-Some.field-0 in
    let named : IsNamedSo c.args.path.now one.entry one.n =
    subst (λ (found : Option Named). IfSome found (λ named. IsNamedSo c.args.path.now named.entry named.n)) c.in-Some.is c.in_ok-entry.ensures in
    let counted : one.n ≡ count_at one.entry.kind one.entry.id c.args.entries.now.items = sym c.if-count_same-n.false ∙ rw c.as_slice.ensures.value at c.count_same.ensures in
    let placed : insert c.args.entries.now.items c.end_of_type-end.result one.entry ≡ with_entry one.entry c.args.entries.now.items =
    rw c.as_slice-2.ensures.value at (c.end_of_type-end.ensures.added one.entry refl) in
    (one.entry, subst (λ (n : ℕ). IsNamedSo c.args.path.now one.entry n) counted named, c.in_ok-insert.ensures.items ∙ placed)

pub returns-then-count_same-n-clause-refused : goal.returns-then-count_same-n-clause-refused
returns-then-count_same-n-clause-refused c =
    let one = c.in-Some.field-0 in
    let named : IsNamedSo c.args.path.now one.entry one.n =
    subst (λ (found : Option Named). IfSome found (λ named. IsNamedSo c.args.path.now named.entry named.n)) c.in-Some.is c.in_ok-entry.ensures in
    let counted : c.count_same.result ≡ count_at one.entry.kind one.entry.id c.args.entries.now.items = rw c.as_slice.ensures.value at c.count_same.ensures in
    (search rules, (one.entry, one.n, named, λ same. c.if-count_same-n.true (counted ∙ sym same)))
