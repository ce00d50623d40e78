use Rattle.std.proofs.Common.{◌≡◌, ◌∙◌, List, ℕ, Option, sym, subst}
use Rattle.std.specs.Prelude.{IfSome}
use Rattle.std.proofs.lemmas.Bool.{false≢true}
use Rattle.fork_bytes.specs.Rows.{Row}
use Rattle.fork_texts.specs.declared.entry.Entry.{Entry}
use Rattle.fork_texts.specs.Kinds.{type_of}
use Rattle.fork_texts.specs.Putting.{PutsBytes, after_name, put_name}
use Rattle.fork_texts.proofs.Put.{same_shown}
use Rattle.fork_texts.proofs.row.row_with.Goals as goal

pub returns-else-branch-clause-none : goal.returns-else-branch-clause-none
returns-else-branch-clause-none c new is =
    let row = c.args.row.now in
    let types = c.args.types.now in
    let texts = c.args.texts.now in
    let made : Row = c.new_row-new.result in
    let own = c.new_row-new.ensures in
    let N : Option (Option (List ℕ)) → Type 0 = λ found. IfSome found (λ name. name ≡ put_name row.name texts) in
    let name = subst N c.in-Some.is c.in_ok-name.ensures.name in
    let B : Option (List ℕ) → Type 0 = λ found. IfSome found (PutsBytes (type_of types row.kind) c.after_name.result.now row.datum) in
    let bytes = subst B c.in-Some-2.is c.in_ok-datum.ensures.bytes in
    let T : List Entry → Type 0 = λ t. PutsBytes (type_of types row.kind) t row.datum c.in-Some-2.datum in
    let D : List ℕ → Type 0 = λ b. PutsBytes (type_of types row.kind) (after_name row.name texts) row.datum b in
    let same = same_shown types row texts new made is.kind is.id is.name is.bytes own.kind own.id (own.name ∙ name) (subst D (sym own.datum) (subst T c.after_name.ensures bytes)) in
    false≢true (sym c.if-branch.false ∙ c.in_ok-shows.ensures.1 (sym same ∙ is.shows))
