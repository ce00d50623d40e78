use Rattle.std.proofs.Common.{rules, List, length, get_or, ◌≡◌, ◌==◌, sym, ap, ◌∙◌, true, false, Bool, arith, Some, None}
use Rattle.std.specs.Prelude.{if◌then◌else◌}
use Rattle.res_table.specs.Keyed.{KeyedPairs, first_place}
use Rattle.res_table.specs.declared.keyed.Pair.{Pair}
use Rattle.res_table.proofs.Pairs.{first_none, first_at}
use Rattle.res_table.proofs.keyed.Keyed.find.Goals as goal
use Rattle.res_table.proofs.keyed.Keyed.find.Goals.{After-index-found}

pub returns-then-start-len : goal.returns-then-start-len
returns-then-start-len c =
    let ps = c.args.self.now.pairs in
    let whole = ap (λ (k : KeyedPairs). k.pairs) c.self.view_is in let long = ap (λ (ps : List Pair). length ps) whole in
    let ok = c.self.inside.pairs.ok.0 in
    let r = c.rank-start.ensures in let n = c.len.ensures in let past = c.if-start-len.true in
    sym (first_none c.args.key ps (omega arith))

-- what is found by the pair that was read
read : (c : After-index-found) → let p = c.index-found.result.now in first_place c.args.key c.args.self.now.pairs ≡ (if p.key == c.args.key then Some p.place else None)
read c =
    let ps = c.args.self.now.pairs in let p = c.index-found.result.now in
    let whole = ap (λ (k : KeyedPairs). k.pairs) c.self.view_is in let long = ap (λ (ps : List Pair). length ps) whole in
    let ok = c.self.inside.pairs.ok.0 in
    let n = c.len.ensures in let within = c.if-start-len.false in
    first_at c.args.key ps c.rank-start.result p c.rank-start.ensures (omega arith) (c.index-found.ensures ∙ ap (λ (qs : List Pair). get_or qs c.rank-start.result p) whole)

pub returns-then-found-key : goal.returns-then-found-key
returns-then-found-key c =
    let p = c.index-found.result.now in
    let same : (p.key == c.args.key) ≡ true = search (rules, c.if-found-key.true) in
    sym (read (goal.at.returns-then-found-key c).After-index-found ∙ ap (λ (b : Bool). if b then Some p.place else None) same)

pub returns-else-found-key : goal.returns-else-found-key
returns-else-found-key c =
    let p = c.index-found.result.now in
    let same : (p.key == c.args.key) ≡ false = search (rules, c.if-found-key.false) in
    sym (read (goal.at.returns-else-found-key c).After-index-found ∙ ap (λ (b : Bool). if b then Some p.place else None) same)
