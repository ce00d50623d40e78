use Rattle.std.proofs.Common.{rules, ◌≡◌, ◌<◌, arith, true, List, length, ap, ◌∙◌}
use Rattle.std.specs.Prelude.{insert, vec_len, vec_capacity, is_ok}
use Rattle.res_table.specs.Keyed.{KeyedPairs}
use Rattle.res_table.specs.declared.keyed.Pair.{Pair}
use Rattle.res_table.proofs.Pairs.{rank_within, put_in, room_for}
use Rattle.res_table.proofs.keyed.Keyed.add.Goals as goal
use Rattle.res_table.proofs.keyed.Keyed.add.Goals.{In-Some}

pub insert-requires : goal.insert-requires
insert-requires c =
    let same = ap (λ (k : KeyedPairs). k.pairs) c.self.view_is in let long = ap (λ (ps : List Pair). length ps) same in
    let ok = c.self.inside.pairs.ok.0 in let r = c.rank-at.ensures in
    let within = rank_within (record { key = c.in-Some.key; place = c.args.place }) c.args.self.now.pairs in
    omega arith

-- there is room for the pair
has_room : (c : In-Some) → vec_len c.self.inside.pairs < vec_capacity c.self.inside.pairs
has_room c =
    let long = ap (λ (k : KeyedPairs). length k.pairs) c.self.view_is in
    let ok = c.self.inside.pairs.ok.0 in
    let few = room_for c.args.key c.args.place c.in-Some.key c.args.self.now.pairs c.args.self.now.room c.in-Some.is c.requires.room in
    let all = ap (λ (k : KeyedPairs). k.room) c.self.view_is in
    omega arith

pub returns-in-Some-clause-pairs : goal.returns-in-Some-clause-pairs
returns-in-Some-clause-pairs c =
    let same = ap (λ (k : KeyedPairs). k.pairs) c.self.view_is in
    let done : is_ok c.insert.result ≡ true = search (rules, c.insert.ensures.succeeds (has_room (goal.at.returns-in-Some-clause-pairs c).In-Some)) in
    put_in c.args.key c.args.place c.in-Some.key c.rank-at.result c.args.self.now.pairs c.insert.new.self.items c.in-Some.is c.rank-at.ensures (rw done at c.insert.ensures.items ∙ ap (λ (qs : List Pair). insert qs c.rank-at.result (record { key = c.in-Some.key; place = c.args.place })) same)

pub returns-in-Some-clause-room : goal.returns-in-Some-clause-room
returns-in-Some-clause-room c = (c.insert.ensures.in_place (has_room (goal.at.returns-in-Some-clause-room c).In-Some)).1.0 ∙ ap (λ (k : KeyedPairs). k.room) c.self.view_is
