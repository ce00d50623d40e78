use Rattle.std.proofs.Common.{◌≡◌, ◌∙◌, sym, ap, subst, true, false}
use Rattle.mac_base.specs.declared.block.Entry.{Entry}
use Rattle.mac_base.specs.ZoneMap.{is_free}
use Rattle.zone_heap.proofs.Joining.{JoinedAfter, joined-last, joined-used, joined-free, joined-first, neighbour, pair_after, entry_free, entry_joined, previous, pair_before, previous-used, previous-free}
use Rattle.zone_heap.proofs.zone.join.Goals as goal
use Rattle.zone_heap.proofs.zone.join.Goals.{Joined-after, in-Some+then-is_free, in-Some+else-is_free, in_default}

pub merge-requires : goal.merge-requires
merge-requires c =
    let z = c.args.pointers.now in
    let n = neighbour z c.args.at c.requires c.in-Some.next ((rw c.linked-linked.ensures at c.in-Some.ensures.next) (entry_free c.requires.free)) (rw c.linked-linked.ensures at c.in-Some.ensures.there) in
    pair_after z c.args.at c.requires c.in-Some.next n (ap (λ (e : Entry). is_free e.kind) (sym ((rw c.linked-linked.ensures at c.entry_at.ensures) n.entry ∙ n.here)) ∙ sym c.is_free.ensures ∙ c.if-is_free.true)

-- once the block after is looked at
after : (c : Joined-after) → JoinedAfter c.args.pointers.now c.args.at c.match-after.pointers
after c =
    let z = c.args.pointers.now in
    let newly = c.requires in
    elim c.match-after.branch [
      | in-Some+then-is_free w ↦
          let n = neighbour z c.args.at newly w.in-Some.next ((rw c.linked-linked.ensures at w.in-Some.ensures.next) (entry_free newly.free)) (rw c.linked-linked.ensures at w.in-Some.ensures.there) in
          let free : is_free n.first.kind ≡ true = ap (λ (e : Entry). is_free e.kind) (sym ((rw c.linked-linked.ensures at w.entry_at.ensures) n.entry ∙ n.here)) ∙ sym w.is_free.ensures ∙ w.if-is_free.true in
          subst (JoinedAfter z c.args.at) (sym (w.pointers-is ∙ w.merge.ensures (pair_after z c.args.at newly w.in-Some.next n free))) (joined-free z c.args.at newly w.in-Some.next n free)
      | in-Some+else-is_free w ↦
          let n = neighbour z c.args.at newly w.in-Some.next ((rw c.linked-linked.ensures at w.in-Some.ensures.next) (entry_free newly.free)) (rw c.linked-linked.ensures at w.in-Some.ensures.there) in
          let used : is_free n.first.kind ≡ false = ap (λ (e : Entry). is_free e.kind) (sym ((rw c.linked-linked.ensures at w.entry_at.ensures) n.entry ∙ n.here)) ∙ sym w.is_free.ensures ∙ w.if-is_free.false in
          subst (JoinedAfter z c.args.at) (sym w.pointers-is) (joined-used z c.args.at newly w.in-Some.next n used)
      | in_default w ↦ subst (JoinedAfter z c.args.at) (sym w.pointers-is) (joined-last z c.args.at newly ((rw c.linked-linked.ensures at w.in_default.ensures.last) (entry_free newly.free)))
    ]

pub before-requires : goal.before-requires
before-requires c = rw c.linked-joined.ensures (entry_joined c.args.pointers.now c.args.at c.match-after.pointers (after (goal.at.before-requires c).Joined-after))

pub merge-requires-then-is_free-2 : goal.merge-requires-then-is_free-2
merge-requires-then-is_free-2 c =
    let j = after (goal.at.merge-requires-then-is_free-2 c).Joined-after in
    let e = (rw c.linked-joined.ensures at c.in-Some-before.ensures.there) in
    let p = previous c.args.pointers.now c.args.at c.match-after.pointers j c.in-Some-before.last e ((rw c.linked-joined.ensures at c.in-Some-before.ensures.next) e) in
    pair_before c.args.pointers.now c.args.at c.match-after.pointers j c.in-Some-before.last e p
    (ap (λ (e : Entry). is_free e.kind) (sym ((rw c.linked-joined.ensures at c.entry_at-in-Some-before.ensures) e)) ∙ sym c.is_free-in-Some-before.ensures ∙ c.if-is_free-2.true)

pub returns-then-is_free-2 : goal.returns-then-is_free-2
returns-then-is_free-2 c =
    let j = after (goal.at.returns-then-is_free-2 c).Joined-after in
    let e = (rw c.linked-joined.ensures at c.in-Some-before.ensures.there) in
    let p = previous c.args.pointers.now c.args.at c.match-after.pointers j c.in-Some-before.last e ((rw c.linked-joined.ensures at c.in-Some-before.ensures.next) e) in
    let free : is_free e.here.kind ≡ true = ap (λ (e : Entry). is_free e.kind) (sym ((rw c.linked-joined.ensures at c.entry_at-in-Some-before.ensures) e)) ∙ sym c.is_free-in-Some-before.ensures ∙ c.if-is_free-2.true in
    c.merge-then-is_free-2.ensures (pair_before c.args.pointers.now c.args.at c.match-after.pointers j c.in-Some-before.last e p free)
    ∙ previous-free c.args.pointers.now c.args.at c.match-after.pointers j c.in-Some-before.last e p free

pub returns-else-is_free-2 : goal.returns-else-is_free-2
returns-else-is_free-2 c =
    let j = after (goal.at.returns-else-is_free-2 c).Joined-after in
    let e = (rw c.linked-joined.ensures at c.in-Some-before.ensures.there) in
    let p = previous c.args.pointers.now c.args.at c.match-after.pointers j c.in-Some-before.last e ((rw c.linked-joined.ensures at c.in-Some-before.ensures.next) e) in
    previous-used c.args.pointers.now c.args.at c.match-after.pointers j c.in-Some-before.last e p
    (ap (λ (e : Entry). is_free e.kind) (sym ((rw c.linked-joined.ensures at c.entry_at-in-Some-before.ensures) e)) ∙ sym c.is_free-in-Some-before.ensures ∙ c.if-is_free-2.false)

pub returns-in_default-before : goal.returns-in_default-before
returns-in_default-before c =
    let j = after (goal.at.returns-in_default-before c).Joined-after in
    joined-first c.args.pointers.now c.args.at c.match-after.pointers j ((rw c.linked-joined.ensures at c.in_default-before.ensures.first) (entry_joined c.args.pointers.now c.args.at c.match-after.pointers j))
