use Rattle.std.proofs.Common.{◌≡◌, ◌-◌, [], ◌∷◌, ◌++◌, refl, ap, ◌∙◌, subst, arith}
use Rattle.mac_base.specs.HeadKind.{address_end, head_size}
use Rattle.raw_region.specs.State.{State}
use Rattle.block_bytes.specs.declared.header.Header.{Header}
use Rattle.block_bytes.specs.Head.{most_over}
use Rattle.block_bytes.specs.Layout.{Layout, BlockAt, CanTurn, body, header_of, with_blocks, in_role}
use Rattle.block_bytes.specs.Reading.{layout_of}
use Rattle.block_bytes.specs.Record.{own_most}
use Rattle.block_bytes.proofs.Parts.{rear, IsIn-from}
use Rattle.block_bytes.proofs.Recorded.{IsReadWhole, head-whole}
use Rattle.block_bytes.proofs.Changes.{head-written}
use Rattle.block_bytes.proofs.Roles.{role-changed}
use Rattle.block_bytes.proofs.Here.{IsHere-from}
use Rattle.block_bytes.proofs.blocks.Blocks.set_role.Goals as goal

pub set_header-requires-clause-inside : goal.set_header-requires-clause-inside
set_header-requires-clause-inside c = let h = IsHere-from c.self.inside c.self.invariant.layout c.args.self.now c.self.view_is c.args.at c.entry_at-old.result c.requires.block (c.entry_at-old.ensures c.requires.block) in
    let e = ap head_size c.heads-heads.ensures in omega arith

pub set_header-requires-clause-free : goal.set_header-requires-clause-free
set_header-requires-clause-free c = let h = IsHere-from c.self.inside c.self.invariant.layout c.args.self.now c.self.view_is c.args.at c.entry_at-old.result c.requires.block (c.entry_at-old.ensures c.requires.block) in
    h.unlent (c.args.at - c.base-base.result) (head_size c.heads-heads.result) (omega arith) (ap head_size c.heads-heads.ensures)

pub set_header-requires-clause-size : goal.set_header-requires-clause-size
set_header-requires-clause-size c = let h = IsHere-from c.self.inside c.self.invariant.layout c.args.self.now c.self.view_is c.args.at c.entry_at-old.result c.requires.block (c.entry_at-old.ensures c.requires.block) in let end = ap address_end c.heads-heads.ensures in omega arith

pub set_header-requires-clause-correction : goal.set_header-requires-clause-correction
set_header-requires-clause-correction c = let h = IsHere-from c.self.inside c.self.invariant.layout c.args.self.now c.self.view_is c.args.at c.entry_at-old.result c.requires.block (c.entry_at-old.ensures c.requires.block) in
    let few = h.few in let e = ap most_over c.heads-heads.ensures in omega arith

-- what the fields stand for then
turned : (c : goal.After-set_header) (can : CanTurn c.args.self.now c.args.at c.args.role)
    → IsReadWhole (record c.self.inside { memory = c.set_header.new.self; kept = c.note.new.kept }) (with_blocks (can.block.before ++ in_role can.block.here c.args.role ∷ can.block.after) c.args.self.now)
turned c can = let z = c.self.inside in let at = c.args.at in let role = c.args.role in let r = c.entry_at-old.result in
    subst (λ (l : Layout). (can : CanTurn l at role) → ((b : BlockAt l at) → r ≡ header_of l.heads b.here)
    → IsReadWhole (record z { memory = c.set_header.new.self; kept = c.note.new.kept }) (with_blocks (can.block.before ++ in_role can.block.here role ∷ can.block.after) l)) c.self.view_is
    (λ can entry.
    let b = can.block in let new = in_role b.here role in let i = IsIn-from z c.self.invariant.layout b.before b.here b.after b.blocks in let place = b.place in
    let said : Header = record { size = r.size; role = role; correction = r.correction } in
    let header : said ≡ header_of z.spec.heads new = ap (λ (h : Header). record h { role = role }) (entry b) in
    let read = role-changed z c.self.invariant.layout c.base-base.ensures.possible b.before b.here b.after b.blocks role can.possible can.same c.set_header.new.self
    (ap (λ (m : State). m.name) c.set_header.ensures) (ap (λ (m : State). m.lent) c.set_header.ensures)
    (ap (λ (m : State). m.bytes) c.set_header.ensures
    ∙ head-written z b.before (header_of z.spec.heads b.here) (body b.here ++ rear (layout_of z) b.after) i.bytes (at - c.base-base.result) c.heads-heads.result c.base-base.result
    said (header_of z.spec.heads new) (omega arith) c.heads-heads.ensures c.base-base.ensures.value header) in
    let own = c.own_size.ensures ∙ (λ i. own_most (c.heads-heads.ensures i) (header i)) in
    head-whole z c.self.invariant b.before (b.here ∷ []) new b.after b.blocks read c.note.new.kept (at - c.base-base.result) c.own_size.result (omega arith) own c.note.ensures
    c.set_header.new.self c.heads-heads.result c.base-base.result said (ap head_size c.heads-heads.ensures) c.set_header.ensures (λ i above. refl)) can c.entry_at-old.ensures

pub invariant_of-self : goal.invariant_of-self
invariant_of-self c = (turned c c.requires).whole

pub returns : goal.returns
returns c = λ can. (turned c can).view
