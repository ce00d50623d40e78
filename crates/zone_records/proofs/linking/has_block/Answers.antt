use Rattle.std.proofs.Common.{◌≡◌, ◌+◌, ◌-◌, ◌∙◌, length, ap, sym, subst, arith}
use Rattle.std.proofs.lemmas.Bool.Decides.{nat_tests}
use Rattle.std.proofs.lemmas.Bool.{eqb-true}
use Rattle.mac_base.specs.HeadKind.{head_size}
use Rattle.block_bytes.specs.declared.header.Role.TheVariants as role
use Rattle.block_bytes.specs.Finding.{OwnedAt}
use Rattle.block_bytes.specs.Layout.{BlockAt}
use Rattle.zone_records.proofs.Headers.{handle-small}
use Rattle.zone_records.proofs.Held.{sound-one}
use Rattle.zone_records.proofs.Looking.{sound-parts}
use Rattle.zone_records.proofs.RightBlocks.{block-made, block-place, block-back}
use Rattle.zone_records.proofs.linking.has_block.Goals as goal

pub returns-then-contents-head : goal.returns-then-contents-head
returns-then-contents-head c = (
  λ yes. absurd (cc yes),
  λ k.
      let l = c.args.blocks.now in let p = block-place l c.requires c.args.handle c.args.contents k in let place = p.1.1 in
      let head : c.head_size-head.result ≡ head_size l.heads = c.head_size-head.ensures ∙ ap head_size (c.heads.ensures ∙ c.spec-spec.ensures.heads) in
      let less = c.if-contents-head.true in absurd (omega arith),
)

pub overflow_add-result : goal.overflow_add-result
overflow_add-result c =
    let l = c.args.blocks.now in let o = c.in-Some.ensures.owner in let b = o.block in
    let base : c.base.result ≡ l.base = c.base.ensures.value ∙ c.spec-spec.ensures.base in
    let use_is = (sound-parts l.heads l.base b.here (sound-one l b.before b.here b.after c.requires b.blocks)).use_is in
    let small = handle-small l.base b.here.role (length b.here.contents) c.in-Some.offset o.flags use_is o.role in omega arith

pub returns-in-Some : goal.returns-in-Some
returns-in-Some c =
    let l = c.args.blocks.now in let o = c.in-Some.ensures.owner in let b = o.block in let enough = c.if-contents-head.false in
    let head : c.head_size-head.result ≡ head_size l.heads = c.head_size-head.ensures ∙ ap head_size (c.heads.ensures ∙ c.spec-spec.ensures.heads) in
    let place : c.args.contents ≡ c.args.contents - c.head_size-head.result + head_size l.heads = omega arith in
    let base : c.base.result ≡ l.base = c.base.ensures.value ∙ c.spec-spec.ensures.base in (
      λ yes. let own = eqb-true (c.base.result + c.in-Some.offset) c.args.handle yes in
          block-made l c.requires (c.args.contents - c.head_size-head.result) c.args.handle c.args.contents b c.in-Some.offset o.flags place o.role (omega arith),
      λ k. let r = block-back l c.requires c.args.handle c.args.contents k (c.args.contents - c.head_size-head.result) b place in
          let offset : c.in-Some.offset ≡ r.0 = (let same : role.Relocatable c.in-Some.offset o.flags ≡ role.Relocatable r.0 r.1.0 = sym o.role ∙ r.1.1.0 in cc same) in
          let own = r.1.1.1 in grind (arith, nat_tests),
    )

pub returns-in-None : goal.returns-in-None
returns-in-None c =
    let l = c.args.blocks.now in let enough = c.if-contents-head.false in
    let head : c.head_size-head.result ≡ head_size l.heads = c.head_size-head.ensures ∙ ap head_size (c.heads.ensures ∙ c.spec-spec.ensures.heads) in (
      λ yes. absurd (cc yes),
      λ k.
          let p = block-place l c.requires c.args.handle c.args.contents k in let place = p.1.1 in
          let there : p.0 ≡ c.args.contents - c.head_size-head.result = omega arith in
          let b = subst (BlockAt l) there p.1.0 in
          let r = block-back l c.requires c.args.handle c.args.contents k (c.args.contents - c.head_size-head.result) b (let e : c.args.contents ≡ c.args.contents - c.head_size-head.result + head_size l.heads = omega arith in e) in
          let owned : OwnedAt l (c.args.contents - c.head_size-head.result) r.0 = record { block = b; flags = r.1.0; role = r.1.1.0 } in
          absurd (c.in-None.ensures.none r.0 owned),
    )
