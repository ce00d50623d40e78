use Rattle.std.proofs.Common.{◌≡◌, ℕ, ◌++◌, ◌∷◌, [], sym, subst, arith}
use Rattle.std.proofs.lemmas.List.{length-append}
use Rattle.mac_base.specs.HeadKind.{zone_header}
use Rattle.zone_look.specs.Blocks.{AreBlocks, block_at}
use Rattle.zone_look.specs.Look.IsWalk.{ends, stops}
use Rattle.zone_look.proofs.Chains.{blocks_more, put_more}
use Rattle.zone_look.proofs.looking.walk.Goals as goal

pub loop-at-preserved : goal.loop-at-preserved
loop-at-preserved g c =
    let was = c.loop-at.invariant in let block = c.in-Ok.block in let chain = was.1 in let counted = was.2 in let rows = was.3 in let low = was.5 in (
      was.0 ++ block ∷ [],
      blocks_more c.args.dump.now c.args.end zone_header c.loop-at.at was.0 block chain (sym {b = block_at c.args.dump.now c.args.end c.loop-at.at} c.in-Ok.ensures.block),
      omega (arith, length-append was.0 (block ∷ [])),
      cc (put_more g.B.FromBlock.made c.args.blocks.now was.0 block),
      c.in-Ok.ensures.stays,
      omega (arith, low, c.in-Ok.ensures.goes_on),
    )

pub returns-in-Err : goal.returns-in-Err
returns-in-Err g c = let was = c.loop-at.invariant in
    (was.0, stops was.0 c.loop-at.at c.in-Err.fault was.1 c.loop-at-test.true (sym {b = block_at c.args.dump.now c.args.end c.loop-at.at} c.in-Err.ensures.block), was.2, was.3)

pub returns : goal.returns
returns g c =
    let was = c.loop-at.invariant in let most = was.4 in let over = c.loop-at-test.false in
    let here : c.loop-at.at ≡ c.args.end = omega arith in
    (was.0, ends was.0 (subst (λ (x : ℕ). AreBlocks c.args.dump.now c.args.end zone_header was.0 x) here was.1), was.2, was.3)
