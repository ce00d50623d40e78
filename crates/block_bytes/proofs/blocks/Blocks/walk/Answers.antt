use Rattle.std.proofs.Common.{◌≡◌, ◌+◌, ℕ, Bool, true, false, [], Option, refl, ap, sym, subst, arith, IfSome, IfNone, ltb-true, ltb-false}
use Rattle.std.specs.Bool.{then_some}
use Rattle.block_bytes.specs.declared.header.Header.{Header}
use Rattle.block_bytes.specs.Layout.{BlockAt, size_of}
use Rattle.block_bytes.proofs.Walking.{block-below, block-next, block-last}
use Rattle.block_bytes.proofs.blocks.Blocks.walk.Goals as goal

-- what a test lets through
some_if : (P : ℕ → Type 0) (b : Bool) (n : ℕ) (r : Option ℕ) → r ≡ then_some b n → (b ≡ true → P n) → IfSome r P
some_if P true n r e holds = subst (λ (r : Option ℕ). IfSome r P) (sym e) (holds refl)
some_if P false n r e holds = subst (λ (r : Option ℕ). IfSome r P) (sym e) tt

-- and what it doesn't
none_if : (P : Type 0) (b : Bool) (n : ℕ) (r : Option ℕ) → r ≡ then_some b n → (b ≡ false → P) → IfNone r P
none_if P true n r e fails = subst (λ (r : Option ℕ). IfNone r P) (sym e) tt
none_if P false n r e fails = subst (λ (r : Option ℕ). IfNone r P) (sym e) (fails refl)

pub overflow_add-next : goal.overflow_add-next
overflow_add-next c =
    let size : c.entry_at.result.size ≡ size_of c.args.self.now.heads c.requires.here = ap (λ (h : Header). h.size) (c.entry_at.ensures c.requires) in
    let below = block-below c.args.self.now c.args.at c.requires in
    omega arith

pub returns-clause-next : goal.returns-clause-next
returns-clause-next c =
    let size : (b : BlockAt c.args.self.now c.args.at) → c.args.at + c.entry_at.result.size ≡ c.args.at + size_of c.args.self.now.heads b.here = λ b. ap (λ (h : Header). c.args.at + h.size) (c.entry_at.ensures b) in
    some_if (λ next. BlockAt c.args.self.now next × ((b : BlockAt c.args.self.now c.args.at) → next ≡ c.args.at + size_of c.args.self.now.heads b.here)) _ _ c.then_some.result c.then_some.ensures
    (λ holds. (block-next c.args.self.now c.args.at (c.args.at + c.entry_at.result.size) c.requires (size c.requires) (let below = ltb-true _ _ holds in omega arith), size))

pub returns-clause-last : goal.returns-clause-last
returns-clause-last c =
    none_if ((b : BlockAt c.args.self.now c.args.at) → b.after ≡ []) _ _ c.then_some.result c.then_some.ensures
    (λ fails b. block-last c.args.self.now c.args.at b (let size = ap (λ (h : Header). h.size) (c.entry_at.ensures b) in let after = ltb-false _ _ fails in omega arith))
