-- Each handle that is emptied leaves one fewer that has a block.
use Rattle.std.proofs.Common.{◌≡◌, ℕ, ◌+◌, ◌<◌, true, false, cond, List, [], ◌∷◌, None, Some, refl, ap, sym, ◌∙◌, arith}
use Rattle.std.specs.Prelude.{IsTrue}
use Rattle.std.specs.Ordering.{is_eq, is_lt, nat_cmp}
use Rattle.std.specs.FinMap.{find, is_sorted, put}
use Rattle.std.specs.FinMap.Entries.{below_all, by_order}
use Rattle.std.proofs.lemmas.Bool.{and_parts}
use Rattle.std.proofs.lemmas.Bool.Decides.{nat_tests}
use Rattle.std.specs.declared.cmp.Ordering.{Ordering}
use Rattle.std.specs.declared.cmp.Ordering.TheVariants.{Less, Equal, Greater}
use Rattle.mac_base.specs.HandleTable.{EmptyHandle, HandleTable, Live, emptied, is_full, live_full}

-- how many of these are handles with a block
abbrev full_among : List (ℕ × Live) → ℕ
full_among [] = 0
full_among (e ∷ es) = cond (live_full (Some e.1)) 1 0 + full_among es

-- how many handles have a block
abbrev pub full_handles : HandleTable → ℕ
full_handles t = full_among t.live

apart : (h k : ℕ) → nat_cmp h k ≡ Less → is_eq (nat_cmp h k) ≡ false
apart h k less = ap is_eq less

further : (h k j : ℕ) → nat_cmp h k ≡ Less → is_lt (nat_cmp k j) ≡ true → nat_cmp h j ≡ Less
further h k j less above = grind (arith, nat_tests)

-- what is below all of these is none of them
none-below : (h k : ℕ) (es : List (ℕ × Live)) → nat_cmp h k ≡ Less → below_all nat_cmp k es ≡ true → find nat_cmp h es ≡ None
none-below h k [] less below = refl
none-below h k (e ∷ es) less below =
    let parts = and_parts (is_lt (nat_cmp k e.0)) (below_all nat_cmp k es) below in
    ap (λ b. cond b (Some e.1) (find nat_cmp h es)) (apart h e.0 (further h k e.0 less parts.0)) ∙ none-below h k es less parts.1

fewer-put : (h : ℕ) (es : List (ℕ × Live)) → is_sorted nat_cmp es ≡ true → live_full (find nat_cmp h es) ≡ true → full_among (put nat_cmp h EmptyHandle es) < full_among es
fewer-put h [] rise full = absurd (cc full)
fewer-put h (e ∷ es) rise full =
    let parts = and_parts (below_all nat_cmp e.0 es) (is_sorted nat_cmp es) rise in
    by_place (nat_cmp h e.0) refl parts.0 full (fewer-put h es parts.1)
  where
    by_place : (o : Ordering) → nat_cmp h e.0 ≡ o → below_all nat_cmp e.0 es ≡ true → live_full (cond (is_eq o) (Some e.1) (find nat_cmp h es)) ≡ true
        → (live_full (find nat_cmp h es) ≡ true → full_among (put nat_cmp h EmptyHandle es) < full_among es)
        → full_among (by_order o ((h, EmptyHandle) ∷ e ∷ es) ((e.0, EmptyHandle) ∷ es) (e ∷ put nat_cmp h EmptyHandle es)) < full_among (e ∷ es)
    by_place Less is below full rest = absurd (cc (sym full ∙ ap live_full (none-below h e.0 es is below)))
    by_place Equal is below full rest = let one = ap {B = ℕ} (λ b. cond b 1 0) full in omega (arith, one)
    by_place Greater is below full rest = let fewer = rest full in omega (arith, fewer)

pub fewer-full : (t : HandleTable) (h : ℕ) → IsTrue (is_sorted nat_cmp t.live) → is_full t h ≡ true → full_handles (emptied h t) < full_handles t
fewer-full t h rise full = fewer-put h t.live rise full
