-- A block put in a new place: the map suits the table in which its owner has it, where the map without it suits the
-- table in which the owner has none.
use Rattle.std.proofs.Common.{◌≡◌, ℕ, ◌+◌, ◌-◌, ◌<◌, ◌≤◌, Bool, true, false, cond, eqb, [], ◌∷◌, ◌++◌, length, refl, ap, sym, ◌∙◌, subst, arith, IsTrue, Contains}
use Rattle.std.specs.Prelude.{◌&&◌, nat_le, nat_lt}
use Rattle.std.specs.List.{list_all}
use Rattle.std.specs.Ordering.{nat_cmp}
use Rattle.std.specs.FinMap.{is_sorted}
use Rattle.std.proofs.lemmas.Bool.{and_from}
use Rattle.std.proofs.lemmas.Bool.Decides.{nat_tests}
use Rattle.std.proofs.lemmas.List.{nil_from_length}
use Rattle.mac_base.specs.declared.block.Entry.{Entry}
use Rattle.mac_base.specs.declared.block.Kind.{Kind}
use Rattle.mac_base.specs.declared.block.Kind.TheVariants.{Free, Master, Ptr, Rel}
use Rattle.mac_base.specs.HeadKind.{Shape, need, smallest_block}
use Rattle.mac_base.specs.ZoneMap.{ZoneMap, block, is_free, is_named, is_kind, released, sizes, address_after, addresses, contents_addresses}
use Rattle.mac_base.specs.HandleTable.{HandleTable, bytes_of, live_full, live_handle, live_pointer, is_full, is_handle, is_pointer}
use Rattle.mac_base.specs.Suits.{Suits, free_apart, starts_free, is_handle_block, is_pointer_block, has_length, wanted_length, slots}
use Rattle.mac_base.specs.Serve.{taken, renamed}
use Rattle.zone_laws.proofs.GapAppend.{length-addresses_from}
use Rattle.zone_laws.proofs.GapApart.{sizes_possible}
use Rattle.zone_laws.proofs.Arranging.{is_kind-free}
use Rattle.zone_laws.proofs.Tables.{AgreeBut, by_number}
use Rattle.zone_laws.proofs.Owners.{other_handle, other_pointer, wanted_length-agree}
use Rattle.zone_laws.proofs.Taken.{by_taken, head-below_smallest}
use Rattle.zone_laws.proofs.JoinedBlocks.{sizes-joined}
use Rattle.zone_laws.proofs.ReleasedBlocks.{marked, sizes-marked}
use Rattle.zone_laws.proofs.SuitsTaken.{contents-same}
use Rattle.zone_laws.proofs.SuitsReleased.{addresses-released, slots-released}
use Rattle.zone_laws.proofs.RearrangedSuits.{handle_block-kind, pointer_block-kind, sizes-pass, used_pass-from_sizes}

-- The map has one block of x, a handle's, as long as x wants. Without it the map suits a table that agrees but at x.
pub record Restores (s : Shape) (x size : ℕ) (u v : HandleTable) (new : ZoneMap) : Type 0 where
  pub suits : Suits s u (released x new)
  pub agree : AgreeBut x u v
  pub apart : free_apart new ≡ true
  pub possible : sizes_possible s new ≡ true
  pub one : sizes (is_kind (Rel x)) new ≡ size ∷ []
  pub none : sizes (is_kind (Ptr x)) new ≡ []
  pub long : has_length s size (length (bytes_of v x)) ≡ true
  pub full : is_full v x ≡ true
  pub no_pointer : is_pointer v x ≡ false
  pub slot : Contains (slots s (released x new)) x
  pub rise : IsTrue (is_sorted nat_cmp v.live)

one_length : (s : Shape) (x size : ℕ) (u v : HandleTable) (new : ZoneMap) → Restores s x size u v new → (k : Kind) → is_free k ≡ false → list_all (λ n. has_length s n (wanted_length v k)) (sizes (is_kind k) new) ≡ true
one_length s x size u v new r k used =
    elim (is_named x k) as (λ c. is_named x k ≡ c → list_all (λ n. has_length s n (wanted_length v k)) (sizes (is_kind k) new) ≡ true) [
      | true ↦ λ named. own k named
      | false ↦ λ other. ap (list_all (λ n. has_length s n (wanted_length v k))) (sym (sizes-joined (is_kind k) (marked x new) (is_kind-free k used) ∙ sizes-marked x k new used ∙ ap (λ c. cond c [] (sizes (is_kind k) new)) other))
          ∙ ap (λ w. list_all (λ n. has_length s n w) (sizes (is_kind k) (released x new))) (wanted_length-agree x u v r.agree k other)
          ∙ sizes-pass (λ k n. has_length s n (wanted_length u k)) k (released x new) used r.suits.lengths
    ] refl
  where
    same : (g : ℕ) → eqb g x ≡ true → g ≡ x
    same g h = grind (arith, nat_tests)

    own : (k : Kind) → is_named x k ≡ true → list_all (λ n. has_length s n (wanted_length v k)) (sizes (is_kind k) new) ≡ true
    own Free named = absurd (cc named)
    own Master named = absurd (cc named)
    own (Ptr p) named = subst (λ g. list_all (λ n. has_length s n (wanted_length v (Ptr g))) (sizes (is_kind (Ptr g)) new) ≡ true) (sym (same p named)) (ap (list_all (λ n. has_length s n (wanted_length v (Ptr x)))) r.none)
    own (Rel g) named = subst (λ g. list_all (λ n. has_length s n (wanted_length v (Rel g))) (sizes (is_kind (Rel g)) new) ≡ true) (sym (same g named))
        (ap (list_all (λ n. has_length s n (wanted_length v (Rel x)))) r.one ∙ and_from _ true r.long refl)

-- it suits the table in which x has the block
pub Suits-restored : (s : Shape) (x size : ℕ) (u v : HandleTable) (new : ZoneMap) → Restores s x size u v new → Suits s v new
Suits-restored s x size u v new r =
    let suits = r.suits in
    let agree = r.agree in
    let at : ℕ = address_after s [] in
    record {
      apart = r.apart;
      sizes = r.possible;
      lengths = used_pass-from_sizes (λ k n. has_length s n (wanted_length v k)) new (one_length s x size u v new r);
      coherent = record {
        handles = by_number (λ g. length (addresses s (is_handle_block g) new) ≡ cond (is_full v g) 1 0) x
            (length-addresses_from at (is_handle_block x) new ∙ ap (λ test. length (sizes test new)) (handle_block-kind x) ∙ ap length r.one ∙ sym (ap (λ c. cond c 1 0) r.full))
            (λ g apart. ap length (sym (addresses-released s x (is_handle_block g) new refl (other_handle x g apart))) ∙ suits.coherent.handles g ∙ sym (ap (λ o. cond (live_full o) 1 0) (agree.others g apart)));
        pointers = by_number (λ p. contents_addresses s (is_pointer_block p) new ≡ cond (is_pointer v p) (p ∷ []) []) x
            (contents-same s (is_pointer_block x) [] new (nil_from_length (addresses s (is_pointer_block x) new) (length-addresses_from at (is_pointer_block x) new ∙ ap (λ test. length (sizes test new)) (pointer_block-kind x) ∙ ap length r.none))
            ∙ sym (ap (λ c. cond c (x ∷ []) []) r.no_pointer))
            (λ p apart. contents-same s (is_pointer_block p) (released x new) new (sym (addresses-released s x (is_pointer_block p) new refl (other_pointer x p apart))) ∙ suits.coherent.pointers p
            ∙ sym (ap (λ o. cond (live_pointer o) (p ∷ []) []) (agree.others p apart)));
        in_slots = by_number (λ g. IsTrue (is_handle v g) → Contains (slots s new) g) x
            (λ _. subst (λ xs. Contains xs x) (slots-released s x new) r.slot)
            (λ g apart live. subst (λ xs. Contains xs g) (slots-released s x new) (suits.coherent.in_slots g (sym (ap live_handle (agree.others g apart)) ∙ live)));
        in_order = r.rise;
      };
    }

-- ---- a block under another number

-- the sizes stay
pub sizes_possible-renamed : (s : Shape) (z x : ℕ) (m : ZoneMap) → sizes_possible s (renamed z x m) ≡ sizes_possible s m
sizes_possible-renamed s z x [] = refl
sizes_possible-renamed s z x (e ∷ es) = grind (arith, sizes_possible-renamed s z x es, sizes_possible)

free-renamed : (z x : ℕ) (e : Entry) → (let f : Entry = cond (is_named z e.kind) (block (Rel x) e.size) e in is_free f.kind) ≡ is_free e.kind
free-renamed z x e = grind arith

starts_free-renamed : (z x : ℕ) (m : ZoneMap) → starts_free (renamed z x m) ≡ starts_free m
starts_free-renamed z x [] = refl
starts_free-renamed z x (e ∷ es) = free-renamed z x e

-- and free blocks that are apart stay so
pub free_apart-renamed : (z x : ℕ) (m : ZoneMap) → free_apart (renamed z x m) ≡ free_apart m
free_apart-renamed z x [] = refl
free_apart-renamed z x (e ∷ es) = grind (arith, free_apart-renamed z x es, free-renamed, starts_free-renamed)

-- x, which named none, has the blocks of z
pub sizes-renamed : (z x : ℕ) (m : ZoneMap) → sizes (is_named x) m ≡ [] → (sizes (is_kind (Rel x)) (renamed z x m) ≡ sizes (is_named z) m) × (sizes (is_kind (Ptr x)) (renamed z x m) ≡ [])
sizes-renamed z x [] none = (refl, refl)
sizes-renamed z x (e ∷ es) none =
    elim (is_named x e.kind) as (λ c. is_named x e.kind ≡ c → cond c (e.size ∷ []) [] ++ sizes (is_named x) es ≡ []
    → (sizes (is_kind (Rel x)) (renamed z x (e ∷ es)) ≡ sizes (is_named z) (e ∷ es)) × (sizes (is_kind (Ptr x)) (renamed z x (e ∷ es)) ≡ [])) [
      | true ↦ λ _ some. absurd (cc some)
      | false ↦ λ other none. (let rest = sizes-renamed z x es none in
          elim (is_named z e.kind) as (λ c. (sizes (is_kind (Rel x)) (cond c (block (Rel x) e.size) e ∷ renamed z x es) ≡ cond c (e.size ∷ []) [] ++ sizes (is_named z) es) × (sizes (is_kind (Ptr x)) (cond c (block (Rel x) e.size) e ∷ renamed z x es) ≡ [])) [
            | true ↦ (ap (λ c. cond c (e.size ∷ []) [] ++ sizes (is_kind (Rel x)) (renamed z x es)) (itself x) ∙ ap (λ ns. e.size ∷ ns) rest.0, rest.1)
            | false ↦ (let kinds = others x e.kind other in (
              ap (λ c. cond c (e.size ∷ []) [] ++ sizes (is_kind (Rel x)) (renamed z x es)) kinds.0 ∙ rest.0,
              ap (λ c. cond c (e.size ∷ []) [] ++ sizes (is_kind (Ptr x)) (renamed z x es)) kinds.1 ∙ rest.1,
            ))
          ])
    ] refl none
  where
    itself : (x : ℕ) → eqb x x ≡ true
    itself x = grind (arith, nat_tests)

    turned : (x g : ℕ) → eqb g x ≡ false → eqb x g ≡ false
    turned x g h = grind (arith, nat_tests)

    others : (x : ℕ) (k : Kind) → is_named x k ≡ false → (is_kind (Rel x) k ≡ false) × (is_kind (Ptr x) k ≡ false)
    others x Free h = (refl, refl)
    others x Master h = (refl, refl)
    others x (Ptr p) h = (refl, turned x p h)
    others x (Rel g) h = (turned x g h, refl)

-- ---- a block that was taken, while another number's is freed

-- the blocks of z stay where those of x are freed
pub sizes-released_other : (x z : ℕ) (m : ZoneMap) → ((k : Kind) → is_named z k ≡ true → is_named x k ≡ false) → sizes (is_named z) (released x m) ≡ sizes (is_named z) m
sizes-released_other x z m apart = sizes-joined (is_named z) (marked x m) refl ∙ kept m
  where
    kept : (m : ZoneMap) → sizes (is_named z) (marked x m) ≡ sizes (is_named z) m
    kept [] = refl
    kept (e ∷ es) = elim (is_named x e.kind) as (λ c. is_named x e.kind ≡ c → sizes (is_named z) (cond c (block Free e.size) e ∷ marked x es) ≡ cond (is_named z e.kind) (e.size ∷ []) [] ++ sizes (is_named z) es) [
      | true ↦ λ here. kept es ∙ sym (ap (λ c. cond c (e.size ∷ []) [] ++ sizes (is_named z) es) (not_both (is_named z e.kind) refl here))
      | false ↦ λ _. ap (λ ns. cond (is_named z e.kind) (e.size ∷ []) [] ++ ns) (kept es)
    ] refl
      where
        not_both : (b : Bool) → is_named z e.kind ≡ b → is_named x e.kind ≡ true → is_named z e.kind ≡ false
        not_both true named here = absurd (cc (apart e.kind named, here))
        not_both false other here = other

-- one block of a kind is taken, as long as n bytes want
pub record TakenLength (s : Shape) (n : ℕ) (test : Kind → Bool) (m : ZoneMap) : Type 0 where
  pub size : ℕ
  pub one : sizes test m ≡ size ∷ []
  pub long : has_length s size n ≡ true

-- what is taken of a free block is such a one
pub taken-TakenLength : (s : Shape) (n : ℕ) (kind : Kind) (size : ℕ) (test : Kind → Bool) → test Free ≡ false → test kind ≡ true → need s.heads n ≤ size → TakenLength s n test (taken s (need s.heads n) kind size)
taken-TakenLength s n kind size test free passes le = by_taken (TakenLength s n test) s (need s.heads n) kind size
    (λ small. record { size = size; one = ap (λ c. cond c (size ∷ []) [] ++ []) passes; long = lengthy (need s.heads n) size (smallest_block s.heads) le small })
    (λ large. record {
      size = need s.heads n;
      one = ap (λ c. cond c (need s.heads n ∷ []) [] ++ sizes test (block Free (size - need s.heads n) ∷ [])) passes ∙ ap (λ c. need s.heads n ∷ (cond c ((size - need s.heads n) ∷ []) [] ++ [])) free;
      long = exact (need s.heads n) (smallest_block s.heads) (some s);
    })
  where
    lengthy : (k size small : ℕ) → k ≤ size → size - k < small → (nat_le k size && nat_lt size (k + small)) ≡ true
    lengthy k size small a b = grind (arith, nat_tests)

    exact : (k small : ℕ) → 0 < small → (nat_le k k && nat_lt k (k + small)) ≡ true
    exact k small a = grind (arith, nat_tests)

    some : (s : Shape) → 0 < smallest_block s.heads
    some s = let lt = head-below_smallest s.heads in omega arith
