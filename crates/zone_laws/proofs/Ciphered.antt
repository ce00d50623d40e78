-- Tables in a cipher: what is live is as it was, but for its bytes.
use Rattle.std.proofs.Common.{◌≡◌, ℕ, suc, zero, ◌-◌, Bool, true, false, not, cond, List, [], ◌∷◌, length, take, drop, Option, Some, None, refl, ap, ◌∙◌}
use Rattle.std.specs.Prelude.{◌==◌, ◌&&◌, map, filter}
use Rattle.std.specs.Option.{option_map}
use Rattle.std.specs.Ordering.{nat_cmp, eq_by_cmp}
use Rattle.std.specs.declared.cmp.Ordering.{Ordering}
use Rattle.std.specs.declared.cmp.Ordering.TheVariants.{Less, Equal, Greater}
use Rattle.std.specs.FinMap.Entries.{by_order, find, put}
use Rattle.std.proofs.lemmas.List.{drop-map, length-map, map-append, take-map}
use Rattle.mac_base.specs.declared.block.Flags.{Flags}
use Rattle.mac_base.specs.HandleTable.{HandleTable, Live, EmptyHandle, FullHandle, Pointer, bytes_of, flags_of, is_full, is_handle, is_pointer, is_purgeable, live_at, live_bytes, live_flags, live_full, live_handle, live_pointer, refilled, resized, with_bytes, with_flags, with_live, without, zeros}
use Rattle.mac_base.specs.ZoneState.{written}
use Rattle.zone_laws.proofs.FixesSame.{FixesSame}
use Rattle.zone_laws.specs.Contents.{live_ciphered, table_ciphered}

-- entries whose values are changed
abbrev changed : {A : Type 0} → (A → A) → List (ℕ × A) → List (ℕ × A)
changed change es = map (λ e. (e.0, change e.1)) es

-- one of two values, where f makes both of others
pub chosen : {A B : Type 0} (f : A → B) (b : Bool) (x y : A) → cond b (f x) (f y) ≡ f (cond b x y)
chosen f true x y = refl
chosen f false x y = refl

-- so are those that are not of x
pub without-changed : {A : Type 0} (change : A → A) (x : ℕ) (es : List (ℕ × A)) → filter (λ e. not (e.0 == x)) (changed change es) ≡ changed change (filter (λ e. not (e.0 == x)) es)
without-changed change x [] = refl
without-changed change x (e ∷ es) = rw (without-changed change x es) (chosen (changed change) (not (e.0 == x)) (e ∷ filter (λ e. not (e.0 == x)) es) (filter (λ e. not (e.0 == x)) es))

module _ (cipher : ℕ → ℕ) where
  -- the entries of a table in the cipher
  abbrev ciphered : List (ℕ × Live) → List (ℕ × Live)
  ciphered es = changed (live_ciphered cipher) es

  -- x is found in the cipher
  find-ciphered : (x : ℕ) (es : List (ℕ × Live)) → find nat_cmp x (ciphered es) ≡ option_map (live_ciphered cipher) (find nat_cmp x es)
  find-ciphered x [] = refl
  find-ciphered x (e ∷ es) = rw (find-ciphered x es) (chosen (option_map (live_ciphered cipher)) (eq_by_cmp nat_cmp x e.0) (Some e.1) (find nat_cmp x es))

  put-ciphered : (x : ℕ) (l : Live) (es : List (ℕ × Live)) → put nat_cmp x (live_ciphered cipher l) (ciphered es) ≡ ciphered (put nat_cmp x l es)
  put-ciphered x l [] = refl
  put-ciphered x l (e ∷ es) = by_test (nat_cmp x e.0) (put-ciphered x l es)
    where
      by_test : (o : Ordering) → put nat_cmp x (live_ciphered cipher l) (ciphered es) ≡ ciphered (put nat_cmp x l es)
          → by_order o ((x, live_ciphered cipher l) ∷ ciphered (e ∷ es)) ((e.0, live_ciphered cipher l) ∷ ciphered es) ((e.0, live_ciphered cipher e.1) ∷ put nat_cmp x (live_ciphered cipher l) (ciphered es))
          ≡ ciphered (by_order o ((x, l) ∷ e ∷ es) ((e.0, l) ∷ es) (e ∷ put nat_cmp x l es))
      by_test Less rest = refl
      by_test Equal rest = refl
      by_test Greater rest = ap (λ es. (e.0, live_ciphered cipher e.1) ∷ es) rest

  -- ---- what the table says of x

  at-ciphered : (t : HandleTable) (x : ℕ) → live_at (table_ciphered cipher t) x ≡ option_map (live_ciphered cipher) (live_at t x)
  at-ciphered t x = find-ciphered x t.live

  -- what doesn't depend on the bytes of what is live
  sees-ciphered : {A : Type 0} (see : Option Live → A) → ((flags : Flags) (bytes others : List ℕ) → see (Some (FullHandle flags bytes)) ≡ see (Some (FullHandle flags others)))
      → ((bytes others : List ℕ) → see (Some (Pointer bytes)) ≡ see (Some (Pointer others))) → (t : HandleTable) (x : ℕ) → see (live_at (table_ciphered cipher t) x) ≡ see (live_at t x)
  sees-ciphered see full pointer t x = ap see (at-ciphered t x) ∙ by_case (live_at t x)
    where
      by_case : (o : Option Live) → see (option_map (live_ciphered cipher) o) ≡ see o
      by_case None = refl
      by_case (Some EmptyHandle) = refl
      by_case (Some (FullHandle flags bytes)) = full flags (map cipher bytes) bytes
      by_case (Some (Pointer bytes)) = pointer (map cipher bytes) bytes

  pub flags-ciphered : (t : HandleTable) (x : ℕ) → flags_of (table_ciphered cipher t) x ≡ flags_of t x
  flags-ciphered = sees-ciphered live_flags (λ flags bytes others. refl) (λ bytes others. refl)

  pub handle-ciphered : (t : HandleTable) (x : ℕ) → is_handle (table_ciphered cipher t) x ≡ is_handle t x
  handle-ciphered = sees-ciphered live_handle (λ flags bytes others. refl) (λ bytes others. refl)

  pub full-ciphered : (t : HandleTable) (x : ℕ) → is_full (table_ciphered cipher t) x ≡ is_full t x
  full-ciphered = sees-ciphered live_full (λ flags bytes others. refl) (λ bytes others. refl)

  pub pointer-ciphered : (t : HandleTable) (x : ℕ) → is_pointer (table_ciphered cipher t) x ≡ is_pointer t x
  pointer-ciphered = sees-ciphered live_pointer (λ flags bytes others. refl) (λ bytes others. refl)

  pub purgeable-ciphered : (t : HandleTable) (x : ℕ) → is_purgeable (table_ciphered cipher t) x ≡ is_purgeable t x
  purgeable-ciphered = sees-ciphered (λ o. live_full o && ((live_flags o).purge && not (live_flags o).lock)) (λ flags bytes others. refl) (λ bytes others. refl)

  -- the same blocks are fixed
  pub fixes-ciphered : (t : HandleTable) → FixesSame t (table_ciphered cipher t)
  fixes-ciphered t = record { locked = λ x. ap (λ (f : Flags). f.lock) (flags-ciphered t x); pointer = pointer-ciphered t }

  -- its bytes are those in the cipher, and as many
  pub bytes-ciphered : (t : HandleTable) (x : ℕ) → bytes_of (table_ciphered cipher t) x ≡ map cipher (bytes_of t x)
  bytes-ciphered t x = ap live_bytes (at-ciphered t x) ∙ by_case (live_at t x)
    where
      by_case : (o : Option Live) → live_bytes (option_map (live_ciphered cipher) o) ≡ map cipher (live_bytes o)
      by_case None = refl
      by_case (Some EmptyHandle) = refl
      by_case (Some (FullHandle flags bytes)) = refl
      by_case (Some (Pointer bytes)) = refl

  pub length-ciphered : (t : HandleTable) (x : ℕ) → length (bytes_of (table_ciphered cipher t) x) ≡ length (bytes_of t x)
  length-ciphered t x = ap length (bytes-ciphered t x) ∙ length-map (bytes_of t x) cipher

  -- ---- what is put into the table

  pub with_live-ciphered : (x : ℕ) (l : Live) (t : HandleTable) → with_live x (live_ciphered cipher l) (table_ciphered cipher t) ≡ table_ciphered cipher (with_live x l t)
  with_live-ciphered x l t = rw (put-ciphered x l t.live)

  pub without-ciphered : (x : ℕ) (t : HandleTable) → without x (table_ciphered cipher t) ≡ table_ciphered cipher (without x t)
  without-ciphered x t = rw (without-changed (live_ciphered cipher) x t.live)

  pub with_bytes-ciphered : (x : ℕ) (bytes : List ℕ) (t : HandleTable) → with_bytes x (map cipher bytes) (table_ciphered cipher t) ≡ table_ciphered cipher (with_bytes x bytes t)
  with_bytes-ciphered x bytes t = ap (λ l. with_live x l (table_ciphered cipher t)) (ap (refilled (map cipher bytes)) (at-ciphered t x) ∙ by_case (live_at t x)) ∙ with_live-ciphered x (refilled bytes (live_at t x)) t
    where
      by_case : (o : Option Live) → refilled (map cipher bytes) (option_map (live_ciphered cipher) o) ≡ live_ciphered cipher (refilled bytes o)
      by_case None = refl
      by_case (Some EmptyHandle) = refl
      by_case (Some (FullHandle flags old)) = refl
      by_case (Some (Pointer old)) = refl

  -- flags that are changed
  pub with_flags-ciphered : (h : ℕ) (change : Flags → Flags) (t : HandleTable)
      → with_flags h (change (flags_of (table_ciphered cipher t) h)) (table_ciphered cipher t) ≡ table_ciphered cipher (with_flags h (change (flags_of t h)) t)
  with_flags-ciphered h change t = rw (flags-ciphered t h, bytes-ciphered t h) (with_live-ciphered h (FullHandle (change (flags_of t h)) (bytes_of t h)) t)

  -- ---- bytes

  -- those at a place
  pub slice-ciphered : (at n : ℕ) (bytes : List ℕ) → take n (drop at (map cipher bytes)) ≡ map cipher (take n (drop at bytes))
  slice-ciphered at n bytes = rw (drop-map, take-map)

  pub written-ciphered : (at : ℕ) (bytes old : List ℕ) → written at (map cipher bytes) (map cipher old) ≡ map cipher (written at bytes old)
  written-ciphered at bytes old = simp (length-map, take-map, drop-map, map-append)

  module _ (keeps : cipher 0 ≡ 0) where
    pub zeros-ciphered : (n : ℕ) → map cipher (zeros n) ≡ zeros n
    zeros-ciphered zero = refl
    zeros-ciphered (suc n) = rw (keeps, zeros-ciphered n)

    pub resized-ciphered : (n : ℕ) (bytes : List ℕ) → resized n (map cipher bytes) ≡ map cipher (resized n bytes)
    resized-ciphered n bytes = simp (length-map, take-map, map-append, zeros-ciphered (n - length bytes))
