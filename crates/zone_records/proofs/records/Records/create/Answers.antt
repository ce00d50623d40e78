use Rattle.std.proofs.Common.{◌≡◌, ℕ, zero, suc, ◌+◌, ◌-◌, ◌<◌, Bool, true, IsTrue, [], ◌∷◌, length, replicate, refl, ap, sym, ◌∙◌, subst, arith, rules}
use Rattle.std.specs.Prelude.{◌&&◌}
use Rattle.std.proofs.Math.ListN.{get_or}
use Rattle.std.proofs.lemmas.List.{length-replicate}
use Rattle.mac_base.specs.ZoneState.{Name}
use Rattle.mac_base.specs.ZoneState.{own_memory}
use Rattle.mac_base.specs.declared.block.HeadKind.{HeadKind}
use Rattle.mac_base.specs.HeadKind.{head_size, zone_header}
use Rattle.mac_base.specs.ZoneSizes.{ZoneSizes, ArePossible}
use Rattle.block_bytes.specs.declared.header.Role.TheVariants as role
use Rattle.block_bytes.specs.Layout.{RawBlock, free_raw_block, is_possible, size_of, total_of}
use Rattle.block_bytes.specs.NewLayout.{new_layout}
use Rattle.block_bytes.proofs.Walking.{is_possible-from}
use Rattle.block_bytes.proofs.NewZone.{sizes-small}
use Rattle.zone_records.specs.Reading.{AreSound, HasWords, records_in}
use Rattle.zone_records.specs.Changes.{new_records}
use Rattle.zone_records.specs.Records.{Free, block_record}
use Rattle.zone_records.proofs.records.Records.create.Goals as goal

-- a free block alone has no master block's words
only-free : (heads : HeadKind) (b : RawBlock) → b.role ≡ role.Free → (k : ℕ) (d : RawBlock) → k < 1 → HasWords heads (get_or (b ∷ []) k d)
only-free heads b free zero d lt = λ e. absurd (cc (free, e))
only-free heads b free (suc k) d lt = absurd (omega (arith, lt))

module _ (name : Name) (z : ZoneSizes) (possible : ArePossible z) where
  -- the one block
  abbrev first : RawBlock
  first = free_raw_block (replicate (z.size - zone_header - head_size z.heads) 0)

  size : size_of z.heads first ≡ z.size - zone_header
  size = let few = sizes-small z.heads in let one = few.0 in let large = possible.large_enough in
      let long = length-replicate {A = ℕ} (z.size - zone_header - head_size z.heads) 0 in omega arith

  limit : zone_header + total_of z.heads (first ∷ []) + length {A = ℕ} (replicate (z.limit - z.size) 0) ≡ z.limit
  limit = let s = size in let large = possible.large_enough in let within = possible.within in let rest = length-replicate {A = ℕ} (z.limit - z.size) 0 in omega arith

  -- a new zone is one free block
  new-zone : records_in (new_layout name z) ≡ new_records (own_memory name) z
  new-zone = λ i. record { memory = own_memory name; shape = record { heads = z.heads; base = z.base; limit = limit i }; front = 0; blocks = block_record Free (size i) ∷ [] }

  -- and sound
  new-sound : AreSound (new_layout name z)
  new-sound =
      let s = size in let few = sizes-small z.heads in let two = few.1 in let large = possible.large_enough in let even = possible.even_size in
      let told : IsTrue (is_possible z.heads first) = is_possible-from z.heads first (record { even = omega arith; large = omega arith; few = omega arith; told = refl; lendable = refl }) in
      let all = limit in let end = possible.end_low_enough in
      record { blocks = ap (λ (t : Bool). (t && true) && true) told; words = only-free z.heads first refl; even = possible.even_base; high = omega arith }

pub invariant_of-result : goal.invariant_of-result
invariant_of-result c = let possible : ArePossible c.args.spec = search (rules, c.well_formed) in
    record { sound = subst AreSound (sym c.in_ok-create.ensures) (new-sound c.in_ok-create.field-0.memory.region c.args.spec possible) }

pub returns : goal.returns
returns c = let possible : ArePossible c.args.spec = search rules in
    ap records_in c.in_ok-create.ensures ∙ new-zone c.in_ok-create.field-0.memory.region c.args.spec possible
