-- A zone that sleeps, and wakes in bytes of the host.
use Rattle.std.specs.Prelude.{◌≡◌, ◌==◌, ◌≤◌, ℕ, Bool, true, ◌&&◌, if◌then◌else◌, not, List, [], ◌∷◌, length, map, filter, Option, Some, None, is_some, option_map, IsTrue, IsFalse}
use Rattle.std.specs.List.{list_all, list_any}
use Rattle.mac_base.specs.HandleTable.{HandleTable, bytes_of, with_bytes}
use Rattle.mac_base.specs.Heap.{Heap, with_table}
use Rattle.mac_base.specs.Loans.{most_loans, owners, with_lent}
use Rattle.mac_base.specs.ZoneMap.{is_named, sizes}
use Rattle.mac_base.specs.ZoneState.{ZoneState, with_heap, woken_in}
use Rattle.mac_base.specs.declared.loan_call.LoanCall.TheVariants.{Lend}
use Rattle.mac_base.specs.LoanStep.{Loans, all_returned, loan_refusal}
use Rattle.linked_zone.specs.Parts.{ContentsStay, OthersStay}
use Rattle.linked_zone.specs.Structure.{DifferInContents, HasStructure, IsIn, SameFlags, shown}
use Rattle.raw_region.specs.State.{State as Region}
use Rattle.raw_region.specs.declared.host.HostBytes.{HostBytes}
use Rattle.held_zone.specs.declared.host_err.HostErr.{HostErr}
use Rattle.held_zone.specs.declared.host_err.HostErr.TheVariants.{NotThere}
use Rattle.held_zone.specs.declared.waking.WhyAsleep.{WhyAsleep}
use Rattle.held_zone.specs.declared.waking.WhyAsleep.TheVariants.{Damaged, HostFull, Unlocked}
use Rattle.held_zone.specs.Fields.{fields_in, managed, managed_in}
use Rattle.held_zone.specs.NilFlags.{NoNilFlags, Takes}
use Rattle.held_zone.specs.State.{State}

-- the region that the host's bytes are, if they are here
abbrev pub region_of : HostBytes → Option Region
region_of h = option_map (λ bytes. record { name = (h.at, bytes); bytes = bytes; lent = [] }) h.bytes

-- a region as the host's bytes are once it is given back: its first bytes are those that it has then
abbrev pub anew : Region → Region
anew r = record r { name = (r.name.0, r.bytes) }

-- whether no number is there twice
abbrev pub each_once : List ℕ → Bool
each_once [] = true
each_once (x ∷ xs) = not (list_any (λ y. y == x) xs) && each_once xs

-- a zone sleeps: nothing of it is lent, it is in memory of its own, and each block that waits to be lent again waits
-- once
pub record IsAsleep (s : State) : Type 0 where
  pub nothing_lent : s.zone.heap.table.lent ≡ []
  pub own : s.zone.memory.kept ≡ None
  pub once : IsTrue (each_once s.waiting)

-- whether a block may be lent
abbrev pub is_lendable : ZoneState → ℕ → Bool
is_lendable z x = not (is_some (loan_refusal z.shape z.heap (Lend x)))

-- the heap in which just these blocks are lent. They are in the order of their blocks
abbrev pub with_these_lent : List ℕ → Heap → Heap
with_these_lent xs heap = with_table (with_lent (filter (λ y. list_any (λ x. x == y) xs) (owners heap.map)) heap.table) heap

-- the loans of these blocks, each with the bytes of its block
abbrev pub new_loans : HandleTable → List ℕ → Loans
new_loans t xs = map (λ x. (x, bytes_of t x)) xs

-- these blocks may all be lent where nothing is: each may, has one block, and is there once, and they are eight at most
pub record CanBeLent (z : ZoneState) (xs : List ℕ) : Type 0 where
  pub each : IsTrue (list_all (is_lendable z) xs)
  pub blocks : (x : ℕ) → IsTrue (list_any (λ y. y == x) xs) → length (sizes (is_named x) z.heap.map) ≡ 1
  pub once : IsTrue (each_once xs)
  pub few : length xs ≤ most_loans

-- whether each block that waits may be lent in the zone that these bytes show
abbrev pub all_lendable : State → List ℕ → Bool
all_lendable s bytes = list_all (is_lendable (shown s.zone bytes)) s.waiting

-- the zone awake in a region as the Memory Manager has it, with its structure: with the contents and flags that the
-- region's bytes have, and with the blocks lent that waited
abbrev pub awake_as : Region → State → State
awake_as r s =
    let z = shown s.zone r.bytes in
    record s {
      zone = record z { memory = woken_in s.zone.memory r.name; heap = with_these_lent s.waiting z.heap };
      loans = new_loans z.heap.table s.waiting;
      waiting = [];
    }

-- the zone awake in a region of a guest that it takes with these bytes: it is that, with the fields that the guest left in
-- the header
abbrev pub awake_in : List ℕ → Region → State → State
awake_in taken r s = record (awake_as (record r { bytes = taken }) s) { guest = fields_in r.bytes }

-- a zone that slept is awake in a region that it takes with these bytes: they have its structure, and what waited may be
-- lent in them
pub record AwakeTaking (taken : List ℕ) (r : Region) (old new : State) : Type 0 where
  pub structure : HasStructure old.zone taken
  pub lendable : IsTrue (all_lendable old taken)
  pub awake : new ≡ awake_as (record r { bytes = taken }) old

-- a zone that slept is awake in a region of a guest: the region has its structure as the zone takes it, and what waited
-- may be lent in it
pub record IsAwakeIn (old : State) (r : Region) (new : State) : Type 0 where
  pub taken : List ℕ
  pub takes : Takes old.zone (managed r.bytes) taken
  pub structure : HasStructure old.zone taken
  pub lendable : IsTrue (all_lendable old taken)
  pub awake : new ≡ awake_in taken r old

-- why a zone sleeps on in bytes that it takes: they haven't its structure; or they have, and a block that waits is no
-- pointer's there and no locked handle's, so it may not be lent
abbrev pub RefusesTaken : WhyAsleep → State → List ℕ → Type 0
RefusesTaken Damaged s taken = HasStructure s.zone taken → ⊥
RefusesTaken Unlocked s taken = HasStructure s.zone taken × IsFalse (all_lendable s taken)
RefusesTaken HostFull s taken = ⊥

-- why it sleeps on in bytes of a guest: for this in those that it takes; or the host has no memory in which they could be
-- kept, where they haven't the structure, and an empty handle's master pointer has flag bits
abbrev pub SleepsOn : WhyAsleep → State → List ℕ → Type 0
SleepsOn Damaged s bytes = (taken : List ℕ) → Takes s.zone bytes taken → RefusesTaken Damaged s taken
SleepsOn Unlocked s bytes = (taken : List ℕ) × Takes s.zone bytes taken × RefusesTaken Unlocked s taken
SleepsOn HostFull s bytes = (HasStructure s.zone bytes → ⊥) × (NoNilFlags s.zone bytes → ⊥)

-- the zone is in a region, as it wakes or falls asleep: with nothing lent
pub record IsInRegion (s : State) (r : Region) : Type 0 where
  pub bytes : IsIn s.zone r.bytes
  pub memory : s.zone.memory.region ≡ r.name
  pub whole : r.lent ≡ []

-- the state once all that is lent came back: each block has the bytes that C left in it
abbrev pub all_back : State → State
all_back s = record s { zone = with_heap (all_returned s.loans s.zone.heap) s.zone; loans = [] }

-- the new zone is the old one asleep, once all that was lent came back: it differs in the contents of blocks, which
-- nobody reads, and is in the memory again that was kept as its record. The region has its structure, and what the
-- region's bytes show of it is that zone. The blocks that were lent wait to be lent again
pub record FallsAsleep (old : State) (r : Region) (new : State) : Type 0 where
  pub zone : DifferInContents (all_back old).zone new.zone
  pub structure : HasStructure new.zone r.bytes
  pub kept : old.zone.memory.kept ≡ Some new.zone.memory.region
  pub as_before : shown new.zone r.bytes ≡ record (all_back old).zone { memory = new.zone.memory }
  pub loans : new.loans ≡ []
  pub waiting : new.waiting ≡ map (λ loan. loan.0) old.loans
  pub left : new.left ≡ old.left
  pub asks : new.asks ≡ old.asks
  pub guest : new.guest ≡ old.guest
  pub purges : new.purges ≡ old.purges
  pub asleep : IsAsleep new

-- the table in which lent blocks have the bytes of their loans. They are lent still
abbrev pub with_loans : Loans → HandleTable → HandleTable
with_loans [] t = t
with_loans (loan ∷ loans) t = with_loans loans (with_bytes loan.0 loan.1 t)

-- the state in which each lent block has the bytes that C has of it. All else is as it is
abbrev pub as_left : State → State
as_left s = record s { zone = with_heap (with_table (with_loans s.loans s.zone.heap.table) s.zone.heap) s.zone }

-- a zone that fell asleep wakes in a region as the Memory Manager left it, and nothing refuses it there: what waits may
-- be lent. It is as it was then, with the same blocks lent in the same order, and with the bytes that C left in them
pub record WakesAsBefore (old : State) (r : Region) (new : State) : Type 0 where
  pub may : IsTrue (all_lendable new r.bytes)
  pub awake : awake_as r new ≡ as_left old

-- the new zone is the old one asleep, and the region is given back to its guest: the fields in the header are those that
-- the guest left when the zone woke, all else is as the Memory Manager left it, and the zone wakes there as it was
pub record IsGivenBack (old : State) (r : Region) (new : State) : Type 0 where
  pub fields : fields_in r.bytes ≡ old.guest
  pub place : IsInRegion (all_back old) (managed_in r)
  pub asleep : FallsAsleep old (managed_in r) new
  pub again : WakesAsBefore old (managed_in r) new
  pub awake : awake_in (managed r.bytes) r new ≡ as_left old

-- a region has the structure of a zone, with the zone's flags, and is the one that was given: all other bytes are as
-- they were, and so are the contents that they have for handles and pointers
pub record IsSettled (s : State) (given r : Region) : Type 0 where
  pub structure : HasStructure s.zone r.bytes
  pub flags : SameFlags s.zone r.bytes
  pub others : OthersStay s.zone given.bytes r.bytes
  pub contents : ContentsStay s.zone given.bytes r.bytes
  pub name : r.name ≡ given.name
  pub whole : r.lent ≡ []

-- a zone that isn't in bytes of the host doesn't fall asleep: these aren't there
abbrev pub sleep_refusal : State → Option HostErr
sleep_refusal s = if is_some s.zone.memory.kept then None else Some NotThere
