-- The first fault of what was read, by the sections that have none.
use Rattle.std.proofs.Common.{◌≡◌, ℕ, ◌+◌, None, Some, Ok, Err, refl}
use Rattle.mac_files.specs.declared.bin_hex.fault.Section.TheVariants.{Header, Data, Resource}
use Rattle.mac_files.specs.declared.bin_hex.fault.BinHexFault.{BinHexFault}
use Rattle.mac_files.specs.BinHex.{Reading, data_length, first_fault, name_length, resource_length, section_fault, values_of}

-- the lengths of the name and of both forks
pub record HasLengths (r : Reading) (n d e : ℕ) : Type 0 where
  pub name : n ≡ name_length (values_of r)
  pub data_fork : d ≡ data_length (values_of r)
  pub resource_fork : e ≡ resource_length (values_of r)

pub fault_in_data : (r : Reading) (n d e : ℕ) (fault : BinHexFault) → HasLengths r n d e
    → section_fault Header 0 (n + 20) r ≡ None → section_fault Data (n + 20 + 2) (n + 20 + 2 + d) r ≡ Some fault
    → first_fault r ≡ Some fault
fault_in_data r n d e fault has header found = rw (← has.name, ← has.data_fork, header, found) refl

pub fault_in_resource : (r : Reading) (n d e : ℕ) (fault : BinHexFault) → HasLengths r n d e
    → section_fault Header 0 (n + 20) r ≡ None → section_fault Data (n + 20 + 2) (n + 20 + 2 + d) r ≡ None
    → section_fault Resource (n + 20 + 2 + d + 2) (n + 20 + 2 + d + 2 + e) r ≡ Some fault
    → first_fault r ≡ Some fault
fault_in_resource r n d e fault has header forks found =
    rw (← has.name, ← has.data_fork, ← has.resource_fork, header, forks, found) refl

pub fault_at_end : (r : Reading) (n d e : ℕ) (fault : BinHexFault) → HasLengths r n d e
    → section_fault Header 0 (n + 20) r ≡ None → section_fault Data (n + 20 + 2) (n + 20 + 2 + d) r ≡ None
    → section_fault Resource (n + 20 + 2 + d + 2) (n + 20 + 2 + d + 2 + e) r ≡ None → r.ending ≡ Err fault
    → first_fault r ≡ Some fault
fault_at_end r n d e fault has header forks last found =
    rw (← has.name, ← has.data_fork, ← has.resource_fork, header, forks, last, found) refl

pub no_fault : (r : Reading) (n d e at : ℕ) → HasLengths r n d e
    → section_fault Header 0 (n + 20) r ≡ None → section_fault Data (n + 20 + 2) (n + 20 + 2 + d) r ≡ None
    → section_fault Resource (n + 20 + 2 + d + 2) (n + 20 + 2 + d + 2 + e) r ≡ None → r.ending ≡ Ok at
    → first_fault r ≡ None
no_fault r n d e at has header forks last closed =
    rw (← has.name, ← has.data_fork, ← has.resource_fork, header, forks, last, closed) refl
