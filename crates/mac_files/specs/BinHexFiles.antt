-- What the code gives of a BinHex text.
use Rattle.std.specs.Prelude.{◌≡◌, ◌+◌, slice_range, Result, Ok, Err, ⊤}
use Rattle.mac_files.specs.declared.bin_hex.decode.Decoded.{Decoded}
use Rattle.mac_files.specs.declared.bin_hex.file.BinHexFile.{BinHexFile}
use Rattle.mac_files.specs.declared.bin_hex.fault.BinHexFault.{BinHexFault}
use Rattle.mac_files.specs.declared.bin_hex.fault.BinHexFault.TheVariants.{HostFull}
use Rattle.mac_files.specs.BinHex.{File, Reading, decoded_from, file_unless, first_fault, values_of}

-- the file that is kept in one block of memory
abbrev pub view : BinHexFile → File
view file =
    let start = file.name_length + 20 + 2 in
    let next = start + file.data_length + 2 in
    record {
      name = slice_range file.bytes.items 1 (1 + file.name_length);
      kind = file.kind;
      creator = file.creator;
      flags = file.flags;
      data_fork = slice_range file.bytes.items start (start + file.data_length);
      resource_fork = slice_range file.bytes.items next (next + file.resource_length);
    }

-- what its text stands for, from its offset on
abbrev pub reading_of : Decoded → Reading
reading_of decoded = decoded_from decoded.from decoded.text.now

-- these are its bytes and its end
pub record IsDecoded (decoded : Decoded) : Type 0 where
  pub bytes : decoded.bytes.items ≡ values_of (reading_of decoded)
  pub ending : decoded.ending ≡ (reading_of decoded).ending

-- what a function gives is what is defined
abbrev pub GivesFrom : Reading → Result BinHexFile BinHexFault → Type 0
GivesFrom reading (Ok file) = file_unless (first_fault reading) (values_of reading) ≡ Ok (view file)
GivesFrom reading (Err fault) = file_unless (first_fault reading) (values_of reading) ≡ Err fault

-- the same of a text, unless memory ran out
abbrev pub Gives : Result BinHexFile BinHexFault → Result File BinHexFault → Type 0
Gives (Ok file) defined = defined ≡ Ok (view file)
Gives (Err HostFull) defined = ⊤
Gives (Err fault) defined = defined ≡ Err fault
