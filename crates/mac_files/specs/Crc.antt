-- The checksum of MacBinary: CRC-16/XMODEM, by the polynomial x^16 + x^12 + x^5 + 1.
use Rattle.std.specs.Prelude.{ℕ, ◌*◌, ◌-◌, nat_lt, if◌then◌else◌, List, bit_xor, fold}
use Rattle.std.specs.Fn.{iterate}

-- the remainder after one more bit: where a bit leaves at the top, the polynomial is taken away
unfoldable pub with_bit : ℕ → ℕ
with_bit crc = if nat_lt crc 0x8000 then crc * 2 else bit_xor ((crc - 0x8000) * 2) 0x1021

-- the remainder after one more byte
unfoldable pub with_byte : ℕ → ℕ → ℕ
with_byte crc byte = iterate with_bit 8 (bit_xor crc (byte * 256))

-- the checksum of bytes
abbrev pub crc_of : List ℕ → ℕ
crc_of bytes = fold with_byte 0 bytes
