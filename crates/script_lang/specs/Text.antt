-- What a run prints.
use Rattle.std.specs.Prelude.{ℕ, ◌/◌, ◌%◌, Bool, true, ◌==◌, ◌&&◌, not, nat_le, if◌then◌else◌, List, [], ◌∷◌, ◌++◌, length, codes, decimal, ℤ, pos, Option, Some, None, Result, Ok, Err}
use Rattle.std.specs.List.{list_all, flat_map}
use Rattle.std.specs.Int.{w32, to_be_bytes}
use Rattle.std.specs.Fmt.{digit_glyph, signed_decimal}
use Rattle.mac_base.specs.declared.block.Block.{Block}
use Rattle.mac_base.specs.declared.block.Flags.{Flags}
use Rattle.mac_base.specs.declared.block.Kind.{Kind}
use Rattle.mac_base.specs.declared.block.Kind.TheVariants.{Free, Master, Ptr, Rel}
use Rattle.mac_base.specs.declared.error.OsErr.{OsErr}
use Rattle.mac_base.specs.Codes.{code_of}
use Rattle.mac_base.specs.declared.grow_zone.Asked.{Asked}
use Rattle.mac_base.specs.declared.reply.Results.{Results}
use Rattle.mac_base.specs.declared.reply.Results.TheVariants as results
use Rattle.mac_base.specs.declared.reply.ResourceInfo.{ResourceInfo}
use Rattle.mac_base.specs.declared.reply.Reply.{Reply}
use Rattle.script_lang.specs.declared.table.CallName.{CallName}
use Rattle.script_lang.specs.Table.{signature}

-- a space, and then the text
abbrev pub spaced : List ℕ → List ℕ
spaced text = 32 ∷ text

-- a byte as two upper-case hexadecimal digits
abbrev pub two_digits : ℕ → List ℕ
two_digits byte = digit_glyph true (byte / 16) ∷ digit_glyph true (byte % 16) ∷ []

-- bytes in upper-case hexadecimal digits
abbrev pub in_digits : List ℕ → List ℕ
in_digits bytes = flat_map two_digits bytes

-- a handle or an address: `$` and eight digits
unfoldable pub address : ℕ → List ℕ
address n = 36 ∷ in_digits (to_be_bytes w32 n)

-- a byte that stands for itself between these quotes: of ASCII, no control character, and not the quote
abbrev pub is_plain : ℕ → ℕ → Bool
is_plain quote byte = nat_le 32 byte && nat_le byte 126 && not (byte == quote)

-- bytes between these quotes where each can be there, else as `$"` hexadecimal digits `"`
abbrev pub between : ℕ → List ℕ → List ℕ
between quote bytes = if list_all (is_plain quote) bytes then quote ∷ bytes ++ quote ∷ [] else 36 ∷ 34 ∷ in_digits bytes ++ 34 ∷ []

-- bytes in double quotes
abbrev pub bytes_text : List ℕ → List ℕ
bytes_text bytes = between 34 bytes

-- a type in single quotes
abbrev pub type_text : List ℕ → List ℕ
type_text kind = between 39 kind

-- the name of a resource, or `none`
abbrev pub name_text : Option (List ℕ) → List ℕ
name_text None = codes "none"
name_text (Some name) = bytes_text name

-- what a resource is called: its id, its type and its name
abbrev pub info_text : ResourceInfo → List ℕ
info_text info = signed_decimal info.id ++ spaced (type_text info.kind) ++ spaced (name_text info.name)

-- the number of the code of a call, and 0 where it was not refused
abbrev pub number_of : Option OsErr → ℤ
number_of (Some error) = code_of error
number_of None = pos 0

-- what a call gave, with a space before it
abbrev pub results_text : Results → List ℕ
results_text results.Nothing = []
results_text (results.Handle handle) = spaced (address handle)
results_text (results.Pointer pointer) = spaced (address pointer)
results_text (results.Address at) = spaced (address at)
results_text (results.Number n) = spaced (decimal n)
results_text (results.TwoNumbers one other) = spaced (decimal one) ++ spaced (decimal other)
results_text (results.Code refused) = spaced (signed_decimal (number_of refused))
results_text (results.Bytes bytes) = spaced (bytes_text bytes)
results_text (results.Blocks blocks) = spaced (decimal (length blocks))
results_text (results.Kind kind) = spaced (type_text kind)
results_text (results.Info info) = spaced (info_text info)

-- the results, and the code after them; a refusal has no results
abbrev pub outcome_text : Result Results OsErr → List ℕ
outcome_text (Ok results) = results_text results ++ codes " 0"
outcome_text (Err error) = spaced (signed_decimal (code_of error))

-- the letter where the flag is set, else `-`
abbrev pub flag_text : Bool → ℕ → ℕ
flag_text flag letter = if flag then letter else 45

-- the letters L, P and R of the flags
abbrev pub flags_text : Flags → List ℕ
flags_text flags = flag_text flags.lock 76 ∷ flag_text flags.purge 80 ∷ flag_text flags.resource 82 ∷ []

-- a block's kind, and what is printed of its owner, which has so many bytes and these flags
abbrev pub kind_text : Kind → ℕ → Flags → List ℕ
kind_text Free length flags = codes " free"
kind_text Master length flags = codes " master"
kind_text (Ptr pointer) length flags = codes " ptr " ++ decimal length
kind_text (Rel handle) length flags = codes " rel " ++ address handle ++ spaced (decimal length) ++ spaced (flags_text flags)

-- the line of a block
abbrev pub block_text : Block → List ℕ
block_text block = codes "  " ++ address block.address ++ spaced (decimal block.entry.size) ++ kind_text block.entry.kind block.length block.flags ++ 10 ∷ []

-- the lines of the blocks, where a call shows blocks
abbrev pub blocks_text : Result Results OsErr → List ℕ
blocks_text (Ok (results.Blocks blocks)) = flat_map block_text blocks
blocks_text outcome = []

-- What is printed for a call: its line, and a line for each block that it shows.
abbrev pub call_text : ℕ → List ℕ → Reply → List ℕ
call_text number name reply = decimal number ++ spaced name ++ outcome_text reply.outcome ++ 10 ∷ [] ++ blocks_text reply.outcome

-- the line of an ask: the bytes that were needed, and the answer's value
abbrev pub asked_text : Asked → List ℕ
asked_text asked = codes "  gz " ++ decimal asked.needed ++ spaced (decimal asked.value) ++ 10 ∷ []

-- what is printed for the reply to the call of a line with this number, and after it for each ask that had an answer
abbrev pub reply_text : ℕ → CallName → Reply → List Asked → List ℕ
reply_text number call reply asked = call_text number (signature call).name reply ++ flat_map asked_text asked

-- how many bytes a reply may have for which the host isn't asked for memory
abbrev pub reply_room : ℕ
reply_room = 1024

-- what is printed for a script that is none, and no more
abbrev pub fault_text : ℕ → List ℕ
fault_text line = codes "script fault at line " ++ decimal line ++ 10 ∷ []

-- the last line where the host's memory ran out
abbrev pub no_memory_text : List ℕ
no_memory_text = codes "no memory" ++ 10 ∷ []
