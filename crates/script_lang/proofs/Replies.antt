-- Worked examples of printed texts, computed.
use Rattle.std.proofs.Common.{◌≡◌, refl, [], ◌∷◌, pos, negsuc, None, Some, Ok, Err, codes}
use Rattle.std.specs.Fmt.{digits}
use Rattle.mac_base.specs.HandleTable.{no_flags}
use Rattle.mac_base.specs.declared.error.OsErr.TheVariants.{MemFullErr, NilHandleErr, MapReadErr}
use Rattle.mac_base.specs.ZoneMap.{block}
use Rattle.mac_base.specs.declared.block.Kind.TheVariants.{Free, Master, Ptr, Rel}
use Rattle.mac_base.specs.declared.reply.Results.TheVariants.{Handle, Pointer, Address, Number, TwoNumbers, Code, Blocks, Kind, Info}
use Rattle.script_lang.specs.declared.table.CallName.TheVariants as name
use Rattle.script_lang.specs.declared.table.NumberName.TheVariants.{Handle as OnHandle, ResourceHandle, NewHandle, NewPtr, GetIndType, OpenResFile}
use Rattle.script_lang.specs.declared.table.HandleName.TheVariants.{HGetState, Deref}
use Rattle.script_lang.specs.declared.table.ResourceHandleName.TheVariants.{GetResInfo}
use Rattle.script_lang.specs.declared.table.PlainName.TheVariants.{MaxMem, ZoneMap, MemError}
use Rattle.script_lang.specs.Text.{address, reply_text, type_text, fault_text}

handle_text : reply_text 1 (name.Number NewHandle) (record { outcome = Ok (Handle 0x0010_003C) }) [] ≡ codes "1 NewHandle $0010003C 0\n"
unfolding address digits
handle_text = refl

refusal_text : reply_text 1 (name.Number NewHandle) (record { outcome = Err MemFullErr }) [] ≡ codes "1 NewHandle -108\n"
unfolding digits
refusal_text = refl

blocks_text : reply_text 2 (name.Plain ZoneMap) (record {
  outcome = Ok (Blocks (
      record { address = 0x0010_0034; entry = block Master 264; length = 256; flags = no_flags }
      ∷ record { address = 0x0010_013C; entry = block (Rel 0x0010_003C) 108; length = 100; flags = no_flags }
      ∷ record { address = 0x0010_0278; entry = block (Ptr 0x0010_0280) 108; length = 100; flags = no_flags }
      ∷ record { address = 0x0010_01A8; entry = block Free 3672; length = 0; flags = no_flags } ∷ []));
}) []
    ≡ codes "2 ZoneMap 4 0\n  $00100034 264 master\n  $0010013C 108 rel $0010003C 100 ---\n  $00100278 108 ptr 100\n  $001001A8 3672 free\n"
unfolding address digits
blocks_text = refl

pointer_text : reply_text 1 (name.Number NewPtr) (record { outcome = Ok (Pointer 0x0010_0144) }) [] ≡ codes "1 NewPtr $00100144 0\n"
unfolding address digits
pointer_text = refl

contents_text : reply_text 3 (name.Number (OnHandle Deref)) (record { outcome = Ok (Address 0x0010_01AC) }) [] ≡ codes "3 Deref $001001AC 0\n"
unfolding address digits
contents_text = refl

state_text : reply_text 4 (name.Number (OnHandle HGetState)) (record { outcome = Ok (Number 192) }) [] ≡ codes "4 HGetState 192 0\n"
unfolding digits
state_text = refl

code_text : reply_text 12 (name.Plain MemError) (record { outcome = Ok (Code (Some NilHandleErr)) }) [] ≡ codes "12 MemError -109 0\n"
unfolding digits
code_text = refl

no_code_text : reply_text 12 (name.Plain MemError) (record { outcome = Ok (Code None) }) [] ≡ codes "12 MemError 0 0\n"
unfolding digits
no_code_text = refl

fault_at_two : fault_text 2 ≡ codes "script fault at line 2\n"
unfolding digits
fault_at_two = refl

asks_text : reply_text 7 (name.Number NewHandle) (record { outcome = Ok (Handle 0x0010_003C) }) (record { needed = 1036; value = 1 } ∷ record { needed = 1036; value = 0 } ∷ []) ≡ codes "7 NewHandle $0010003C 0\n  gz 1036 1\n  gz 1036 0\n"
unfolding address digits
asks_text = refl

most_text : reply_text 3 (name.Plain MaxMem) (record { outcome = Ok (TwoNumbers 3660 0) }) [] ≡ codes "3 MaxMem 3660 0 0\n"
unfolding digits
most_text = refl

nameless_text : reply_text 6 (name.Number (ResourceHandle GetResInfo)) (record { outcome = Ok (Info (record { id = pos 128; kind = codes "TEXT"; name = None })) }) [] ≡ codes "6 GetResInfo 128 'TEXT' none 0\n"
unfolding digits
nameless_text = refl

named_text : reply_text 10 (name.Number (ResourceHandle GetResInfo)) (record { outcome = Ok (Info (record { id = negsuc 127; kind = codes "TEXT"; name = Some (codes "n") })) }) [] ≡ codes "10 GetResInfo -128 'TEXT' \"n\" 0\n"
unfolding digits
named_text = refl

type_alone_text : reply_text 6 (name.Number GetIndType) (record { outcome = Ok (Kind (codes "TEXT")) }) [] ≡ codes "6 GetIndType 'TEXT' 0\n"
unfolding digits
type_alone_text = refl

type_with_quote : type_text (codes "it's") ≡ codes "$\"69742773\""
type_with_quote = refl

opening_text : reply_text 0 (name.Number OpenResFile) (record { outcome = Err MapReadErr }) [] ≡ codes "0 OpenResFile -199\n"
unfolding digits
opening_text = refl
