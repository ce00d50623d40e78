-- The calls that lines make, with the values that variables have.
use Rattle.std.specs.Prelude.{ℕ, ℤ, pos, List, Option, option_map}
use Rattle.mac_base.specs.declared.call.Call.{Call}
use Rattle.mac_base.specs.declared.call.Call.TheVariants.{Memory, Loan, Resource, MemError, ResError}
use Rattle.mac_base.specs.declared.loan_call.LoanCall.TheVariants as loan
use Rattle.mac_base.specs.declared.memory_call.MemoryCall.TheVariants.{Filling, OnBlock, OnZone, Requesting, Showing}
use Rattle.mac_base.specs.declared.memory_call.RequestingCall.TheVariants.{NewHandle, NewPtr, ReserveMem, NewEmptyHandle, MoreMasters, SetHandleSize, SetPtrSize, ReallocateHandle}
use Rattle.mac_base.specs.declared.memory_call.FillingCall.TheVariants.{HandToHand, PtrToHand, HandAndHand, PtrToXHand, PtrAndHand}
use Rattle.mac_base.specs.declared.memory_call.BlockCall.TheVariants.{DisposeHandle, EmptyHandle, GetHandleSize, HLock, HUnlock, HPurge, HNoPurge, HSetRBit, HClrRBit, HGetState, Deref, MoveHHi, HLockHi, DisposePtr, GetPtrSize, RecoverHandle, HSetState, Poke, BlockMove}
use Rattle.mac_base.specs.declared.memory_call.ZoneCall.TheVariants.{CompactMem, PurgeMem, MaxMem, PurgeSpace, MaxBlock, FreeMem, MaxApplZone}
use Rattle.mac_base.specs.declared.memory_call.ShowingCall.TheVariants.{ZoneMap, Peek}
use Rattle.mac_base.specs.declared.resource_call.ResourceCall.TheVariants.{Getting, Looking, Changing, Writing, OpenResFile, AddResource, GetResInfo}
use Rattle.mac_base.specs.declared.resource_call.GettingCall.TheVariants.{GetResource, Get1Resource, GetIndResource, LoadResource}
use Rattle.mac_base.specs.declared.resource_call.LookingCall.TheVariants.{GetResAttrs, SizeResource, HomeResFile, UniqueID, CountTypes, CountResources, GetIndType, CurResFile}
use Rattle.mac_base.specs.declared.resource_call.ChangingCall.TheVariants.{ReleaseResource, DetachResource, RemoveResource, ChangedResource, SetResAttrs, SetResLoad, UseResFile}
use Rattle.mac_base.specs.declared.resource_call.WritingCall.TheVariants.{WriteResource, UpdateResFile, CloseResFile}
use Rattle.script_lang.specs.declared.line.CallLine.{CallLine}
use Rattle.script_lang.specs.declared.line.IdOperand.{IdOperand}
use Rattle.script_lang.specs.declared.line.IdOperand.TheVariants as id_operand
use Rattle.script_lang.specs.declared.line.NamedCall.{NamedCall}
use Rattle.script_lang.specs.declared.line.NamedCall.TheVariants as named
use Rattle.script_lang.specs.declared.line.NumberOperand.{NumberOperand}
use Rattle.script_lang.specs.declared.line.NumberOperand.TheVariants as number_operand
use Rattle.script_lang.specs.declared.table.HandleName.{HandleName}
use Rattle.script_lang.specs.declared.table.HandleName.TheVariants as handle_name
use Rattle.script_lang.specs.declared.table.ResourceHandleName.{ResourceHandleName}
use Rattle.script_lang.specs.declared.table.ResourceHandleName.TheVariants as resource_handle_name
use Rattle.script_lang.specs.declared.table.NumberName.{NumberName}
use Rattle.script_lang.specs.declared.table.NumberName.TheVariants as number_name
use Rattle.script_lang.specs.declared.table.PlainName.{PlainName}
use Rattle.script_lang.specs.declared.table.PlainName.TheVariants as plain_name
use Rattle.script_lang.specs.declared.table.TwoNumbersName.{TwoNumbersName}
use Rattle.script_lang.specs.declared.table.TwoNumbersName.TheVariants as two_numbers_name
use Rattle.script_lang.specs.declared.table.ThreeNumbersName.{ThreeNumbersName}
use Rattle.script_lang.specs.declared.table.ThreeNumbersName.TheVariants as three_numbers_name
use Rattle.script_lang.specs.declared.table.BytesName.{BytesName}
use Rattle.script_lang.specs.declared.table.BytesName.TheVariants as bytes_name
use Rattle.script_lang.specs.declared.table.ResourceName.{ResourceName}
use Rattle.script_lang.specs.declared.table.ResourceName.TheVariants as resource_name
use Rattle.script_lang.specs.declared.table.FileName.{FileName}
use Rattle.script_lang.specs.declared.table.FileName.TheVariants as file_name
use Rattle.script_lang.specs.declared.table.KindName.{KindName}
use Rattle.script_lang.specs.declared.table.KindName.TheVariants as kind_name
use Rattle.script_lang.specs.Variables.{Variables, value_of}

-- a number, or the value of a variable
abbrev pub number_of : Variables → NumberOperand → ℕ
number_of variables (number_operand.Number n) = n
number_of variables (number_operand.Variable name) = value_of variables name

-- an id, or the value of a variable, which may be out of the range of ids
abbrev pub id_of : Variables → IdOperand → ℤ
id_of variables (id_operand.Id id) = id
id_of variables (id_operand.Variable name) = pos (value_of variables name)

-- the call of this name on a handle
abbrev pub handle_call : HandleName → ℕ → Call
handle_call handle_name.DisposeHandle handle = Memory (OnBlock (DisposeHandle handle))
handle_call handle_name.EmptyHandle handle = Memory (OnBlock (EmptyHandle handle))
handle_call handle_name.GetHandleSize handle = Memory (OnBlock (GetHandleSize handle))
handle_call handle_name.HLock handle = Memory (OnBlock (HLock handle))
handle_call handle_name.HUnlock handle = Memory (OnBlock (HUnlock handle))
handle_call handle_name.HPurge handle = Memory (OnBlock (HPurge handle))
handle_call handle_name.HNoPurge handle = Memory (OnBlock (HNoPurge handle))
handle_call handle_name.HSetRBit handle = Memory (OnBlock (HSetRBit handle))
handle_call handle_name.HClrRBit handle = Memory (OnBlock (HClrRBit handle))
handle_call handle_name.HGetState handle = Memory (OnBlock (HGetState handle))
handle_call handle_name.Deref handle = Memory (OnBlock (Deref handle))
handle_call handle_name.MoveHHi handle = Memory (OnBlock (MoveHHi handle))
handle_call handle_name.HLockHi handle = Memory (OnBlock (HLockHi handle))
handle_call handle_name.HandToHand handle = Memory (Filling (HandToHand handle))

-- the call of this name on the handle of a resource
abbrev pub resource_handle_call : ResourceHandleName → ℕ → Call
resource_handle_call resource_handle_name.LoadResource handle = Resource (Getting (LoadResource handle))
resource_handle_call resource_handle_name.ReleaseResource handle = Resource (Changing (ReleaseResource handle))
resource_handle_call resource_handle_name.DetachResource handle = Resource (Changing (DetachResource handle))
resource_handle_call resource_handle_name.ChangedResource handle = Resource (Changing (ChangedResource handle))
resource_handle_call resource_handle_name.RemoveResource handle = Resource (Changing (RemoveResource handle))
resource_handle_call resource_handle_name.WriteResource handle = Resource (Writing (WriteResource handle))
resource_handle_call resource_handle_name.GetResAttrs handle = Resource (Looking (GetResAttrs handle))
resource_handle_call resource_handle_name.GetResInfo handle = Resource (GetResInfo handle)
resource_handle_call resource_handle_name.SizeResource handle = Resource (Looking (SizeResource handle))
resource_handle_call resource_handle_name.HomeResFile handle = Resource (Looking (HomeResFile handle))

-- the call of this name on a number
abbrev pub number_call : NumberName → ℕ → Call
number_call (number_name.Handle call) number = handle_call call number
number_call (number_name.ResourceHandle call) number = resource_handle_call call number
number_call number_name.NewHandle number = Memory (Requesting (NewHandle number))
number_call number_name.NewPtr number = Memory (Requesting (NewPtr number))
number_call number_name.DisposePtr number = Memory (OnBlock (DisposePtr number))
number_call number_name.GetPtrSize number = Memory (OnBlock (GetPtrSize number))
number_call number_name.RecoverHandle number = Memory (OnBlock (RecoverHandle number))
number_call number_name.CompactMem number = Memory (OnZone (CompactMem number))
number_call number_name.PurgeMem number = Memory (OnZone (PurgeMem number))
number_call number_name.ReserveMem number = Memory (Requesting (ReserveMem number))
number_call number_name.Lend number = Loan (loan.Lend number)
number_call number_name.Return number = Loan (loan.Return number)
number_call number_name.GetIndType number = Resource (Looking (GetIndType number))
number_call number_name.SetResLoad number = Resource (Changing (SetResLoad number))
number_call number_name.OpenResFile number = Resource (OpenResFile number)
number_call number_name.UseResFile number = Resource (Changing (UseResFile number))

-- the call of this name without operands
abbrev pub plain_call : PlainName → Call
plain_call plain_name.NewEmptyHandle = Memory (Requesting NewEmptyHandle)
plain_call plain_name.MaxMem = Memory (OnZone MaxMem)
plain_call plain_name.PurgeSpace = Memory (OnZone PurgeSpace)
plain_call plain_name.MaxBlock = Memory (OnZone MaxBlock)
plain_call plain_name.FreeMem = Memory (OnZone FreeMem)
plain_call plain_name.MoreMasters = Memory (Requesting MoreMasters)
plain_call plain_name.MaxApplZone = Memory (OnZone MaxApplZone)
plain_call plain_name.ZoneMap = Memory (Showing ZoneMap)
plain_call plain_name.MemError = MemError
plain_call plain_name.CountTypes = Resource (Looking CountTypes)
plain_call plain_name.CurResFile = Resource (Looking CurResFile)
plain_call plain_name.ResError = ResError

-- the call of this name on two numbers
abbrev pub two_numbers_call : TwoNumbersName → ℕ → ℕ → Call
two_numbers_call two_numbers_name.SetHandleSize first second = Memory (Requesting (SetHandleSize first second))
two_numbers_call two_numbers_name.SetPtrSize first second = Memory (Requesting (SetPtrSize first second))
two_numbers_call two_numbers_name.HSetState first second = Memory (OnBlock (HSetState first second))
two_numbers_call two_numbers_name.ReallocateHandle first second = Memory (Requesting (ReallocateHandle first second))
two_numbers_call two_numbers_name.PtrToHand first second = Memory (Filling (PtrToHand first second))
two_numbers_call two_numbers_name.HandAndHand first second = Memory (Filling (HandAndHand first second))
two_numbers_call two_numbers_name.SetResAttrs first second = Resource (Changing (SetResAttrs first second))

-- the call of this name on three numbers
abbrev pub three_numbers_call : ThreeNumbersName → ℕ → ℕ → ℕ → Call
three_numbers_call three_numbers_name.PtrToXHand first second third = Memory (Filling (PtrToXHand first second third))
three_numbers_call three_numbers_name.PtrAndHand first second third = Memory (Filling (PtrAndHand first second third))
three_numbers_call three_numbers_name.Peek first second third = Memory (Showing (Peek first second third))
three_numbers_call three_numbers_name.LentPeek first second third = Loan (loan.LentPeek first second third)

-- the call of this name that puts these bytes into a block, from an offset on
abbrev pub bytes_call : BytesName → ℕ → ℕ → List ℕ → Call
bytes_call bytes_name.Poke block offset bytes = Memory (OnBlock (Poke block offset bytes))
bytes_call bytes_name.LentPoke block offset bytes = Loan (loan.LentPoke block offset bytes)

-- the call of this name on a type and an id
abbrev pub resource_call : ResourceName → List ℕ → ℤ → Call
resource_call resource_name.GetResource kind id = Resource (Getting (GetResource kind id))
resource_call resource_name.Get1Resource kind id = Resource (Getting (Get1Resource kind id))

-- the call of this name on a file, which may be left out
abbrev pub file_call : FileName → Option ℕ → Call
file_call file_name.UpdateResFile file = Resource (Writing (UpdateResFile file))
file_call file_name.CloseResFile file = Resource (Writing (CloseResFile file))

-- the call of this name on a type
abbrev pub kind_call : KindName → List ℕ → Call
kind_call kind_name.UniqueID kind = Resource (Looking (UniqueID kind))
kind_call kind_name.CountResources kind = Resource (Looking (CountResources kind))

-- a call, with the values that its operands have
abbrev pub resolved : Variables → NamedCall → Call
resolved variables (named.Plain call) = plain_call call
resolved variables (named.Number call one) = number_call call (number_of variables one)
resolved variables (named.TwoNumbers call first second) = two_numbers_call call (number_of variables first) (number_of variables second)
resolved variables (named.ThreeNumbers call first second third) = three_numbers_call call (number_of variables first) (number_of variables second) (number_of variables third)
resolved variables (named.BlockMove from start to offset count) =
    Memory (OnBlock (BlockMove (number_of variables from) (number_of variables start) (number_of variables to) (number_of variables offset) (number_of variables count)))
resolved variables (named.Bytes call block offset bytes) = bytes_call call (number_of variables block) (number_of variables offset) bytes
resolved variables (named.Resource call kind id) = resource_call call kind (id_of variables id)
resolved variables (named.GetIndResource kind index) = Resource (Getting (GetIndResource kind (number_of variables index)))
resolved variables (named.Kind call kind) = kind_call call kind
resolved variables (named.AddResource handle kind id name) = Resource (AddResource (number_of variables handle) kind (id_of variables id) name)
resolved variables (named.File call file) = file_call call (option_map (number_of variables) file)

-- the call that a line makes, with the values that its operands have
abbrev pub call_of : Variables → CallLine → Call
call_of variables line = resolved variables line.call
