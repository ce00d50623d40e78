-- The calls that a line may make, and how each is written.
use Rattle.std.specs.Prelude.{ℕ, Bool, true, false, List, [], ◌∷◌, codes}
use Rattle.script_lang.specs.declared.table.CallName.{CallName}
use Rattle.script_lang.specs.declared.table.CallName.TheVariants as name
use Rattle.script_lang.specs.declared.table.NumberName.TheVariants as number
use Rattle.script_lang.specs.declared.table.HandleName.TheVariants as handle
use Rattle.script_lang.specs.declared.table.ResourceHandleName.TheVariants as resource_handle
use Rattle.script_lang.specs.declared.table.PlainName.TheVariants as plain
use Rattle.script_lang.specs.declared.table.TwoNumbersName.TheVariants as two_numbers
use Rattle.script_lang.specs.declared.table.ThreeNumbersName.TheVariants as three_numbers
use Rattle.script_lang.specs.declared.table.BytesName.TheVariants as bytes
use Rattle.script_lang.specs.declared.table.ResourceName.TheVariants as resource
use Rattle.script_lang.specs.declared.table.FileName.TheVariants as file
use Rattle.script_lang.specs.declared.table.KindName.TheVariants as kind

-- a call's name, and whether a line may assign its first result
pub record Signature : Type 0 where
  pub name : List ℕ
  pub is_assignable : Bool

-- a call that gives a number, a handle or an address first, so that a line may assign it
abbrev pub gives : List ℕ → Signature
gives name = record { name = name; is_assignable = true }

-- a call that gives nothing that a line may assign
abbrev pub does : List ℕ → Signature
does name = record { name = name; is_assignable = false }

-- the table of calls
abbrev pub signature : CallName → Signature
signature (name.Number number.NewHandle) = gives (codes "NewHandle")
signature (name.Number (number.Handle handle.DisposeHandle)) = does (codes "DisposeHandle")
signature (name.Bytes bytes.Poke) = does (codes "Poke")
signature (name.ThreeNumbers three_numbers.Peek) = does (codes "Peek")
signature (name.Plain plain.NewEmptyHandle) = gives (codes "NewEmptyHandle")
signature (name.Number number.NewPtr) = gives (codes "NewPtr")
signature (name.Number number.DisposePtr) = does (codes "DisposePtr")
signature (name.Number (number.Handle handle.EmptyHandle)) = does (codes "EmptyHandle")
signature (name.Number (number.Handle handle.GetHandleSize)) = gives (codes "GetHandleSize")
signature (name.TwoNumbers two_numbers.SetHandleSize) = does (codes "SetHandleSize")
signature (name.Number number.GetPtrSize) = gives (codes "GetPtrSize")
signature (name.TwoNumbers two_numbers.SetPtrSize) = does (codes "SetPtrSize")
signature (name.Number (number.Handle handle.HLock)) = does (codes "HLock")
signature (name.Number (number.Handle handle.HUnlock)) = does (codes "HUnlock")
signature (name.Number (number.Handle handle.HPurge)) = does (codes "HPurge")
signature (name.Number (number.Handle handle.HNoPurge)) = does (codes "HNoPurge")
signature (name.Number (number.Handle handle.HSetRBit)) = does (codes "HSetRBit")
signature (name.Number (number.Handle handle.HClrRBit)) = does (codes "HClrRBit")
signature (name.Number (number.Handle handle.HGetState)) = gives (codes "HGetState")
signature (name.TwoNumbers two_numbers.HSetState) = does (codes "HSetState")
signature (name.Number (number.Handle handle.Deref)) = gives (codes "Deref")
signature (name.Number number.RecoverHandle) = gives (codes "RecoverHandle")
signature (name.TwoNumbers two_numbers.ReallocateHandle) = does (codes "ReallocateHandle")
signature (name.Number (number.Handle handle.MoveHHi)) = does (codes "MoveHHi")
signature (name.Number (number.Handle handle.HLockHi)) = does (codes "HLockHi")
signature (name.Number (number.Handle handle.HandToHand)) = gives (codes "HandToHand")
signature (name.TwoNumbers two_numbers.PtrToHand) = gives (codes "PtrToHand")
signature (name.ThreeNumbers three_numbers.PtrToXHand) = does (codes "PtrToXHand")
signature (name.ThreeNumbers three_numbers.PtrAndHand) = does (codes "PtrAndHand")
signature (name.TwoNumbers two_numbers.HandAndHand) = does (codes "HandAndHand")
signature name.BlockMove = does (codes "BlockMove")
signature (name.Number number.CompactMem) = gives (codes "CompactMem")
signature (name.Number number.PurgeMem) = does (codes "PurgeMem")
signature (name.Plain plain.MaxMem) = gives (codes "MaxMem")
signature (name.Number number.ReserveMem) = does (codes "ReserveMem")
signature (name.Plain plain.PurgeSpace) = gives (codes "PurgeSpace")
signature (name.Plain plain.MaxBlock) = gives (codes "MaxBlock")
signature (name.Plain plain.FreeMem) = gives (codes "FreeMem")
signature (name.Plain plain.MoreMasters) = does (codes "MoreMasters")
signature (name.Plain plain.MaxApplZone) = does (codes "MaxApplZone")
signature (name.Plain plain.ZoneMap) = gives (codes "ZoneMap")
signature (name.Number number.Lend) = does (codes "Lend")
signature (name.ThreeNumbers three_numbers.LentPeek) = does (codes "LentPeek")
signature (name.Bytes bytes.LentPoke) = does (codes "LentPoke")
signature (name.Number number.Return) = does (codes "Return")
signature (name.Plain plain.MemError) = does (codes "MemError")
signature (name.Resource resource.GetResource) = gives (codes "GetResource")
signature (name.Resource resource.Get1Resource) = gives (codes "Get1Resource")
signature name.GetIndResource = gives (codes "GetIndResource")
signature (name.Number (number.ResourceHandle resource_handle.LoadResource)) = does (codes "LoadResource")
signature (name.Number (number.ResourceHandle resource_handle.ReleaseResource)) = does (codes "ReleaseResource")
signature (name.Number (number.ResourceHandle resource_handle.DetachResource)) = does (codes "DetachResource")
signature name.AddResource = does (codes "AddResource")
signature (name.Number (number.ResourceHandle resource_handle.ChangedResource)) = does (codes "ChangedResource")
signature (name.Number (number.ResourceHandle resource_handle.RemoveResource)) = does (codes "RemoveResource")
signature (name.Number (number.ResourceHandle resource_handle.WriteResource)) = does (codes "WriteResource")
signature (name.File file.UpdateResFile) = does (codes "UpdateResFile")
signature (name.File file.CloseResFile) = does (codes "CloseResFile")
signature (name.Number (number.ResourceHandle resource_handle.GetResAttrs)) = gives (codes "GetResAttrs")
signature (name.TwoNumbers two_numbers.SetResAttrs) = does (codes "SetResAttrs")
signature (name.Number (number.ResourceHandle resource_handle.GetResInfo)) = does (codes "GetResInfo")
signature (name.Number (number.ResourceHandle resource_handle.SizeResource)) = gives (codes "SizeResource")
signature (name.Number (number.ResourceHandle resource_handle.HomeResFile)) = gives (codes "HomeResFile")
signature (name.Kind kind.UniqueID) = gives (codes "UniqueID")
signature (name.Plain plain.CountTypes) = gives (codes "CountTypes")
signature (name.Kind kind.CountResources) = gives (codes "CountResources")
signature (name.Number number.GetIndType) = does (codes "GetIndType")
signature (name.Number number.SetResLoad) = does (codes "SetResLoad")
signature (name.Number number.OpenResFile) = gives (codes "OpenResFile")
signature (name.Number number.UseResFile) = does (codes "UseResFile")
signature (name.Plain plain.CurResFile) = gives (codes "CurResFile")
signature (name.Plain plain.ResError) = does (codes "ResError")

-- all calls
abbrev pub all_calls : List CallName
all_calls =
    name.Number number.NewHandle ∷ name.Number (number.Handle handle.DisposeHandle) ∷ name.Bytes bytes.Poke ∷ name.ThreeNumbers three_numbers.Peek ∷ name.Plain plain.NewEmptyHandle ∷ name.Number number.NewPtr ∷ name.Number number.DisposePtr ∷ name.Number (number.Handle handle.EmptyHandle) ∷ name.Number (number.Handle handle.GetHandleSize) ∷ name.TwoNumbers two_numbers.SetHandleSize ∷ name.Number number.GetPtrSize ∷ name.TwoNumbers two_numbers.SetPtrSize ∷ name.Number (number.Handle handle.HLock) ∷ name.Number (number.Handle handle.HUnlock) ∷ name.Number (number.Handle handle.HPurge) ∷ name.Number (number.Handle handle.HNoPurge) ∷ name.Number (number.Handle handle.HSetRBit) ∷ name.Number (number.Handle handle.HClrRBit) ∷ name.Number (number.Handle handle.HGetState) ∷ name.TwoNumbers two_numbers.HSetState ∷ name.Number (number.Handle handle.Deref) ∷ name.Number number.RecoverHandle ∷ name.TwoNumbers two_numbers.ReallocateHandle ∷ name.Number (number.Handle handle.MoveHHi) ∷ name.Number (number.Handle handle.HLockHi) ∷ name.Number (number.Handle handle.HandToHand) ∷ name.TwoNumbers two_numbers.PtrToHand ∷ name.ThreeNumbers three_numbers.PtrToXHand ∷ name.ThreeNumbers three_numbers.PtrAndHand ∷ name.TwoNumbers two_numbers.HandAndHand ∷ name.BlockMove ∷ name.Number number.CompactMem ∷ name.Number number.PurgeMem ∷ name.Plain plain.MaxMem ∷ name.Number number.ReserveMem ∷ name.Plain plain.PurgeSpace ∷ name.Plain plain.MaxBlock ∷ name.Plain plain.FreeMem ∷ name.Plain plain.MoreMasters ∷ name.Plain plain.MaxApplZone ∷ name.Plain plain.ZoneMap ∷ name.Number number.Lend ∷ name.ThreeNumbers three_numbers.LentPeek ∷ name.Bytes bytes.LentPoke ∷ name.Number number.Return ∷ name.Plain plain.MemError ∷ name.Resource resource.GetResource ∷ name.Resource resource.Get1Resource ∷ name.GetIndResource ∷ name.Number (number.ResourceHandle resource_handle.LoadResource) ∷ name.Number (number.ResourceHandle resource_handle.ReleaseResource) ∷ name.Number (number.ResourceHandle resource_handle.DetachResource) ∷ name.AddResource ∷ name.Number (number.ResourceHandle resource_handle.ChangedResource) ∷ name.Number (number.ResourceHandle resource_handle.RemoveResource) ∷ name.Number (number.ResourceHandle resource_handle.WriteResource) ∷ name.File file.UpdateResFile ∷ name.File file.CloseResFile ∷ name.Number (number.ResourceHandle resource_handle.GetResAttrs) ∷ name.TwoNumbers two_numbers.SetResAttrs ∷ name.Number (number.ResourceHandle resource_handle.GetResInfo) ∷ name.Number (number.ResourceHandle resource_handle.SizeResource) ∷ name.Number (number.ResourceHandle resource_handle.HomeResFile) ∷ name.Kind kind.UniqueID ∷ name.Plain plain.CountTypes ∷ name.Kind kind.CountResources ∷ name.Number number.GetIndType ∷ name.Number number.SetResLoad ∷ name.Number number.OpenResFile ∷ name.Number number.UseResFile ∷ name.Plain plain.CurResFile ∷ name.Plain plain.ResError ∷ []
