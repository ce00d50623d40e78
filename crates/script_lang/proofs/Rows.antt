-- Worked examples of calls with values, computed.
use Rattle.std.proofs.Common.{◌≡◌, refl, [], ◌∷◌, codes, pos, negsuc, None, Some}
use Rattle.mac_base.specs.declared.releasing.ReleasingCall.TheVariants.{DisposesHandle, DisposesPtr, Empties}
use Rattle.mac_base.specs.declared.call.Call.{Call}
use Rattle.mac_base.specs.declared.call.Call.TheVariants.{Memory, Resource}
use Rattle.mac_base.specs.declared.memory_call.MemoryCall.TheVariants.{OnBlock}
use Rattle.mac_base.specs.declared.memory_call.BlockCall.TheVariants.{Poke as PokeBlock}
use Rattle.mac_base.specs.declared.resource_call.ResourceCall.TheVariants.{Getting, Writing, AddResource}
use Rattle.mac_base.specs.declared.resource_call.GettingCall.TheVariants as getting
use Rattle.mac_base.specs.declared.resource_call.WritingCall.TheVariants as writing
use Rattle.script_lang.specs.declared.line.IdOperand.TheVariants as id
use Rattle.script_lang.specs.declared.line.NamedCall.{NamedCall}
use Rattle.script_lang.specs.declared.line.NamedCall.TheVariants as named
use Rattle.script_lang.specs.declared.line.NumberOperand.TheVariants as number
use Rattle.script_lang.specs.declared.line.ReleasingName.TheVariants.{DisposeHandle, DisposePtr, EmptyHandle}
use Rattle.script_lang.specs.declared.table.BytesName.TheVariants.{Poke}
use Rattle.script_lang.specs.declared.table.FileName.TheVariants.{CloseResFile}
use Rattle.script_lang.specs.declared.table.ResourceName.TheVariants.{GetResource}
use Rattle.script_lang.specs.Answers.{answer_with}
use Rattle.script_lang.specs.Resolving.{resolved}
use Rattle.script_lang.specs.Variables.{with_value}

poked : resolved (with_value [] 0 0x0010_003C) (named.Bytes Poke (number.Variable 0) (number.Number 0) (0 ∷ 255 ∷ [])) ≡ Memory (OnBlock (PokeBlock 0x0010_003C 0 (0 ∷ 255 ∷ [])))
poked = refl

answered : answer_with (with_value [] 0 0x0010_003C) (record {
  value = number.Number 40;
  calls = record { call = EmptyHandle; operand = number.Variable 0 }
      ∷ record { call = DisposePtr; operand = number.Number 0x0010_0144 }
      ∷ record { call = DisposeHandle; operand = number.Variable 0 } ∷ [];
})
    ≡ record { calls = Empties 0x0010_003C ∷ DisposesPtr 0x0010_0144 ∷ DisposesHandle 0x0010_003C ∷ []; value = 40 }
answered = refl

-- a call, where the first variable is 70000
abbrev made : NamedCall → Call
made call = resolved (with_value [] 0 70000) call

got : made (named.Resource GetResource (codes "TEXT") (id.Id (negsuc 127))) ≡ Resource (Getting (getting.GetResource (codes "TEXT") (negsuc 127)))
got = refl

out_of_range : made (named.Resource GetResource (codes "TEXT") (id.Variable 0)) ≡ Resource (Getting (getting.GetResource (codes "TEXT") (pos 70000)))
out_of_range = refl

nameless : made (named.AddResource (number.Variable 0) (codes "TEXT") (id.Id (pos 5)) None) ≡ Resource (AddResource 70000 (codes "TEXT") (pos 5) None)
nameless = refl

empty_name : made (named.AddResource (number.Variable 0) (codes "TEXT") (id.Id (pos 5)) (Some [])) ≡ Resource (AddResource 70000 (codes "TEXT") (pos 5) (Some []))
empty_name = refl

current_file : made (named.File CloseResFile None) ≡ Resource (Writing (writing.CloseResFile None))
current_file = refl

third_file : made (named.File CloseResFile (Some (number.Number 3))) ≡ Resource (Writing (writing.CloseResFile (Some 3)))
third_file = refl
