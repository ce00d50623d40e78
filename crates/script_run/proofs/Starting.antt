-- A machine is made before any file is opened.
use Rattle.std.proofs.Common.{◌≡◌, ap, ◌∙◌, List, [], true, None}
use Rattle.mac_base.specs.Heap.{Heap, new_heap}
use Rattle.mac_base.specs.HeadKind.{Shape}
use Rattle.mac_base.specs.ZoneSizes.{ZoneSizes, shape_of}
use Rattle.res_table.specs.OpenFiles.{no_files}
use Rattle.res_files.specs.FilesOn.{FilesOn}
use Rattle.held_calls.specs.Answers.{Queue, no_answers}
use Rattle.toolbox.specs.ToolState.{ToolState}
use Rattle.script_lang.specs.Variables.{Variables}
use Rattle.script_run.specs.declared.machine.Machine.{Machine}
use Rattle.script_run.specs.Line.{start_of}

module _ {S : Type 0} where
  -- the toolbox of a zone and resource files
  abbrev pub tools_of : Shape → Heap → FilesOn S → ToolState S
  tools_of shape heap files = record { shape = shape; heap = heap; loans = []; refused = None; resources = files; resource_refused = None }

  abbrev pub unopened : List S → FilesOn S
  unopened stores = record { files = no_files; loads = true; stores = stores }

  abbrev pub machine_of : ToolState S → Variables → Queue → Machine S
  machine_of tools variables answers = record { toolbox = tools; variables = variables; answers = answers }

  pub is_start : (spec : ZoneSizes) (stores : List S) (shape : Shape) (heap : Heap) (files : FilesOn S) (tools : ToolState S) (variables : Variables) (answers : Queue)
      → shape ≡ shape_of spec → heap ≡ new_heap (shape_of spec) spec.size → files ≡ unopened stores → tools ≡ tools_of shape heap files → variables ≡ [] → answers ≡ no_answers
      → machine_of tools variables answers ≡ start_of spec stores
  is_start spec stores shape heap files tools variables answers at_shape at_heap at_files at_tools at_variables at_answers =
      ap (λ t. machine_of t variables answers) (at_tools ∙ ap (tools_of shape heap) at_files ∙ ap (λ s. tools_of s heap (unopened stores)) at_shape ∙ ap (λ h. tools_of (shape_of spec) h (unopened stores)) at_heap)
      ∙ ap (λ v. machine_of (start_of spec stores).toolbox v answers) at_variables
      ∙ ap (λ a. machine_of (start_of spec stores).toolbox [] a) at_answers
