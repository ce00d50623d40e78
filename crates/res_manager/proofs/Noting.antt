-- What the rows forget once one more call of an answer is carried out.
use Rattle.std.proofs.Common.{◌≡◌, true, List, [], ◌∷◌, ◌++◌, Option, sym, ap, ◌∙◌, append-nil, append_assoc}
use Rattle.std.specs.Prelude.{filter_map}
use Rattle.std.specs.List.{cons_option}
use Rattle.std.proofs.lemmas.List.Elements.{filter_map-append}
use Rattle.std.proofs.lemmas.Grind.{fold-append}
use Rattle.mac_base.specs.declared.error.OsErr.{OsErr}
use Rattle.mac_base.specs.declared.releasing.ReleasingCall.{ReleasingCall}
use Rattle.mac_base.specs.GrowZone.{Ask, may_note, noted}
use Rattle.mac_base.specs.Released.{disposed_by, disposed_in}
use Rattle.res_files.specs.FilesOn.{FilesOn}
use Rattle.res_table.specs.OpenFiles.{handle_forgotten}
use Rattle.res_update.specs.Changes.{Files, handles_forgotten}
use Rattle.res_manager.specs.Watching.{files_after}

-- one more call was noted
disposed-noted : (call : ReleasingCall) (code : Option OsErr) (asks : List Ask) → may_note asks ≡ true → disposed_in (noted call code asks) ≡ disposed_in asks ++ filter_map disposed_by ((call, code) ∷ [])
disposed-noted call code [] may = absurd (cc may)
disposed-noted call code (a ∷ []) may =
    append-nil (filter_map disposed_by (a.carried ++ (call, code) ∷ []))
    ∙ filter_map-append disposed_by a.carried ((call, code) ∷ [])
    ∙ ap (λ hs. hs ++ filter_map disposed_by ((call, code) ∷ [])) (sym (append-nil (filter_map disposed_by a.carried)))
disposed-noted call code (a ∷ b ∷ asks) may =
    ap (λ hs. filter_map disposed_by a.carried ++ hs) (disposed-noted call code (b ∷ asks) may)
    ∙ sym (append_assoc (filter_map disposed_by a.carried) (disposed_in (b ∷ asks)) (filter_map disposed_by ((call, code) ∷ [])))

-- then rows forget the handle of which it disposed, if there is one
pub told-forgets : {S : Type 0} (call : ReleasingCall) (code : Option OsErr) (asks : List Ask) (files : FilesOn S) → may_note asks ≡ true
    → files_after (noted call code asks) files ≡ record files { files = handles_forgotten (cons_option (disposed_by (call, code)) []) (files_after asks files).files }
told-forgets call code asks files may =
    ap (λ (now : Files). record files { files = now })
    (ap (λ hs. handles_forgotten hs files.files) (disposed-noted call code asks may)
    ∙ fold-append (λ (others : Files) h. handle_forgotten h others) files.files (disposed_in asks) (filter_map disposed_by ((call, code) ∷ [])))
