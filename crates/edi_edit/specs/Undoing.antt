-- Words of contracts. The law that undoing gives the text back.
use Rattle.std.specs.Prelude.{◌≡◌, ℕ, zero, suc, ◌≤◌, Bool, true, false, ◌<◌, Option, Some, None, Result, Ok, Err, List}
use Rattle.std.specs.Prelude.{[], ◌∷◌, length}
use Rattle.edi_edit.specs.declared.EditEnd.{EditEnd}
use Rattle.edi_edit.specs.declared.EditEnd.TheVariants.{NoMemory}
use Rattle.edi_edit.specs.declared.TheConstants.{UNDOS}
use Rattle.edi_edit.specs.Editing.{Editing, changed, undone}

-- what an undo leaves, and whether there was something to undo
abbrev pub Undoes : Bool → Editing → Editing → Type 0
Undoes true old new = (0 < length old.earlier) × (new ≡ undone old)
Undoes false old new = (old.earlier ≡ []) × (new ≡ old)

-- a call is refused for its cause and changes nothing, or it is made, or memory runs out and nothing changes
abbrev pub EndsBy : {T S : Type 0} → Result T EditEnd → Option EditEnd → S → S → S → Type 0
EndsBy (Ok made) cause after old new = (cause ≡ None) × (new ≡ after)
EndsBy (Err NoMemory) cause after old new = (cause ≡ None) × (new ≡ old)
EndsBy (Err end) cause after old new = (cause ≡ Some end) × (new ≡ old)

-- after some changes, to these texts one after another
abbrev pub after_changes : Editing → List (List (List ℕ)) → Editing
after_changes editing [] = editing
after_changes editing (text ∷ texts) = after_changes (changed editing text) texts

-- after so many undos
abbrev pub undone_times : ℕ → Editing → Editing
undone_times zero editing = editing
undone_times (suc n) editing = undone (undone_times n editing)

-- after any changes, no more than are kept, as many undos can be made, and they give the lines from before the changes
abbrev pub UndosGiveTheTextBack : Type 0
UndosGiveTheTextBack =
    (editing : Editing) (texts : List (List (List ℕ))) → length editing.earlier ≤ UNDOS → length texts ≤ UNDOS
    → (length texts ≤ length (after_changes editing texts).earlier) × ((undone_times (length texts) (after_changes editing texts)).lines ≡ editing.lines)
