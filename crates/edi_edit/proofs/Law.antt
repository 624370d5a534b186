-- As many undos as changes give the text back.
use Rattle.std.proofs.Common.{◌≡◌, ℕ, suc, ◌+◌, ◌-◌, ◌≤◌, List, [], ◌∷◌, ◌++◌, length, refl, ◌∙◌, ap, arith, drop, length-drop}
use Rattle.std.proofs.lemmas.List.{length_push, get_or_push, take_at, drop-append-le, drop-drop}
use Rattle.edi_edit.specs.declared.TheConstants.{UNDOS}
use Rattle.edi_edit.specs.Editing.{Editing, changed, undone}
use Rattle.edi_edit.specs.Undoing.{after_changes, undone_times, UndosGiveTheTextBack}

-- one undo where the first of the earlier texts are gone
undone_dropped : (texts : List (List (List ℕ))) (before after : List (List ℕ)) (j : ℕ) → j ≤ length texts
    → undone (record { lines = after; earlier = drop j (texts ++ before ∷ []) }) ≡ record { lines = before; earlier = drop j texts }
undone_dropped texts before after j le =
    let left = drop j texts in
    let split : drop j (texts ++ before ∷ []) ≡ left ++ before ∷ [] = drop-append-le j texts (before ∷ []) le in
    let count : length (left ++ before ∷ []) - 1 ≡ length left = omega (arith, length_push left before) in
    rw (split, count, get_or_push left before after (length left) refl, take_at left (before ∷ []) (length left) refl) refl

-- the whole state after as many undos as changes: of the earlier texts the first may be gone
undone_all : (texts : List (List (List ℕ))) (editing : Editing) → length editing.earlier ≤ UNDOS → length texts ≤ UNDOS
    → undone_times (length texts) (after_changes editing texts)
    ≡ record { lines = editing.lines; earlier = drop (length editing.earlier + length texts - UNDOS) editing.earlier }
undone_all [] editing few short = let none : length editing.earlier + 0 - UNDOS ≡ 0 = omega arith in rw none refl
undone_all (text ∷ texts) editing few short =
    let all = editing.earlier ++ editing.lines ∷ [] in
    let first = length all - UNDOS in
    let next = changed editing text in
    let long : length all ≡ length editing.earlier + 1 = length_push editing.earlier editing.lines in
    let left : length next.earlier ≡ length all - first = length-drop first all in
    let gone : first + (length next.earlier + length texts - UNDOS) ≡ length editing.earlier + suc (length texts) - UNDOS = omega arith in
    ap undone (undone_all texts next (omega arith) (omega arith))
    ∙ ap (λ earlier. undone (record { lines = text; earlier = earlier })) (drop-drop (length next.earlier + length texts - UNDOS) first all)
    ∙ ap (λ j. undone (record { lines = text; earlier = drop j all })) gone
    ∙ undone_dropped editing.earlier editing.lines text (length editing.earlier + suc (length texts) - UNDOS) (omega arith)

enough : (texts : List (List (List ℕ))) (editing : Editing) (k : ℕ) → k ≤ length editing.earlier → k + length texts ≤ UNDOS
    → k + length texts ≤ length (after_changes editing texts).earlier
enough [] editing k there short = omega arith
enough (text ∷ texts) editing k there short =
    let all = editing.earlier ++ editing.lines ∷ [] in
    let long : length all ≡ length editing.earlier + 1 = length_push editing.earlier editing.lines in
    let left : length (changed editing text).earlier ≡ length all - (length all - UNDOS) = length-drop (length all - UNDOS) all in
    let rest = enough texts (changed editing text) (k + 1) (omega arith) (omega arith) in omega arith

pub undos_give_the_text_back : UndosGiveTheTextBack
undos_give_the_text_back editing texts few short = (
  let all = enough texts editing 0 (omega arith) (omega arith) in omega arith,
  ap (λ (e : Editing). e.lines) (undone_all texts editing few short),
)
