-- The text of a process's name, branch by branch.
use Rattle.std.proofs.Common.{◌≡◌, ℕ, true, false, List, [], ◌∷◌, ◌++◌, sym, ap, ◌∙◌, append-nil, append_assoc}
use Rattle.std.specs.Prelude.{codes, ◌==◌, length}
use Rattle.edi_timeline.specs.Text.{branch_text, branches_text, process_text}
use Rattle.edi_waits.specs.declared.births.Branch.{Branch}
use Rattle.edi_waits.specs.Told.{name_of}
use Rattle.edi_dump.specs.Told.{steps_text}

branches_are : (b : Branch) (bs : List Branch) → branches_text (b.fork ∷ b.number ∷ name_of bs) ≡ branch_text b.fork b.number ++ steps_text false bs
branches_are b [] = sym (append-nil (branch_text b.fork b.number))
branches_are b (c ∷ bs) =
    ap (λ (xs : List ℕ). branch_text b.fork b.number ++ (codes "/" ++ xs)) (branches_are c bs)
    ∙ ap (λ (xs : List ℕ). branch_text b.fork b.number ++ xs) (sym (append_assoc (codes "/") (branch_text c.fork c.number) (steps_text false bs)))

-- of one that is not the first
pub steps_are : (bs : List Branch) → (length bs == 0) ≡ false → process_text (name_of bs) ≡ steps_text true bs
steps_are [] e = absurd (cc)
steps_are (b ∷ bs) e = branches_are b bs
