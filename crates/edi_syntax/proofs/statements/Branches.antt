-- The branches of a `cobegin`, one after the other.
use Rattle.std.proofs.Common.{◌≡◌, ℕ, List, [], ◌∷◌, ◌++◌, map, refl, sym, ap, ◌∙◌}
use Rattle.edi_lex.specs.declared.symbol.Symbol.TheVariants as is
use Rattle.edi_tree.specs.View.{ClosedBranch, branches}
use Rattle.edi_tree.specs.Levels.{Element, level_end, kept, branch_elements, branches_elements}

-- the elements of the branches behind one that is closed on this line, in front of others
abbrev pub also_branches : ℕ → List ClosedBranch → List Element → List Element
also_branches end [] es = es
also_branches end (x ∷ xs) es = kept is.Also end ∷ branch_elements x.opened (also_branches x.end xs es)

-- the line on which the last of them is closed
abbrev pub last_end : ℕ → List ClosedBranch → ℕ
last_end end [] = end
last_end end (x ∷ xs) = last_end x.end xs

also_more : {A : Type 0} (f : A → ClosedBranch) (end line : ℕ) (items : List A) (x : A) → last_end end (map f items) ≡ line → (es : List Element)
    → also_branches end (map f items) (kept is.Also line ∷ branch_elements (f x).opened es) ≡ also_branches end (map f (items ++ x ∷ [])) es
also_more f end line [] x e es = ap (λ l. kept is.Also l ∷ branch_elements (f x).opened es) (sym e)
also_more f end line (y ∷ items) x e es = ap (λ l. kept is.Also end ∷ branch_elements (f y).opened l) (also_more f (f y).end line items x e es)

-- one more branch
pub also_push : {A : Type 0} (f : A → ClosedBranch) (end line : ℕ) (items more : List A) (x : A) → last_end end (map f items) ≡ line → more ≡ items ++ x ∷ []
    → (es : List Element) → also_branches end (map f items) (kept is.Also line ∷ branch_elements (f x).opened es) ≡ also_branches end (map f more) es
also_push f end line items more x l e es = also_more f end line items x l es ∙ ap (λ m. also_branches end (map f m) es) (sym e)

last_more : {A : Type 0} (f : A → ClosedBranch) (end : ℕ) (items : List A) (x : A) → last_end end (map f (items ++ x ∷ [])) ≡ (f x).end
last_more f end [] x = refl
last_more f end (y ∷ items) x = last_more f (f y).end items x

pub last_push : {A : Type 0} (f : A → ClosedBranch) (end : ℕ) (items more : List A) (x : A) → more ≡ items ++ x ∷ [] → last_end end (map f more) ≡ (f x).end
last_push f end items more x e = ap (λ m. last_end end (map f m)) e ∙ last_more f end items x

-- all branches, and the end
pub ended : (end line : ℕ) (xs : List ClosedBranch) → last_end end xs ≡ line → (es : List Element) → also_branches end xs (kept is.End line ∷ level_end ∷ es)
    ≡ branches_elements (branches end xs) es
ended end line [] e es = ap (λ l. kept is.End l ∷ level_end ∷ es) (sym e)
ended end line (x ∷ xs) e es = ap (λ l. kept is.Also end ∷ branch_elements x.opened l) (ended x.end line xs e es)
