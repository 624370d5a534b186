-- The parameters of a heading, one more at a time.
use Rattle.std.proofs.Common.{◌≡◌, List, [], ◌∷◌, ◌++◌, ◌<◌, length, arith, map, refl, sym, ap, ◌∙◌}
use Rattle.edi_lex.specs.declared.symbol.Symbol.TheVariants as is
use Rattle.edi_phrases.proofs.Pushes.{one_more}
use Rattle.edi_tree.specs.Tree as tree
use Rattle.edi_tree.specs.View.{more_params, optional_params}
use Rattle.edi_tree.specs.Levels.{Element, level_end, word, param_elements, params_elements, more_params_elements}

-- the parameters of a list that is not closed yet
abbrev pub open_params : List tree.Param → List Element → List Element
open_params [] es = es
open_params (x ∷ items) es = word is.Open ∷ param_elements x (more_params_elements (more_params items) es)

pub open_params_first : {A : Type 0} (f : A → tree.Param) (items : List A) (x : A) → items ≡ x ∷ [] → (es : List Element) → word is.Open
    ∷ param_elements (f x) es ≡ open_params (map f items) es
open_params_first f items x e es = ap (λ l. open_params (map f l) es) (sym e)

pub open_params_push : {A : Type 0} (f : A → tree.Param) (items more : List A) (x : A) → 0 < length items → more ≡ items ++ x ∷ [] → (es : List Element)
    → open_params (map f items) (word is.Semicolon ∷ param_elements (f x) es) ≡ open_params (map f more) es
open_params_push f [] more x some e es = absurd (omega (arith, some))
open_params_push f (y ∷ items) more x some e es = ap (λ l. word is.Open ∷ param_elements (f y) l)
    (one_more (λ x es. word is.Semicolon ∷ param_elements (f x) es) (λ l. more_params_elements (more_params (map f l))) (λ es. refl) (λ x l es. refl)
    items (items ++ x ∷ []) x refl es) ∙ ap (λ l. open_params (map f l) es) (sym e)

pub open_params_end : {A : Type 0} (f : A → tree.Param) (items all : List A) → 0 < length items → all ≡ items → (es : List Element)
    → open_params (map f items) (word is.Close ∷ level_end ∷ es) ≡ params_elements (optional_params (map f all)) es
open_params_end f [] all some e es = absurd (omega (arith, some))
open_params_end f (y ∷ items) all some e es = ap (λ l. params_elements (optional_params (map f l)) es) (sym e)
