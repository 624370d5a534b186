-- The words of a block's result, parameters and variables.
use Rattle.std.proofs.Common.{◌≡◌, ℕ, ◌+◌, List, [], ◌∷◌, ◌++◌, refl, sym, ap, ap₂, ◌∙◌}
use Rattle.std.proofs.lemmas.List.Sums.{sum_by-cons, sum_by-append}
use Rattle.std.specs.Prelude.{map, option_to_list, sum_by}
use Rattle.edi_unit.specs.declared.units.Parameter.TheVariants as slot
use Rattle.edi_unit.specs.Types.{Shape, size}
use Rattle.edi_unit.specs.Tree.{Block}
use Rattle.edi_unit.specs.Need.{slot_words, variable_words}

values_sum : (types : List Shape) (ts : List ℕ) → sum_by (slot_words types) (map slot.Value ts) ≡ sum_by (size types) ts
values_sum types [] = refl
values_sum types (t ∷ ts) =
    sum_by-cons (slot_words types) (slot.Value t) (map slot.Value ts) ∙ ap (λ n. size types t + n) (values_sum types ts) ∙ sym (sum_by-cons (size types) t ts)

pub words_sum : (types : List Shape) (block : Block) → variable_words types block
    ≡ sum_by (size types) (option_to_list block.result) + (sum_by (slot_words types) block.parameters + sum_by (size types) block.variables)
words_sum types block =
    sum_by-append (slot_words types) (map slot.Value (option_to_list block.result)) (block.parameters ++ map slot.Value block.variables)
    ∙ ap₂ (λ m n. m + n) (values_sum types (option_to_list block.result))
    (sum_by-append (slot_words types) block.parameters (map slot.Value block.variables)
    ∙ ap (λ n. sum_by (slot_words types) block.parameters + n) (values_sum types block.variables))
