-- A new instance of the code, against that of the definitions.
use Rattle.std.proofs.Common.{◌≡◌, ℕ, zero, suc, List, [], ◌∷◌, ◌++◌, None, refl, ap, ◌∙◌}
use Rattle.std.specs.Prelude.{map, slice_get}
use Rattle.edi_unit.specs.Need.{block_at, no_block}
use Rattle.edi_unit.specs.View.{block_of}
use Rattle.edi_unit.specs.declared.units.Block as code_block
use Rattle.std.proofs.lemmas.List.{append_assoc}
use Rattle.edi_unit.specs.Types.{Shape}
use Rattle.edi_unit.specs.Values.{zero_value}
use Rattle.edi_unit.specs.Tree.{Block}
use Rattle.edi_meaning.specs.Store.{Spot, Cell, value, Instance}
use Rattle.edi_meaning.specs.Whole.{result_cells}

abbrev made_of : List Shape → ℕ → Spot → List Cell → Block → Instance
made_of types number parent args b = record {
  frame = record { block = number; need = b.need; parent = parent };
  cells = result_cells types b.result ++ (args ++ map (λ t. value (zero_value types t)) b.variables);
}

-- the function variable, the arguments and the variables, one after another
pub made : (types : List Shape) (number : ℕ) (parent : Spot) (args first both all : List Cell) (b other : Block) → first ≡ result_cells types b.result →
    both ≡ first ++ args → all ≡ both ++ map (λ t. value (zero_value types t)) b.variables → b ≡ other →
    record { frame = record { block = number; need = b.need; parent = parent }; cells = all } ≡ made_of types number parent args other
made types number parent args first both all b other f g h e =
    ap (λ cells. record { frame = record { block = number; need = b.need; parent = parent }; cells = cells })
    (h
    ∙ ap (λ l. l ++ map (λ t. value (zero_value types t)) b.variables) (g ∙ ap (λ l. l ++ args) f)
    ∙ append_assoc (result_cells types b.result) args (map (λ t. value (zero_value types t)) b.variables))
    ∙ ap (made_of types number parent args) e

-- where there is no such block
pub none_there : (bs : List code_block.Block) (n : ℕ) → None ≡ slice_get bs n → block_at (map block_of bs) n ≡ no_block
none_there [] n e = refl
none_there (b ∷ bs) zero e = absurd (cc)
none_there (b ∷ bs) (suc n) e = none_there bs n e
