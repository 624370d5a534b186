-- Helper. The declarations that are kept for a spelling.
use Rattle.std.specs.Prelude.{ℕ, List, []}
use Rattle.std.specs.Option.{option_map_or}
use Rattle.std.specs.Ordering.{nat_cmp}
use Rattle.std.specs.Cmp.Lexicographic.{slice_cmp}
use Rattle.std.specs.BTreeMap.{get_by}
use Rattle.edi_scope.specs.declared.declarations.Declaration.{Declaration}
use Rattle.edi_scope.specs.declared.declarations.Declarations.{Declarations}

-- the declarations of the name, the innermost last
abbrev pub listed : Declarations → List ℕ → List Declaration
listed kept name =
    option_map_or (λ declarations. declarations.items) (get_by (λ spelling. slice_cmp nat_cmp name spelling.items) kept.lists) []
