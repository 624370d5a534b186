-- Computed rows. The names of a worked program. Its text stands in a comment, where `/` ends a line.
use Rattle.std.specs.Prelude.{◌≡◌, ℕ, List, [], ◌∷◌, Some, None, codes, refl}
use Rattle.edi_tree.specs.Tree.{Program, procedure, Heading, heading, Params, params, no_param, next_param, value_param, var_param, procedure_param, group}
use Rattle.edi_tree.specs.Tree.{no_name, next_name, no_group, enum_decl, var_list, item_member, no_member, next_member, type_item, var_item, pre_item}
use Rattle.edi_tree.specs.Tree.{post_item, no_declaration, skip}
use Rattle.edi_static.specs.Written.{id, one, then}
use Rattle.edi_sights.specs.named.Naming.{Named, nameless, names_of}
use Rattle.edi_sights.specs.Rows.{grouped, variable_of, procedure_of, module_then, main, do_branch, together}

-- proc main
-- enum e (a, b)
-- var x, y: int
-- proc f(c: char; var d: e; proc g(z: int)): int var h: bool begin cobegin 1 do skip also 2 do skip end end
-- module var m: int begin skip end
-- pre proc p(q: int)
-- post proc p(r: int) begin skip end
-- begin skip end
abbrev heading_of_f : Heading
heading_of_f =
    heading (id "f" 1)
    (params (value_param (grouped "c" "char")) (next_param (var_param (grouped "d" "e"))
    (next_param (procedure_param (heading (id "g" 1) (params (value_param (grouped "z" "int")) no_param) None)) no_param)))
    (Some (id "int" 1))

abbrev one_parameter : Params → Heading
one_parameter ps = heading (id "p" 1) ps None

abbrev worked : Program
worked =
    main
    (then (type_item (enum_decl (id "e" 1) (id "a" 1) (next_name (id "b" 1) no_name)))
    (then (var_item (var_list (group (id "x" 1) (next_name (id "y" 1) no_name) (id "int" 1)) no_group))
    (then (procedure_of heading_of_f (then (variable_of "h" "bool") no_declaration) (one (together (do_branch (one skip)) (do_branch (one skip)))))
    (module_then (next_member (item_member (variable_of "m" "int")) no_member) (one skip)
    (then (pre_item (one_parameter (params (value_param (grouped "q" "int")) no_param)))
    (then (post_item (procedure (one_parameter (params (value_param (grouped "r" "int")) no_param)) no_declaration (one skip) 9)) no_declaration))))))
    (one skip)

abbrev block : List ℕ → List (List ℕ) → Named
block name variables = record { name = name; variables = variables }

-- the variables of a module are those of the block round it, and of a split procedure the parameters have the names in the `post`
pub row_blocks : (names_of worked).blocks
    ≡ block (codes "main") (codes "x" ∷ codes "y" ∷ codes "m" ∷ [])
    ∷ block (codes "f") (codes "val f" ∷ codes "c" ∷ codes "d" ∷ codes "g" ∷ codes "h" ∷ [])
    ∷ nameless ∷ nameless ∷ block (codes "p") (codes "r" ∷ []) ∷ []
row_blocks = refl

pub row_constants : (names_of worked).constants ≡ [] ∷ [] ∷ (codes "false" ∷ codes "true" ∷ []) ∷ (codes "a" ∷ codes "b" ∷ []) ∷ []
row_constants = refl
