-- Computed rows. Programs whose names are not visible where they are used. The text of each stands in its comment, where `/` ends a line.
use Rattle.std.specs.Prelude.{◌≡◌, true, false, None}
use Rattle.edi_tree.specs.Tree.{skip, call, module_with, item_member, no_member, next_member, module_declaration, no_declaration, next_declaration}
use Rattle.edi_static.specs.Written.{id, only, named, main, one, plain, procedure_of, sets, then, variable_of}
use Rattle.edi_static.specs.names.Visible.{NamesAreVisible}

-- a name is used before its declaration:
-- proc main / proc p begin q end / proc q begin skip end / begin p end
pub row_used_before : NamesAreVisible
    (main (then (procedure_of (plain (id "p" 2)) no_declaration (one (call (id "q" 2) None)) 2) (then (procedure_of
    (plain (id "q" 3)) no_declaration (one skip) 3) no_declaration)) (one (call (id "p" 4) None)) 4)
    → ⊥
row_used_before h = let none : false ≡ true = h.1.1.0.2.0.0 in absurd (cc)

-- a name of a module that is not exported is used outside it:
-- proc main / module var a: int begin skip end / begin a := a end
pub row_hidden : NamesAreVisible
    (main (next_declaration (module_declaration (module_with (next_member (item_member (variable_of (id "a" 2) (id
    "int" 2))) no_member) (one skip))) no_declaration) (one (sets (id "a" 3) 3 (only (named (id "a" 3))))) 3)
    → ⊥
row_hidden h = let none : false ≡ true = h.1.2.0.0.0 in absurd (cc)
