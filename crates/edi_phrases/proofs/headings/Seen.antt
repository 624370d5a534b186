-- The elements of the code's trees, one layer at a time.
use Rattle.std.proofs.Common.{◌≡◌, List, ◌∷◌, Option, sym, ap, ◌∙◌}
use Rattle.edi_lex.specs.declared.symbol.Symbol.TheVariants as is
use Rattle.edi_tree.specs.declared.names.Name.{Name}
use Rattle.edi_tree.specs.declared.types.Group as code_group
use Rattle.edi_tree.specs.declared.sequence.Sequence as code_sequence
use Rattle.edi_tree.specs.declared.headings.Heading as code_heading
use Rattle.edi_tree.specs.declared.headings.Param as code_param
use Rattle.edi_tree.specs.declared.headings.Param.TheOpen.{Param-F}
use Rattle.edi_tree.specs.declared.headings.Param.TheFolds.{fold-roll-Param, fold-roll-Heading}
use Rattle.edi_tree.specs.declared.headings.Param.TheVariants.{rolls-Value, rolls-Var, rolls-Heading}
use Rattle.edi_tree.specs.Tree.{Param, Heading}
use Rattle.edi_tree.specs.View.{group_of, param_step, heading_step, param_of, heading_of, params_of}
use Rattle.edi_tree.specs.Levels.{Element, level_end, word, named, group_elements, param_elements, params_elements, result_elements}
use Rattle.edi_grammar.specs.derivation.Parts.{head_elements}
use Rattle.edi_grammar.proofs.derivation.Splits.{heading_split}

-- a group without `var`
pub value_seen : (g : code_group.Group) (es : List Element) → group_elements (group_of g) es ≡ param_elements (param_of (code_param.Value g)) es
value_seen g es = ap (λ t. param_elements t es) (sym (fold-roll-Param Param Heading param_step heading_step (Param-F.Value g)) ∙ ap param_of (rolls-Value g))

-- one with `var`
pub var_seen : (g : code_group.Group) (es : List Element) → word is.Var ∷ group_elements (group_of g) es ≡ param_elements (param_of (code_param.Var g)) es
var_seen g es = ap (λ t. param_elements t es) (sym (fold-roll-Param Param Heading param_step heading_step (Param-F.Var g)) ∙ ap param_of (rolls-Var g))

-- a procedure, to the end of its level
pub procedure_seen : (h : code_heading.Heading) (es : List Element) → word is.Proc ∷ head_elements (heading_of h) (level_end ∷ es) ≡ param_elements
    (param_of (code_param.Heading h)) es
procedure_seen h es = sym (heading_split (heading_of h) (level_end ∷ es)) ∙ ap (λ t. param_elements t es)
    (sym (fold-roll-Param Param Heading param_step heading_step (Param-F.Heading h)) ∙ ap param_of (rolls-Heading h))

-- a heading behind its `proc`
pub head_seen : (n : Name) (ps : code_sequence.Sequence code_param.Param) (r : Option Name) (es : List Element) → named n ∷ params_elements (params_of ps)
    (result_elements r es) ≡ head_elements (heading_of (code_heading.roll-Heading record { name = n; params = ps; result = r })) es
head_seen n ps r es = ap (λ t. head_elements t es) (sym (fold-roll-Heading Param Heading param_step heading_step record { name = n; params = ps; result = r }))
