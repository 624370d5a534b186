-- Elements of a production by those of the parts of the factored grammar.
use Rattle.std.proofs.Common.{◌≡◌, ℤ, List, ◌∷◌, Option, Some, None, refl, ap}
use Rattle.edi_lex.specs.declared.symbol.Symbol.TheVariants as is
use Rattle.edi_tree.specs.declared.names.Name.{Name}
use Rattle.edi_tree.specs.declared.constants.Constant.TheVariants as constant
use Rattle.edi_tree.specs.Tree.{Heading, heading, Branches, no_branch, next_branch}
use Rattle.edi_tree.specs.Levels.{Element, level_end, word, kept, named, branch_elements, branches_elements, constant_elements, factor_elements}
use Rattle.edi_tree.specs.Levels.{heading_elements, statement_elements}
use Rattle.edi_grammar.specs.derivation.Parts.{After, called, assigned, alone, Behind, with_args, selected, head_elements, code_elements, after_elements}
use Rattle.edi_grammar.specs.derivation.Parts.{behind_elements, open_branches}
use Rattle.edi_grammar.proofs.derivation.Builds.{statement_with, factor_with}

pub constant_split : (n : Name) (o : Option ℤ) (more : List Element) → constant_elements (constant.Name n o) more ≡ named n ∷ code_elements o more
constant_split n None more = refl
constant_split n (Some v) more = refl

pub heading_split : (h : Heading) (more : List Element) → heading_elements h more ≡ word is.Proc ∷ head_elements h more
heading_split (heading n ps r) more = refl

pub statement_split : (n : Name) (a : After) (more : List Element) → statement_elements (statement_with n a) more ≡ named n ∷ after_elements a more
statement_split n (called a) more = refl
statement_split n (assigned ss line e) more = refl
statement_split n alone more = refl

pub factor_split : (n : Name) (b : Behind) (more : List Element) → factor_elements (factor_with n b) more ≡ named n ∷ behind_elements b more
factor_split n (with_args a) more = refl
factor_split n (selected ss) more = refl

pub branches_split : (bs : Branches) (more : List Element) → branches_elements bs more ≡ open_branches bs (level_end ∷ more)
branches_split (no_branch end) more = refl
branches_split (next_branch also b bs) more = ap (λ l. kept is.Also also ∷ branch_elements b l) (branches_split bs more)
