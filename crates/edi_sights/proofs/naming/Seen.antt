-- A heading of the code, seen as the plain tree.
use Rattle.std.proofs.Common.{◌≡◌, List, [], ◌∷◌, ◌++◌, refl, ap, sym}
use Rattle.edi_tree.specs.declared.headings.Heading as code_heading
use Rattle.edi_tree.specs.declared.headings.Param.TheViews.{out-Heading}
use Rattle.edi_tree.specs.Tree.{Param}
use Rattle.edi_tree.specs.View.{heading_of, more_params, optional_params, params_of}
use Rattle.edi_sema.proofs.Begun.{heading_seen}
use Rattle.edi_sights.specs.named.Names.{heading_name, heading_names, more_param_names, params_names, result_names}

pub name_is : (x : code_heading.Heading) → (out-Heading x).name.text ≡ heading_name (heading_of x)
name_is x = ap heading_name (sym (heading_seen x))

pub names_are : (x : code_heading.Heading)
    → result_names (out-Heading x).name.text (out-Heading x).result ++ params_names (params_of (out-Heading x).params) ≡ heading_names (heading_of x)
names_are x = ap heading_names (sym (heading_seen x))

-- all parameters, or the first and the others
pub params_listed : (ps : List Param) → more_param_names (more_params ps) ≡ params_names (optional_params ps)
params_listed [] = refl
params_listed (p ∷ ps) = refl
