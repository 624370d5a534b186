use Rattle.std.proofs.Common.{◌++◌, ap, ◌∙◌}
use Rattle.std.specs.Prelude.{map}
use Rattle.edi_tree.specs.declared.headings.Param.TheViews.{out-Heading}
use Rattle.edi_tree.specs.Sequences.{items_of}
use Rattle.edi_tree.specs.View.{more_params, param_of}
use Rattle.edi_sights.specs.named.Names.{more_param_names, result_names}
use Rattle.edi_sights.proofs.naming.Seen.{names_are, params_listed}
use Rattle.edi_sights.proofs.named.spelled.heading_names.Goals as goal

pub returns : goal.returns
returns c =
    let x = out-Heading c.args.heading.now in
    let first = result_names x.name.text x.result in
    record {
      exact =
          c.in_ok-put_params.ensures.exact
          ∙ (ap (λ ns. ns ++ more_param_names (more_params (map param_of c.items.result.now))) c.in_ok-names.ensures.exact
          ∙ (ap (λ ps. first ++ more_param_names (more_params (map param_of ps))) c.items.ensures.exact
          ∙ (ap (λ ns. first ++ ns) (params_listed (map param_of (items_of x.params))) ∙ names_are c.args.heading.now)));
    }
