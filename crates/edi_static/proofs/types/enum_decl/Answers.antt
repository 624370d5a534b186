use Rattle.std.proofs.Common.{◌≡◌, ℕ, Vec, [], map, ap, sym, subst, ◌∙◌, arith}
use Rattle.std.specs.Global.{Global}
use Rattle.edi_tree.specs.Sequences.{items_of}
use Rattle.edi_tree.specs.Tree as text
use Rattle.edi_tree.specs.View.{names}
use Rattle.edi_static.specs.Answers.{JudgedAnswers}
use Rattle.edi_static.specs.Judged.{◌>>=◌}
use Rattle.edi_static.specs.Types.{enum_constants}
use Rattle.edi_static.specs.Views.{environment}
use Rattle.edi_static.proofs.Steps.{count}
use Rattle.edi_static.proofs.Behind.{given, enum_behind}
use Rattle.edi_static.proofs.types.enum_decl.Goals as goal

pub returns-clause-exact : goal.returns-clause-exact
returns-clause-exact c =
    let ns : text.Names = text.next_name c.args.declared.now.first (names (items_of c.args.declared.now.more)) in
    let none : map (λ name. name.items) c.new.result.keys ≡ [] = ap (map (λ (name : Vec ℕ Global). name.items)) c.new.ensures.empty in
    subst (JudgedAnswers _ c.enum_constants.result)
    (sym
    (enum_behind c.args.export c.args.declared.now.name ns (environment c.args.known.now) (environment c.push_type.new.self) _ c.in_ok-constants.constants
    c.len-of.result
    (sym (given c.in_ok-constants.ensures.exact) ∙ omega (arith, count (items_of c.args.declared.now.more), c.len.ensures.exact)) c.len-of.ensures.exact none
    c.in_ok-push_type.ensures.exact
    ∙ ap (λ j. j >>= enum_constants c.args.export c.len-of.result 0 ns) c.in_ok-declare.ensures.exact))
    c.enum_constants.ensures.exact
