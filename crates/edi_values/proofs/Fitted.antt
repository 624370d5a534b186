-- Arguments by what is asked for them.
use Rattle.std.proofs.Common.{◌≡◌, ℕ, List, [], ◌∷◌, map, Result, refl, ap, sym, ◌∙◌, subst}
use Rattle.edi_tree.specs.Tree as text
use Rattle.edi_unit.specs.declared.expressions.Argument as code_argument
use Rattle.edi_unit.specs.View.{argument_of}
use Rattle.edi_static.specs.declared.faults.StaticFault.{StaticFault}
use Rattle.edi_static.specs.declared.faults.StaticKind.TheVariants as kind
use Rattle.edi_static.specs.declared.headings.Formal as code_formal
use Rattle.edi_static.specs.Answers.{JudgedAnswers}
use Rattle.edi_static.specs.Judged.{Judged, faults}
use Rattle.edi_static.specs.Environment.{Environment}
use Rattle.edi_static.specs.Operators.{Typed}
use Rattle.edi_static.specs.Expressions as rule
use Rattle.edi_static.specs.Views.{One, value, variable, procedure, formals, formal_of}
use Rattle.edi_values.specs.Parts.{fitted}

first_is : (env : Environment) (line : ℕ) (e : text.Expr) (j : Judged Typed) (one : One) (rest : List One) → fitted env line e j one ≡ rule.argument env line
    e j (formals (one ∷ rest))
first_is env line e j (value of) rest = refl
first_is env line e j (variable of) rest = refl
first_is env line e j (procedure asked) rest = refl

pub first_answered : (env : Environment) (line : ℕ) (e : text.Expr) (j : Judged Typed) (fs rest : List code_formal.Formal) (f : code_formal.Formal)
    (r : Result code_argument.Argument StaticFault) →
    fs ≡ f ∷ rest → JudgedAnswers argument_of r (fitted env line e j (formal_of f))
    → JudgedAnswers argument_of r (rule.argument env line e j (formals (map formal_of fs)))
first_answered env line e j fs rest f r h answered =
    subst (λ m. JudgedAnswers argument_of r m)
    (first_is env line e j (formal_of f) (map formal_of rest) ∙ ap (λ xs. rule.argument env line e j (formals (map formal_of xs))) (sym h)) answered

pub none_answered : (env : Environment) (line : ℕ) (e : text.Expr) (j : Judged Typed) (fs : List code_formal.Formal)
    (r : Result code_argument.Argument StaticFault) →
    fs ≡ [] → JudgedAnswers argument_of r (faults kind.Call line) → JudgedAnswers argument_of r (rule.argument env line e j (formals (map formal_of fs)))
none_answered env line e j fs r h answered = subst (λ xs. JudgedAnswers argument_of r (rule.argument env line e j (formals (map formal_of xs)))) (sym h)
    answered
