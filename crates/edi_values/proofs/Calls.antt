-- Names before arguments.
use Rattle.std.proofs.Common.{◌≡◌, ℕ, ◌++◌, Result, refl, subst}
use Rattle.edi_tree.specs.Tree as text
use Rattle.edi_unit.specs.Headings.{heading_formals}
use Rattle.edi_unit.specs.Tree.{argument_then}
use Rattle.edi_unit.specs.Types.{shape_at}
use Rattle.edi_static.specs.declared.faults.StaticFault.{StaticFault}
use Rattle.edi_static.specs.declared.operands.Typed as code_typed
use Rattle.edi_static.specs.Answers.{JudgedAnswers}
use Rattle.edi_static.specs.Judged.{Judged, gives, faults, ◌>>=◌}
use Rattle.edi_static.specs.Environment.{Environment}
use Rattle.edi_static.specs.Fitting.{Called, constructs, calls, constructed, function_called, invoked, rest_of, takes_strings}
use Rattle.edi_static.specs.Expressions as rule
use Rattle.edi_static.specs.Views.{typed_of}
use Rattle.edi_values.specs.Parts.{construction, invocation}
use Rattle.edi_values.proofs.Behind.{bind_bind, bind_same}

-- a list of a first part and further ones, and what is made of it
listed_then : {A B C D : Type 0} (m : Judged A) (n : Judged B) (g : A → B → C) (k : C → Judged D) → ((m >>= λ a. n >>= λ b. gives (g a b)) >>= k)
    ≡ (m >>= λ a. n >>= λ b. k (g a b))
listed_then (gives a) n g k = bind_bind n (λ b. gives (g a b)) k
listed_then (faults why line) n g k = refl

construction_is : (env : Environment) (line of : ℕ) (xs : text.Args) → construction env line of xs ≡ rule.applied env line (constructs of) xs
construction_is env line of (text.args e es) =
    listed_then (rule.element env (takes_strings (shape_at env.types of)) e (rule.expression env e))
    (rule.more_elements env (takes_strings (shape_at env.types of)) es) (λ vs ws. vs ++ ws) (constructed env line of)

invocation_is : (env : Environment) (line : ℕ) (c : Called) (xs : text.Args) → invocation env line c xs ≡ rule.applied env line (calls c) xs
invocation_is env line c (text.args e es) =
    let fs = heading_formals c.asks in
    let first = rule.argument env line e (rule.expression env e) fs in
    let more = rule.more_arguments env line es (rest_of fs) in
    bind_same (function_called line c (rule.args_count (text.args e es)))
    (λ _. rule.all_arguments env line (text.args e es) fs >>= λ ys. gives (invoked line c ys))
    (λ _. first >>= λ a. more >>= λ ys. gives (invoked line c (argument_then a ys)))
    (λ _. listed_then first more (λ a ys. argument_then a ys) (λ ys. gives (invoked line c ys)))

-- what is answered for a constructor or a function is answered for its name before arguments
pub construction_answered : (env : Environment) (line of : ℕ) (xs : text.Args) (result : Result code_typed.Typed StaticFault) →
    JudgedAnswers typed_of result (construction env line of xs) → JudgedAnswers typed_of result (rule.applied env line (constructs of) xs)
construction_answered env line of xs result answered = subst (λ m. JudgedAnswers typed_of result m) (construction_is env line of xs) answered

pub invocation_answered : (env : Environment) (line : ℕ) (c : Called) (xs : text.Args) (result : Result code_typed.Typed StaticFault) →
    JudgedAnswers typed_of result (invocation env line c xs) → JudgedAnswers typed_of result (rule.applied env line (calls c) xs)
invocation_answered env line c xs result answered = subst (λ m. JudgedAnswers typed_of result m) (invocation_is env line c xs) answered
