-- One construct more of a list, behind those that are judged already.
use Rattle.std.proofs.Common.{◌≡◌, ℕ, Bool, List, [], ◌∷◌, ◌++◌, Option, Some, None, Result, refl, ap, sym, ◌∙◌, subst}
use Rattle.std.proofs.lemmas.List.{append_assoc}
use Rattle.edi_tree.specs.declared.expressions.Root.TheVariants as root
use Rattle.edi_tree.specs.declared.names.Name.{Name}
use Rattle.edi_tree.specs.Tree as text
use Rattle.edi_unit.specs.Tree as unit
use Rattle.edi_unit.specs.Headings.{Formals}
use Rattle.edi_static.specs.declared.faults.StaticKind.{StaticKind}
use Rattle.edi_static.specs.declared.faults.StaticFault.{StaticFault}
use Rattle.edi_static.specs.declared.operands.Typed as code_typed
use Rattle.edi_static.specs.Answers.{JudgedAnswers}
use Rattle.edi_static.specs.Views.{typed_of}
use Rattle.edi_static.specs.Judged.{Judged, gives, faults, ◌>>=◌}
use Rattle.edi_static.specs.Environment.{Environment}
use Rattle.edi_static.specs.Operators.{Typed}
use Rattle.edi_static.specs.Fitting.{Rooted, rest_of, name_of_factor}
use Rattle.edi_static.specs.Expressions as rule
use Rattle.edi_static.specs.Expressions.{Reached, located, loaded}
use Rattle.edi_values.specs.Parts.{behind, place_value}
use Rattle.edi_values.proofs.Behind.{behind_arguments, argument_more}

-- ---- arguments

pub argument_next : (env : Environment) (line : ℕ) (e : text.Expr) (more : text.Exprs) (fs : Formals) (a : unit.Argument) (xs : List unit.Argument) →
    rule.argument env line e (rule.expression env e) fs ≡ gives a →
    behind_arguments xs (rule.more_arguments env line (text.next_expr e more) fs) ≡ behind_arguments (xs ++ a ∷ [])
    (rule.more_arguments env line more (rest_of fs))
argument_next env line e more fs a xs h =
    ap (λ m. behind_arguments xs (m >>= λ x. rule.more_arguments env line more (rest_of fs) >>= λ ys. gives (unit.argument_then x ys))) h
    ∙ argument_more xs a (rule.more_arguments env line more (rest_of fs))

pub argument_fails : (env : Environment) (line : ℕ) (e : text.Expr) (more : text.Exprs) (fs : Formals) (xs : List unit.Argument) (why : StaticKind) (at : ℕ) →
    rule.argument env line e (rule.expression env e) fs ≡ faults why at →
    behind_arguments xs (rule.more_arguments env line (text.next_expr e more) fs) ≡ faults why at
argument_fails env line e more fs xs why at h =
    ap (λ m. behind_arguments xs (m >>= λ x. rule.more_arguments env line more (rest_of fs) >>= λ ys. gives (unit.argument_then x ys))) h

-- ---- parts of constructors

abbrev given : {A : Type 0} → A → Judged A → A
given a (gives b) = b
given a (faults why line) = a

abbrev Faulty : {A : Type 0} → Judged A → Type 0
Faulty (gives a) = ⊥
Faulty (faults why line) = Unit {0}

and_then : (m n : Judged (List Typed)) (vs ws : List Typed) → behind vs m ≡ gives ws →
    behind vs (m >>= λ us. n >>= λ more. gives (us ++ more)) ≡ behind ws n
and_then (gives us) (gives more) vs ws h = ap (λ xs. one xs) (sym (append_assoc vs us more) ∙ ap (λ xs. xs ++ more) (ap (given ws) h))
  where
    one : List Typed → Judged (List Typed)
    one xs = gives xs
and_then (gives us) (faults why line) vs ws h = refl
and_then (faults why line) n vs ws h = absurd (subst Faulty h tt)

or_fails : (m n : Judged (List Typed)) (vs : List Typed) (why : StaticKind) (line : ℕ) → behind vs m ≡ faults why line →
    behind vs (m >>= λ us. n >>= λ more. gives (us ++ more)) ≡ faults why line
or_fails (gives us) n vs why line h = absurd (subst Faulty (sym h) tt)
or_fails (faults why' at) n vs why line h = h

pub element_more : (env : Environment) (strings : Bool) (e : text.Expr) (more : text.Exprs) (vs ws : List Typed) →
    behind vs (rule.element env strings e (rule.expression env e)) ≡ gives ws →
    behind vs (rule.more_elements env strings (text.next_expr e more)) ≡ behind ws (rule.more_elements env strings more)
element_more env strings e more vs ws h = and_then (rule.element env strings e (rule.expression env e)) (rule.more_elements env strings more) vs ws h

pub element_fails : (env : Environment) (strings : Bool) (e : text.Expr) (more : text.Exprs) (vs : List Typed) (why : StaticKind) (line : ℕ) →
    behind vs (rule.element env strings e (rule.expression env e)) ≡ faults why line →
    behind vs (rule.more_elements env strings (text.next_expr e more)) ≡ faults why line
element_fails env strings e more vs why line h = or_fails (rule.element env strings e (rule.expression env e)) (rule.more_elements env strings more) vs why
    line h

-- ---- variables as values

abbrev IsNone : {A : Type 0} → Option A → Type 0
IsNone None = Unit {0}
IsNone (Some a) = ⊥

of_steps : (m : Judged Reached) (r : Rooted) → (m >>= λ steps. gives (loaded (located r steps)))
    ≡ ((m >>= λ steps. gives (located r steps)) >>= λ l. gives (loaded l))
of_steps (gives steps) r = refl
of_steps (faults why line) r = refl

of_place : (m : Judged Rooted) (f : Rooted → Judged Reached) →
    ((m >>= λ r. f r >>= λ steps. gives (located r steps)) >>= λ l. gives (loaded l)) ≡ (m >>= λ r. f r >>= λ steps. gives (loaded (located r steps)))
of_place (gives r) f = sym (of_steps (f r) r)
of_place (faults why line) f = refl

-- the name of a variable without selectors
abbrev whole_name : text.Variable → Option Name
whole_name v = name_of_factor (Some (text.variable_factor v))

whole_is : (env : Environment) (v : text.Variable) (name : Name) → Some name ≡ whole_name v → rule.alone env name ≡ rule.variable_value env v
whole_is env (text.variable (root.Name n) text.no_selector) name h = ap (λ o. alone_or env name o) h
  where
    alone_or : Environment → Name → Option Name → Judged Typed
    alone_or env name None = rule.alone env name
    alone_or env name (Some n) = rule.alone env n
whole_is env (text.variable (root.Name n) (text.next_selector s ss)) name h = absurd (subst IsNone (sym h) tt)
whole_is env (text.variable (root.Val n) ss) name h = absurd (subst IsNone (sym h) tt)

not_whole_is : (env : Environment) (v : text.Variable) → None ≡ whole_name v → place_value env v ≡ rule.variable_value env v
not_whole_is env (text.variable (root.Name n) text.no_selector) h = absurd (subst IsNone h tt)
not_whole_is env (text.variable (root.Name n) (text.next_selector s ss)) h = of_place (rule.rooted env (root.Name n))
    (λ r. rule.selectors env r.of (text.next_selector s ss))
not_whole_is env (text.variable (root.Val n) ss) h = of_place (rule.rooted env (root.Val n)) (λ r. rule.selectors env r.of ss)

pub whole : (env : Environment) (v : text.Variable) (name : Name) (result : Result code_typed.Typed StaticFault) → Some name ≡ whole_name v →
    JudgedAnswers typed_of result (rule.alone env name) → JudgedAnswers typed_of result (rule.variable_value env v)
whole env v name result h answered = subst (λ m. JudgedAnswers typed_of result m) (whole_is env v name h) answered

pub not_whole : (env : Environment) (v : text.Variable) (result : Result code_typed.Typed StaticFault) → None ≡ whole_name v →
    JudgedAnswers typed_of result (place_value env v) → JudgedAnswers typed_of result (rule.variable_value env v)
not_whole env v result h answered = subst (λ m. JudgedAnswers typed_of result m) (not_whole_is env v h) answered
