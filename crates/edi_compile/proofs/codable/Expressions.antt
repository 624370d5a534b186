-- What expressions, arguments and variables cost: at most 8 words for each mark, and their lines are those of their marks.
use Rattle.std.proofs.Common.{◌≡◌, ℕ, Bool, ◌==◌, List, ◌∷◌, ◌++◌, refl, arith}
use Rattle.edi_lex.specs.Order.{size_of}
use Rattle.edi_lex.specs.declared.symbol.Symbol.TheVariants as is
use Rattle.edi_tree.specs.declared.names.Name.{Name}
use Rattle.edi_tree.specs.declared.expressions.Relation.{Relation}
use Rattle.edi_tree.specs.declared.expressions.Relation.TheVariants as relation
use Rattle.edi_tree.specs.declared.expressions.Addition.{Addition}
use Rattle.edi_tree.specs.declared.expressions.Addition.TheVariants as addition
use Rattle.edi_tree.specs.declared.expressions.Multiplication.{Multiplication}
use Rattle.edi_tree.specs.declared.expressions.Multiplication.TheVariants as multiplication
use Rattle.edi_tree.specs.declared.expressions.Root.TheVariants as root
use Rattle.edi_tree.specs.Tree as text
use Rattle.edi_tree.specs.Stands.{Spelled, on, just, name_mark, relation_symbol, addition_symbol, multiplication_symbol}
use Rattle.edi_tree.specs.Spelled.{sign_then, expr_then}
use Rattle.edi_tree.specs.Spelled.{comparison_then, exprs_then, simple_then, addend_then, addends_then, term_then, multiplier_then, multipliers_then}
use Rattle.edi_tree.specs.Spelled.{factor_then, args_then, variable_then, selector_then, selectors_then}
use Rattle.edi_unit.specs.Types.{shape_at, bool_type}
use Rattle.edi_unit.specs.Tree as unit
use Rattle.edi_unit.specs.Headings.{Formals, heading_formals}
use Rattle.edi_static.specs.declared.faults.StaticKind.TheVariants as kind
use Rattle.edi_static.specs.Environment.{Environment, look_up}
use Rattle.edi_static.specs.Operators.{Typed, relation_operator, addition_operator, multiplication_operator, signed, operated}
use Rattle.edi_static.specs.Fitting.{Use, constructs, calls, halts, neither, use_of, rest_of, function_called, is_indexed_by, takes_strings}
use Rattle.edi_static.specs.Expressions.{Reached, Located, args_count, rooted, element, argument, expression, comparison, simple, addends, addend, term}
use Rattle.edi_static.specs.Expressions.{multipliers, multiplier, factor, applied, more_elements, more_arguments, variable_value, variable_place, selectors}
use Rattle.edi_static.specs.Expressions.{selector, all_arguments}
use Rattle.edi_static.proofs.Judging.{Gives, bind, behind, ruled, weaker}
use Rattle.edi_scheme.specs.Lines.{PlaceLines, PartsLines, ArgumentsLines}
use Rattle.edi_compile.proofs.codable.Front.{Lined, sign_front}
use Rattle.edi_compile.proofs.codable.Most.{place_most, parts_most, arguments_most}
use Rattle.edi_compile.proofs.codable.Costs.{Costs, Fine, LinkFine, LinksFine, PartFine, ListFine, ArgumentFine, within_marks, chained, linked, operated_fine}
use Rattle.edi_compile.proofs.codable.Costs.{signed_fine, single_fine, alone_fine, element_fine, both_fine, constructed_fine, argument_fine, field_fine}

abbrev pub PartsFine : List Spelled → List Spelled → Reached → Type 0
PartsFine a b r = Costs (PartsLines r.parts) (parts_most r.parts) a b

abbrev pub PlaceFine : List Spelled → List Spelled → Located → Type 0
PlaceFine a b l = Costs (PlaceLines l.at) (place_most l.at) a b

abbrev pub ArgumentsFine : List Spelled → List Spelled → unit.Arguments → Type 0
ArgumentsFine a b xs = Costs (ArgumentsLines xs) (arguments_most xs) a b

-- ---- operators are one mark

relation_one : (r : Relation) → size_of (relation_symbol r) ≡ 1
relation_one relation.Equal = refl
relation_one relation.NotEqual = refl
relation_one relation.Less = refl
relation_one relation.AtMost = refl
relation_one relation.Greater = refl
relation_one relation.AtLeast = refl
relation_one relation.In = refl

addition_one : (o : Addition) → size_of (addition_symbol o) ≡ 1
addition_one addition.Plus = refl
addition_one addition.Minus = refl
addition_one addition.Or = refl

multiplication_one : (o : Multiplication) → size_of (multiplication_symbol o) ≡ 1
multiplication_one multiplication.Star = refl
multiplication_one multiplication.Div = refl
multiplication_one multiplication.Mod = refl
multiplication_one multiplication.And = refl

module _ (env : Environment) where
  mutual
    pub expression_fine : (e : text.Expr) (more : List Spelled) → Lined (expr_then e more) → Gives (Fine (expr_then e more) more) (expression env e)
    expression_fine (text.expr s c) more h =
        let front : List Spelled = simple_then s (comparison_then c more) in
        bind (Fine front (comparison_then c more)) (Fine front more) (simple env s) _ (simple_fine s (comparison_then c more) h)
        (λ left k. comparison_fine left front c more k)

    comparison_fine : (left : Typed) (front : List Spelled) (c : text.Comparison) (more : List Spelled) → Fine front (comparison_then c more) left
        → Gives (Fine front more) (comparison env left c)
    comparison_fine left front text.no_comparison more h = h
    comparison_fine left front (text.compared r line s) more h =
        let behind_it : List Spelled = on (relation_symbol r) line ∷ simple_then s more in
        bind (Fine (simple_then s more) more) (Fine front more) (simple env s) _ (simple_fine s more h.lined.1) (λ right k.
        bind (LinkFine behind_it more) (Fine front more) (operated env.types (relation_operator r) line left.of right) _
        (operated_fine env.types (relation_operator r) line left.of right (relation_symbol r) (simple_then s more) more (relation_one r) h.lined.0 k) (λ l j.
        chained left.what (unit.link_then l.what unit.no_link) front behind_it more h
        (linked l.what unit.no_link behind_it more more j (record { lined = j.lined; lines = tt; fewer = omega arith }))))

    simple_fine : (s : text.Simple) (more : List Spelled) → Lined (simple_then s more) → Gives (Fine (simple_then s more) more) (simple env s)
    simple_fine (text.simple sign t ts) more h =
        let inner : List Spelled = term_then t (addends_then ts more) in
        let front : List Spelled = sign_then sign inner in
        bind (Fine inner (addends_then ts more)) (Fine front more) (term env t) _ (term_fine t (addends_then ts more) ((sign_front sign inner).lined h)) (λ v k.
        bind (Fine front (addends_then ts more)) (Fine front more) (signed sign v) _ (signed_fine sign v inner (addends_then ts more) h k) (λ first j.
        bind (LinksFine (addends_then ts more) more) (Fine front more) (addends env first.of ts) _ (addends_fine first.of ts more j.lined) (λ links i.
        chained first.what links.links front (addends_then ts more) more j i)))

    addends_fine : (left : ℕ) (ts : text.Addends) (more : List Spelled) → Lined (addends_then ts more) → Gives (LinksFine (addends_then ts more) more)
        (addends env left ts)
    addends_fine left text.no_addend more h = record { lined = h; lines = tt; fewer = omega arith }
    addends_fine left (text.next_addend a ts) more h =
        let front : List Spelled = addend_then a (addends_then ts more) in
        bind (LinkFine front (addends_then ts more)) (LinksFine front more) (addend env left a) _ (addend_fine left a (addends_then ts more) h) (λ l k.
        bind (LinksFine (addends_then ts more) more) (LinksFine front more) (addends env l.of ts) _ (addends_fine l.of ts more k.lined) (λ ls j.
        linked l.what ls.links front (addends_then ts more) more k j))

    addend_fine : (left : ℕ) (a : text.Addend) (more : List Spelled) → Lined (addend_then a more) → Gives (LinkFine (addend_then a more) more)
        (addend env left a)
    addend_fine left (text.addend o line t) more h =
        bind (Fine (term_then t more) more) (LinkFine (on (addition_symbol o) line ∷ term_then t more) more) (term env t) _ (term_fine t more h.1) (λ v k.
        operated_fine env.types (addition_operator o) line left v (addition_symbol o) (term_then t more) more (addition_one o) h.0 k)

    term_fine : (t : text.Term) (more : List Spelled) → Lined (term_then t more) → Gives (Fine (term_then t more) more) (term env t)
    term_fine (text.term f ms) more h =
        let front : List Spelled = factor_then f (multipliers_then ms more) in
        bind (Fine front (multipliers_then ms more)) (Fine front more) (factor env f) _ (factor_fine f (multipliers_then ms more) h) (λ first k.
        bind (LinksFine (multipliers_then ms more) more) (Fine front more) (multipliers env first.of ms) _ (multipliers_fine first.of ms more k.lined)
        (λ links i.
        chained first.what links.links front (multipliers_then ms more) more k i))

    multipliers_fine : (left : ℕ) (ms : text.Multipliers) (more : List Spelled) → Lined (multipliers_then ms more)
        → Gives (LinksFine (multipliers_then ms more) more) (multipliers env left ms)
    multipliers_fine left text.no_multiplier more h = record { lined = h; lines = tt; fewer = omega arith }
    multipliers_fine left (text.next_multiplier m ms) more h =
        let front : List Spelled = multiplier_then m (multipliers_then ms more) in
        bind (LinkFine front (multipliers_then ms more)) (LinksFine front more) (multiplier env left m) _
        (multiplier_fine left m (multipliers_then ms more) h) (λ l k.
        bind (LinksFine (multipliers_then ms more) more) (LinksFine front more) (multipliers env l.of ms) _ (multipliers_fine l.of ms more k.lined) (λ ls j.
        linked l.what ls.links front (multipliers_then ms more) more k j))

    multiplier_fine : (left : ℕ) (m : text.Multiplier) (more : List Spelled) → Lined (multiplier_then m more) → Gives (LinkFine (multiplier_then m more) more)
        (multiplier env left m)
    multiplier_fine left (text.multiplier o line f) more h =
        bind (Fine (factor_then f more) more) (LinkFine (on (multiplication_symbol o) line ∷ factor_then f more) more) (factor env f) _
        (factor_fine f more h.1) (λ v k.
        operated_fine env.types (multiplication_operator o) line left v (multiplication_symbol o) (factor_then f more) more (multiplication_one o) h.0 k)

    factor_fine : (f : text.Factor) (more : List Spelled) → Lined (factor_then f more) → Gives (Fine (factor_then f more) more) (factor env f)
    factor_fine (text.numeral n) more h = record { lined = h.1; lines = tt; fewer = omega arith }
    factor_fine (text.string s) more h = single_fine s more h
    factor_fine (text.not_factor line f) more h =
        let front : List Spelled = on is.Not line ∷ factor_then f more in
        bind (Fine (factor_then f more) more) (Fine front more) (factor env f) _ (factor_fine f more h.1) (λ v k.
        ruled (Fine front more) (v.of == bool_type) kind.Types line _ (λ e. record { lined = k.lined; lines = k.lines; fewer = omega (arith, k.fewer) }))
    factor_fine (text.parenthesized e) more h =
        weaker (Fine (expr_then e (just is.Close ∷ more)) (just is.Close ∷ more)) (Fine (just is.Open ∷ expr_then e (just is.Close ∷ more)) more)
        (expression env e) (λ v k. within_marks k)
        (expression_fine e (just is.Close ∷ more) h.1)
    factor_fine (text.call_factor name xs) more h =
        behind (Fine (name_mark name ∷ args_then xs more) more) (look_up env name) _ (λ means. applied_fine name (use_of env means) xs more h)
    factor_fine (text.variable_factor v) more h = value_fine v more h

    applied_fine : (name : Name) (u : Use) (xs : text.Args) (more : List Spelled) → Lined (name_mark name ∷ args_then xs more)
        → Gives (Fine (name_mark name ∷ args_then xs more) more) (applied env name.line u xs)
    applied_fine name (constructs of) (text.args e es) more h =
        let strings = takes_strings (shape_at env.types of) in
        let last : List Spelled = just is.Close ∷ more in
        let inner : List Spelled = just is.Open ∷ expr_then e (exprs_then es last) in
        let front : List Spelled = name_mark name ∷ inner in
        bind (ListFine inner (exprs_then es last)) (Fine front more) (element env strings e (expression env e)) _
        (element_fine env e (expression env e) inner (exprs_then es last) (omega arith) h.1.1 (expression_fine e (exprs_then es last) h.1.1) strings) (λ vs k.
        bind (ListFine (exprs_then es last) last) (Fine front more) (more_elements env strings es) _ (elements_fine strings es last k.lined) (λ ws j.
        constructed_fine env name of (vs ++ ws) (just is.Close) inner more h.0 (both_fine vs ws inner (exprs_then es last) last k j)))
    applied_fine name (calls c) (text.args e es) more h =
        let last : List Spelled = just is.Close ∷ more in
        let inner : List Spelled = expr_then e (exprs_then es last) in
        let front : List Spelled = name_mark name ∷ just is.Open ∷ inner in
        behind (Fine front more) (function_called name.line c (args_count (text.args e es))) _ (λ r.
        bind (ArgumentFine inner (exprs_then es last)) (Fine front more) (argument env name.line e (expression env e) (heading_formals c.asks)) _
        (argument_fine env name.line e (expression env e) (heading_formals c.asks) (exprs_then es last) h.1.1 (expression_fine e (exprs_then es last) h.1.1))
        (λ x k.
        bind (ArgumentsFine (exprs_then es last) last) (Fine front more) (more_arguments env name.line es (rest_of (heading_formals c.asks))) _
        (more_arguments_fine name.line es (rest_of (heading_formals c.asks)) last k.lined) (λ xs j.
        record { lined = j.lined.1; lines = (h.0, (k.lines, j.lines)); fewer = omega (arith, k.fewer, j.fewer) })))
    applied_fine name halts (text.args e es) more h = tt
    applied_fine name neither (text.args e es) more h = tt

    elements_fine : (strings : Bool) (es : text.Exprs) (more : List Spelled) → Lined (exprs_then es more) → Gives (ListFine (exprs_then es more) more)
        (more_elements env strings es)
    elements_fine strings text.no_expr more h = record { lined = h; lines = tt; fewer = omega arith }
    elements_fine strings (text.next_expr e es) more h =
        let front : List Spelled = just is.Comma ∷ expr_then e (exprs_then es more) in
        bind (ListFine front (exprs_then es more)) (ListFine front more) (element env strings e (expression env e)) _
        (element_fine env e (expression env e) front (exprs_then es more) (omega arith) h.1 (expression_fine e (exprs_then es more) h.1) strings) (λ vs k.
        bind (ListFine (exprs_then es more) more) (ListFine front more) (more_elements env strings es) _ (elements_fine strings es more k.lined) (λ ws j.
        both_fine vs ws front (exprs_then es more) more k j))

    more_arguments_fine : (line : ℕ) (es : text.Exprs) (fs : Formals) (more : List Spelled) → Lined (exprs_then es more)
        → Gives (ArgumentsFine (exprs_then es more) more) (more_arguments env line es fs)
    more_arguments_fine line text.no_expr fs more h = record { lined = h; lines = tt; fewer = omega arith }
    more_arguments_fine line (text.next_expr e es) fs more h =
        let inner : List Spelled = expr_then e (exprs_then es more) in
        let front : List Spelled = just is.Comma ∷ inner in
        bind (ArgumentFine inner (exprs_then es more)) (ArgumentsFine front more) (argument env line e (expression env e) fs) _
        (argument_fine env line e (expression env e) fs (exprs_then es more) h.1 (expression_fine e (exprs_then es more) h.1)) (λ x k.
        bind (ArgumentsFine (exprs_then es more) more) (ArgumentsFine front more) (more_arguments env line es (rest_of fs)) _
        (more_arguments_fine line es (rest_of fs) more k.lined) (λ xs j.
        record { lined = j.lined; lines = (k.lines, j.lines); fewer = omega (arith, k.fewer, j.fewer) }))

    value_fine : (v : text.Variable) (more : List Spelled) → Lined (variable_then v more) → Gives (Fine (variable_then v more) more) (variable_value env v)
    value_fine (text.variable (root.Name name) text.no_selector) more h = alone_fine env name more h
    value_fine (text.variable (root.Name name) (text.next_selector s ss)) more h =
        let inner : List Spelled = selectors_then (text.next_selector s ss) more in
        behind (Fine (name_mark name ∷ inner) more) (rooted env (root.Name name)) _ (λ r.
        bind (PartsFine inner more) (Fine (name_mark name ∷ inner) more) (selectors env r.of (text.next_selector s ss)) _
        (selectors_fine r.of (text.next_selector s ss) more h.1) (λ steps k. record { lined = k.lined; lines = k.lines; fewer = omega (arith, k.fewer) }))
    value_fine (text.variable (root.Val name) ss) more h =
        let front : List Spelled = just is.Val ∷ name_mark name ∷ selectors_then ss more in
        behind (Fine front more) (rooted env (root.Val name)) _ (λ r.
        bind (PartsFine (selectors_then ss more) more) (Fine front more) (selectors env r.of ss) _ (selectors_fine r.of ss more h.1.1) (λ steps k.
        record { lined = k.lined; lines = k.lines; fewer = omega (arith, k.fewer) }))

    selectors_fine : (of : ℕ) (ss : text.Selectors) (more : List Spelled) → Lined (selectors_then ss more) → Gives (PartsFine (selectors_then ss more) more)
        (selectors env of ss)
    selectors_fine of text.no_selector more h = record { lined = h; lines = tt; fewer = omega arith }
    selectors_fine of (text.next_selector s ss) more h =
        let front : List Spelled = selector_then s (selectors_then ss more) in
        bind (PartFine front (selectors_then ss more)) (PartsFine front more) (selector env of s) _ (selector_fine of s (selectors_then ss more) h) (λ p k.
        bind (PartsFine (selectors_then ss more) more) (PartsFine front more) (selectors env p.of ss) _ (selectors_fine p.of ss more k.lined) (λ steps j.
        record { lined = j.lined; lines = (k.lines, j.lines); fewer = omega (arith, k.fewer, j.fewer) }))

    selector_fine : (of : ℕ) (s : text.Selector) (more : List Spelled) → Lined (selector_then s more) → Gives (PartFine (selector_then s more) more)
        (selector env of s)
    selector_fine of (text.field line name) more h = field_fine env line of name more h
    selector_fine of (text.index line e) more h =
        let inner : List Spelled = expr_then e (just is.CloseBracket ∷ more) in
        let front : List Spelled = on is.OpenBracket line ∷ inner in
        bind (Fine inner (just is.CloseBracket ∷ more)) (PartFine front more) (expression env e) _ (expression_fine e (just is.CloseBracket ∷ more) h.1) (λ v k.
        ruled (PartFine front more) (is_indexed_by (shape_at env.types of) v.of) kind.Types line _ (λ r.
        record { lined = k.lined.1; lines = (h.0, k.lines); fewer = omega (arith, k.fewer) }))

  pub place_fine : (v : text.Variable) (more : List Spelled) → Lined (variable_then v more) → Gives (PlaceFine (variable_then v more) more)
      (variable_place env v)
  place_fine (text.variable (root.Name name) ss) more h =
      let front : List Spelled = name_mark name ∷ selectors_then ss more in
      behind (PlaceFine front more) (rooted env (root.Name name)) _ (λ r.
      bind (PartsFine (selectors_then ss more) more) (PlaceFine front more) (selectors env r.of ss) _ (selectors_fine r.of ss more h.1) (λ steps k.
      record { lined = k.lined; lines = k.lines; fewer = omega (arith, k.fewer) }))
  place_fine (text.variable (root.Val name) ss) more h =
      let front : List Spelled = just is.Val ∷ name_mark name ∷ selectors_then ss more in
      behind (PlaceFine front more) (rooted env (root.Val name)) _ (λ r.
      bind (PartsFine (selectors_then ss more) more) (PlaceFine front more) (selectors env r.of ss) _ (selectors_fine r.of ss more h.1.1) (λ steps k.
      record { lined = k.lined; lines = k.lines; fewer = omega (arith, k.fewer) }))

  pub arguments_fine : (line : ℕ) (xs : text.Args) (fs : Formals) (more : List Spelled) → Lined (args_then xs more)
      → Gives (ArgumentsFine (args_then xs more) more) (all_arguments env line xs fs)
  arguments_fine line (text.args e es) fs more h =
      let last : List Spelled = just is.Close ∷ more in
      let inner : List Spelled = expr_then e (exprs_then es last) in
      let front : List Spelled = just is.Open ∷ inner in
      bind (ArgumentFine inner (exprs_then es last)) (ArgumentsFine front more) (argument env line e (expression env e) fs) _
      (argument_fine env line e (expression env e) fs (exprs_then es last) h.1 (expression_fine e (exprs_then es last) h.1)) (λ x k.
      bind (ArgumentsFine (exprs_then es last) last) (ArgumentsFine front more) (more_arguments env line es (rest_of fs)) _
      (more_arguments_fine line es (rest_of fs) last k.lined) (λ xs j.
      record { lined = j.lined.1; lines = (k.lines, j.lines); fewer = omega (arith, k.fewer, j.fewer) }))
