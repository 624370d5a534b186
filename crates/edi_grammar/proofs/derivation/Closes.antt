-- What a rule reads fits the elements of the tree that it makes: one line for each rule.
use Rattle.std.proofs.Common.{◌≡◌, ℕ, zero, suc, List, [], ◌∷◌, ◌++◌, Option, refl, sym, subst}
use Rattle.edi_lex.specs.declared.symbol.Symbol.{Symbol}
use Rattle.edi_lex.specs.declared.symbol.Symbol.TheVariants as is
use Rattle.edi_lex.specs.declared.symbol.Mark.{Mark}
use Rattle.edi_tree.specs.Stands.{Spelled, on, just, name_mark, chars_mark, char_mark}
use Rattle.edi_tree.specs.Levels.{Element, mark, level_end, word, kept, named, branch_elements, conditions_elements, declarations_elements, list_elements}
use Rattle.edi_grammar.specs.Grammar as item
use Rattle.edi_grammar.specs.Grammar.{Part, token, part, closing}
use Rattle.edi_grammar.specs.Trees.{join, Builders, Built, Reads}
use Rattle.edi_grammar.specs.Kind.{kind_at}
use Rattle.edi_grammar.specs.Kinds as kind
use Rattle.edi_grammar.specs.Rules as g
use Rattle.edi_grammar.specs.Rules.{Sort, rules}
use Rattle.edi_grammar.specs.Edison.{edison}
use Rattle.edi_grammar.specs.derivation.Parts.{Tree, elements_of}
use Rattle.edi_grammar.specs.derivation.Fits.{Items, Fit}
use Rattle.edi_grammar.proofs.derivation.Builds.{line_in, name_in, value_in, char_in, chars_in, Ts, build}
use Rattle.edi_grammar.proofs.derivation.Stands.{StandsAt, IsOnly, word_at, kept_at, name_at, numeral_at, char_at, short_string_at, long_string_at, put}
use Rattle.edi_grammar.proofs.derivation.Splits.{constant_split, heading_split, statement_split, factor_split, branches_split}

-- the tree has the elements between these items and those
abbrev pub Span : (k : Sort) → Tree k → Items → Items → Type 0
Span k t items rest = (es : List Element) → Fit es rest → Fit (elements_of k t es) items

abbrev pub Spans : (x : List (Part Sort)) → Ts x → Items → Items → Type 0
Spans [] ts items rest = items ≡ rest
Spans (token a ∷ x) ts items rest = (mid : Items) × (items ≡ item.mark ts.0 ∷ mid) × (kind_at ts.0 ≡ a) × Spans x ts.1 mid rest
Spans (item.level_end ∷ x) ts items rest = (mid : Items) × (items ≡ closing ∷ mid) × Spans x ts mid rest
Spans (part k ∷ x) ts items rest = (mid : Items) × Span k ts.0 items mid × Spans x ts.1 mid rest

abbrev pub Closes : (k : Sort) (rules : List (List (Part Sort))) → Builders (Option Mark) Tree k rules → Type 0
Closes k [] b = Unit {0}
Closes k (rule ∷ more) b = ((us : Ts rule) (items rest : Items) → Spans rule us items rest → Span k (b.0 us) items rest) × Closes k more b.1

-- where these parts are read with these trees, what stands before the rest are the elements that f puts in front
record Holds (x : List (Part Sort)) (us : Ts x) (f : List Element → List Element) : Type 0 where
  pub go : (items rest : Items) → Spans x us items rest → (es : List Element) → Fit es rest → Fit (f es) items

ended : Holds [] tt (λ es. es)
ended = record { go = λ items rest h es fit. subst (λ l. Fit es l) (sym h) fit }

over : {a : ℕ} {x : List (Part Sort)} {us : Ts x} {f : List Element → List Element} (s : Spelled) (o : Option Mark) → (kind_at o ≡ a → StandsAt s o)
    → Holds x us f → Holds (token a ∷ x) (o, us) (λ es. mark s ∷ f es)
over {f = f} s o stands r = record { go = λ items rest h es fit. put s (f es) h.1 (stands h.2) (r.go h.0 rest h.3 es fit) }

over_end : {x : List (Part Sort)} {us : Ts x} {f : List Element → List Element} → Holds x us f → Holds (item.level_end ∷ x) us (λ es. level_end ∷ f es)
over_end r = record { go = λ items rest h es fit. (h.0, h.1, r.go h.0 rest h.2 es fit) }

over_part : {x : List (Part Sort)} {us : Ts x} {f : List Element → List Element} (j : Sort) (u : Tree j) → Holds x us f
    → Holds (part j ∷ x) (u, us) (λ es. elements_of j u (f es))
over_part {f = f} j u r = record { go = λ items rest h es fit. h.1 (f es) (r.go h.0 rest h.2 es fit) }

-- a symbol that is the only one of its kind, without its line and with it
over_word : {x : List (Part Sort)} {us : Ts x} {f : List Element → List Element} (w : Symbol) (a : ℕ) → IsOnly w a → (o : Option Mark) → Holds x us f
    → Holds (token (suc a) ∷ x) (o, us) (λ es. word w ∷ f es)
over_word w a only o r = over (just w) o (word_at w a only o) r

over_kept : {x : List (Part Sort)} {us : Ts x} {f : List Element → List Element} (w : Symbol) (a : ℕ) → IsOnly w a → (o : Option Mark) → Holds x us f
    → Holds (token (suc a) ∷ x) (o, us) (λ es. kept w (line_in o) ∷ f es)
over_kept w a only o r = over (on w (line_in o)) o (kept_at w a only o) r

over_name : {x : List (Part Sort)} {us : Ts x} {f : List Element → List Element} (o : Option Mark) → Holds x us f
    → Holds (token kind.Name ∷ x) (o, us) (λ es. named (name_in o) ∷ f es)
over_name o r = over (name_mark (name_in o)) o (name_at o) r

-- so, where f may ask for the trees
abbrev Closer : (x : List (Part Sort)) → (Ts x → List Element → List Element) → Type 0
Closer x f = (us : Ts x) (items rest : Items) → Spans x us items rest → (es : List Element) → Fit es rest → Fit (f us es) items

-- the rules that many parts have: none, one and two parts, a word whose line is kept, a word and two parts, and what an `if` and a `while` are
none : Closer [] (λ us es. es)
none us = ended.go

one : (j : Sort) → Closer (part j ∷ []) (λ us es. elements_of j us.0 es)
one j us = (over_part j us.0 ended).go

two : (j l : Sort) → Closer (part j ∷ part l ∷ []) (λ us es. elements_of j us.0 (elements_of l us.1.0 es))
two j l us = (over_part j us.0 (over_part l us.1.0 ended)).go

line_of : (w : Symbol) (a : ℕ) → IsOnly w a → Closer (token (suc a) ∷ []) (λ us es. kept w (line_in us.0) ∷ es)
line_of w a only us = (over_kept w a only us.0 ended).go

behind : (w : Symbol) (a : ℕ) → IsOnly w a → (j l : Sort)
    → Closer (token (suc a) ∷ part j ∷ part l ∷ []) (λ us es. word w ∷ elements_of j us.1.0 (elements_of l us.1.1.0 es))
behind w a only j l us = (over_word w a only us.0 (over_part j us.1.0 (over_part l us.1.1.0 ended))).go

guarded : (w : Symbol) (a : ℕ) → IsOnly w a → Closer (token (suc a) ∷ part g.Conditions ∷ token kind.End ∷ item.level_end ∷ [])
    (λ us es. word w ∷ conditions_elements us.1.0 (word is.End ∷ level_end ∷ es))
guarded w a only us = (over_word w a only us.0 (over_part g.Conditions us.1.0 (over_word is.End 13 (λ t c v. refl) us.1.1.0 (over_end ended)))).go

pub closes : (k : Sort) → Closes k (rules k) (build k)
closes g.Program = (two g.Globals g.Procedure, tt)
closes g.Globals = (two g.Global g.Globals, (none, tt))
closes g.Global = (one g.ConstList, (one g.TypeDecl, tt))
closes g.ConstList = (behind is.Const 9 (λ t c v. refl) g.ConstDecl g.ConstDecls, tt)
closes g.ConstDecls = (behind is.Semicolon 44 (λ t c v. refl) g.ConstDecl g.ConstDecls, (none, tt))
closes g.ConstDecl = ((λ us. (over_name us.0 (over_word is.Equal 32 (λ t c v. refl) us.1.0 (over_part g.Constant us.1.1.0 ended))).go), tt)
closes g.Constant = (
  (λ us. (over (just (is.Numeral (value_in us.0))) us.0 (numeral_at us.0) ended).go),
  (
    (λ us. (over (char_mark (char_in us.0)) us.0 (char_at us.0) ended).go),
    (
      (λ us items rest h es fit. subst (λ l. Fit l items) (sym (constant_split (name_in us.0) us.1.0 es))
          ((over_name us.0 (over_part g.Code us.1.0 ended)).go items rest h es fit)),
      tt,
    ),
  ),
)
closes g.Code = (
  (λ us. (over_word is.Open 46 (λ t c v. refl) us.0 (over (just (is.Numeral (value_in us.1.0))) us.1.0 (numeral_at us.1.0)
      (over_word is.Close 47 (λ t c v. refl) us.1.1.0 (over_end ended)))).go),
  (none, tt),
)
closes g.TypeDecl = (
  (λ us. (over_word is.Enum 14 (λ t c v. refl) us.0 (over_name us.1.0 (over_word is.Open 46 (λ t c v. refl) us.1.1.0
      (over_name us.1.1.1.0 (over_part g.Names us.1.1.1.1.0 (over_word is.Close 47 (λ t c v. refl) us.1.1.1.1.1.0 (over_end ended))))))).go),
  (
    (λ us. (over_word is.Record 25 (λ t c v. refl) us.0 (over_name us.1.0 (over_word is.Open 46 (λ t c v. refl) us.1.1.0
        (over_part g.Group us.1.1.1.0 (over_part g.Groups us.1.1.1.1.0 (over_word is.Close 47 (λ t c v. refl) us.1.1.1.1.1.0 (over_end ended))))))).go),
    (
      (λ us. (over_word is.Array 6 (λ t c v. refl) us.0 (over_name us.1.0 (over_kept is.OpenBracket 48 (λ t c v. refl) us.1.1.0
          (over_part g.Constant us.1.1.1.0 (over_word is.Colon 41 (λ t c v. refl) us.1.1.1.1.0 (over_part g.Constant us.1.1.1.1.1.0
          (over_word is.CloseBracket 49 (λ t c v. refl) us.1.1.1.1.1.1.0 (over_end (over_word is.Open 46 (λ t c v. refl) us.1.1.1.1.1.1.1.0
          (over_name us.1.1.1.1.1.1.1.1.0 (over_word is.Close 47 (λ t c v. refl) us.1.1.1.1.1.1.1.1.1.0 (over_end ended)))))))))))).go),
      (
        (λ us. (over_word is.Set 26 (λ t c v. refl) us.0 (over_name us.1.0 (over_word is.Open 46 (λ t c v. refl) us.1.1.0 (over_name us.1.1.1.0
            (over_word is.Close 47 (λ t c v. refl) us.1.1.1.1.0 (over_end ended)))))).go),
        tt,
      ),
    ),
  ),
)
closes g.Names = ((λ us. (over_word is.Comma 43 (λ t c v. refl) us.0 (over_name us.1.0 (over_part g.Names us.1.1.0 ended))).go), (none, tt))
closes g.Group = (
  (λ us. (over_name us.0 (over_part g.Names us.1.0 (over_word is.Colon 41 (λ t c v. refl) us.1.1.0 (over_name us.1.1.1.0 ended)))).go),
  tt,
)
closes g.Groups = (behind is.Semicolon 44 (λ t c v. refl) g.Group g.Groups, (none, tt))
closes g.VarList = (behind is.Var 29 (λ t c v. refl) g.Group g.Groups, tt)
closes g.Head = ((λ us. (over_name us.0 (over_part g.Params us.1.0 (over_part g.Result us.1.1.0 ended))).go), tt)
closes g.Params = (
  (λ us. (over_word is.Open 46 (λ t c v. refl) us.0 (over_part g.Param us.1.0 (over_part g.MoreParams us.1.1.0
      (over_word is.Close 47 (λ t c v. refl) us.1.1.1.0 (over_end ended))))).go),
  (none, tt),
)
closes g.MoreParams = (behind is.Semicolon 44 (λ t c v. refl) g.Param g.MoreParams, (none, tt))
closes g.Result = ((λ us. (over_word is.Colon 41 (λ t c v. refl) us.0 (over_name us.1.0 ended)).go), (none, tt))
closes g.Param = (
  (λ us. (over_word is.Var 29 (λ t c v. refl) us.0 (over_part g.Group us.1.0 ended)).go),
  (
    (λ us items rest h es fit. subst (λ l. Fit l items) (sym (heading_split us.1.0 (level_end ∷ es)))
        ((over_word is.Proc 24 (λ t c v. refl) us.0 (over_part g.Head us.1.0 (over_end ended))).go items rest h es fit)),
    (one g.Group, tt),
  ),
)
closes g.Procedure = (
  (λ us items rest h es fit. subst (λ l. Fit l items)
      (sym (heading_split us.1.0 (declarations_elements us.1.1.0
      (word is.Begin ∷ list_elements us.1.1.1.1.0 (kept is.End (line_in us.1.1.1.1.1.0) ∷ level_end ∷ es)))))
      ((over_word is.Proc 24 (λ t c v. refl) us.0 (over_part g.Head us.1.0 (over_part g.Declarations us.1.1.0
      (over_word is.Begin 7 (λ t c v. refl) us.1.1.1.0 (over_part g.StatementList us.1.1.1.1.0
      (over_kept is.End 13 (λ t c v. refl) us.1.1.1.1.1.0 (over_end ended))))))).go items rest h es fit)),
  tt,
)
closes g.Item = (
  one g.ConstList,
  (
    one g.TypeDecl,
    (
      one g.VarList,
      (
        (λ us items rest h es fit. subst (λ l. Fit (word is.Pre ∷ l) items) (sym (heading_split us.1.1.0 (level_end ∷ es)))
            ((over_word is.Pre 23 (λ t c v. refl) us.0 (over_word is.Proc 24 (λ t c v. refl) us.1.0 (over_part g.Head us.1.1.0 (over_end ended)))).go
            items rest h es fit)),
        ((λ us. (over_word is.Post 22 (λ t c v. refl) us.0 (over_part g.Procedure us.1.0 ended)).go), (one g.Procedure, tt)),
      ),
    ),
  ),
)
closes g.Module = (
  (λ us. (over_word is.Module 19 (λ t c v. refl) us.0 (over_part g.Members us.1.0 (over_word is.Begin 7 (λ t c v. refl) us.1.1.0
      (over_part g.StatementList us.1.1.1.0 (over_word is.End 13 (λ t c v. refl) us.1.1.1.1.0 (over_end ended)))))).go),
  tt,
)
closes g.Member = (
  (λ us. (over_word is.Star 40 (λ t c v. refl) us.0 (over_part g.Item us.1.0 ended)).go),
  (one g.Module, (one g.Item, tt)),
)
closes g.Members = (two g.Member g.Members, (none, tt))
closes g.Declaration = (one g.Module, (one g.Item, tt))
closes g.Declarations = (two g.Declaration g.Declarations, (none, tt))
closes g.StatementList = (two g.Statement g.Statements, tt)
closes g.Statements = (behind is.Semicolon 44 (λ t c v. refl) g.Statement g.Statements, (none, tt))
closes g.Statement = (
  (λ us. (over_word is.Skip 27 (λ t c v. refl) us.0 ended).go),
  (
    (λ us items rest h es fit. subst (λ l. Fit l items) (sym (statement_split (name_in us.0) us.1.0 es))
        ((over_name us.0 (over_part g.After us.1.0 ended)).go items rest h es fit)),
    (
      (λ us. (over_word is.Val 28 (λ t c v. refl) us.0 (over_name us.1.0 (over_part g.Selectors us.1.1.0
          (over_kept is.Becomes 42 (λ t c v. refl) us.1.1.1.0 (over_part g.Expr us.1.1.1.1.0 ended))))).go),
      (
        guarded is.If 15 (λ t c v. refl),
        (
          guarded is.While 31 (λ t c v. refl),
          (
            (λ us. (over_kept is.When 30 (λ t c v. refl) us.0 (over_part g.Conditions us.1.0 (over_word is.End 13 (λ t c v. refl) us.1.1.0
                (over_end ended)))).go),
            (
              (λ us items rest h es fit. subst (λ l. Fit (kept is.Cobegin (line_in us.0) ∷ branch_elements us.1.0 l) items)
                  (sym (branches_split us.1.1.0 es))
                  ((over_kept is.Cobegin 8 (λ t c v. refl) us.0 (over_part g.Branch us.1.0 (over_part g.Branches us.1.1.0 (over_end ended)))).go
                  items rest h es fit)),
              tt,
            ),
          ),
        ),
      ),
    ),
  ),
)
closes g.After = (
  one g.Args,
  (
    (λ us. (over_part g.Selectors us.0 (over_kept is.Becomes 42 (λ t c v. refl) us.1.0 (over_part g.Expr us.1.1.0 ended))).go),
    (none, tt),
  ),
)
closes g.Args = (
  (λ us. (over_word is.Open 46 (λ t c v. refl) us.0 (over_part g.Expr us.1.0 (over_part g.Exprs us.1.1.0
      (over_word is.Close 47 (λ t c v. refl) us.1.1.1.0 (over_end ended))))).go),
  tt,
)
closes g.Exprs = (behind is.Comma 43 (λ t c v. refl) g.Expr g.Exprs, (none, tt))
closes g.Selectors = (two g.Selector g.Selectors, (none, tt))
closes g.Selector = (
  (λ us. (over_kept is.Period 45 (λ t c v. refl) us.0 (over_name us.1.0 ended)).go),
  (
    (λ us. (over_kept is.OpenBracket 48 (λ t c v. refl) us.0 (over_part g.Expr us.1.0 (over_word is.CloseBracket 49 (λ t c v. refl) us.1.1.0
        (over_end ended)))).go),
    tt,
  ),
)
closes g.Conditions = (two g.Condition g.Else, tt)
closes g.Condition = ((λ us. (over_part g.Expr us.0 (over_kept is.Do 11 (λ t c v. refl) us.1.0 (over_part g.StatementList us.1.1.0 ended))).go), tt)
closes g.Else = (behind is.Else 12 (λ t c v. refl) g.Condition g.Else, (none, tt))
closes g.Branch = ((λ us. (over_part g.Constant us.0 (over_kept is.Do 11 (λ t c v. refl) us.1.0 (over_part g.StatementList us.1.1.0 ended))).go), tt)
closes g.Branches = (
  (λ us. (over_kept is.Also 4 (λ t c v. refl) us.0 (over_part g.Branch us.1.0 (over_part g.Branches us.1.1.0 ended))).go),
  (line_of is.End 13 (λ t c v. refl), tt),
)
closes g.Expr = (two g.Simple g.Comparison, tt)
closes g.Comparison = (two g.Relation g.Simple, (none, tt))
closes g.Relation = (
  line_of is.Equal 32 (λ t c v. refl),
  (
    line_of is.NotEqual 33 (λ t c v. refl),
    (
      line_of is.Less 34 (λ t c v. refl),
      (
        line_of is.AtMost 35 (λ t c v. refl),
        (
          line_of is.Greater 36 (λ t c v. refl),
          (line_of is.AtLeast 37 (λ t c v. refl), (line_of is.In 16 (λ t c v. refl), tt)),
        ),
      ),
    ),
  ),
)
closes g.Simple = ((λ us. (over_part g.Sign us.0 (over_part g.Term us.1.0 (over_part g.Addends us.1.1.0 ended))).go), tt)
closes g.Sign = (line_of is.Plus 38 (λ t c v. refl), (line_of is.Minus 39 (λ t c v. refl), (none, tt)))
closes g.Addends = (two g.Addend g.Addends, (none, tt))
closes g.Addend = (two g.Addition g.Term, tt)
closes g.Addition = (line_of is.Plus 38 (λ t c v. refl), (line_of is.Minus 39 (λ t c v. refl), (line_of is.Or 21 (λ t c v. refl), tt)))
closes g.Term = (two g.Factor g.Multipliers, tt)
closes g.Multipliers = (two g.Multiplier g.Multipliers, (none, tt))
closes g.Multiplier = (two g.Multiplication g.Factor, tt)
closes g.Multiplication = (
  line_of is.Star 40 (λ t c v. refl),
  (
    line_of is.Div 10 (λ t c v. refl),
    (line_of is.Mod 18 (λ t c v. refl), (line_of is.And 5 (λ t c v. refl), tt)),
  ),
)
closes g.Factor = (
  (λ us. (over (just (is.Numeral (value_in us.0))) us.0 (numeral_at us.0) ended).go),
  (
    (λ us. (over (chars_mark (chars_in us.0)) us.0 (short_string_at us.0) ended).go),
    (
      (λ us. (over (chars_mark (chars_in us.0)) us.0 (long_string_at us.0) ended).go),
      (
        (λ us. (over_kept is.Not 20 (λ t c v. refl) us.0 (over_part g.Factor us.1.0 (over_end ended))).go),
        (
          (λ us. (over_word is.Open 46 (λ t c v. refl) us.0 (over_part g.Expr us.1.0 (over_word is.Close 47 (λ t c v. refl) us.1.1.0
              (over_end ended)))).go),
          (
            (λ us items rest h es fit. subst (λ l. Fit l items) (sym (factor_split (name_in us.0) us.1.0 es))
                ((over_name us.0 (over_part g.Behind us.1.0 ended)).go items rest h es fit)),
            ((λ us. (over_word is.Val 28 (λ t c v. refl) us.0 (over_name us.1.0 (over_part g.Selectors us.1.1.0 ended))).go), tt),
          ),
        ),
      ),
    ),
  ),
)
closes g.Behind = (one g.Args, (one g.Selectors, tt))

spans_split : (x y : List (Part Sort)) (us : Ts x) (ts : Ts y) (items rest : Items) → Spans (x ++ y) (join (Option Mark) Tree x y us ts) items rest
    → (mid : Items) × Spans x us items mid × Spans y ts mid rest
spans_split [] y us ts items rest h = (items, refl, h)
spans_split (token a ∷ x) y us ts items rest h = let d = spans_split x y us.1 ts h.0 rest h.3 in (d.0, (h.0, h.1, h.2, d.1), d.2)
spans_split (item.level_end ∷ x) y us ts items rest h = let d = spans_split x y us ts h.0 rest h.2 in (d.0, (h.0, h.1, d.1), d.2)
spans_split (part k ∷ x) y us ts items rest h = let d = spans_split x y us.1 ts h.0 rest h.2 in (d.0, (h.0, h.1, d.1), d.2)

close_at : (k : Sort) (rules : List (List (Part Sort))) (b : Builders (Option Mark) Tree k rules) → Closes k rules b
    → (i : ℕ) (t : Tree k) (P : (x : List (Part Sort)) → Ts x → Type 0) (items : Items) (R : Items → Type 0)
    → ((rule : List (Part Sort)) (us : Ts rule) → P rule us → (mid : Items) × Spans rule us items mid × R mid) → Built (Option Mark) Tree k rules b i t P
    → (mid : Items) × Span k t items mid × R mid
close_at k [] b c i t P items R all h = absurd h
close_at k (rule ∷ more) b c zero t P items R all h =
    let d = all rule h.0 h.2 in
    (d.0, subst (λ t. Span k t items d.0) (sym h.1) (c.0 h.0 items d.0 d.1), d.2)
close_at k (rule ∷ more) b c (suc i) t P items R all h = close_at k more b.1 c.1 i t P items R all h

pub sound : (n : ℕ) (x : List (Part Sort)) (items : Items) (ts : Ts x) → Reads edison Tree build n x items ts → Spans x ts items []
sound zero x items ts d = absurd d
sound (suc n) [] items ts d = d
sound (suc n) (token a ∷ x) items ts d = (d.0, d.1, d.2, sound n x d.0 ts.1 d.3)
sound (suc n) (item.level_end ∷ x) items ts d = (d.0, d.1, sound n x d.0 ts d.2)
sound (suc n) (part k ∷ x) items ts d =
    close_at k (rules k) (build k) (closes k) d.0 ts.0 (λ rule us. Reads edison Tree build n (rule ++ x) items (join (Option Mark) Tree rule x us ts.1))
    items (λ mid. Spans x ts.1 mid [])
    (λ rule us p. spans_split rule x us ts.1 items [] (sound n (rule ++ x) items (join (Option Mark) Tree rule x us ts.1) p)) d.1
