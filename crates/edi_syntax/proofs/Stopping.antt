-- Where the parsing of a whole program ends.
use Rattle.std.proofs.Common.{◌≡◌, ℕ, ◌<◌, ◌≤◌, ◌^◌, List, [], ◌∷◌, ◌++◌, length, Option, Some, None, Bool, true, false, ◌&&◌, refl, ap, ◌∙◌, subst, arith}
use Rattle.std.proofs.lemmas.List.Sums.{sum_by-cons}
use Rattle.edi_lex.specs.declared.symbol.Symbol.{Symbol}
use Rattle.edi_lex.specs.declared.symbol.Symbol.TheVariants as is
use Rattle.edi_lex.specs.declared.symbol.Mark.{Mark}
use Rattle.edi_lex.specs.Order.{is_orderly, size_of, extent}
use Rattle.edi_lex.specs.Spelled.{is_spelled, are_spelled}
use Rattle.edi_tree.specs.Tree.{Program}
use Rattle.edi_tree.specs.Stands.{StandAsMarks}
use Rattle.edi_tree.specs.Spells.{Spells, to_end, IsBounded}
use Rattle.edi_tree.specs.Levels.{Element, marks_among, elements}
use Rattle.edi_grammar.specs.Grammar.{token}
use Rattle.edi_grammar.specs.Parser.{complete, wrong, too_deep, Stops, done, taken, other}
use Rattle.edi_grammar.specs.Kinds as kind
use Rattle.edi_grammar.specs.Kind.{kind_of}
use Rattle.edi_grammar.specs.Rules as g
use Rattle.edi_grammar.specs.Edison.{edison, start}
use Rattle.edi_grammar.proofs.Start.{first_fault}
use Rattle.edi_grammar.specs.derivation.Faults.{somes, IsTheTree}
use Rattle.edi_grammar.proofs.derivation.Firsts.{misplaced, too_deep_at, whole_tree}
use Rattle.edi_phrases.specs.declared.stop.Stop.{Stop}
use Rattle.edi_phrases.specs.declared.stop.Stop.TheVariants as stop
use Rattle.edi_phrases.specs.Parses.{Passes}
use Rattle.edi_phrases.specs.Stopped.{HaltsAt}
use Rattle.edi_syntax.specs.Ends.{EndsWrong, EndsDeep, EndsAt}

-- ---- the cut

pub same_marks : (marks rest : List Mark) → to_end marks ≡ to_end rest → marks ≡ rest
same_marks [] [] e = refl
same_marks [] (m ∷ rest) e = cc
same_marks (m ∷ marks) [] e = cc
same_marks (m ∷ marks) (r ∷ rest) e =
    let heads : Some m ∷ to_end marks ≡ Some r ∷ to_end rest = e in
    let same : m ≡ r = cc in
    let less : to_end marks ≡ to_end rest = cc in
    ap (λ l. m ∷ l) (same_marks marks rest less) ∙ ap (λ m. m ∷ rest) same

cut_marks : (marks before rest : List Mark) → to_end marks ≡ somes before ++ to_end rest → marks ≡ before ++ rest
cut_marks marks [] rest e = same_marks marks rest e
cut_marks [] (b ∷ before) rest e = cc
cut_marks (m ∷ marks) (b ∷ before) rest e =
    let heads : Some m ∷ to_end marks ≡ Some b ∷ (somes before ++ to_end rest) = e in
    let same : m ≡ b = cc in
    let less : to_end marks ≡ somes before ++ to_end rest = cc in
    ap (λ l. m ∷ l) (cut_marks marks before rest less) ∙ ap (λ m. m ∷ (before ++ rest)) same

-- ---- the stops

ends_wrong : (marks rest : List Mark) → Stops edison 64 start (to_end marks) wrong (to_end rest) → EndsWrong marks rest
ends_wrong marks [] stops = let m = misplaced marks None [] stops in record { before = m.0; cut = cut_marks marks m.0 [] m.1; misplaced = m.2 }
ends_wrong marks (r ∷ rest) stops = let m = misplaced marks (Some r) (to_end rest) stops in
    record { before = m.0; cut = cut_marks marks m.0 (r ∷ rest) m.1; misplaced = m.2 }

-- the end of the text opens no level
end_not_deep : (words : List (Option Mark)) → Stops edison 64 start words too_deep (None ∷ []) → ⊥
end_not_deep words stops =
    let v = first_fault 64 words too_deep (None ∷ []) stops in
    let goes = v.lives.4 in
    let heads : None ∷ [] ≡ goes.0 ∷ goes.1 = goes.3 in
    let one : goes.0 ≡ None = cc in
    let deep = v.blocks None [] goes.2 v.lives.0 v.lives.2 refl (v.lives.3 ∙ ap (λ more. v.before ++ more) (goes.4 ∙ ap (λ o. o ∷ goes.2) one)) v.lives.5 in
    let no : false ≡ true = deep.4 in
    absurd (cc)

ends_deep : (marks rest : List Mark) → Stops edison 64 start (to_end marks) too_deep (to_end rest) → EndsDeep marks rest
ends_deep marks [] stops = absurd (end_not_deep (to_end marks) stops)
ends_deep marks (r ∷ rest) stops = let m = too_deep_at marks r (to_end rest) stops in
    record { before = m.0; m = r; more = rest; here = refl; cut = cut_marks marks m.0 (r ∷ rest) m.1; deep = m.2 }

-- a parser that halts in the program halts in the text
pub ends_at : (marks : List Mark) (e : Stop) → HaltsAt g.Program 0 marks e → EndsAt marks e
ends_at marks (stop.Fault rest) h = ends_wrong marks rest.now (h.at (token kind.End_of_text ∷ []) refl)
ends_at marks (stop.TooDeep rest) h = ends_deep marks rest.now (h.at (token kind.End_of_text ∷ []) refl)
ends_at marks stop.NoMemory h = tt

no_end : (s : Symbol) → kind_of s ≡ kind.End_of_text → ⊥
no_end (is.Chars []) e = cc
no_end (is.Chars (c ∷ [])) e = cc
no_end (is.Chars (c ∷ d ∷ more)) e = cc
no_end _ e = cc

-- what stands behind a program is misplaced
pub ends_behind : (f : List Element → List Element) (marks rest : List Mark) → Passes g.Program 0 f marks rest → 0 < length rest → EndsWrong marks rest
ends_behind f marks [] p some = absurd (omega (arith, some))
ends_behind f marks (r ∷ rest) p some = ends_wrong marks (r ∷ rest)
    (p.at (token kind.End_of_text ∷ []) wrong (to_end (r ∷ rest)) refl (other kind.End_of_text (Some r) [] (to_end rest) (no_end r.symbol)))

-- a program with nothing behind it is the tree
pub whole : (f : List Element → List Element) (marks rest : List Mark) (tree : Program) → Passes g.Program 0 f marks rest → length rest ≡ 0
    → f [] ≡ elements tree → IsTheTree marks tree
whole f marks (r ∷ rest) tree p none same = absurd (omega (arith, none))
whole f marks [] tree p none same =
    whole_tree marks tree (subst (λ es. StandAsMarks (marks_among es) marks) same (p.reads [] tt))
    (p.at (token kind.End_of_text ∷ []) complete [] refl (taken kind.End_of_text None [] [] [] complete refl (λ o. let no : false ≡ true = o in
    absurd (cc)) (done [])))

-- and the parser has read all
pub reads_all : (f : List Element → List Element) (marks rest : List Mark) → Passes g.Program 0 f marks rest → length rest ≡ 0
    → Stops edison 64 start (to_end marks) complete []
reads_all f marks (r ∷ rest) p none = absurd (omega (arith, none))
reads_all f marks [] p none =
    p.at (token kind.End_of_text ∷ []) complete [] refl (taken kind.End_of_text None [] [] [] complete refl (λ o. let no : false ≡ true = o in
    absurd (cc)) (done []))

-- ---- the symbols

has_size : (s : Symbol) → is_spelled s ≡ true → 1 ≤ size_of s
has_size (is.Chars []) e = cc
has_size (is.Chars (c ∷ more)) e = omega arith
has_size _ e = omega arith

-- there are no more symbols than their sizes make
pub few_marks : (marks : List Mark) → are_spelled marks ≡ true → length marks ≤ extent marks
few_marks [] e = omega arith
few_marks (m ∷ marks) e = omega (
  arith,
  sum_by-cons (λ (n : Mark). size_of n.symbol) m marks,
  has_size m.symbol (and_left (is_spelled m.symbol) (are_spelled marks) e),
  few_marks marks (and_right (is_spelled m.symbol) (are_spelled marks) e),
) where
  and_left : (a b : Bool) → a && b ≡ true → a ≡ true
  and_left true b e = refl
  and_left false b e = cc

  and_right : (a b : Bool) → a && b ≡ true → b ≡ true
  and_right true b e = e
  and_right false b e = cc

-- a tree that the symbols of a text spell is bounded
pub tree_is_bounded : (marks given : List Mark) (last : ℕ) (tree : Program) → given ≡ marks → IsTheTree given tree → are_spelled marks ≡ true
    → is_orderly 1 marks last ≡ true → extent marks ≤ 262144 → last < 2 ^ 16 → IsBounded tree
tree_is_bounded marks given last tree same t letters lines few small =
    record {
      marks = marks;
      last = last;
      spells = subst (λ l. Spells tree l) same t.spells;
      is_bounded = record { spelled = letters; orderly = lines; few = few; bounded = small };
    }
