-- What stands at the first syntax fault of marks is not among what may stand there.
use Rattle.std.proofs.Common.{◌≡◌, ℕ, suc, ◌≤◌, ◌<◌, List, [], ◌∷◌, ◌++◌, Some, None, refl, sym, subst, ◌∙◌, arith, append_assoc}
use Rattle.std.proofs.lemmas.List.{append-nil}
use Rattle.edi_lex.specs.declared.symbol.Mark.{Mark}
use Rattle.edi_tree.specs.Spells.{ProgramBegins}
use Rattle.edi_tree.specs.Levels.{mark, elements, level_behind, Level}
use Rattle.edi_grammar.specs.Kind.{kind_of}
use Rattle.edi_grammar.specs.derivation.Fits.{Fit}
use Rattle.edi_grammar.specs.derivation.Faults.{somes, IsMisplaced, IsTooDeepAt}
use Rattle.edi_grammar.proofs.derivation.Programs.{items_for}
use Rattle.edi_explain.specs.expected.MayStand.{Begin, MayStand}
use Rattle.edi_explain.proofs.expected.Swaps.{split}
use Rattle.edi_explain.proofs.expected.OneKind.{cut_of, kind_decides, somes_both}
use Rattle.edi_explain.proofs.expected.Reaching.{to_end_somes}

-- where marks and one more begin a program, that one has a level in it
level_there : (before : List Mark) (m : Mark) → ProgramBegins (somes before ++ Some m ∷ []) → (level : ℕ) × Level before m level
level_there before m p =
    let items = items_for (elements p.0) p.1 p.3 in
    let s = split items.0 (somes before) (Some m) p.2 (items.2 ∙ p.4 ∙ append_assoc (somes before) (Some m ∷ []) p.2) in
    let c = cut_of (elements p.0) s.first m s.last before s.before (subst (λ l. Fit (elements p.0) l) s.cut items.1) in
    (level_behind 0 (c.before ++ mark c.s ∷ []), (p.0, c.before, c.s, c.after, c.cut, c.stand, c.stands, refl))

-- the symbol of the fault is of this kind, and one of the kind may stand there
again : (before : List Mark) (m : Mark) (a : ℕ) → kind_of m.symbol ≡ suc a → MayStand before (suc a) → Begin (before ++ m ∷ [])
again before m a k h = kind_decides before h.0 m (h.1 ∙ sym k) h.2

pub misplaced_may_not : (marks before : List Mark) (m : Mark) → IsMisplaced marks before (Some m) → (a : ℕ) → kind_of m.symbol ≡ suc a
    → MayStand before (suc a) → ⊥
misplaced_may_not marks before m w a k h =
    w.fails (subst (λ l. ProgramBegins l) (somes_both before (m ∷ [])) (again before m a k h).begins)

pub deep_may_not : (marks before : List Mark) (m : Mark) → IsTooDeepAt marks before m → (a : ℕ) → kind_of m.symbol ≡ suc a
    → MayStand before (suc a) → ⊥
deep_may_not marks before m w a k h =
    let at = level_there before m w.begins in
    let most : at.0 ≤ 64 = (again before m a k h).shallow before [] m at.0 refl w.opens_level at.1 in
    let more : 64 < at.0 = w.deep at.0 at.1 in
    absurd (omega (arith, most, more))

pub end_may_not : (marks before : List Mark) → IsMisplaced marks before None → MayStand before 0 → ⊥
end_may_not marks before w h = w.fails (h.0, before, [], h.1, to_end_somes before ∙ sym (append-nil (somes before ++ None ∷ [])))
