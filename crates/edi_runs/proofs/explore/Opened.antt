-- What the branches of a text use outside critical phases, by the symbols of the text.
use Rattle.std.proofs.Common.{◌≡◌, ℕ, true, false, List, Result, Ok, Err, sym, subst, ◌∙◌}
use Rattle.std.proofs.lemmas.Bool.{true≢false}
use Rattle.std.specs.Bool.{Decides}
use Rattle.edi_calls.specs.State.{State}
use Rattle.edi_lex.specs.declared.symbol.Mark.{Mark}
use Rattle.edi_lex.specs.declared.fault.LexFault.{LexFault}
use Rattle.edi_lex.specs.Symbols.{symbols_of}
use Rattle.edi_tree.specs.Tree.{Program}
use Rattle.edi_unit.specs.Tree.{ProgramUnit}
use Rattle.edi_static.specs.Programs.{Resolved}
use Rattle.edi_sights.specs.named.Naming.{names_of}
use Rattle.edi_disjoint.specs.Open.{AreOpenUses, NoOpenUses, OpenUse}
use Rattle.edi_disjoint.specs.steps.Inner.{InnerStepsKeep}
use Rattle.edi_texts.specs.Texts.{AreAccepted, IsUnit}
use Rattle.edi_runs.specs.declared.explore.openness.Openness.{Openness}
use Rattle.edi_runs.specs.explore.Openness.{IsOpenness, IsTreeOf, open_of}
use Rattle.edi_runs.specs.explore.Orders.{AreUsedOpenly, HaveTree, OpenName, names_used}

-- ---- texts with the same symbols

used_of_symbols : (one other : List ℕ) (names : List OpenName) → symbols_of one ≡ symbols_of other → AreUsedOpenly one names → AreUsedOpenly other names
used_of_symbols one other names same u =
    let P : Result (List Mark × ℕ) LexFault → Type 0 = λ k. HaveTree k u.tree u.unit in
    record {
      tree = u.tree;
      unit = u.unit;
      known = subst P same u.known;
      uses = u.uses;
      uses_are = u.uses_are;
      names_are = u.names_are;
      some = u.some;
    }

pub openness_of_symbols : (one other : List ℕ) (unit : ProgramUnit) (openly : Openness) → symbols_of one ≡ symbols_of other → IsOpenness one unit openly →
    IsOpenness other unit openly
openness_of_symbols one other unit openly same o = record {
  keep = o.keep;
  names = λ some. used_of_symbols one other (open_of openly.names) same (o.names some);
}

-- ---- the tree of a text with a unit

have_tree : (k : Result (List Mark × ℕ) LexFault) (tree : Program) (unit : ProgramUnit) → IsTreeOf k tree → AreAccepted k unit → HaveTree k tree unit
have_tree (Err fault) tree unit t u = absurd t
have_tree (Ok known) tree unit t u =
    let same : u.tree ≡ tree = t.one u.tree u.tree_is.spells in (t, subst (λ x. Resolved x unit) same u.resolved)

used_openly : (text : List ℕ) (unit : ProgramUnit) (uses : List OpenUse) (names : List OpenName) → IsUnit text unit → AreOpenUses unit uses →
    ((tree : Program) × IsTreeOf (symbols_of text) tree × (names ≡ names_used (names_of tree) uses)) → (NoOpenUses unit → ⊥) → AreUsedOpenly text names
used_openly text unit uses names is are named some = record {
  tree = named.0;
  unit = unit;
  known = have_tree (symbols_of text) named.0 unit named.1 is;
  uses = uses;
  uses_are = are;
  names_are = named.2;
  some = some;
}

-- ---- what is told of it

module _ (text : List ℕ) (unit : ProgramUnit) (openly : Openness) where
  -- nothing is used so
  pub told_none : openly.none ≡ true → ((system : State) → InnerStepsKeep unit system) → IsOpenness text unit openly
  told_none none keep = record { keep = λ e. keep; names = λ e. absurd (true≢false (sym none ∙ e)) }

  -- these are used so
  pub told_used : openly.none ≡ false → IsUnit text unit → (uses : List OpenUse) → AreOpenUses unit uses →
      ((tree : Program) × IsTreeOf (symbols_of text) tree × (open_of openly.names ≡ names_used (names_of tree) uses)) → Decides false (NoOpenUses unit) →
      IsOpenness text unit openly
  told_used some is uses are named decides = record {
    keep = λ e. absurd (true≢false (sym e ∙ some));
    names = λ e. used_openly text unit uses (open_of openly.names) is are named (λ n. true≢false (sym (decides.1 n)));
  }
