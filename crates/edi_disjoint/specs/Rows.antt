-- Computed rows. Small programs, with their branches. The text of each stands in its comment, where `/` ends a line.
use Rattle.std.proofs.Common.{arith, ◌<◌, ◌⊎◌, inl, inr, suc, zero, subst, sym, ap, ◌∙◌}
use Rattle.std.specs.Prelude.{Contains, Option, Some, slice_index_or, ◌≡◌, ℕ, pos, Bool, true, false, ◌&&◌, ◌==◌, List, [], ◌∷◌, ◌++◌, None, refl}
use Rattle.edi_calls.specs.Names.{Name}
use Rattle.edi_unit.specs.declared.units.BlockKind.TheVariants as kind
use Rattle.edi_unit.specs.declared.units.Parameter.TheVariants as parameter
use Rattle.edi_unit.specs.Types.{standard_types}
use Rattle.edi_unit.specs.Need.{block_at}
use Rattle.edi_unit.specs.Values.{Value, ordinal, zero_value}
use Rattle.edi_meaning.specs.Store.{get}
use Rattle.edi_unit.specs.declared.expressions.Callee.TheVariants as callee
use Rattle.edi_unit.specs.declared.expressions.Operator.TheVariants as op
use Rattle.edi_unit.specs.Tree.{assign, by_variable, argument_then, call, cobegin, skip, when_act, no_argument, Act, Block, ProgramUnit}
use Rattle.edi_meaning.specs.Rows.{empty_system, list_of, one_clause, two, variable, value_of, number}
use Rattle.edi_meaning.specs.Step.{start}
use Rattle.edi_meaning.specs.Permitted.{Led, at, permitted}
use Rattle.edi_disjoint.specs.declared.mentions.Mention.TheVariants as mention
use Rattle.edi_disjoint.specs.Mentions.{in_acts}
use Rattle.edi_disjoint.specs.declared.mentions.Mention.{Mention}
use Rattle.edi_disjoint.specs.Footprints.{Variable, Mentions, Reach, itself, called, Named, Touches, outside, through, IsVarParameter, seen, written}
use Rattle.edi_disjoint.specs.Footprints.{CallsSystem, CallsParameter, NamesProgram, calls, passes, Disjoint}
use Rattle.edi_disjoint.specs.Open.{OpenMentions, OpenReach, NamesOpenly, UsesOpenly, outer_one, lent_one, handles, used, handled, open_unit}
use Rattle.edi_disjoint.specs.Report.{forks_in_order, report_of, pair_line}

abbrev pub block : (up : ℕ) → List ℕ → List Act → Block
block up variables body = record {
  kind = kind.Branch;
  up = up;
  result = None;
  parameters = [];
  variables = variables;
  need = 5;
  body = list_of body;
}

-- ---- three branches

-- proc main / var x, y: int / begin cobegin 1 do x := 1 also 2 do y := 2 also 3 do y := x end end
abbrev pub three_branches : ProgramUnit
three_branches = record {
  types = standard_types;
  blocks = record (block 0 (0 ∷ 0 ∷ []) (cobegin (1 ∷ 2 ∷ 3 ∷ []) 3 ∷ [])) { kind = kind.Program }
      ∷ block 0 [] (assign (variable 1 0) (number (pos 1)) ∷ [])
      ∷ block 0 [] (assign (variable 1 1) (number (pos 2)) ∷ [])
      ∷ block 0 [] (assign (variable 1 1) (value_of 1 0) ∷ []) ∷ [];
  program = 0;
  calls = [];
}

-- what stands in them
pub row_mentions_first : in_acts (block_at three_branches.blocks 1).body ≡ mention.Assigns 1 0 ∷ []
row_mentions_first = refl

pub row_mentions_third : in_acts (block_at three_branches.blocks 3).body ≡ mention.Assigns 1 1 ∷ mention.Reads 1 0 ∷ []
row_mentions_third = refl

-- the program's own statements mention nothing, since branches are blocks of their own
pub row_mentions_program : in_acts (block_at three_branches.blocks 0).body ≡ []
row_mentions_program = refl

-- ---- the first and the second are disjoint

nothing_in : (m : Mention) → Contains [] m → ⊥
nothing_in m h = omega (arith, h.1)

one_in : (x m : Mention) → Contains (x ∷ []) m → x ≡ m
one_in x m h = go h.0 h.1 h.2
  where
    go : (i : ℕ) → i < 1 → slice_index_or (x ∷ []) i m ≡ m → x ≡ m
    go zero l e = e
    go (suc i) l e = absurd (omega (arith, l))

two_in : (x y m : Mention) → Contains (x ∷ y ∷ []) m → (x ≡ m) ⊎ (y ≡ m)
two_in x y m h = go h.0 h.1 h.2
  where
    go : (i : ℕ) → i < 2 → slice_index_or (x ∷ y ∷ []) i m ≡ m → (x ≡ m) ⊎ (y ≡ m)
    go zero l e = inl e
    go (suc zero) l e = inr e
    go (suc (suc i)) l e = absurd (omega (arith, l))

abbrev IsOfVariable : Mention → Type 0
IsOfVariable (mention.Reads levels number) = Unit {0}
IsOfVariable (mention.Assigns levels number) = Unit {0}
IsOfVariable (mention.Lends levels number) = Unit {0}
IsOfVariable (mention.Calls c) = ⊥
IsOfVariable (mention.Passes c) = ⊥

-- nothing is called or passed on
only_variables : (n : ℕ) (m : Mention) → Mentions three_branches n m → IsOfVariable m
only_variables zero m h = absurd (nothing_in m h)
only_variables (suc zero) m h = subst IsOfVariable (one_in (mention.Assigns 1 0) m h) tt
only_variables (suc (suc zero)) m h = subst IsOfVariable (one_in (mention.Assigns 1 1) m h) tt
only_variables (suc (suc (suc zero))) m h = elim (two_in (mention.Assigns 1 1) (mention.Reads 1 0) m h) [
  | inl e ↦ subst IsOfVariable e tt
  | inr e ↦ subst IsOfVariable e tt
]
only_variables (suc (suc (suc (suc n)))) m h = absurd (nothing_in m h)

unnamed : NamesProgram three_branches → ⊥
unnamed (calls n levels m) = only_variables n (mention.Calls (callee.Block levels 0)) m
unnamed (passes n levels m) = only_variables n (mention.Passes (callee.Block levels 0)) m

no_system : (b : ℕ) → CallsSystem three_branches b → ⊥
no_system b k = only_variables k.block (mention.Calls (callee.Formal k.levels k.number)) k.stands

no_parameter : (b : ℕ) → CallsParameter three_branches b → ⊥
no_parameter b k = only_variables k.block (mention.Calls (callee.Formal k.levels k.number)) k.stands

reaches_itself : (b n : ℕ) → Reach three_branches b n → n ≡ b
reaches_itself b n itself = refl
reaches_itself b n (called c levels d r m) = absurd (only_variables c (mention.Calls (callee.Block levels d)) m)

-- variable w of the program
abbrev variable_of : ℕ → Variable
variable_of w = record { home = 0; number = w }

-- a branch that assigns to it, and does nothing else, touches it alone
module _ (of : List Block → ℕ → Mention → Option Variable) (b w : ℕ) (text : (m : Mention) → Mentions three_branches b m → mention.Assigns 1 w ≡ m)
    (of_text : of three_branches.blocks b (mention.Assigns 1 w) ≡ Some (variable_of w)) (plain : IsVarParameter three_branches (variable_of w) → ⊥) where
  names_it : (v : Variable) → Named of three_branches b v → variable_of w ≡ v
  names_it v k = some_is (variable_of w) v (sym of_text ∙ ap (of three_branches.blocks b) (text k.mention there)
      ∙ ap (λ n. of three_branches.blocks n k.mention) (sym here) ∙ k.is)
    where
      here : k.block ≡ b
      here = reaches_itself b k.block k.reach

      there : Mentions three_branches b k.mention
      there = subst (λ n. Mentions three_branches n k.mention) here k.stands

      some_is : (x y : Variable) → Some x ≡ Some y → x ≡ y
      some_is x y e = cc

  touches_it : (v : Variable) → Touches of three_branches b v → v.number ≡ w
  touches_it v (outside k e) = ap (λ x. x.number) (sym (names_it v k))
  touches_it v (through x k var target) = absurd (plain (subst (IsVarParameter three_branches) (sym (names_it x k)) var))

apart : (n : ℕ) → n ≡ 0 → n ≡ 1 → ⊥
apart n e f = omega (arith, e, f)

pub row_first_and_second : Disjoint three_branches 1 2
row_first_and_second = record {
  unnamed = unnamed;
  first_writes = λ v a c. apart v.number (touches_it written 1 0 (one_in (mention.Assigns 1 0)) refl (λ k. k) v a)
      (touches_it seen 2 1 (one_in (mention.Assigns 1 1)) refl (λ k. k) v c);
  second_writes = λ v a c. apart v.number (touches_it seen 1 0 (one_in (mention.Assigns 1 0)) refl (λ k. k) v a)
      (touches_it written 2 1 (one_in (mention.Assigns 1 1)) refl (λ k. k) v c);
  one_calls = λ a c. no_system 1 a;
  first_others = no_parameter 1;
  second_others = no_parameter 2;
}

-- ---- the third shares with both

-- the first writes what the third reads, and the second what the third writes
pub row_first_and_third : Disjoint three_branches 1 3 → ⊥
row_first_and_third d = d.first_writes (record { home = 0; number = 0 })
    (outside (record { block = 1; reach = itself; mention = mention.Assigns 1 0; stands = (0, omega arith, refl); is = refl }) (record { levels = 0; is = refl }))
    (outside (record { block = 3; reach = itself; mention = mention.Reads 1 0; stands = (1, omega arith, refl); is = refl }) (record { levels = 0; is = refl }))

pub row_second_and_third : Disjoint three_branches 2 3 → ⊥
row_second_and_third d = d.first_writes (record { home = 0; number = 1 })
    (outside (record { block = 2; reach = itself; mention = mention.Assigns 1 1; stands = (0, omega arith, refl); is = refl }) (record { levels = 0; is = refl }))
    (outside (record { block = 3; reach = itself; mention = mention.Assigns 1 1; stands = (0, omega arith, refl); is = refl }) (record { levels = 0; is = refl }))

-- the `cobegin`s in the order of the text
pub row_forks : forks_in_order three_branches ≡ record { branches = 1 ∷ 2 ∷ 3 ∷ []; line = 3 } ∷ []
row_forks = refl

-- the lines of all pairs, each with an answer of its own
abbrev pub first_two : ℕ → ℕ → Bool
first_two a b = (a == 1) && (b == 2)

pub row_report : report_of first_two (forks_in_order three_branches) ≡ ((pair_line true 3 1 2 ++ (pair_line false 3 1 3 ++ [])) ++ ((pair_line false 3 2 3 ++ []) ++ [])) ++ []
row_report = refl

-- ---- `cobegin`s in a procedure and in a branch

-- proc main / proc p / begin cobegin 1 do skip end end / begin / cobegin 1 do cobegin 1 do skip also 2 do skip end / also 2 do p end / end
abbrev pub three_forks : ProgramUnit
three_forks = record {
  types = standard_types;
  blocks = record (block 0 [] (cobegin (3 ∷ 6 ∷ []) 5 ∷ [])) { kind = kind.Program }
      ∷ record (block 0 [] (cobegin (2 ∷ []) 3 ∷ [])) { kind = kind.Procedure }
      ∷ block 1 [] (skip ∷ [])
      ∷ block 0 [] (cobegin (4 ∷ 5 ∷ []) 5 ∷ [])
      ∷ block 3 [] (skip ∷ [])
      ∷ block 3 [] (skip ∷ [])
      ∷ block 0 [] (call (callee.Block 1 1) no_argument 6 ∷ []) ∷ [];
  program = 0;
  calls = [];
}

-- the procedure's, the outer one, the inner one, as they stand in the text
pub row_forks_in_order : forks_in_order three_forks
    ≡ record { branches = 2 ∷ []; line = 3 } ∷ record { branches = 3 ∷ 6 ∷ []; line = 5 } ∷ record { branches = 4 ∷ 5 ∷ []; line = 5 } ∷ []
row_forks_in_order = refl

-- ---- uses outside critical phases

-- proc main / var x, y: int / begin cobegin 1 do when y = y do x := 1 end also 2 do x := 2 end end
abbrev pub one_phase : ProgramUnit
one_phase = record {
  types = standard_types;
  blocks = record (block 0 (0 ∷ 0 ∷ []) (cobegin (1 ∷ 2 ∷ []) 3 ∷ [])) { kind = kind.Program }
      ∷ block 0 [] (when_act (one_clause (two (value_of 1 1) op.Equal (value_of 1 1) 3) (assign (variable 1 0) (number (pos 1)) ∷ [])) 3 ∷ [])
      ∷ block 0 [] (assign (variable 1 0) (number (pos 2)) ∷ []) ∷ [];
  program = 0;
  calls = [];
}

-- the second branch uses x openly
pub row_open_second : UsesOpenly one_phase 2 (variable_of 0)
row_open_second =
    outer_one (record { block = 2; reach = itself; mention = mention.Assigns 1 0; stands = (0, omega arith, refl); is = refl }) (record { levels = 0; is = refl })

-- the first mentions nothing outside its phase, so it uses nothing openly
pub row_open_first : in_acts (block_at (open_unit one_phase).blocks 1).body ≡ []
row_open_first = refl

pub row_none_first : (v : Variable) → UsesOpenly one_phase 1 v → ⊥
row_none_first v u = go u
  where
    here : (n : ℕ) → OpenReach one_phase 1 n → n ≡ 1
    here n itself = refl
    here n (called c levels d r m) =
        absurd (nothing_in (mention.Calls (callee.Block levels d)) (subst (λ k. OpenMentions one_phase k (mention.Calls (callee.Block levels d))) (here c r) m))

    named : (of : List Block → ℕ → Mention → Option Variable) (x : Variable) → NamesOpenly of one_phase 1 x → ⊥
    named of x k = nothing_in k.mention (subst (λ n. OpenMentions one_phase n k.mention) (here k.block k.reach) k.stands)

    go : UsesOpenly one_phase 1 v → ⊥
    go (outer_one k e) = named used v k
    go (lent_one x k var target) = named used x k
    go (handles k) = named handled v k

-- ---- a variable that is lent

-- proc main / var s: int / proc signal(var x: int) begin when x = x do x := 1 end end / begin cobegin 1 do signal(s) end end
abbrev pub one_lent : ProgramUnit
one_lent = record {
  types = standard_types;
  blocks = record (block 0 (0 ∷ []) (cobegin (2 ∷ []) 4 ∷ [])) { kind = kind.Program }
      ∷ record (block 0 [] (when_act (one_clause (two (value_of 0 0) op.Equal (value_of 0 0) 3) (assign (variable 0 0) (number (pos 1)) ∷ [])) 3 ∷ [])) {
        kind = kind.Procedure;
        parameters = parameter.Var 0 ∷ [];
      }
      ∷ block 0 [] (call (callee.Block 1 1) (argument_then (by_variable (variable 1 0)) no_argument) 4 ∷ []) ∷ [];
  program = 0;
  calls = [];
}

-- the branch lends s outside critical phases, and the procedure uses it in one alone
pub row_open_lent : in_acts (block_at (open_unit one_lent).blocks 2).body ≡ mention.Calls (callee.Block 1 1) ∷ mention.Lends 1 0 ∷ []
row_open_lent = refl

pub row_open_signal : in_acts (block_at (open_unit one_lent).blocks 1).body ≡ []
row_open_signal = refl

-- so nothing is used openly
pub row_none_lent : (v : Variable) → UsesOpenly one_lent 2 v → ⊥
row_none_lent v u = go u
  where
    none : (x : Variable) → None ≡ Some x → ⊥
    none x e = cc

    callee_of : (levels d : ℕ) → mention.Calls (callee.Block 1 1) ≡ mention.Calls (callee.Block levels d) → 1 ≡ d
    callee_of levels d e = cc

    no_callee : (levels d : ℕ) → mention.Lends 1 0 ≡ mention.Calls (callee.Block levels d) → ⊥
    no_callee levels d e = cc

    here : (n : ℕ) → OpenReach one_lent 2 n → (n ≡ 2) ⊎ (n ≡ 1)
    here n itself = inl refl
    here n (called c levels d r m) = elim (here c r) [
      | inl e ↦ elim (two_in (mention.Calls (callee.Block 1 1)) (mention.Lends 1 0) (mention.Calls (callee.Block levels d))
          (subst (λ k. OpenMentions one_lent k (mention.Calls (callee.Block levels d))) e m)) [
            | inl q ↦ inr (sym (callee_of levels d q))
            | inr q ↦ absurd (no_callee levels d q)
          ]
      | inr e ↦ absurd (nothing_in (mention.Calls (callee.Block levels d)) (subst (λ k. OpenMentions one_lent k (mention.Calls (callee.Block levels d))) e m))
    ]

    named : (of : List Block → ℕ → Mention → Option Variable) → ((n : ℕ) → of (open_unit one_lent).blocks n (mention.Calls (callee.Block 1 1)) ≡ None) →
        ((n : ℕ) → of (open_unit one_lent).blocks n (mention.Lends 1 0) ≡ None) → (x : Variable) → NamesOpenly of one_lent 2 x → ⊥
    named of f g x k = elim (here k.block k.reach) [
      | inl e ↦ elim (two_in (mention.Calls (callee.Block 1 1)) (mention.Lends 1 0) k.mention (subst (λ n. OpenMentions one_lent n k.mention) e k.stands)) [
        | inl q ↦ none x (sym (ap (of (open_unit one_lent).blocks k.block) (sym q) ∙ f k.block) ∙ k.is)
        | inr q ↦ none x (sym (ap (of (open_unit one_lent).blocks k.block) (sym q) ∙ g k.block) ∙ k.is)
      ]
      | inr e ↦ nothing_in k.mention (subst (λ n. OpenMentions one_lent n k.mention) e k.stands)
    ]

    go : UsesOpenly one_lent 2 v → ⊥
    go (outer_one k e) = named used (λ n. refl) (λ n. refl) v k
    go (lent_one x k var target) = named used (λ n. refl) (λ n. refl) x k
    go (handles k) = named handled (λ n. refl) (λ n. refl) v k

-- ---- steps of the three branches

abbrev pub first : Name
first = 1 ∷ 0 ∷ []

abbrev pub second : Name
second = 1 ∷ 1 ∷ []

abbrev pub third : Name
third = 1 ∷ 2 ∷ []

-- behind the program's entry and its `cobegin`
abbrev pub after_fork : List Name → Led
after_fork names = permitted three_branches ([] ∷ [] ∷ names) (start three_branches empty_system 100)

-- those of the first and the second branch may be exchanged
pub row_exchange : after_fork (first ∷ second ∷ []) ≡ after_fork (second ∷ first ∷ [])
unfolding zero_value
row_exchange = refl

-- those of the first and the third may not: y is 1 or 0
abbrev pub value_y : Led → Value
value_y (at s) = get s.world.store (record { spot = ([], 0); variable = 1; path = [] })
value_y led = ordinal (pos 99)

pub row_first_then_third : value_y (after_fork (first ∷ third ∷ [])) ≡ ordinal (pos 1)
unfolding zero_value
row_first_then_third = refl

pub row_third_then_first : value_y (after_fork (third ∷ first ∷ [])) ≡ ordinal (pos 0)
unfolding zero_value
row_third_then_first = refl
