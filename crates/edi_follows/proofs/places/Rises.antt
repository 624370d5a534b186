-- Code goes up: what stands from an address to another does not go back, so jumps behind it lead forward.
use Rattle.std.proofs.Common.{ℕ, ◌<◌, ◌≤◌, Bool, true, false, List, [], ◌∷◌, Option, Some, None, arith}
use Rattle.edi_unit.specs.Types.{shape_at, is_set_shape}
use Rattle.edi_unit.specs.Tree as tree
use Rattle.edi_unit.specs.Tree.{Expression, Expressions, Link, Links, Place, Part, Parts, Argument, Arguments, Act, Acts, Clause, Clauses}
use Rattle.edi_unit.specs.Need.{slot_at, slot_type, part_type, operator_type, expression_type}
use Rattle.edi_target.specs.Op.{Instruction}
use Rattle.edi_scheme.specs.Pieces.{Code, ClauseKind, once, repeated, released, constant_words, variable_code}
use Rattle.edi_scheme.specs.Code.{slot_offset}
use Rattle.edi_scheme.specs.Stands as code
use Rattle.edi_follows.specs.places.Coded.{Coded, entry}

-- code goes up
abbrev pub ClausesRise : Coded → Type 0
ClausesRise g = (b : ℕ) (kind : ClauseKind) (target : ℕ) (cs : Clauses) (at to : ℕ) → code.AreClauses g.fetched g.unit.types g.unit.blocks
    (entry g) b kind target cs at to → at ≤ to

module _ (g : Coded) where
  pub one_up : (at : ℕ) (i : Instruction) (to : ℕ) → code.InstructionStands g.fetched at i to → at < to
  one_up at i to h = g.rises at (i, to) h

  pub codes_up : (c : Code) (at to : ℕ) → code.AreInstructions g.fetched c at to → at ≤ to
  codes_up [] at to h = omega (arith, h)
  codes_up (i ∷ []) at to h = omega (arith, one_up at i to h)
  codes_up (i ∷ j ∷ c) at to h = omega (arith, one_up at i h.0 h.1, codes_up (j ∷ c) h.0 to h.2)

  module _ (b : ℕ) where
    pub row_up : (o : Option (List ℕ)) (at to : ℕ) (A : Type 0) → (A → at ≤ to) → code.IsRow g.fetched o at to A → at ≤ to
    row_up (Some ws) at to A f h = omega (arith, one_up at _ to h)
    row_up None at to A f h = f h

    pub make_up : (v : Bool) (at to : ℕ) (A B : Type 0) → (A → at ≤ to) → (B → at ≤ to) → code.Either v A B → at ≤ to
    make_up true at to A B f k h = f h
    make_up false at to A B f k h = k h

    mutual
      pub expression_up : (e : Expression) (at to : ℕ) → code.IsExpression g.fetched g.unit.types g.unit.blocks (entry g) b e at to → at ≤ to
      expression_up (tree.constant t n) at to h = omega (arith, one_up at _ to h)
      expression_up (tree.load p) at to h = omega (arith, place_up p at h.0 h.1, one_up h.0 _ to h.2)
      expression_up (tree.not_of e) at to h = omega (arith, expression_up e at h.0 h.1, one_up h.0 _ to h.2)
      expression_up (tree.sign_of e line) at to h = omega (arith, expression_up e at h.0 h.1, one_up h.0 _ to h.2)
      expression_up (tree.chain e ls) at to h = omega
          (arith, expression_up e at h.0 h.1, links_up (expression_type g.unit.types g.unit.blocks b e) ls h.0 to h.2)
      expression_up (tree.make t es line) at to h =
          make_up (is_set_shape (shape_at g.unit.types t)) at to _ _ (λ k. omega (arith, one_up at _ k.0 k.1, members_up line es k.0 to k.2))
          (λ k. row_up (constant_words es) at to _ (λ z. expressions_up es at to z) k) h
      expression_up (tree.convert t e line) at to h = omega (arith, expression_up e at h.0 h.1, codes_up _ h.0 to h.2)
      expression_up (tree.apply_of c xs line) at to h = omega (arith, arguments_up xs at h.0 h.1, codes_up _ h.0 to h.2)

      pub expressions_up : (es : Expressions) (at to : ℕ) → code.AreExpressions g.fetched g.unit.types g.unit.blocks (entry g) b es at to → at ≤ to
      expressions_up tree.no_expression at to h = omega (arith, h)
      expressions_up (tree.expression_then e es) at to h = omega (arith, expression_up e at h.0 h.1, expressions_up es h.0 to h.2)

      pub members_up : (line : ℕ) (es : Expressions) (at to : ℕ) → code.AreMembers g.fetched g.unit.types g.unit.blocks (entry g) b line es at to → at ≤ to
      members_up line tree.no_expression at to h = omega (arith, h)
      members_up line (tree.expression_then e es) at to h = omega (arith, expression_up e at h.0 h.2, one_up h.0 _ h.1 h.3, members_up line es h.1 to h.4)

      pub links_up : (t : ℕ) (ls : Links) (at to : ℕ) → code.AreLinks g.fetched g.unit.types g.unit.blocks (entry g) b t ls at to → at ≤ to
      links_up t tree.no_link at to h = omega (arith, h)
      links_up t (tree.link_then (tree.link o e line) ls) at to h =
          omega (arith, codes_up _ at h.0 h.3, expression_up e h.0 h.1 h.4, codes_up _ h.1 h.2 h.5, links_up (operator_type o t) ls h.2 to h.6)

      pub place_up : (p : Place) (at to : ℕ) → code.IsPlace g.fetched g.unit.types g.unit.blocks (entry g) b p at to → at ≤ to
      place_up (tree.place levels v ps) at to h = omega (
        arith,
        codes_up (variable_code levels (slot_offset g.unit.types g.unit.blocks (entry g) b levels v)
            (slot_at g.unit.blocks b levels v)) at h.0 h.1,
        parts_up (slot_type (slot_at g.unit.blocks b levels v)) ps h.0 to h.2,
      )

      pub parts_up : (t : ℕ) (ps : Parts) (at to : ℕ) → code.AreParts g.fetched g.unit.types g.unit.blocks (entry g) b t ps at to → at ≤ to
      parts_up t tree.no_part at to h = omega (arith, h)
      parts_up t (tree.part_then (tree.field n) ps) at to h = omega
          (arith, one_up at _ h.0 h.1, parts_up (part_type g.unit.types t (tree.field n)) ps h.0 to h.2)
      parts_up t (tree.part_then (tree.index e line) ps) at to h =
          omega (arith, expression_up e at h.1.0 h.1.1, codes_up _ h.1.0 h.0 h.1.2, parts_up (part_type g.unit.types t (tree.index e line)) ps h.0 to h.2)

      pub arguments_up : (xs : Arguments) (at to : ℕ) → code.AreArguments g.fetched g.unit.types g.unit.blocks (entry g) b xs at to → at ≤ to
      arguments_up tree.no_argument at to h = omega (arith, h)
      arguments_up (tree.argument_then (tree.by_value e) xs) at to h = omega (arith, expression_up e at h.0 h.1, arguments_up xs h.0 to h.2)
      arguments_up (tree.argument_then (tree.by_variable p) xs) at to h = omega (arith, place_up p at h.0 h.1, arguments_up xs h.0 to h.2)
      arguments_up (tree.argument_then (tree.by_procedure c) xs) at to h = omega (arith, codes_up _ at h.0 h.1, arguments_up xs h.0 to h.2)

    mutual
      pub act_up : (a : Act) (at to : ℕ) → code.IsAct g.fetched g.unit.types g.unit.blocks (entry g) b a at to → at ≤ to
      act_up tree.skip at to h = omega (arith, h)
      act_up (tree.assign p e) at to h = omega (arith, place_up p at h.0 h.2, expression_up e h.0 h.1 h.3, one_up h.1 _ to h.4)
      act_up (tree.call c xs line) at to h = omega (arith, arguments_up xs at h.0 h.1, codes_up _ h.0 to h.2)
      act_up (tree.halt line) at to h = omega (arith, one_up at _ to h)
      act_up (tree.if_act cs) at to h = clauses_up once to cs at to h
      act_up (tree.while_act cs) at to h = clauses_up repeated at cs at to h
      act_up (tree.when_act cs line) at to h = omega (arith, one_up at _ h.0 h.2, clauses_up released to cs h.0 h.1 h.3, codes_up _ h.1 to h.4)
      act_up (tree.cobegin bs line) at to h = omega (arith, one_up at _ to h)

      pub acts_up : (as' : Acts) (at to : ℕ) → code.AreActs g.fetched g.unit.types g.unit.blocks (entry g) b as' at to → at ≤ to
      acts_up tree.no_act at to h = omega (arith, h)
      acts_up (tree.act_then a as') at to h = omega (arith, act_up a at h.0 h.1, acts_up as' h.0 to h.2)

      pub clauses_up : (kind : ClauseKind) (target : ℕ) (cs : Clauses) (at to : ℕ) → code.AreClauses g.fetched g.unit.types g.unit.blocks
          (entry g) b kind target cs at to → at ≤ to
      clauses_up kind target tree.no_clause at to h = omega (arith, h)
      clauses_up kind target (tree.clause_then (tree.clause e as') cs) at to h =
          omega (
            arith,
            expression_up e at h.2.0 h.2.2,
            one_up h.2.0 _ h.2.1 h.2.3,
            acts_up as' h.2.1 h.0 h.2.4,
            codes_up _ h.0 h.1 h.3,
            clauses_up kind target cs h.1 to h.4,
          )

  pub clauses_rise : ClausesRise g
  clauses_rise b kind target cs at to h = clauses_up b kind target cs at to h
