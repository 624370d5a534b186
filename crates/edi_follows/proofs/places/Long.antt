-- What stands from an address to another has as many words as its length says.
use Rattle.std.proofs.Common.{◌≡◌, ℕ, ◌+◌, Bool, true, false, if◌then◌else◌, List, [], ◌∷◌, length, Option, Some, None, arith, length-append}
use Rattle.std.proofs.lemmas.List.{length-map}
use Rattle.std.specs.Prelude.{map}
use Rattle.edi_unit.specs.Types.{shape_at, is_set_shape}
use Rattle.edi_unit.specs.Tree as tree
use Rattle.edi_unit.specs.Tree.{Expression, Expressions, Link, Links, Place, Part, Parts, Argument, Arguments, Act, Acts, Clause, Clauses}
use Rattle.edi_unit.specs.Need.{block_at, slot_at, slot_type, part_type, operator_type, expression_type}
use Rattle.edi_meaning.specs.Step.{is_quiet}
use Rattle.edi_target.specs.Op.{Instruction, Branch, words_of}
use Rattle.edi_scheme.specs.Pieces.{Code, words_of_code, code_length, ClauseKind, once, repeated, released, constant_words, row_length, variable_code}
use Rattle.edi_scheme.specs.Pieces.{decision, operation, close_code, again_code, check_code, element_code}
use Rattle.edi_scheme.specs.Lengths.{expression_length, expressions_length, members_length, links_length, place_length, parts_length}
use Rattle.edi_scheme.specs.Lengths.{arguments_length, act_length, acts_length, clauses_length}
use Rattle.edi_scheme.specs.Code.{slot_offset, call_code, procedure_code}
use Rattle.edi_scheme.specs.Stands as code
use Rattle.edi_scheme.proofs.Lengths.{decision_length, close_length, again_length, branches_length, variable_length, call_is_long, procedure_is_long}
use Rattle.edi_follows.specs.places.Coded.{Coded, entry}

module _ (g : Coded) where
  pub one_long : (at : ℕ) (i : Instruction) (to : ℕ) → code.InstructionStands g.fetched at i to → to ≡ at + length (words_of i)
  one_long at i to h = g.long at (i, to) h

  pub codes_long : (c : Code) (at to : ℕ) → code.AreInstructions g.fetched c at to → to ≡ at + code_length c
  codes_long [] at to h = omega (arith, h)
  codes_long (i ∷ []) at to h = omega (arith, one_long at i to h, length-append (words_of i) [])
  codes_long (i ∷ j ∷ c) at to h =
      omega (arith, one_long at i h.0 h.1, codes_long (j ∷ c) h.0 to h.2, length-append (words_of i) (words_of_code (j ∷ c)))

  module _ (b : ℕ) where
    row_long : (o : Option (List ℕ)) (at to n : ℕ) (A : Type 0) → (A → to ≡ at + n) → code.IsRow g.fetched o at to A → to ≡ at + row_length o n
    row_long (Some ws) at to n A f h = omega (arith, one_long at _ to h)
    row_long None at to n A f h = f h

    make_long : (v : Bool) (at to m n : ℕ) (A B : Type 0) → (A → to ≡ at + m) → (B → to ≡ at + n) → code.Either v A B →
        to ≡ at + (if v then m else n)
    make_long true at to m n A B f k h = f h
    make_long false at to m n A B f k h = k h

    mutual
      pub expression_long : (e : Expression) (at to : ℕ) → code.IsExpression g.fetched g.unit.types g.unit.blocks (entry g) b e at to →
          to ≡ at + expression_length g.unit.types g.unit.blocks b e
      expression_long (tree.constant t n) at to h = one_long at _ to h
      expression_long (tree.load p) at to h = omega (arith, place_long p at h.0 h.1, one_long h.0 _ to h.2)
      expression_long (tree.not_of e) at to h = omega (arith, expression_long e at h.0 h.1, one_long h.0 _ to h.2)
      expression_long (tree.sign_of e line) at to h = omega (arith, expression_long e at h.0 h.1, one_long h.0 _ to h.2)
      expression_long (tree.chain e ls) at to h = omega
          (arith, expression_long e at h.0 h.1, links_long (expression_type g.unit.types g.unit.blocks b e) ls h.0 to h.2)
      expression_long (tree.make t es line) at to h =
          make_long (is_set_shape (shape_at g.unit.types t)) at to _ _ _ _
          (λ k. omega (arith, one_long at _ k.0 k.1, members_long line es k.0 to k.2))
          (λ k. row_long (constant_words es) at to (expressions_length g.unit.types g.unit.blocks b es) _ (λ z. expressions_long es at to z) k) h
      expression_long (tree.convert t e line) at to h = omega (arith, expression_long e at h.0 h.1, codes_long (check_code (shape_at g.unit.types t) line) h.0 to h.2)
      expression_long (tree.apply_of c xs line) at to h = omega (
        arith,
        arguments_long xs at h.0 h.1,
        codes_long (call_code g.unit.types g.unit.blocks (entry g) b c line) h.0 to h.2,
        (call_is_long g.unit.types g.unit.blocks (entry g) b c line).is,
      )

      pub expressions_long : (es : Expressions) (at to : ℕ) → code.AreExpressions g.fetched g.unit.types g.unit.blocks (entry g) b es at to →
          to ≡ at + expressions_length g.unit.types g.unit.blocks b es
      expressions_long tree.no_expression at to h = omega (arith, h)
      expressions_long (tree.expression_then e es) at to h = omega (arith, expression_long e at h.0 h.1, expressions_long es h.0 to h.2)

      pub members_long : (line : ℕ) (es : Expressions) (at to : ℕ) → code.AreMembers g.fetched g.unit.types g.unit.blocks (entry g) b line es at to →
          to ≡ at + members_length g.unit.types g.unit.blocks b es
      members_long line tree.no_expression at to h = omega (arith, h)
      members_long line (tree.expression_then e es) at to h = omega
          (arith, expression_long e at h.0 h.2, one_long h.0 _ h.1 h.3, members_long line es h.1 to h.4)

      pub links_long : (t : ℕ) (ls : Links) (at to : ℕ) → code.AreLinks g.fetched g.unit.types g.unit.blocks (entry g) b t ls at to →
          to ≡ at + links_length g.unit.types g.unit.blocks b t ls
      links_long t tree.no_link at to h = omega (arith, h)
      links_long t (tree.link_then (tree.link o e line) ls) at to h =
          omega (
            arith,
            codes_long (decision o h.2) at h.0 h.3,
            (decision_length o h.2).is,
            expression_long e h.0 h.1 h.4,
            codes_long (operation g.unit.types t o line) h.1 h.2 h.5,
            links_long (operator_type o t) ls h.2 to h.6,
          )

      pub place_long : (p : Place) (at to : ℕ) → code.IsPlace g.fetched g.unit.types g.unit.blocks (entry g) b p at to →
          to ≡ at + place_length g.unit.types g.unit.blocks b p
      place_long (tree.place levels v ps) at to h = omega (
        arith,
        codes_long (variable_code levels (slot_offset g.unit.types g.unit.blocks (entry g) b levels v)
            (slot_at g.unit.blocks b levels v)) at h.0 h.1,
        (variable_length levels (slot_offset g.unit.types g.unit.blocks (entry g) b levels v) (slot_at g.unit.blocks b levels v)).is,
        parts_long (slot_type (slot_at g.unit.blocks b levels v)) ps h.0 to h.2,
      )

      pub parts_long : (t : ℕ) (ps : Parts) (at to : ℕ) → code.AreParts g.fetched g.unit.types g.unit.blocks (entry g) b t ps at to →
          to ≡ at + parts_length g.unit.types g.unit.blocks b t ps
      parts_long t tree.no_part at to h = omega (arith, h)
      parts_long t (tree.part_then (tree.field n) ps) at to h = omega
          (arith, one_long at _ h.0 h.1, parts_long (part_type g.unit.types t (tree.field n)) ps h.0 to h.2)
      parts_long t (tree.part_then (tree.index e line) ps) at to h =
          omega (
            arith,
            expression_long e at h.1.0 h.1.1,
            codes_long (element_code g.unit.types (shape_at g.unit.types t) line) h.1.0 h.0 h.1.2,
            parts_long (part_type g.unit.types t (tree.index e line)) ps h.0 to h.2,
          )

      pub arguments_long : (xs : Arguments) (at to : ℕ) → code.AreArguments g.fetched g.unit.types g.unit.blocks (entry g) b xs at to →
          to ≡ at + arguments_length g.unit.types g.unit.blocks b xs
      arguments_long tree.no_argument at to h = omega (arith, h)
      arguments_long (tree.argument_then (tree.by_value e) xs) at to h = omega (arith, expression_long e at h.0 h.1, arguments_long xs h.0 to h.2)
      arguments_long (tree.argument_then (tree.by_variable p) xs) at to h = omega (arith, place_long p at h.0 h.1, arguments_long xs h.0 to h.2)
      arguments_long (tree.argument_then (tree.by_procedure c) xs) at to h = omega (
        arith,
        codes_long (procedure_code g.unit.types g.unit.blocks (entry g) b c) at h.0 h.1,
        (procedure_is_long g.unit.types g.unit.blocks (entry g) b c).is,
        arguments_long xs h.0 to h.2,
      )

    mutual
      pub act_long : (a : Act) (at to : ℕ) → code.IsAct g.fetched g.unit.types g.unit.blocks (entry g) b a at to →
          to ≡ at + act_length g.unit.types g.unit.blocks b a
      act_long tree.skip at to h = omega (arith, h)
      act_long (tree.assign p e) at to h = omega (arith, place_long p at h.0 h.2, expression_long e h.0 h.1 h.3, one_long h.1 _ to h.4)
      act_long (tree.call c xs line) at to h = omega (
        arith,
        arguments_long xs at h.0 h.1,
        codes_long (call_code g.unit.types g.unit.blocks (entry g) b c line) h.0 to h.2,
        (call_is_long g.unit.types g.unit.blocks (entry g) b c line).is,
      )
      act_long (tree.halt line) at to h = one_long at _ to h
      act_long (tree.if_act cs) at to h = clauses_long once to cs at to h
      act_long (tree.while_act cs) at to h = clauses_long repeated at cs at to h
      act_long (tree.when_act cs line) at to h = omega (
        arith,
        one_long at _ h.0 h.2,
        clauses_long released to cs h.0 h.1 h.3,
        codes_long (again_code (is_quiet cs) h.0) h.1 to h.4,
        (again_length (is_quiet cs) h.0).is,
      )
      act_long (tree.cobegin bs line) at to h =
          let branch : ℕ → Branch = λ n. record { need = (block_at g.unit.blocks n).need; address = entry g n } in
          omega (arith, one_long at _ to h, branches_length (map branch bs), length-map bs branch)

      pub acts_long : (as' : Acts) (at to : ℕ) → code.AreActs g.fetched g.unit.types g.unit.blocks (entry g) b as' at to →
          to ≡ at + acts_length g.unit.types g.unit.blocks b as'
      acts_long tree.no_act at to h = omega (arith, h)
      acts_long (tree.act_then a as') at to h = omega (arith, act_long a at h.0 h.1, acts_long as' h.0 to h.2)

      pub clauses_long : (kind : ClauseKind) (target : ℕ) (cs : Clauses) (at to : ℕ) → code.AreClauses g.fetched g.unit.types g.unit.blocks
          (entry g) b kind target cs at to → to ≡ at + clauses_length g.unit.types g.unit.blocks b kind cs
      clauses_long kind target tree.no_clause at to h = omega (arith, h)
      clauses_long kind target (tree.clause_then (tree.clause e as') cs) at to h =
          omega (
            arith,
            expression_long e at h.2.0 h.2.2,
            one_long h.2.0 _ h.2.1 h.2.3,
            acts_long as' h.2.1 h.0 h.2.4,
            codes_long (close_code kind target cs) h.0 h.1 h.3,
            (close_length kind target cs).is,
            clauses_long kind target cs h.1 to h.4,
          )
