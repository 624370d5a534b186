-- The code of a unit that fits, and whose records have fields, can be written.
use Rattle.std.proofs.Common.{◌≡◌, ℕ, suc, ◌<◌, ◌≤◌, ◌^◌, List, ◌∷◌, length, All, Option, Some, None, IfSome, refl, arith}
use Rattle.edi_unit.specs.declared.expressions.Operator.{Operator}
use Rattle.edi_unit.specs.declared.expressions.Operator.TheVariants as op
use Rattle.edi_unit.specs.declared.expressions.Callee.{Callee}
use Rattle.edi_unit.specs.declared.expressions.Callee.TheVariants as callee
use Rattle.edi_unit.specs.Types.{Shape, size, greatest_size}
use Rattle.edi_unit.specs.TypeTables.{IsTypeTable}
use Rattle.edi_unit.specs.Tree.{Expression, constant, load, not_of, sign_of, chain, make, convert, apply_of, Expressions, no_expression, expression_then}
use Rattle.edi_unit.specs.Tree.{link, Links, no_link, link_then, Place, place, Part, field, index, Parts, no_part, part_then, by_value, by_variable}
use Rattle.edi_unit.specs.Tree.{by_procedure, Arguments, no_argument, argument_then, Act, skip, assign, call, halt, if_act, while_act, when_act, cobegin}
use Rattle.edi_unit.specs.Tree.{Acts, no_act, act_then, Clause, clause, Clauses, no_clause, clause_then, Block, ProgramUnit}
use Rattle.edi_unit.specs.Need.{block_at, slot_at, slot_type, part_type, operator_type, place_type, expression_type}
use Rattle.edi_unit.specs.Fits.{CalleeFits, ExpressionFits, ExpressionsFit, LinksFit}
use Rattle.edi_unit.specs.Headings.{Heading, Formals, no_formal, value_then, variable_then, procedure_then}
use Rattle.edi_unit.specs.Fits.{PlaceFits, PartFits, PartsFit, ArgumentsFit, BranchFits, ActFits, ActsFit, ClauseFits, ClausesFit, BlockFits, Fits}
use Rattle.edi_scheme.specs.Pieces.{constant_words}
use Rattle.edi_scheme.specs.Code.{code_of}
use Rattle.edi_scheme.specs.Laws.{HaveParts}
use Rattle.edi_scheme.proofs.Lengths.{blocks_are_long}
use Rattle.edi_scheme.proofs.Known as known
use Rattle.edi_code.specs.Writable.{RowIsWritable, OperatorIsWritable, CalleeIsWritable, ExpressionIsWritable, ExpressionsAreWritable, LinksAreWritable}
use Rattle.edi_code.specs.Writable.{PlaceIsWritable, PartIsWritable, PartsAreWritable, ArgumentsAreWritable, ActIsWritable, ActsAreWritable}
use Rattle.edi_code.specs.Writable.{ClauseIsWritable, ClausesAreWritable, IsWritable}

operator_writable : (types : List Shape) (o : Operator) (t : ℕ) → 1 ≤ size types t → OperatorIsWritable types o t
operator_writable types op.Equal t h = h
operator_writable types op.NotEqual t h = h
operator_writable types o t h = tt

module _ (types : List Shape) (table : IsTypeTable types) (parts : HaveParts types) (blocks : List Block) (headings : ℕ → ℕ → Heading)
    (each : (n : ℕ) → n < length blocks → BlockFits types blocks headings n) (b : ℕ) (inside : b < length blocks) where
  positive : (t : ℕ) → t < length types → 1 ≤ size types t
  positive = known.size_positive types table parts

  place_known : (p : Place) → PlaceFits types blocks headings b p → place_type types blocks b p < length types
  place_known = known.place_known types table parts blocks headings each b inside

  row_writable : (ws : Option (List ℕ)) (n : ℕ) → 1 ≤ n → n ≤ greatest_size → IfSome ws (λ ws. length ws ≡ n) → RowIsWritable ws
  row_writable None n some few h = tt
  row_writable (Some ws) n some few h = (omega (arith, some, h), omega (arith, few, h))

  callee_writable : (c : Callee) → CalleeFits blocks b c → CalleeIsWritable blocks c
  callee_writable (callee.Block levels n) h = (h.0, h.1)
  callee_writable (callee.Formal levels v) h = h.0

  mutual
    expression_writable : (e : Expression) → ExpressionFits types blocks headings b e → ExpressionIsWritable types blocks b e
    expression_writable (constant t n) h = tt
    expression_writable (load p) h = (place_writable p h, positive _ (place_known p h))
    expression_writable (not_of e) h = expression_writable e h.1
    expression_writable (sign_of e line) h = expression_writable e h.1
    expression_writable (chain e ls) h = (
      expression_writable e h.1,
      links_writable (expression_type types blocks b e) ls
          (known.expression_known types table parts blocks headings each b inside e h.1) h.2,
    )
    expression_writable (make t es line) h = (
      λ q.
          let n = known.parts_count types table parts blocks headings each b inside t es h.0 q h.1 in
          row_writable (constant_words es) (known.count_of es) n.0 n.1 (known.constants_count es),
      expressions_writable es h.2,
    )
    expression_writable (convert t e line) h = expression_writable e h.3
    expression_writable (apply_of c xs line) h = (callee_writable c h.0, arguments_writable xs _ h.2)

    expressions_writable : (es : Expressions) → ExpressionsFit types blocks headings b es → ExpressionsAreWritable types blocks b es
    expressions_writable no_expression h = tt
    expressions_writable (expression_then e es) h = (expression_writable e h.0, expressions_writable es h.1)

    links_writable : (t : ℕ) (ls : Links) → t < length types → LinksFit types blocks headings b t ls → LinksAreWritable types blocks b t ls
    links_writable t no_link k h = tt
    links_writable t (link_then (link o e line) ls) k h = (
      operator_writable types o t (positive t k),
      expression_writable e h.1,
      links_writable (operator_type o t) ls (known.operator_known types table parts o t k) h.2,
    )

    place_writable : (p : Place) → PlaceFits types blocks headings b p → PlaceIsWritable types blocks b p
    place_writable (place levels v ps) h = (h.0, parts_writable (slot_type (slot_at blocks b levels v)) ps h.2)

    parts_writable : (t : ℕ) (ps : Parts) → PartsFit types blocks headings b t ps → PartsAreWritable types blocks b ps
    parts_writable t no_part h = tt
    parts_writable t (part_then p ps) h = (part_writable t p h.0, parts_writable (part_type types t p) ps h.1)

    part_writable : (t : ℕ) (p : Part) → PartFits types blocks headings b t p → PartIsWritable types blocks b p
    part_writable t (field n) h = tt
    part_writable t (index e line) h = expression_writable e h.1

    arguments_writable : (xs : Arguments) (fs : Formals) → ArgumentsFit types blocks headings b xs fs → ArgumentsAreWritable types blocks b xs
    arguments_writable no_argument fs h = tt
    arguments_writable (argument_then (by_value e) xs) (value_then t fs) h = (expression_writable e h.1, arguments_writable xs fs h.2)
    arguments_writable (argument_then (by_variable p) xs) (variable_then t fs) h = (place_writable p h.1, arguments_writable xs fs h.2)
    arguments_writable (argument_then (by_procedure c) xs) (procedure_then hd fs) h = (callee_writable c h.1, arguments_writable xs fs h.2)
    arguments_writable (argument_then x xs) fs h = absurd h

  branches_writable : (bs : List ℕ) → All (BranchFits types blocks headings b) bs → All (λ n. n < length blocks) bs
  branches_writable bs h k d l = (h k d l).0

  mutual
    act_writable : (s : Act) → ActFits types blocks headings b s → ActIsWritable types blocks b s
    act_writable skip h = tt
    act_writable (assign p e) h = (place_writable p h.1, expression_writable e h.2, positive _ (place_known p h.1))
    act_writable (call c xs line) h = (callee_writable c h.0, arguments_writable xs _ h.2)
    act_writable (halt line) h = tt
    act_writable (if_act cs) h = clauses_writable cs h
    act_writable (while_act cs) h = clauses_writable cs h
    act_writable (when_act cs line) h = clauses_writable cs h
    act_writable (cobegin bs line) h = ((h.0, h.1), branches_writable bs h.2)

    acts_writable : (s : Acts) → ActsFit types blocks headings b s → ActsAreWritable types blocks b s
    acts_writable no_act h = tt
    acts_writable (act_then s ss) h = (act_writable s h.0, acts_writable ss h.1)

    clause_writable : (c : Clause) → ClauseFits types blocks headings b c → ClauseIsWritable types blocks b c
    clause_writable (clause e s) h = (expression_writable e h.1, acts_writable s h.2)

    clauses_writable : (cs : Clauses) → ClausesFit types blocks headings b cs → ClausesAreWritable types blocks b cs
    clauses_writable no_clause h = tt
    clauses_writable (clause_then c cs) h = (clause_writable c h.0, clauses_writable cs h.1)

-- a unit that fits can be written, where its code has fewer than 2 ^ 32 words
pub is_writable : (unit : ProgramUnit) → Fits unit → HaveParts unit.types → length (code_of unit) < 2 ^ 32 → IsWritable unit
is_writable unit fits parts small = record {
  shapes = fits.shapes;
  frames = λ n h.
      let is = (fits.fits_blocks n h).needs in
      record { roomy = omega (arith, is); small = (fits.fits_blocks n h).small };
  statements = λ n h. acts_writable unit.types fits.table parts unit.blocks fits.headings fits.fits_blocks n h (block_at unit.blocks n).body
      (fits.fits_blocks n h).statements;
  room = let long = (blocks_are_long unit.types unit.blocks (length unit.blocks)).is in omega (arith, small, long);
}
