-- The jumps and calls of each construct lead to where they should.
use Rattle.std.proofs.Common.{ℕ, suc, ◌+◌, ◌<◌, ◌≤◌, Bool, true, false, if◌then◌else◌, List, [], ◌∷◌, ◌++◌, All, Option, Some, None, IsTrue, length, map}
use Rattle.std.proofs.Common.{refl, arith}
use Rattle.edi_unit.specs.declared.expressions.Callee.{Callee}
use Rattle.edi_unit.specs.declared.expressions.Callee.TheVariants as callee
use Rattle.edi_unit.specs.Types.{Shape, shape_at, is_set_shape}
use Rattle.edi_unit.specs.Tree.{Expression, constant, load, not_of, sign_of, chain, make, convert, apply_of, Expressions, no_expression, expression_then}
use Rattle.edi_unit.specs.Tree.{link, Links, no_link, link_then, Place, place, Part, field, index, Parts, no_part, part_then, by_value, by_variable}
use Rattle.edi_unit.specs.Tree.{by_procedure, Arguments, no_argument, argument_then, Act, skip, assign, call, halt, if_act, while_act, when_act, cobegin}
use Rattle.edi_unit.specs.Tree.{Acts, no_act, act_then, Clause, clause, Clauses, no_clause, clause_then, Block}
use Rattle.edi_unit.specs.Need.{block_at, slot_at, slot_type, part_type, operator_type, expression_type}
use Rattle.edi_unit.specs.Fits.{is_called, CalleeFits, ExpressionFits}
use Rattle.edi_unit.specs.Headings.{Heading, Formals, no_formal, value_then, variable_then, procedure_then}
use Rattle.edi_unit.specs.Fits.{ExpressionsFit, LinksFit, PlaceFits, PartFits, PartsFit, ArgumentsFit, BranchFits, ActFits, ActsFit, ClauseFits, ClausesFit}
use Rattle.edi_meaning.specs.Step.{is_quiet}
use Rattle.edi_target.specs.Op as instruction
use Rattle.edi_target.specs.Op.{Branch}
use Rattle.edi_scheme.specs.Pieces.{Code, code_length, variable_code, operation, decision, constant_words, row_code, ClauseKind, once, repeated, released}
use Rattle.edi_scheme.specs.Pieces.{close_code, again_code}
use Rattle.edi_scheme.specs.Lengths.{expression_length, clause_length, clauses_length}
use Rattle.edi_scheme.specs.Code.{slot_offset, call_code, procedure_code, expression_code, expressions_code, members_code, links_code, place_code}
use Rattle.edi_scheme.specs.Code.{parts_code, part_code, arguments_code, act_code, acts_code, clause_code, clauses_code}
use Rattle.edi_scheme.proofs.Laid.{Long, long_of, long_one}
use Rattle.edi_scheme.proofs.Lengths as long
use Rattle.edi_scheme.proofs.Positions.{Covers, covers_start, covers_front, covers_back, covers_end}
use Rattle.edi_scheme.proofs.Aims.{plain_one, variable_plain, element_plain, check_plain, operation_plain, Good, Enters, aims_entry, aims_ahead, Begin}
use Rattle.edi_scheme.proofs.Aims.{no_branch, branch_then, aims_branches, Leads, nothing, leads_then, leads_plain, leads_one, leads_append, decision_leads}
use Rattle.edi_scheme.proofs.Aims.{again_leads, IsBeyond, beyond_part, close_leads}

module _ (words : List ℕ) (types : List Shape) (blocks : List Block) (headings : ℕ → ℕ → Heading) (entry : ℕ → ℕ)
    (enters : (n : ℕ) → n < length blocks → IsTrue (is_called (block_at blocks n).kind) → Enters words (entry n))
    (begins : (n : ℕ) → n < length blocks → Good words (entry n)) (b : ℕ) where
  call_leads : (c : Callee) (line at : ℕ) → CalleeFits blocks b c → Leads words (call_code types blocks entry b c line) at
  call_leads (callee.Block levels n) line at h = leads_one words
      (aims_entry words at (instruction.call levels (entry n) line) (entry n) refl (enters n h.1 h.2))
  call_leads (callee.Formal levels v) line at h = leads_plain words at (plain_one refl)

  procedure_leads : (c : Callee) (at : ℕ) → CalleeFits blocks b c → Leads words (procedure_code types blocks entry b c) at
  procedure_leads (callee.Block levels n) at h = leads_one words (aims_entry words at (instruction.proc levels (entry n)) (entry n) refl (enters n h.1 h.2))
  procedure_leads (callee.Formal levels v) at h = leads_then (record { free = refl }) (leads_plain words _ (plain_one refl))

  -- one of two codes
  either_leads : (test : Bool) (x y : Code) (at : ℕ) → (Covers (Good words) x at → Leads words x at) → (Covers (Good words) y at → Leads words y at)
      → Covers (Good words) (if test then x else y) at → Leads words (if test then x else y) at
  either_leads true x y at f g h = f h
  either_leads false x y at f g h = g h

  row_leads : (ws : Option (List ℕ)) (parts : Code) (at : ℕ) → (Covers (Good words) parts at → Leads words parts at) → Covers (Good words) (row_code ws parts)
      at → Leads words (row_code ws parts) at
  row_leads (Some ws) parts at f h = leads_plain words at (plain_one refl)
  row_leads None parts at f h = f h

  -- a code behind another
  behind : (x y : Code) (at n : ℕ) → Long x n → (Covers (Good words) x at → Leads words x at) → (Covers (Good words) y (at + n) → Leads words y (at + n))
      → Covers (Good words) (x ++ y) at → Leads words (x ++ y) at
  behind x y at n g f e h = leads_append words n g (f (covers_front (Good words) x y at h)) (e (covers_back (Good words) x y at n g h))

  mutual
    expression_leads : (e : Expression) (at : ℕ) → ExpressionFits types blocks headings b e → Covers (Good words) (expression_code types blocks entry b at e)
        at → Leads words (expression_code types blocks entry b at e) at
    expression_leads (constant t n) at k h = leads_plain words at (plain_one refl)
    expression_leads (load p) at k h =
        behind _ _ at _ (long.place_is_long types blocks entry b p at) (place_leads p at k) (λ h. leads_plain words _ (plain_one refl)) h
    expression_leads (not_of e) at k h =
        behind _ _ at _ (long.expression_is_long types blocks entry b e at) (expression_leads e at k.1) (λ h. leads_plain words _ (plain_one refl)) h
    expression_leads (sign_of e line) at k h =
        behind _ _ at _ (long.expression_is_long types blocks entry b e at) (expression_leads e at k.1) (λ h. leads_plain words _ (plain_one refl)) h
    expression_leads (chain e ls) at k h =
        behind _ _ at _ (long.expression_is_long types blocks entry b e at) (expression_leads e at k.1)
        (links_lead (expression_type types blocks b e) ls _ k.2) h
    expression_leads (make t es line) at k h =
        either_leads (is_set_shape (shape_at types t)) (instruction.zeros 8 ∷ members_code types blocks entry b (at + 2) line es)
        (row_code (constant_words es) (expressions_code types blocks entry b at es)) at
        (λ h. leads_then (record { free = refl })
        (members_lead line es (at + 2) k.2 (covers_back (Good words) (instruction.zeros 8 ∷ []) _ at 2 (long_one (instruction.zeros 8)) h)))
        (row_leads (constant_words es) _ at (expressions_lead es at k.2)) h
    expression_leads (convert t e line) at k h =
        behind _ _ at _ (long.expression_is_long types blocks entry b e at) (expression_leads e at k.3)
        (λ h. leads_plain words _ (check_plain (shape_at types t) line)) h
    expression_leads (apply_of c xs line) at k h =
        behind _ _ at _ (long.arguments_are_long types blocks entry b xs at) (arguments_lead xs _ at k.2) (λ h. call_leads c line _ k.0) h

    expressions_lead : (es : Expressions) (at : ℕ) → ExpressionsFit types blocks headings b es
        → Covers (Good words) (expressions_code types blocks entry b at es) at → Leads words (expressions_code types blocks entry b at es) at
    expressions_lead no_expression at k h = nothing
    expressions_lead (expression_then e es) at k h =
        behind _ _ at _ (long.expression_is_long types blocks entry b e at) (expression_leads e at k.0) (expressions_lead es _ k.1) h

    members_lead : (line : ℕ) (es : Expressions) (at : ℕ) → ExpressionsFit types blocks headings b es
        → Covers (Good words) (members_code types blocks entry b at line es) at → Leads words (members_code types blocks entry b at line es) at
    members_lead line no_expression at k h = nothing
    members_lead line (expression_then e es) at k h =
        let a = at + expression_length types blocks b e in
        behind _ _ at _ (long.expression_is_long types blocks entry b e at) (expression_leads e at k.0)
        (λ h. leads_then (record { free = refl })
        (members_lead line es (a + 2) k.1 (covers_back (Good words) (instruction.member line ∷ []) _ a 2 (long_one (instruction.member line)) h))) h

    links_lead : (t : ℕ) (ls : Links) (at : ℕ) → LinksFit types blocks headings b t ls → Covers (Good words) (links_code types blocks entry b at t ls) at
        → Leads words (links_code types blocks entry b at t ls) at
    links_lead t no_link at k h = nothing
    links_lead t (link_then (link o e line) ls) at k h =
        let right = at + code_length (decision o 0) in
        let end = right + expression_length types blocks b e in
        let onward = end + code_length (operation types t o line) in
        let c2 = expression_code types blocks entry b right e in
        let c3 = operation types t o line in
        let c4 = links_code types blocks entry b onward (operator_type o t) ls in
        let e2 = long.expression_is_long types blocks entry b e right in
        let h2 = covers_back (Good words) (decision o onward) (c2 ++ (c3 ++ c4)) at _ (long.decision_length o onward) h in
        let h4 = covers_back (Good words) c3 c4 end _ (long_of c3) (covers_back (Good words) c2 (c3 ++ c4) right _ e2 h2) in
        leads_append words _ (long.decision_length o onward) (decision_leads words o at onward (omega arith) (covers_start (Good words) c4 onward h4))
        (behind c2 (c3 ++ c4) right _ e2 (expression_leads e right k.1)
        (behind c3 c4 end _ (long_of c3) (λ h. leads_plain words end (operation_plain types t o line)) (links_lead (operator_type o t) ls onward k.2)) h2)

    place_leads : (p : Place) (at : ℕ) → PlaceFits types blocks headings b p → Covers (Good words) (place_code types blocks entry b at p) at
        → Leads words (place_code types blocks entry b at p) at
    place_leads (place levels v ps) at k h =
        behind _ _ at _ (long_of (variable_code levels (slot_offset types blocks entry b levels v) (slot_at blocks b levels v)))
        (λ h. leads_plain words at (variable_plain levels _ (slot_at blocks b levels v))) (parts_lead (slot_type (slot_at blocks b levels v)) ps _ k.2) h

    parts_lead : (t : ℕ) (ps : Parts) (at : ℕ) → PartsFit types blocks headings b t ps → Covers (Good words) (parts_code types blocks entry b at t ps) at
        → Leads words (parts_code types blocks entry b at t ps) at
    parts_lead t no_part at k h = nothing
    parts_lead t (part_then p ps) at k h =
        behind _ _ at _ (long.part_is_long types blocks entry b t p at) (part_leads t p at k.0) (parts_lead (part_type types t p) ps _ k.1) h

    part_leads : (t : ℕ) (p : Part) (at : ℕ) → PartFits types blocks headings b t p → Covers (Good words) (part_code types blocks entry b at t p) at
        → Leads words (part_code types blocks entry b at t p) at
    part_leads t (field n) at k h = leads_plain words at (plain_one refl)
    part_leads t (index e line) at k h =
        behind _ _ at _ (long.expression_is_long types blocks entry b e at) (expression_leads e at k.1)
        (λ h. leads_plain words _ (element_plain types (shape_at types t) line)) h

    arguments_lead : (xs : Arguments) (fs : Formals) (at : ℕ) → ArgumentsFit types blocks headings b xs fs
        → Covers (Good words) (arguments_code types blocks entry b at xs) at → Leads words (arguments_code types blocks entry b at xs) at
    arguments_lead no_argument fs at k h = nothing
    arguments_lead (argument_then (by_value e) xs) (value_then t fs) at k h =
        behind _ _ at _ (long.expression_is_long types blocks entry b e at) (expression_leads e at k.1) (arguments_lead xs fs _ k.2) h
    arguments_lead (argument_then (by_variable p) xs) (variable_then t fs) at k h =
        behind _ _ at _ (long.place_is_long types blocks entry b p at) (place_leads p at k.1) (arguments_lead xs fs _ k.2) h
    arguments_lead (argument_then (by_procedure c) xs) (procedure_then hd fs) at k h =
        behind _ _ at _ (long.procedure_is_long types blocks entry b c) (λ h. procedure_leads c at k.1) (arguments_lead xs fs _ k.2) h
    arguments_lead (argument_then (by_value e) xs) no_formal at k h = absurd k
    arguments_lead (argument_then (by_value e) xs) (variable_then t fs) at k h = absurd k
    arguments_lead (argument_then (by_value e) xs) (procedure_then hd fs) at k h = absurd k
    arguments_lead (argument_then (by_variable p) xs) no_formal at k h = absurd k
    arguments_lead (argument_then (by_variable p) xs) (value_then t fs) at k h = absurd k
    arguments_lead (argument_then (by_variable p) xs) (procedure_then hd fs) at k h = absurd k
    arguments_lead (argument_then (by_procedure c) xs) no_formal at k h = absurd k
    arguments_lead (argument_then (by_procedure c) xs) (value_then t fs) at k h = absurd k
    arguments_lead (argument_then (by_procedure c) xs) (variable_then t fs) at k h = absurd k

  branches_begin : (bs : List ℕ) → All (BranchFits types blocks headings b) bs
      → Begin words (map (λ n. record { need = (block_at blocks n).need; address = entry n }) bs)
  branches_begin [] k = no_branch
  branches_begin (n ∷ bs) k = branch_then (begins n (k 0 n (omega arith)).0) (branches_begin bs (λ i d l. k (suc i) d (omega arith)))

  mutual
    act_leads : (s : Act) (at : ℕ) → ActFits types blocks headings b s → Covers (Good words) (act_code types blocks entry b at s) at
        → Leads words (act_code types blocks entry b at s) at
    act_leads skip at k h = nothing
    act_leads (assign p e) at k h =
        behind _ _ at _ (long.place_is_long types blocks entry b p at) (place_leads p at k.1)
        (behind _ _ _ _ (long.expression_is_long types blocks entry b e _) (expression_leads e _ k.2) (λ h. leads_plain words _ (plain_one refl))) h
    act_leads (call c xs line) at k h =
        behind _ _ at _ (long.arguments_are_long types blocks entry b xs at) (arguments_lead xs _ at k.2) (λ h. call_leads c line _ k.0) h
    act_leads (halt line) at k h = leads_plain words at (plain_one refl)
    act_leads (if_act cs) at k h =
        let end = at + clauses_length types blocks b once cs in
        clauses_lead once cs end at k (omega arith) (covers_end (Good words) _ at _ (long.clauses_are_long types blocks entry b once cs end at) h) h
    act_leads (while_act cs) at k h = clauses_lead repeated cs at at k (omega arith) (covers_start (Good words) _ at h) h
    act_leads (when_act cs line) at k h =
        let top = at + 2 in
        let again = top + clauses_length types blocks b released cs in
        let end = again + 3 in
        let c1 = clauses_code types blocks entry b released end top cs in
        let c2 = again_code (is_quiet cs) top in
        let h1 = covers_back (Good words) (instruction.when line ∷ []) (c1 ++ c2) at 2 (long_one (instruction.when line)) h in
        let h2 = covers_back (Good words) c1 c2 top _ (long.clauses_are_long types blocks entry b released cs end top) h1 in
        leads_then (record { free = refl })
        (leads_append words _ (long.clauses_are_long types blocks entry b released cs end top)
        (clauses_lead released cs end top k (omega arith) (covers_end (Good words) c2 again 3 (long.again_length (is_quiet cs) top) h2)
        (covers_front (Good words) c1 c2 top h1))
        (again_leads words (is_quiet cs) top again (omega arith) (covers_start (Good words) (c1 ++ c2) top h1)))
    act_leads (cobegin bs line) at k h = leads_one words (aims_branches words at line _ (branches_begin bs k.2))

    pub acts_lead : (s : Acts) (at : ℕ) → ActsFit types blocks headings b s → Covers (Good words) (acts_code types blocks entry b at s) at
        → Leads words (acts_code types blocks entry b at s) at
    acts_lead no_act at k h = nothing
    acts_lead (act_then s ss) at k h =
        behind _ _ at _ (long.act_is_long types blocks entry b s at) (act_leads s at k.0) (acts_lead ss _ k.1) h

    clause_leads : (c : Clause) (next at : ℕ) → ClauseFits types blocks headings b c → at + clause_length types blocks b c ≤ next → Good words next
        → Covers (Good words) (clause_code types blocks entry b at next c) at → Leads words (clause_code types blocks entry b at next c) at
    clause_leads (clause e s) next at k less g h =
        let test = at + expression_length types blocks b e in
        behind _ _ at _ (long.expression_is_long types blocks entry b e at) (expression_leads e at k.1)
        (λ h. leads_then (aims_ahead words test (instruction.false_ next) next refl g (omega (arith, less)))
        (acts_lead s (test + 3) k.2 (covers_back (Good words) (instruction.false_ next ∷ []) _ test 3 (long_one (instruction.false_ next)) h))) h

    clauses_lead : (kind : ClauseKind) (cs : Clauses) (target at : ℕ) → ClausesFit types blocks headings b cs
        → IsBeyond kind target at (at + clauses_length types blocks b kind cs) → Good words target
        → Covers (Good words) (clauses_code types blocks entry b kind target at cs) at → Leads words (clauses_code types blocks entry b kind target at cs) at
    clauses_lead kind no_clause target at k far g h = nothing
    clauses_lead kind (clause_then c cs) target at k far g h =
        let end = at + clause_length types blocks b c in
        let close = code_length (close_code kind 0 cs) in
        let next = end + close in
        let rest = clauses_length types blocks b kind cs in
        let c1 = clause_code types blocks entry b at next c in
        let c2 = close_code kind target cs in
        let c3 = clauses_code types blocks entry b kind target next cs in
        let h2 = covers_back (Good words) c1 (c2 ++ c3) at _ (long.clause_is_long types blocks entry b c next at) h in
        let h3 = covers_back (Good words) c2 c3 end _ (long.close_length kind target cs) h2 in
        leads_append words _ (long.clause_is_long types blocks entry b c next at)
        (clause_leads c next at k.0 (omega arith) (covers_start (Good words) c3 next h3) (covers_front (Good words) c1 (c2 ++ c3) at h))
        (leads_append words _ (long.close_length kind target cs)
        (close_leads words kind target end cs (beyond_part kind target at _ end (end + close) (omega arith) (omega arith) far) g)
        (clauses_lead kind cs target next k.1 (beyond_part kind target at _ next (next + rest) (omega arith) (omega arith) far) g h3))
