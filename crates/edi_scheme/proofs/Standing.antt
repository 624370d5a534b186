-- The code of a construct stands where its instructions stand.
use Rattle.std.proofs.Common.{◌≡◌, ℕ, zero, suc, ◌+◌, ◌<◌, List, [], ◌∷◌, ◌++◌, Option, Some, None, length, refl, sym, ap, ◌∙◌, subst, arith, inl, inr}
use Rattle.std.specs.Prelude.{◌⊎◌, Bool, true, false, if◌then◌else◌, map}
use Rattle.std.proofs.Math.Nat.{eq-or-lt_of_le}
use Rattle.edi_unit.specs.Types.{Shape, shape_at, is_set_shape, size}
use Rattle.edi_unit.specs.Tree.{Expression, constant, load, not_of, sign_of, chain, make, convert, apply_of, Expressions, no_expression, expression_then}
use Rattle.edi_unit.specs.Tree.{link, Links, no_link, link_then, Place, place, Part, field, index, Parts, no_part, part_then, Argument, by_value}
use Rattle.edi_unit.specs.Tree.{by_variable, by_procedure, Arguments, no_argument, argument_then, Act, skip, assign, call, halt, if_act, while_act, when_act}
use Rattle.edi_unit.specs.Tree.{cobegin, Acts, no_act, act_then, Clause, clause, Clauses, no_clause, clause_then, Block}
use Rattle.edi_unit.specs.Need.{block_at, slot_at, slot_type, part_type, operator_type, place_type, expression_type}
use Rattle.edi_meaning.specs.Step.{is_quiet}
use Rattle.edi_target.specs.Op as instruction
use Rattle.edi_target.specs.Op.{Instruction, words_of, word_of_integer}
use Rattle.edi_scheme.specs.Pieces.{Code, code_length, field_offset, is_branch, entry_of, return_of, variable_code, element_code, operation, decision}
use Rattle.edi_scheme.specs.Pieces.{check_code, constant_words, row_code, row_length, ClauseKind, once, repeated, released, close_code, again_code}
use Rattle.edi_scheme.specs.Lengths.{expression_length, expressions_length, members_length, links_length, place_length, parts_length, part_length}
use Rattle.edi_scheme.specs.Lengths.{argument_length, arguments_length, act_length, acts_length, clause_length, clauses_length}
use Rattle.edi_scheme.specs.Code.{slot_offset, call_code, expression_code, expressions_code, members_code, links_code, place_code, parts_code, part_code}
use Rattle.edi_scheme.specs.Code.{argument_code, arguments_code, act_code, acts_code, clause_code, clauses_code, entry, block_code, blocks_code}
use Rattle.edi_scheme.specs.Stands.{Either, AreInstructions, IsRow, IsExpression, AreExpressions, AreMembers, AreLinks, IsPlace, AreParts, IsPart}
use Rattle.edi_scheme.specs.Stands.{IsArgument, AreArguments, IsAct, AreActs, IsClause, AreClauses, IsProcedure, IsBranch, IsBlock}
use Rattle.edi_scheme.proofs.Laid.{Long, long_is, long_one, long_of, Laid, laid_front, laid_back, laid_instructions}
use Rattle.edi_scheme.proofs.Lengths.{decision_length, close_length, again_length, call_is_long, procedure_is_long, expression_is_long, place_is_long}
use Rattle.edi_scheme.proofs.Lengths.{part_is_long, argument_is_long, arguments_are_long, act_is_long, acts_are_long, clause_is_long, clauses_are_long}
use Rattle.edi_scheme.proofs.Lengths.{blocks_are_long}

module _ (fetched : ℕ → Option (Instruction × ℕ)) where
  -- one instruction
  one : (i : Instruction) (at to : ℕ) → at + length (words_of i) ≡ to → fetched at ≡ Some (i, at + length (words_of i)) → fetched at ≡ Some (i, to)
  one i at to e h = h ∙ ap (λ n. Some (i, n)) e

  -- some instructions of a length
  some : {code : Code} {n : ℕ} (at to : ℕ) → Long code n → at + n ≡ to → Laid fetched code at → AreInstructions fetched code at to
  some {code = code} at to g e h = laid_instructions fetched code at to (long_is (omega (arith, e)) g) (omega (arith, e)) h

  -- one of two codes
  either : (test : Bool) (x y : Code) (m n at to : ℕ) {A B : Type 0} → (at + m ≡ to → Laid fetched x at → A) → (at + n ≡ to → Laid fetched y at → B)
      → at + (if test then m else n) ≡ to → Laid fetched (if test then x else y) at → Either test A B
  either true x y m n at to f g e h = f e h
  either false x y m n at to f g e h = g e h

  row : (ws : Option (List ℕ)) (parts : Code) (n at to : ℕ) {A : Type 0} → (at + n ≡ to → Laid fetched parts at → A) → at + row_length ws n ≡ to
      → Laid fetched (row_code ws parts) at → IsRow fetched ws at to A
  row (Some ws) parts n at to g e h = one (instruction.text ws) at to (omega (arith, e)) h.0
  row None parts n at to g e h = g e h

  -- a code of n words, and what stands behind it
  followed : {front : Code} {n : ℕ} {P Q : ℕ → Type 0} (last : Code) (k at to : ℕ) → Long front n → (Laid fetched front at → P (at + n))
      → (at + n + k ≡ to → Laid fetched last (at + n) → Q (at + n)) → at + (n + k) ≡ to → Laid fetched (front ++ last) at → (a : ℕ) × P a × Q a
  followed {front = front} {n = n} last k at to long first behind e h =
      (at + n, first (laid_front fetched front last at h), behind (omega (arith, e)) (laid_back fetched front last at _ long h))

  module _ (types : List Shape) (blocks : List Block) (entry : ℕ → ℕ) where
    module _ (b : ℕ) where
      mutual
        is_expression : (e : Expression) (at to : ℕ) → at + expression_length types blocks b e ≡ to → Laid fetched (expression_code types blocks entry b at e)
            at → IsExpression fetched types blocks entry b e at to
        is_expression (constant t n) at to q h = one (instruction.const (word_of_integer n)) at to q h.0
        is_expression (load p) at to q h =
            followed (instruction.load (size types (place_type types blocks b p)) ∷ []) 2 at to (place_is_long types blocks entry b p at)
            (is_place p at _ refl) (λ e g. one _ _ to e g.0) q h
        is_expression (not_of e) at to q h =
            followed (instruction.not_ ∷ []) 1 at to (expression_is_long types blocks entry b e at) (is_expression e at _ refl) (λ e g. one _ _ to e g.0) q h
        is_expression (sign_of e line) at to q h =
            followed (instruction.neg line ∷ []) 2 at to (expression_is_long types blocks entry b e at) (is_expression e at _ refl)
            (λ e g. one _ _ to e g.0) q h
        is_expression (chain e ls) at to q h =
            let t = expression_type types blocks b e in
            followed (links_code types blocks entry b (at + expression_length types blocks b e) t ls) (links_length types blocks b t ls) at to
            (expression_is_long types blocks entry b e at) (is_expression e at _ refl) (are_links t ls _ to) q h
        is_expression (make t es line) at to q h =
            either (is_set_shape (shape_at types t)) (instruction.zeros 8 ∷ members_code types blocks entry b (at + 2) line es)
            (row_code (constant_words es) (expressions_code types blocks entry b at es)) (2 + members_length types blocks b es)
            (row_length (constant_words es) (expressions_length types blocks b es)) at to
            (λ q h. (at + 2, one (instruction.zeros 8) at (at + 2) refl h.0, are_members line es (at + 2) to (omega (arith, q)) h.1))
            (row (constant_words es) (expressions_code types blocks entry b at es) (expressions_length types blocks b es) at to (are_expressions es at to))
            q h
        is_expression (convert t e line) at to q h =
            let last = check_code (shape_at types t) line in
            followed last (code_length last) at to (expression_is_long types blocks entry b e at) (is_expression e at _ refl) (some _ to (long_of last))
            (omega (arith, q)) h
        is_expression (apply_of c xs line) at to q h =
            followed (call_code types blocks entry b c line) _ at to (arguments_are_long types blocks entry b xs at) (are_arguments xs at _ refl)
            (some _ to (call_is_long types blocks entry b c line)) q h

        are_expressions : (es : Expressions) (at to : ℕ) → at + expressions_length types blocks b es ≡ to
            → Laid fetched (expressions_code types blocks entry b at es) at → AreExpressions fetched types blocks entry b es at to
        are_expressions no_expression at to q h = omega (arith, q)
        are_expressions (expression_then e es) at to q h =
            followed (expressions_code types blocks entry b (at + expression_length types blocks b e) es) (expressions_length types blocks b es) at to
            (expression_is_long types blocks entry b e at) (is_expression e at _ refl) (are_expressions es _ to) q h

        are_members : (line : ℕ) (es : Expressions) (at to : ℕ) → at + members_length types blocks b es ≡ to
            → Laid fetched (members_code types blocks entry b at line es) at → AreMembers fetched types blocks entry b line es at to
        are_members line no_expression at to q h = omega (arith, q)
        are_members line (expression_then e es) at to q h =
            let front = expression_code types blocks entry b at e in
            let a = at + expression_length types blocks b e in
            let last = members_code types blocks entry b (a + 2) line es in
            let rest = laid_back fetched front (instruction.member line ∷ last) at _ (expression_is_long types blocks entry b e at) h in (
              a,
              a + 2,
              is_expression e at a refl (laid_front fetched front (instruction.member line ∷ last) at h),
              one (instruction.member line) a (a + 2) refl rest.0,
              are_members line es (a + 2) to (omega (arith, q)) rest.1,
            )

        are_links : (t : ℕ) (ls : Links) (at to : ℕ) → at + links_length types blocks b t ls ≡ to → Laid fetched (links_code types blocks entry b at t ls) at
            → AreLinks fetched types blocks entry b t ls at to
        are_links t no_link at to q h = omega (arith, q)
        are_links t (link_then (link o e line) ls) at to q h =
            let right = at + code_length (decision o 0) in
            let end = right + expression_length types blocks b e in
            let behind = end + code_length (operation types t o line) in
            let c1 = decision o behind in
            let c2 = expression_code types blocks entry b right e in
            let c3 = operation types t o line in
            let c4 = links_code types blocks entry b behind (operator_type o t) ls in
            let h2 = laid_back fetched c1 (c2 ++ (c3 ++ c4)) at _ (decision_length o behind) h in
            let h3 = laid_back fetched c2 (c3 ++ c4) right _ (expression_is_long types blocks entry b e right) h2 in
            let h4 = laid_back fetched c3 c4 end _ (long_of c3) h3 in (
              right,
              end,
              behind,
              some at right (decision_length o behind) refl (laid_front fetched c1 (c2 ++ (c3 ++ c4)) at h),
              is_expression e right end refl (laid_front fetched c2 (c3 ++ c4) right h2),
              some end behind (long_of c3) refl (laid_front fetched c3 c4 end h3),
              are_links (operator_type o t) ls behind to (omega (arith, q)) h4,
            )

        is_place : (p : Place) (at to : ℕ) → at + place_length types blocks b p ≡ to → Laid fetched (place_code types blocks entry b at p) at
            → IsPlace fetched types blocks entry b p at to
        is_place (place levels v ps) at to q h =
            let s = slot_at blocks b levels v in
            let front = variable_code levels (slot_offset types blocks entry b levels v) s in
            followed (parts_code types blocks entry b (at + code_length front) (slot_type s) ps) (parts_length types blocks b (slot_type s) ps) at to
            (long_of front) (some at _ (long_of front) refl) (are_parts (slot_type s) ps _ to) (omega (arith, q)) h

        are_parts : (t : ℕ) (ps : Parts) (at to : ℕ) → at + parts_length types blocks b t ps ≡ to → Laid fetched (parts_code types blocks entry b at t ps) at
            → AreParts fetched types blocks entry b t ps at to
        are_parts t no_part at to q h = omega (arith, q)
        are_parts t (part_then p ps) at to q h =
            let u = part_type types t p in
            followed (parts_code types blocks entry b (at + part_length types blocks b t p) u ps) (parts_length types blocks b u ps) at to
            (part_is_long types blocks entry b t p at) (is_part t p at _ refl) (are_parts u ps _ to) q h

        is_part : (t : ℕ) (p : Part) (at to : ℕ) → at + part_length types blocks b t p ≡ to → Laid fetched (part_code types blocks entry b at t p) at
            → IsPart fetched types blocks entry b t p at to
        is_part t (field n) at to q h = one (instruction.field (field_offset types t n)) at to q h.0
        is_part t (index e line) at to q h =
            let last = element_code types (shape_at types t) line in
            followed last (code_length last) at to (expression_is_long types blocks entry b e at) (is_expression e at _ refl) (some _ to (long_of last))
            (omega (arith, q)) h

        is_argument : (x : Argument) (at to : ℕ) → at + argument_length types blocks b x ≡ to → Laid fetched (argument_code types blocks entry b at x) at
            → IsArgument fetched types blocks entry b x at to
        is_argument (by_value e) at to q h = is_expression e at to q h
        is_argument (by_variable p) at to q h = is_place p at to q h
        is_argument (by_procedure c) at to q h = some at to (procedure_is_long types blocks entry b c) q h

        are_arguments : (xs : Arguments) (at to : ℕ) → at + arguments_length types blocks b xs ≡ to → Laid fetched (arguments_code types blocks entry b at xs)
            at → AreArguments fetched types blocks entry b xs at to
        are_arguments no_argument at to q h = omega (arith, q)
        are_arguments (argument_then x xs) at to q h =
            followed (arguments_code types blocks entry b (at + argument_length types blocks b x) xs) (arguments_length types blocks b xs) at to
            (argument_is_long types blocks entry b x at) (is_argument x at _ refl) (are_arguments xs _ to) q h

      mutual
        is_act : (s : Act) (at to : ℕ) → at + act_length types blocks b s ≡ to → Laid fetched (act_code types blocks entry b at s) at
            → IsAct fetched types blocks entry b s at to
        is_act skip at to q h = omega (arith, q)
        is_act (assign p e) at to q h =
            let a = at + place_length types blocks b p in
            let c = a + expression_length types blocks b e in
            let c1 = place_code types blocks entry b at p in
            let c2 = expression_code types blocks entry b a e in
            let last = instruction.store (size types (place_type types blocks b p)) in
            let h2 = laid_back fetched c1 (c2 ++ (last ∷ [])) at _ (place_is_long types blocks entry b p at) h in (
              a,
              c,
              is_place p at a refl (laid_front fetched c1 (c2 ++ (last ∷ [])) at h),
              is_expression e a c refl (laid_front fetched c2 (last ∷ []) a h2),
              one last c to (omega (arith, q)) (laid_back fetched c2 (last ∷ []) a _ (expression_is_long types blocks entry b e a) h2).0,
            )
        is_act (call c xs line) at to q h = is_expression (apply_of c xs line) at to q h
        is_act (halt line) at to q h = one (instruction.halt line) at to q h.0
        is_act (if_act cs) at to q h =
            subst (λ n. AreClauses fetched types blocks entry b once n cs at to) q (are_clauses once cs (at + clauses_length types blocks b once cs) at to q h)
        is_act (while_act cs) at to q h = are_clauses repeated cs at at to q h
        is_act (when_act cs line) at to q h =
            let top = at + 2 in
            let again = top + clauses_length types blocks b released cs in
            let end = again + 3 in
            let c1 = clauses_code types blocks entry b released end top cs in
            let c2 = again_code (is_quiet cs) top in
            let same : end ≡ to = omega (arith, q) in (
              top,
              again,
              one (instruction.when line) at top refl h.0,
              subst (λ n. AreClauses fetched types blocks entry b released n cs top again) same
                  (are_clauses released cs end top again refl (laid_front fetched c1 c2 top h.1)),
              some again to (again_length (is_quiet cs) top) same
                  (laid_back fetched c1 c2 top _ (clauses_are_long types blocks entry b released cs end top) h.1),
            )
        is_act (cobegin bs line) at to q h =
            let i = instruction.cobegin line (map (λ n. record { need = (block_at blocks n).need; address = entry n }) bs) in
            let long = (act_is_long types blocks entry b (cobegin bs line) at).is in
            one i at to (omega (arith, q, long, (long_one i).is)) h.0

        are_acts : (s : Acts) (at to : ℕ) → at + acts_length types blocks b s ≡ to → Laid fetched (acts_code types blocks entry b at s) at
            → AreActs fetched types blocks entry b s at to
        are_acts no_act at to q h = omega (arith, q)
        are_acts (act_then s ss) at to q h =
            followed (acts_code types blocks entry b (at + act_length types blocks b s) ss) (acts_length types blocks b ss) at to
            (act_is_long types blocks entry b s at) (is_act s at _ refl) (are_acts ss _ to) q h

        is_clause : (c : Clause) (next at end : ℕ) → at + clause_length types blocks b c ≡ end → Laid fetched (clause_code types blocks entry b at next c) at
            → IsClause fetched types blocks entry b c next at end
        is_clause (clause e s) next at end q h =
            let front = expression_code types blocks entry b at e in
            let test = at + expression_length types blocks b e in
            let last = instruction.false_ next ∷ acts_code types blocks entry b (test + 3) s in
            let rest = laid_back fetched front last at _ (expression_is_long types blocks entry b e at) h in (
              test,
              test + 3,
              is_expression e at test refl (laid_front fetched front last at h),
              one (instruction.false_ next) test (test + 3) refl rest.0,
              are_acts s (test + 3) end (omega (arith, q)) rest.1,
            )

        are_clauses : (kind : ClauseKind) (cs : Clauses) (target at to : ℕ) → at + clauses_length types blocks b kind cs ≡ to
            → Laid fetched (clauses_code types blocks entry b kind target at cs) at → AreClauses fetched types blocks entry b kind target cs at to
        are_clauses kind no_clause target at to q h = omega (arith, q)
        are_clauses kind (clause_then c cs) target at to q h =
            let end = at + clause_length types blocks b c in
            let next = end + code_length (close_code kind 0 cs) in
            let c1 = clause_code types blocks entry b at next c in
            let c2 = close_code kind target cs in
            let c3 = clauses_code types blocks entry b kind target next cs in
            let h2 = laid_back fetched c1 (c2 ++ c3) at _ (clause_is_long types blocks entry b c next at) h in (
              end,
              next,
              is_clause c next at end refl (laid_front fetched c1 (c2 ++ c3) at h),
              some end next (close_length kind target cs) refl (laid_front fetched c2 c3 end h2),
              are_clauses kind cs target next to (omega (arith, q)) (laid_back fetched c2 c3 end _ (close_length kind target cs) h2),
            )

  -- ---- blocks

  module _ (types : List Shape) (blocks : List Block) where
    is_procedure : (n : ℕ) → Laid fetched (entry_of types (block_at blocks n)
        ∷ (acts_code types blocks (entry types blocks) n (entry types blocks n + 6) (block_at blocks n).body ++ return_of types (block_at blocks n) ∷ []))
        (entry types blocks n) → IsProcedure fetched types blocks (entry types blocks) n
    is_procedure n h =
        let body = entry types blocks n + 6 in
        let list = (block_at blocks n).body in
        let end = body + acts_length types blocks n list in
        let front = acts_code types blocks (entry types blocks) n body list in
        let last = return_of types (block_at blocks n) in
        record {
          body = body;
          end = end;
          after = end + 3;
          begins = one (entry_of types (block_at blocks n)) (entry types blocks n) body refl h.0;
          list = are_acts types blocks (entry types blocks) n list body end refl (laid_front fetched front (last ∷ []) body h.1);
          returns = one last end (end + 3) refl (laid_back fetched front (last ∷ []) body _ (acts_are_long types blocks (entry types blocks) n list body)
              h.1).0;
        }

    is_branch_code : (n : ℕ) → Laid fetched (acts_code types blocks (entry types blocks) n (entry types blocks n) (block_at blocks n).body ++ instruction.exit
        ∷ []) (entry types blocks n) → IsBranch fetched types blocks (entry types blocks) n
    is_branch_code n h =
        let at = entry types blocks n in
        let list = (block_at blocks n).body in
        let end = at + acts_length types blocks n list in
        let front = acts_code types blocks (entry types blocks) n at list in
        record {
          end = end;
          after = end + 1;
          list = are_acts types blocks (entry types blocks) n list at end refl (laid_front fetched front (instruction.exit ∷ []) at h);
          exits = one instruction.exit end (end + 1) refl
              (laid_back fetched front (instruction.exit ∷ []) at _ (acts_are_long types blocks (entry types blocks) n list at) h).0;
        }

    is_block : (n : ℕ) → Laid fetched (block_code types blocks (entry types blocks n) n) (entry types blocks n) → IsBlock fetched types blocks
        (entry types blocks) n
    is_block n h =
        either (is_branch (block_at blocks n).kind) _ _ 0 0 (entry types blocks n)
        (entry types blocks n + (if is_branch (block_at blocks n).kind then 0 else 0))
        (λ e h. is_branch_code n h) (λ e h. is_procedure n h) refl h

    -- each of the first blocks stands behind those before it
    pub are_blocks : (count n : ℕ) → n < count → Laid fetched (blocks_code types blocks count) 0 → IsBlock fetched types blocks (entry types blocks) n
    are_blocks zero n k h = absurd (omega (arith, k))
    are_blocks (suc count) n k h = cases (λ less. are_blocks count n less (laid_front fetched front last 0 h)) (eq-or-lt_of_le (omega (arith, k)))
      where
        front : Code
        front = blocks_code types blocks count

        last : Code
        last = block_code types blocks (entry types blocks count) count

        cases : (n < count → IsBlock fetched types blocks (entry types blocks) n) → (n ≡ count) ⊎ (n < count) → IsBlock fetched types blocks
            (entry types blocks) n
        cases before (inr less) = before less
        cases before (inl same) =
            subst (IsBlock fetched types blocks (entry types blocks)) (sym same)
            (is_block count (subst (Laid fetched last) (omega arith) (laid_back fetched front last 0 _ (blocks_are_long types blocks count) h)))
