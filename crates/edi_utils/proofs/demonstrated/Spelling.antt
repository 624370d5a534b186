-- The tree of the demonstration spells its symbols, and is not deep.
use Rattle.std.proofs.Common.{◌≡◌, ℕ, zero, suc, ◌+◌, ◌-◌, ◌*◌, ◌≤◌, List, ◌++◌, refl, arith}
use Rattle.edi_lex.specs.declared.symbol.Symbol.{Symbol}
use Rattle.edi_lex.specs.declared.symbol.Mark.{Mark}
use Rattle.edi_tree.specs.Stands.{Spelled, StandAsMarks}
use Rattle.edi_tree.specs.Spelled.{declarations_then, statements_then, list_then}
use Rattle.edi_tree.specs.Spells.{Spells}
use Rattle.edi_tree.specs.Levels.{most_levels}
use Rattle.edi_tree.specs.Depth.{declarations_depth, statements_depth}
use Rattle.edi_tree.proofs.Greatest.{greatest_is_depth}
use Rattle.edi_tree.proofs.Marks.{parts_spell}
use Rattle.edi_grammar.specs.derivation.Faults.{IsTheTree}
use Rattle.edi_grammar.proofs.derivation.Programs.{same_program}
use Rattle.edi_utils.specs.demonstrated.Symbols.{procedures_marks, next_calls_marks, calls_marks, demo_marks}
use Rattle.edi_utils.specs.demonstrated.Tree.{procedure_trees, next_call_trees, call_trees, demo_tree}

-- a symbol whose line the tree does not keep, and one whose line it keeps, in front of others
free : {A : Type 0} {s : Symbol} → A → ((s ≡ s) × Unit {0}) × A
free others = ((refl, tt), others)

kept : {A : Type 0} {s : Symbol} {line : ℕ} → A → ((s ≡ s) × (line ≡ line)) × A
kept others = ((refl, refl), others)

procedures_stand : (i n line : ℕ) (more : List Spelled) (marks : List Mark) → StandAsMarks more marks
    → StandAsMarks (declarations_then (procedure_trees i n line) more) (procedures_marks i n line ++ marks)
procedures_stand i zero line more marks h = h
procedures_stand i (suc n) line more marks h =
    free (kept (free (kept (kept (kept (free (kept (kept (kept (kept (kept (free (free (kept
    (procedures_stand (suc i) n (line + 2) more marks h)))))))))))))))

next_calls_stand : (i n line : ℕ) (more : List Spelled) (marks : List Mark) → StandAsMarks more marks
    → StandAsMarks (statements_then (next_call_trees i n line) more) (next_calls_marks i n line ++ marks)
next_calls_stand i zero line more marks h = h
next_calls_stand i (suc n) line more marks h = free (kept (next_calls_stand (suc i) n line more marks h))

calls_stand : (n line : ℕ) (more : List Spelled) (marks : List Mark) → StandAsMarks more marks
    → StandAsMarks (list_then (call_trees n line) more) (calls_marks n line ++ marks)
calls_stand n line more marks h = kept (next_calls_stand 2 (n - 1) line more marks h)

tree_spells : (n : ℕ) → Spells (demo_tree n) (demo_marks n)
tree_spells n =
    let line : ℕ = 3 + 2 * n in
    parts_spell (demo_tree n) (demo_marks n) (free (kept (free (kept (free (kept
    (procedures_stand 1 n 3 _ _ (free (kept (free (kept
    (calls_stand n (line + 1) _ _ (kept (free (kept
    (calls_stand n (line + 2) _ _ (kept (kept tt))))))))))))))))))

procedures_depth : (i n line : ℕ) → declarations_depth (procedure_trees i n line) ≤ 2
procedures_depth i zero line = omega arith
procedures_depth i (suc n) line = omega (arith, procedures_depth (suc i) n (line + 2))

next_calls_depth : (i n line : ℕ) → statements_depth (next_call_trees i n line) ≤ 0
next_calls_depth i zero line = omega arith
next_calls_depth i (suc n) line = omega (arith, next_calls_depth (suc i) n line)

tree_shallow : (n : ℕ) → most_levels (demo_tree n) ≤ 64
tree_shallow n =
    let line : ℕ = 3 + 2 * n in
    omega (arith, greatest_is_depth (demo_tree n), procedures_depth 1 n 3, next_calls_depth 2 (n - 1) (line + 1), next_calls_depth 2 (n - 1) (line + 2))

pub is_the_tree : (n : ℕ) → IsTheTree (demo_marks n) (demo_tree n)
is_the_tree n = record {
  spells = tree_spells n;
  shallow = tree_shallow n;
  one = λ other h. same_program other (demo_tree n) (demo_marks n) h (tree_spells n);
}
