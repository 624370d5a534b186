-- The tree of the demonstration breaks no static rule.
use Rattle.std.proofs.Common.{◌≡◌, ℕ, zero, suc, ◌+◌, ◌-◌, ◌*◌, ◌<◌, ◌≤◌, max, false, List, [], ◌∷◌, ◌++◌, length, Some, None, pos, refl}
use Rattle.std.proofs.Common.{sym, ap, ◌∙◌, subst, arith, append_assoc, append-nil, length-append}
use Rattle.std.specs.Prelude.{codes}
use Rattle.std.specs.Option.{option_or}
use Rattle.edi_scope.specs.Scope.{Scope, meaning, visible}
use Rattle.edi_scope.specs.declared.entity.Entity.TheVariants as entity
use Rattle.edi_tree.specs.declared.constants.Constant.TheVariants as constant
use Rattle.edi_tree.specs.Tree as text
use Rattle.edi_unit.specs.declared.units.BlockKind.TheVariants as block_kind
use Rattle.edi_unit.specs.Types.{standard_types}
use Rattle.edi_unit.specs.Tree as unit
use Rattle.edi_unit.specs.Tree.{Act, Acts, Block, ProgramUnit}
use Rattle.edi_unit.specs.Need.{block_at}
use Rattle.edi_unit.specs.Headings.{Heading}
use Rattle.edi_static.specs.Judged.{Judged, gives, ◌>>=◌}
use Rattle.edi_static.specs.Environment.{Environment, no_heading, heading_at, steps_to, begun_block}
use Rattle.edi_static.specs.Statements.{After, statement, statements, statement_list, branch, branches, leave_branch, close_block}
use Rattle.edi_static.specs.Declarations.{item, declarations, begin_procedure, procedure_rest, all_completed, leave_to, heading_of}
use Rattle.edi_static.specs.Programs.{Resolved}
use Rattle.edi_utils.specs.demonstrated.Symbols.{procedure_name}
use Rattle.edi_utils.specs.demonstrated.Tree.{body, procedure_tree, procedure_trees, call_tree, next_call_trees, call_trees, branches_tree, demo_tree}
use Rattle.edi_utils.proofs.demonstrated.Names.{Names, counter, Declared, at_first, one_more, ArePlain, plain_at, plain_more}
use Rattle.edi_utils.proofs.demonstrated.Blocks.{inside, scope_of, base, program_block, in_program, closes, body_acts, procedure_needs, AreFlat, branch_needs}
use Rattle.edi_utils.proofs.demonstrated.Blocks.{program_needs, one_out, procedure_block, branch_block, ended_program, AreProcedures, one_procedure_more}
use Rattle.edi_utils.proofs.demonstrated.Blocks.{is_procedure, call_act, AreCalls, AreBlocks, are_blocks}

-- ---- procedures

body_gives : (scopes : List Scope) (blocks : List Block) (headings : List Heading) (around : List ℕ) (line : ℕ) → visible scopes (codes "x") ≡ Some counter
    → steps_to 0 around ≡ 1
    → statement_list (body line) (inside scopes blocks headings around) ≡ gives (record { what = body_acts line; env = inside scopes blocks headings around })
body_gives scopes blocks headings around line h out = rw (h, out) refl

-- the block of a procedure that has begun
abbrev new_block : Block
new_block = begun_block block_kind.Procedure 0 None []

-- the names with that of procedure i, whose block stands behind these
abbrev with_procedure : ℕ → List Block → Names → Names
with_procedure i blocks names = (procedure_name i, entity.Procedure (length (program_block ∷ blocks))) ∷ names

counter_inside : (i : ℕ) (blocks : List Block) (names : Names) → meaning names (codes "x") ≡ Some counter
    → visible (scope_of [] ∷ scope_of (with_procedure i blocks names) ∷ base) (codes "x") ≡ Some counter
counter_inside i blocks names h = ap (λ o. option_or o (visible base (codes "x"))) h

procedure_begins : (names : Names) (blocks : List Block) (headings : List Heading) (i line : ℕ) → meaning names (procedure_name i) ≡ None
    → begin_procedure false (heading_of (procedure_tree i line)) (in_program names blocks headings)
    ≡ gives (inside (scope_of [] ∷ scope_of (with_procedure i blocks names) ∷ base) (program_block ∷ (blocks ++ new_block ∷ []))
    (no_heading ∷ (headings ++ no_heading ∷ [])) (0 ∷ []))
procedure_begins names blocks headings i line fresh = rw fresh refl

procedure_ends : (names : Names) (blocks : List Block) (headings : List Heading) (i line : ℕ) → meaning names (codes "x") ≡ Some counter
    → procedure_rest (length (program_block ∷ blocks)) (procedure_tree i line)
    (inside (scope_of [] ∷ scope_of (with_procedure i blocks names) ∷ base) (program_block ∷ (blocks ++ new_block ∷ []))
    (no_heading ∷ (headings ++ no_heading ∷ [])) (0 ∷ []))
    ≡ gives (inside (scope_of [] ∷ scope_of (with_procedure i blocks names) ∷ base) (program_block ∷ (blocks ++ procedure_block (line + 1) ∷ []))
    (no_heading ∷ (headings ++ no_heading ∷ [])) (length (program_block ∷ blocks) ∷ 0 ∷ []))
procedure_ends names blocks headings i line h =
    let k : ℕ = length (program_block ∷ blocks) in
    let scopes : List Scope = scope_of [] ∷ scope_of (with_procedure i blocks names) ∷ base in
    ap (λ j. j >>= λ done. close_block k done.what (line + 1) done.env)
    (body_gives scopes (program_block ∷ (blocks ++ new_block ∷ [])) (no_heading ∷ (headings ++ no_heading ∷ [])) (k ∷ 0 ∷ []) (line + 1)
    (counter_inside i blocks names h) (one_out blocks))
    ∙ closes scopes (no_heading ∷ (headings ++ no_heading ∷ [])) (k ∷ 0 ∷ []) (program_block ∷ blocks) [] new_block (body_acts (line + 1)) (line + 1) 8
    (procedure_needs blocks (line + 1)) refl

procedure_gives : (names : Names) (blocks : List Block) (headings : List Heading) (i line : ℕ) → meaning names (procedure_name i) ≡ None
    → meaning names (codes "x") ≡ Some counter
    → item false (text.procedure_item (procedure_tree i line)) (in_program names blocks headings)
    ≡ gives (in_program (with_procedure i blocks names) (blocks ++ procedure_block (line + 1) ∷ []) (headings ++ no_heading ∷ []))
procedure_gives names blocks headings i line fresh h =
    let env : Environment = in_program names blocks headings in
    ap (λ j. j >>= procedure_rest (length (program_block ∷ blocks)) (procedure_tree i line) >>= λ after. gives (leave_to env env.begun after))
    (procedure_begins names blocks headings i line fresh)
    ∙ ap (λ j. j >>= λ after. gives (leave_to env env.begun after)) (procedure_ends names blocks headings i line h)

-- behind the declarations of the procedures before this one
record AllDeclared (next : ℕ) (judged : Judged Environment) : Type 0 where
  names : Names
  blocks : List Block
  headings : List Heading
  is : judged ≡ gives (in_program names blocks headings)
  declared : Declared next (length blocks) names
  plain : ArePlain headings
  procedures : AreProcedures blocks

-- one procedure in front
declared_then : (i n line : ℕ) (names : Names) (blocks : List Block) (headings : List Heading) → i ≤ 1000 → Declared i (length blocks) names
    → AllDeclared (suc i + n) (declarations (procedure_trees (suc i) n (line + 2))
    (in_program (with_procedure i blocks names) (blocks ++ procedure_block (line + 1) ∷ []) (headings ++ no_heading ∷ [])))
    → AllDeclared (i + suc n) (declarations (procedure_trees i (suc n) line) (in_program names blocks headings))
declared_then i n line names blocks headings low d more =
    let same : suc i + n ≡ i + suc n = omega arith in
    record {
      names = more.names;
      blocks = more.blocks;
      headings = more.headings;
      is = ap (λ j. j >>= declarations (procedure_trees (suc i) n (line + 2)))
          (procedure_gives names blocks headings i line (d.fresh i (omega arith) low) d.counter_is) ∙ more.is;
      declared = subst (λ m. Declared m (length more.blocks) more.names) same more.declared;
      plain = more.plain;
      procedures = more.procedures;
    }

procedures_give : (i n line : ℕ) (names : Names) (blocks : List Block) (headings : List Heading) → Declared i (length blocks) names → ArePlain headings
    → AreProcedures blocks → i + n ≤ 1001 → AllDeclared (i + n) (declarations (procedure_trees i n line) (in_program names blocks headings))
procedures_give i zero line names blocks headings d p are few =
    let same : i ≡ i + 0 = omega arith in
    record {
      names = names;
      blocks = blocks;
      headings = headings;
      is = refl;
      declared = subst (λ m. Declared m (length blocks) names) same d;
      plain = p;
      procedures = are;
    }
procedures_give i (suc n) line names blocks headings d p are few =
    let low : i ≤ 1000 = omega (arith, few) in
    let longer : length blocks + 1 ≡ length (blocks ++ procedure_block (line + 1) ∷ []) = sym (length-append blocks (procedure_block (line + 1) ∷ [])) in
    let next : Declared (suc i) (length (blocks ++ procedure_block (line + 1) ∷ [])) (with_procedure i blocks names) =
    subst (λ k. Declared (suc i) k (with_procedure i blocks names)) longer (one_more i (length blocks) names low d) in
    declared_then i n line names blocks headings low d (procedures_give (suc i) n (line + 2) (with_procedure i blocks names)
    (blocks ++ procedure_block (line + 1) ∷ []) (headings ++ no_heading ∷ []) next (plain_more headings p) (one_procedure_more blocks (line + 1) are)
    (omega (arith, few)))

-- ---- calls

-- a procedure without parameters, whose block is among so many behind that of the program
record IsCallable (count : ℕ) (scopes : List Scope) (blocks : List Block) (headings : List Heading) (around : List ℕ) (j : ℕ) : Type 0 where
  number : ℕ
  less : number < count
  seen : visible scopes (procedure_name j) ≡ Some (entity.Procedure (suc number))
  plain : heading_at headings (suc number) ≡ no_heading
  level : steps_to (block_at blocks (suc number)).up around ≡ 1

call_gives : (count : ℕ) (scopes : List Scope) (blocks : List Block) (headings : List Heading) (around : List ℕ) (j line : ℕ)
    (c : IsCallable count scopes blocks headings around j)
    → statement (call_tree j line) (inside scopes blocks headings around)
    ≡ gives (record { what = call_act (suc c.number) line; env = inside scopes blocks headings around })
call_gives count scopes blocks headings around j line c = rw (c.seen, c.plain, c.level) refl

record CallsGive (count n : ℕ) (env : Environment) (judged : Judged (After Acts)) : Type 0 where
  acts : Acts
  is : judged ≡ gives (record { what = acts; env = env })
  flat : AreFlat acts
  calls : AreCalls count n acts

next_calls_give : (count : ℕ) (scopes : List Scope) (blocks : List Block) (headings : List Heading) (around : List ℕ) (i n line : ℕ)
    → ((j : ℕ) → i ≤ j → j < i + n → IsCallable count scopes blocks headings around j)
    → CallsGive count n (inside scopes blocks headings around) (statements (next_call_trees i n line) (inside scopes blocks headings around))
next_calls_give count scopes blocks headings around i zero line known =
    record { acts = unit.no_act; is = refl; flat = record { flat = λ types all b. refl }; calls = refl }
next_calls_give count scopes blocks headings around i (suc n) line known =
    let c = known i (omega arith) (omega arith) in
    let more = next_calls_give count scopes blocks headings around (suc i) n line (λ j least less. known j (omega (arith, least)) (omega (arith, less))) in
    record {
      acts = unit.act_then (call_act (suc c.number) line) more.acts;
      is = ap (λ j. j >>= λ one. statements (next_call_trees (suc i) n line) one.env >>= λ others.
          gives (record { what = unit.act_then one.what others.what; env = others.env })) (call_gives count scopes blocks headings around i line c)
          ∙ ap (λ j. j >>= λ others. gives (record { what = unit.act_then (call_act (suc c.number) line) others.what; env = others.env })) more.is;
      flat = record { flat = λ types all b. ap (max 0) (more.flat.flat types all b) };
      calls = (c.number, line, more.acts, c.less, refl, more.calls);
    }

calls_give : (count : ℕ) (scopes : List Scope) (blocks : List Block) (headings : List Heading) (around : List ℕ) (n line : ℕ)
    → ((j : ℕ) → 1 ≤ j → j < 1 + suc n → IsCallable count scopes blocks headings around j)
    → CallsGive count (suc n) (inside scopes blocks headings around) (statement_list (call_trees (suc n) line) (inside scopes blocks headings around))
calls_give count scopes blocks headings around n line known =
    let c = known 1 (omega arith) (omega arith) in
    let same : suc n - 1 ≡ n = omega arith in
    let more = next_calls_give count scopes blocks headings around 2 n line (λ j least less. known j (omega (arith, least)) (omega (arith, less))) in
    record {
      acts = unit.act_then (call_act (suc c.number) line) more.acts;
      is = ap (λ m. statement_list (text.list (call_tree 1 line) (next_call_trees 2 m line)) (inside scopes blocks headings around)) same
          ∙ ap (λ j. j >>= λ one. statements (next_call_trees 2 n line) one.env >>= λ others.
          gives (record { what = unit.act_then one.what others.what; env = others.env })) (call_gives count scopes blocks headings around 1 line c)
          ∙ ap (λ j. j >>= λ others. gives (record { what = unit.act_then (call_act (suc c.number) line) others.what; env = others.env })) more.is;
      flat = record { flat = λ types all b. ap (max 0) (more.flat.flat types all b) };
      calls = (c.number, line, more.acts, c.less, refl, more.calls);
    }

-- ---- branches

-- the branch of that number, with all calls
abbrev branch_tree : (number n line : ℕ) → text.Branch
branch_tree number n line = text.branch (constant.Numeral (pos number)) line (call_trees n line)

-- the statements of a branch, and behind its end
record BranchGives (count n : ℕ) (names : Names) (blocks : List Block) (env : Environment) (b : text.Branch) (end : ℕ) : Type 0 where
  done : After Acts
  begun : branch b env ≡ gives done
  acts : Acts
  calls : AreCalls count n acts
  headings : List Heading
  left : leave_branch env end done
      ≡ gives (record { what = length (program_block ∷ blocks); env = in_program names (blocks ++ branch_block acts ∷ []) headings })
  plain : ArePlain headings

branch_gives : (names : Names) (procedures more : List Block) (headings : List Heading) (number n line end : ℕ) → suc n ≤ 1000
    → Declared (1 + suc n) (length procedures) names → ArePlain headings → AreProcedures procedures
    → BranchGives (length procedures) (suc n) names (procedures ++ more) (in_program names (procedures ++ more) headings) (branch_tree number (suc n) line) end
branch_gives names procedures more headings number n line end few d p are =
    let blocks : List Block = procedures ++ more in
    let k : ℕ = length (program_block ∷ blocks) in
    let new : Block = begun_block block_kind.Branch 0 None [] in
    let inner : List Block = program_block ∷ (blocks ++ new ∷ []) in
    let plain : ArePlain (headings ++ no_heading ∷ []) = plain_more headings p in
    let known : (j : ℕ) → 1 ≤ j → j < 1 + suc n → IsCallable (length procedures) (scope_of names ∷ base) inner (no_heading ∷ (headings ++ no_heading ∷ []))
    (k ∷ 0 ∷ []) j =
    λ j least less.
    let there = d.there j least less in
    let block = is_procedure procedures (more ++ new ∷ []) there.0 are there.1 in
    record {
      number = there.0;
      less = there.1;
      seen = ap (λ o. option_or o (visible base (procedure_name j))) there.2;
      plain = plain_at (headings ++ no_heading ∷ []) plain there.0;
      level = ap (λ bs. steps_to (block_at bs there.0).up (k ∷ 0 ∷ [])) (append_assoc procedures more (new ∷ []))
          ∙ ap (λ b. steps_to b.up (k ∷ 0 ∷ [])) block.1 ∙ one_out blocks;
    } in
    let calls = calls_give (length procedures) (scope_of names ∷ base) inner (no_heading ∷ (headings ++ no_heading ∷ [])) (k ∷ 0 ∷ []) n line known in
    let env : Environment = in_program names blocks headings in
    record {
      done = record { what = calls.acts; env = inside (scope_of names ∷ base) inner (no_heading ∷ (headings ++ no_heading ∷ [])) (k ∷ 0 ∷ []) };
      begun = calls.is;
      acts = calls.acts;
      calls = calls.calls;
      headings = headings ++ no_heading ∷ [];
      left = ap (λ j. j >>= λ after. gives (record { what = k; env = record after { around = env.around } }))
          (closes (scope_of names ∷ base) (no_heading ∷ (headings ++ no_heading ∷ [])) (k ∷ 0 ∷ []) (program_block ∷ blocks) [] new calls.acts end 5
          (branch_needs blocks calls.acts calls.flat) refl);
      plain = plain;
    }

-- ---- the program

record StatementGives (count n : ℕ) (names : Names) (procedures : List Block) (line : ℕ) (judged : Judged (After Acts)) : Type 0 where
  first : Acts
  second : Acts
  first_calls : AreCalls count n first
  second_calls : AreCalls count n second
  headings : List Heading
  is : judged ≡ gives (record {
    what = unit.act_then (unit.cobegin (length (program_block ∷ procedures) ∷ length (program_block ∷ (procedures ++ branch_block first ∷ [])) ∷ []) line)
        unit.no_act;
    env = in_program names ((procedures ++ branch_block first ∷ []) ++ branch_block second ∷ []) headings;
  })

statement_gives : (names : Names) (procedures : List Block) (headings : List Heading) (n line : ℕ) → suc n ≤ 1000
    → Declared (1 + suc n) (length procedures) names → ArePlain headings → AreProcedures procedures
    → StatementGives (length procedures) (suc n) names procedures line
    (statement_list (text.list (branches_tree (suc n) line) text.no_statement) (in_program names procedures headings))
statement_gives names procedures headings n line few d p are =
    let env : Environment = in_program names (procedures ++ []) headings in
    let one = branch_gives names procedures [] headings 1 n (line + 1) (line + 2) few d p are in
    let two = branch_gives names procedures (branch_block one.acts ∷ []) one.headings 2 n (line + 2) (line + 3) few d one.plain are in
    let made : After (List ℕ) → Judged (After Act) = λ done. gives (record { what = unit.cobegin done.what line; env = done.env }) in
    let only : After Act → Judged (After Acts) = λ one. statements text.no_statement one.env >>= λ others.
    gives (record { what = unit.act_then one.what others.what; env = others.env }) in
    let whole : Judged (After (List ℕ)) → Judged (After Acts) = λ j. j >>= made >>= only in
    let last : text.Branches = text.no_branch (line + 3) in
    let second : text.Branch = branch_tree 2 (suc n) (line + 2) in
    let alone : After ℕ → Judged (After (List ℕ)) = λ a. gives (record { what = a.what ∷ []; env = a.env }) in
    let with_first : ℕ → After (List ℕ) → Judged (After (List ℕ)) = λ k others. gives (record { what = k ∷ others.what; env = others.env }) in
    let then_second : After ℕ → Judged (After (List ℕ)) = λ a. branch second a.env >>= branches last a.env >>= with_first a.what in
    let number : ℕ = length (program_block ∷ procedures) in
    let bare : procedures ++ [] ≡ procedures = append-nil procedures in
    record {
      first = one.acts;
      second = two.acts;
      first_calls = one.calls;
      second_calls = two.calls;
      headings = two.headings;
      is = ap (λ bs. statement_list (text.list (branches_tree (suc n) line) text.no_statement) (in_program names bs headings)) (sym bare)
          ∙ ap (λ j. whole (j >>= branches (text.next_branch (line + 2) second last) env)) one.begun
          ∙ ap (λ j. whole (j >>= then_second)) one.left
          ∙ ap (λ bs. whole (then_second (record {
            what = length (program_block ∷ bs);
            env = in_program names (bs ++ branch_block one.acts ∷ []) one.headings;
          }))) bare
          ∙ ap (λ j. whole (j >>= branches last (in_program names (procedures ++ branch_block one.acts ∷ []) one.headings) >>= with_first number)) two.begun
          ∙ ap (λ j. whole (j >>= alone >>= with_first number)) two.left;
    }

-- the unit of these blocks, which makes no calls of the system
abbrev pub unit_of : List Block → ProgramUnit
unit_of blocks = record { types = standard_types; blocks = blocks; program = 0; calls = [] }

pub record IsResolved (n : ℕ) : Type 0 where
  pub blocks : List Block
  pub resolved : Resolved (demo_tree n) (unit_of blocks)
  pub are : AreBlocks n blocks

-- behind the statement of the program
abbrev ends_with : (line : ℕ) → Judged (After Acts) → Judged ProgramUnit
ends_with line j =
    (j >>= λ done. close_block 0 done.what (line + 3) done.env) >>= λ after.
    gives (record { types = after.types; blocks = after.blocks; program = 0; calls = [] })

-- behind the declarations of the program
abbrev goes_on : (n : ℕ) → Judged Environment → Judged ProgramUnit
goes_on n j =
    (j >>= λ inner. all_completed inner.begun >>= λ completed.
    statement_list (text.list (branches_tree n (3 + 2 * n)) text.no_statement) inner >>= λ done. close_block 0 done.what (3 + 2 * n + 3) done.env) >>= λ after.
    gives (record { types = after.types; blocks = after.blocks; program = 0; calls = [] })

-- all blocks, the program's own in front
abbrev all_blocks : (procedures : List Block) (first second : Acts) (line : ℕ) → List Block
all_blocks procedures first second line =
    ended_program (length (program_block ∷ procedures) ∷ length (program_block ∷ (procedures ++ branch_block first ∷ [])) ∷ []) line
    ∷ ((procedures ++ branch_block first ∷ []) ++ branch_block second ∷ [])

program_ends : (count n : ℕ) (names : Names) (procedures : List Block) (line : ℕ) (judged : Judged (After Acts))
    (g : StatementGives count n names procedures line judged) → ends_with line judged ≡ gives (unit_of (all_blocks procedures g.first g.second line))
program_ends count n names procedures line judged g =
    let branches : List ℕ = length (program_block ∷ procedures) ∷ length (program_block ∷ (procedures ++ branch_block g.first ∷ [])) ∷ [] in
    let blocks : List Block = (procedures ++ branch_block g.first ∷ []) ++ branch_block g.second ∷ [] in
    ap (ends_with line) g.is
    ∙ ap (λ j. j >>= λ after. gives (record { types = after.types; blocks = after.blocks; program = 0; calls = [] }))
    (closes (scope_of names ∷ base) (no_heading ∷ g.headings) (0 ∷ []) [] blocks program_block (unit.act_then (unit.cobegin branches line) unit.no_act)
    (line + 3) 6 (program_needs blocks branches line) refl)

program_gives : (n : ℕ) (judged : Judged Environment) → suc n ≤ 1000 → AllDeclared (1 + suc n) judged
    → (blocks : List Block) × (goes_on (suc n) judged ≡ gives (unit_of blocks)) × AreBlocks (suc n) blocks
program_gives n judged few all =
    let line : ℕ = 3 + 2 * suc n in
    let g = statement_gives all.names all.blocks all.headings n line few all.declared all.plain all.procedures in (
      all_blocks all.blocks g.first g.second line,
      ap (goes_on (suc n)) all.is ∙ program_ends (length all.blocks) (suc n) all.names all.blocks line _ g,
      are_blocks (suc n) all.blocks g.first g.second line all.procedures g.first_calls g.second_calls,
    )

pub is_resolved : (n : ℕ) → 1 ≤ n → n ≤ 1000 → IsResolved n
is_resolved zero some few = absurd (omega (arith, some))
is_resolved (suc n) some few =
    let declared = procedures_give 1 (suc n) 3 ((codes "x", counter) ∷ []) [] [] at_first tt tt (omega (arith, few)) in
    let r = program_gives n _ few declared in
    record { blocks = r.0; resolved = r.1; are = r.2 }
