-- The blocks of the demonstration: what they need, and what is known behind their ends.
use Rattle.std.proofs.Common.{◌≡◌, ℕ, zero, suc, ◌+◌, ◌<◌, true, false, List, [], ◌∷◌, ◌++◌, length, Some, None, pos, refl, sym, ap, ◌∙◌, subst, arith}
use Rattle.std.proofs.Common.{append_assoc}
use Rattle.std.proofs.Common.{eqb}
use Rattle.std.specs.Prelude.{codes, nat_le, slice_set, slice_get}
use Rattle.std.proofs.lemmas.Bool.Decides.{nat_tests}
use Rattle.std.proofs.Math.Seq.{get_or-append_seam, set-append_seam}
use Rattle.edi_scope.specs.Scope.{Scope, standard}
use Rattle.edi_scope.specs.declared.entity.Entity.TheVariants as entity
use Rattle.edi_unit.specs.declared.expressions.Callee.TheVariants as callee
use Rattle.edi_unit.specs.declared.expressions.Operator.{Operator}
use Rattle.edi_unit.specs.declared.expressions.Operator.TheVariants as op
use Rattle.edi_unit.specs.declared.units.BlockKind.TheVariants as block_kind
use Rattle.edi_unit.specs.declared.units.Parameter.TheVariants as slot
use Rattle.edi_unit.specs.Types.{Shape, standard_types, size, greatest_size}
use Rattle.edi_unit.specs.Tree as unit
use Rattle.edi_unit.specs.Tree.{Act, Acts, Block}
use Rattle.edi_unit.specs.Need.{no_block, block_at, slots, slot_at, need, link_words, variable_words, acts_height}
use Rattle.edi_unit.specs.Headings.{Heading}
use Rattle.edi_static.specs.declared.faults.StaticKind.TheVariants as kind
use Rattle.edi_static.specs.Judged.{gives, ◌>>=◌, must}
use Rattle.edi_static.specs.Environment.{Environment, no_heading, steps_to, begun_block}
use Rattle.edi_static.specs.Statements.{with_statements, with_need, close_block}
use Rattle.edi_utils.proofs.demonstrated.Names.{Names}

-- ---- environments

-- a place in the program
abbrev pub inside : List Scope → List Block → List Heading → (around : List ℕ) → Environment
inside scopes blocks headings around = record {
  scopes = scopes;
  types = standard_types;
  fields = [] ∷ [] ∷ [] ∷ [];
  blocks = blocks;
  headings = headings;
  shapes = [];
  around = around;
  begun = [];
}

abbrev pub scope_of : Names → Scope
scope_of names = record { is_module = false; names = names }

-- the scopes round that of the program
abbrev pub base : List Scope
base = scope_of ((codes "main", entity.Procedure 0) ∷ []) ∷ standard ∷ []

-- the program's own block, with its variable
abbrev pub program_block : Block
program_block = record { kind = block_kind.Program; up = 0; result = None; parameters = []; variables = 0 ∷ []; need = 0; body = unit.no_act }

-- in the program's own block, behind declarations of these names
abbrev pub in_program : Names → List Block → List Heading → Environment
in_program names blocks headings = inside (scope_of names ∷ base) (program_block ∷ blocks) (no_heading ∷ headings) (0 ∷ [])

-- ---- the end of a block

abbrev pub needing : ℕ → Block → Block
needing n block = record block { need = n }

pub closes : (scopes : List Scope) (headings : List Heading) (around : List ℕ) (front behind : List Block) (b : Block) (s : Acts) (line words : ℕ)
    → need standard_types (front ++ with_statements s b ∷ behind) (length front) ≡ words → nat_le words greatest_size ≡ true
    → close_block (length front) s line (inside scopes (front ++ b ∷ behind) headings around)
    ≡ gives (inside scopes (front ++ needing words (with_statements s b) ∷ behind) headings around)
closes scopes headings around front behind b s line words is small =
    let n : ℕ = length front in
    let new : Block = with_statements s b in
    let blocks : List Block = front ++ new ∷ behind in
    let added : slice_set (front ++ b ∷ behind) n (with_statements s (block_at (front ++ b ∷ behind) n)) ≡ blocks =
    ap (λ old. slice_set (front ++ b ∷ behind) n (with_statements s old)) (get_or-append_seam front b behind no_block)
    ∙ set-append_seam front b behind new in
    let noted : slice_set blocks n (needing words (block_at blocks n)) ≡ front ++ needing words new ∷ behind =
    ap (λ old. slice_set blocks n (needing words old)) (get_or-append_seam front new behind no_block)
    ∙ set-append_seam front new behind (needing words new) in
    ap (λ bs. with_need n line (inside scopes bs headings around)) added
    ∙ ap (λ w. must (nat_le w greatest_size) kind.Range line >>= λ done.
    gives (inside scopes (slice_set blocks n (needing w (block_at blocks n))) headings around)) is
    ∙ ap (λ t. must t kind.Range line >>= λ done. gives (inside scopes (slice_set blocks n (needing words (block_at blocks n))) headings around)) small
    ∙ ap (λ bs. gives (inside scopes bs headings around)) noted

-- ---- needs

-- the variable of the program, from a procedure in it
abbrev pub counter_place : unit.Place
counter_place = unit.place 1 0 unit.no_part

abbrev pub with_number : Operator → ℕ → (line : ℕ) → unit.Expression
with_number o n line = unit.chain (unit.load counter_place) (unit.link_then (unit.link o (unit.constant 0 (pos n)) line) unit.no_link)

-- what the body of a procedure becomes
abbrev pub body_acts : (line : ℕ) → Acts
body_acts line =
    unit.act_then (unit.when_act (unit.clause_then (unit.clause (with_number op.Less 32767 line)
    (unit.act_then (unit.assign counter_place (with_number op.Plus 1 line)) unit.no_act)) unit.no_clause) line) unit.no_act

body_height : (blocks : List Block) (k line : ℕ) → slot_at blocks k 1 0 ≡ Some (slot.Value 0) → acts_height standard_types blocks k (body_acts line) ≡ 3
unfolding size
body_height blocks k line h = rw h refl

-- a procedure needs 8 words: 5, and 3 above them
procedure_need : (blocks : List Block) (k line : ℕ) → block_at blocks k ≡ with_statements (body_acts line) (begun_block block_kind.Procedure 0 None [])
    → block_at blocks 0 ≡ program_block → need standard_types blocks k ≡ 8
procedure_need blocks k line is outermost =
    let variable : slot_at blocks k 1 0 ≡ Some (slot.Value 0) =
    ap (λ b. slice_get (slots (block_at blocks b.up)) 0) is ∙ ap (λ b. slice_get (slots b) 0) outermost in
    ap (λ b. link_words + variable_words standard_types b + acts_height standard_types blocks k b.body) is
    ∙ ap (λ h. link_words + 0 + h) (body_height blocks k line variable)

pub procedure_needs : (blocks : List Block) (line : ℕ)
    → need standard_types (program_block ∷ (blocks ++ with_statements (body_acts line) (begun_block block_kind.Procedure 0 None []) ∷ []))
    (length (program_block ∷ blocks)) ≡ 8
procedure_needs blocks line =
    let new : Block = with_statements (body_acts line) (begun_block block_kind.Procedure 0 None []) in
    procedure_need (program_block ∷ (blocks ++ new ∷ [])) (length (program_block ∷ blocks)) line (get_or-append_seam (program_block ∷ blocks) new [] no_block)
    refl

-- statements that keep nothing above the frame
pub record AreFlat (s : Acts) : Type 0 where
  pub flat : (types : List Shape) (blocks : List Block) (b : ℕ) → acts_height types blocks b s ≡ 0

pub branch_needs : (blocks : List Block) (s : Acts) → AreFlat s
    → need standard_types (program_block ∷ (blocks ++ with_statements s (begun_block block_kind.Branch 0 None []) ∷ []))
    (length (program_block ∷ blocks)) ≡ 5
branch_needs blocks s h =
    let new : Block = with_statements s (begun_block block_kind.Branch 0 None []) in
    let all : List Block = program_block ∷ (blocks ++ new ∷ []) in
    let k : ℕ = length (program_block ∷ blocks) in
    ap (λ b. link_words + variable_words standard_types b + acts_height standard_types all k b.body)
    (get_or-append_seam (program_block ∷ blocks) new [] no_block)
    ∙ ap (λ high. link_words + 0 + high) (h.flat standard_types all k)

pub program_needs : (blocks : List Block) (branches : List ℕ) (line : ℕ)
    → need standard_types (with_statements (unit.act_then (unit.cobegin branches line) unit.no_act) program_block ∷ blocks) 0 ≡ 6
unfolding size
program_needs blocks branches line = refl

-- one step out of a block in the program
pub one_out : (blocks : List Block) → steps_to 0 (length (program_block ∷ blocks) ∷ 0 ∷ []) ≡ 1
one_out blocks = let other : eqb (length (program_block ∷ blocks)) 0 ≡ false = grind (arith, nat_tests) in rw other refl

-- ---- blocks that have ended

-- a procedure whose body begins on this line
abbrev pub procedure_block : (line : ℕ) → Block
procedure_block line =
    record { kind = block_kind.Procedure; up = 0; result = None; parameters = []; variables = []; need = 8; body = body_acts line }

-- a branch with these statements
abbrev pub branch_block : Acts → Block
branch_block s = record { kind = block_kind.Branch; up = 0; result = None; parameters = []; variables = []; need = 5; body = s }

-- the program, with these branches
abbrev pub ended_program : List ℕ → (line : ℕ) → Block
ended_program branches line = record {
  kind = block_kind.Program;
  up = 0;
  result = None;
  parameters = [];
  variables = 0 ∷ [];
  need = 6;
  body = unit.act_then (unit.cobegin branches line) unit.no_act;
}

abbrev pub IsProcedure : Block → Type 0
IsProcedure b = (line : ℕ) × (b ≡ procedure_block line)

abbrev pub AreProcedures : List Block → Type 0
AreProcedures [] = Unit {0}
AreProcedures (b ∷ bs) = IsProcedure b × AreProcedures bs

pub one_procedure_more : (bs : List Block) (line : ℕ) → AreProcedures bs → AreProcedures (bs ++ procedure_block line ∷ [])
one_procedure_more [] line h = ((line, refl), tt)
one_procedure_more (b ∷ bs) line h = (h.0, one_procedure_more bs line h.1)

-- one of them, where others stand behind them
pub is_procedure : (bs more : List Block) (k : ℕ) → AreProcedures bs → k < length bs → IsProcedure (block_at (bs ++ more) k)
is_procedure [] more k h less = absurd (omega (arith, less))
is_procedure (b ∷ bs) more zero h less = h.0
is_procedure (b ∷ bs) more (suc k) h less = is_procedure bs more k h.1 (omega (arith, less))

-- a call of the procedure of this block
abbrev pub call_act : (block line : ℕ) → Act
call_act block line = unit.call (callee.Block 1 block) unit.no_argument line

-- n calls of procedures, whose blocks are among so many behind that of the program
abbrev pub AreCalls : (count n : ℕ) → Acts → Type 0
AreCalls count zero s = s ≡ unit.no_act
AreCalls count (suc n) s =
    (b : ℕ) × (line : ℕ) × (more : Acts) × (b < count) × (s ≡ unit.act_then (call_act (suc b) line) more) × AreCalls count n more

-- the blocks of the demonstration with n procedures
pub record AreBlocks (n : ℕ) (blocks : List Block) : Type 0 where
  pub count : ℕ
  pub procedures : (b : ℕ) → b < count → IsProcedure (block_at blocks (suc b))
  pub first : ℕ
  pub second : ℕ
  pub line : ℕ
  pub program : block_at blocks 0 ≡ ended_program (first ∷ second ∷ []) line
  pub first_calls : Acts
  pub second_calls : Acts
  pub first_is : block_at blocks first ≡ branch_block first_calls
  pub second_is : block_at blocks second ≡ branch_block second_calls
  pub first_are : AreCalls count n first_calls
  pub second_are : AreCalls count n second_calls

-- the procedures, two branches, and the program
pub are_blocks : (n : ℕ) (procedures : List Block) (first second : Acts) (line : ℕ) → AreProcedures procedures
    → AreCalls (length procedures) n first → AreCalls (length procedures) n second
    → AreBlocks n (ended_program (length (program_block ∷ procedures) ∷ length (program_block ∷ (procedures ++ branch_block first ∷ [])) ∷ []) line
    ∷ ((procedures ++ branch_block first ∷ []) ++ branch_block second ∷ []))
are_blocks n procedures first second line h one two =
    let b : Block = branch_block first in
    let c : Block = branch_block second in
    let same : (procedures ++ b ∷ []) ++ c ∷ [] ≡ procedures ++ b ∷ c ∷ [] = append_assoc procedures (b ∷ []) (c ∷ []) in
    record {
      count = length procedures;
      procedures = λ k less. subst (λ bs. IsProcedure (block_at bs k)) (sym same) (is_procedure procedures (b ∷ c ∷ []) k h less);
      first = length (program_block ∷ procedures);
      second = length (program_block ∷ (procedures ++ b ∷ []));
      line = line;
      program = refl;
      first_calls = first;
      second_calls = second;
      first_is = ap (λ bs. block_at bs (length procedures)) same ∙ get_or-append_seam procedures b (c ∷ []) no_block;
      second_is = get_or-append_seam (procedures ++ b ∷ []) c [] no_block;
      first_are = one;
      second_are = two;
    }
