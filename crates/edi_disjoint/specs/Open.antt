-- Words of contracts. What branches use outside critical phases: what is mentioned outside a `when`. It is read off the text alone.
use Rattle.std.specs.Prelude.{◌≡◌, ℕ, Bool, true, ◌==◌, nat_lt, if◌then◌else◌, List, [], ◌∷◌, map, Contains, Option, Some, None, ⊤}
use Rattle.edi_unit.specs.declared.expressions.Callee.{Callee}
use Rattle.edi_unit.specs.declared.expressions.Callee.TheVariants as callee
use Rattle.edi_unit.specs.Tree as tree
use Rattle.edi_unit.specs.Tree.{Act, Acts, Clause, Clauses, Block, ProgramUnit}
use Rattle.edi_disjoint.specs.declared.mentions.Mention.{Mention}
use Rattle.edi_disjoint.specs.declared.mentions.Mention.TheVariants as mention
use Rattle.edi_disjoint.specs.Footprints.{Variable, Mentions, IsBranch, Reach, Named, Encloses, IsVarParameter, IsTarget, NamesProgram, variable_at}

-- ---- a program without its critical phases

-- these statements with a `skip` for each `when`
abbrev mutual
  pub open_act : Act → Act
  open_act tree.skip = tree.skip
  open_act (tree.assign v e) = tree.assign v e
  open_act (tree.call c xs line) = tree.call c xs line
  open_act (tree.halt line) = tree.halt line
  open_act (tree.if_act cs) = tree.if_act (open_clauses cs)
  open_act (tree.while_act cs) = tree.while_act (open_clauses cs)
  open_act (tree.when_act cs line) = tree.skip
  open_act (tree.cobegin bs line) = tree.cobegin bs line

  pub open_acts : Acts → Acts
  open_acts tree.no_act = tree.no_act
  open_acts (tree.act_then a as') = tree.act_then (open_act a) (open_acts as')

  pub open_clause : Clause → Clause
  open_clause (tree.clause e as') = tree.clause e (open_acts as')

  pub open_clauses : Clauses → Clauses
  open_clauses tree.no_clause = tree.no_clause
  open_clauses (tree.clause_then c cs) = tree.clause_then (open_clause c) (open_clauses cs)

abbrev pub open_block : Block → Block
open_block b = record b { body = open_acts b.body }

abbrev pub open_unit : ProgramUnit → ProgramUnit
open_unit unit = record unit { blocks = map open_block unit.blocks }

-- what stands in the statements of a block outside a `when`
abbrev pub OpenMentions : ProgramUnit → ℕ → Mention → Type 0
OpenMentions unit b m = Mentions (open_unit unit) b m

-- block b, and each block that a block of it calls by its name outside a `when`. A function is among them with all that stands in it outside a
-- `when`: one in a function fails.
abbrev pub OpenReach : ProgramUnit → ℕ → ℕ → Type 0
OpenReach unit b n = Reach (open_unit unit) b n

-- ---- uses

-- the variable of a mention in a block, if its value is read or it is assigned to there. To lend it is no use of its value.
abbrev pub used : List Block → ℕ → Mention → Option Variable
used blocks block (mention.Reads levels number) = Some (variable_at blocks block levels number)
used blocks block (mention.Assigns levels number) = Some (variable_at blocks block levels number)
used blocks block (mention.Lends levels number) = None
used blocks block (mention.Calls c) = None
used blocks block (mention.Passes c) = None

-- the procedure parameter that a mention in a block calls or passes on. To call one of the program is to call the system.
abbrev pub parameter_of : List Block → ℕ → Callee → Option Variable
parameter_of blocks block (callee.Block levels d) = None
parameter_of blocks block (callee.Formal levels number) = Some (variable_at blocks block levels number)

abbrev pub handled : List Block → ℕ → Mention → Option Variable
handled blocks block (mention.Reads levels number) = None
handled blocks block (mention.Assigns levels number) = None
handled blocks block (mention.Lends levels number) = None
handled blocks block (mention.Calls c) = parameter_of blocks block c
handled blocks block (mention.Passes c) = parameter_of blocks block c

-- a text that branch b so gets to mentions the variable so outside a `when`
abbrev pub NamesOpenly : (List Block → ℕ → Mention → Option Variable) → ProgramUnit → ℕ → Variable → Type 0
NamesOpenly of unit b v = Named of (open_unit unit) b v

-- BRANCH b USES THE VARIABLE OPENLY: it is one of a block round b that b reads or assigns to outside a `when`; or one that is lent somewhere, where b
-- so reads or assigns to a `var` parameter; or it is a procedure parameter that b calls or passes on so. To lend a variable is none: it counts where a
-- `var` parameter that may mean it is used.
pub data UsesOpenly (unit : ProgramUnit) (b : ℕ) (v : Variable) : Type 0 where
  outer_one : NamesOpenly used unit b v → Encloses unit.blocks v.home b → UsesOpenly unit b v
  lent_one : (x : Variable) → NamesOpenly used unit b x → IsVarParameter unit x → IsTarget unit v → UsesOpenly unit b v
  handles : NamesOpenly handled unit b v → UsesOpenly unit b v

-- NO OPEN USES: no branch has one, and the program itself is called and passed on nowhere
pub record NoOpenUses (unit : ProgramUnit) : Type 0 where
  pub unnamed : NamesProgram unit → ⊥
  pub none : (b : ℕ) (v : Variable) → IsBranch unit b → UsesOpenly unit b v → ⊥

-- ---- all of them in an order

-- branch `block` uses the variable
pub record OpenUse : Type 0 where
  pub block : ℕ
  pub variable : Variable

-- by the blocks of the branches, then by the blocks that declare the variables, then by their numbers there
abbrev pub comes_before : OpenUse → OpenUse → Bool
comes_before a b =
    if a.block == b.block
    then (if a.variable.home == b.variable.home then nat_lt a.variable.number b.variable.number else nat_lt a.variable.home b.variable.home)
    else nat_lt a.block b.block

-- each comes before the next one, so that each is there once
abbrev pub AreInOrder : List OpenUse → Type 0
AreInOrder [] = ⊤
AreInOrder (a ∷ []) = ⊤
AreInOrder (a ∷ b ∷ rest) = (comes_before a b ≡ true) × AreInOrder (b ∷ rest)

abbrev pub IsOpenUse : ProgramUnit → OpenUse → Type 0
IsOpenUse unit one = IsBranch unit one.block × UsesOpenly unit one.block one.variable

-- these are the open uses of a program: all of them, each once, in that order
pub record AreOpenUses (unit : ProgramUnit) (list : List OpenUse) : Type 0 where
  pub sound : (one : OpenUse) → Contains list one → IsOpenUse unit one
  pub complete : (one : OpenUse) → IsOpenUse unit one → Contains list one
  pub order : AreInOrder list
