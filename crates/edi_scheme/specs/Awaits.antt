-- Definition. The `when`s of a block in the order of their words in the text, an outer one before those in its body: the numbers that
-- lead to each, and the address where a process stands at it, which is the one behind its WHEN.
use Rattle.std.specs.Prelude.{ℕ, zero, suc, ◌+◌, if◌then◌else◌, List, [], ◌∷◌, ◌++◌, length, Option, Some, None, slice_get, nat_lt}
use Rattle.std.specs.Option.{option_map}
use Rattle.edi_calls.specs.Names.{Name, same}
use Rattle.edi_unit.specs.Types.{Shape}
use Rattle.edi_unit.specs.Tree.{Act, if_act, while_act, when_act, Acts, no_act, act_then, Clause, clause, Clauses, no_clause, clause_then, Block, ProgramUnit}
use Rattle.edi_unit.specs.Need.{block_at}
use Rattle.edi_meaning.specs.Step.{Position}
use Rattle.edi_scheme.specs.Pieces as pieces
use Rattle.edi_scheme.specs.Pieces.{ClauseKind, once, repeated, released, close_code, code_length}
use Rattle.edi_scheme.specs.Lengths.{expression_length, act_length, clause_length}
use Rattle.edi_scheme.specs.Sites.{body_start}

-- ---- where they stand in the text

-- `path` leads to the statement, to the list, to the statement whose clauses these are
abbrev mutual
  pub act_paths : Act → List ℕ → List (List ℕ)
  act_paths (if_act cs) path = clauses_paths cs path 0
  act_paths (while_act cs) path = clauses_paths cs path 0
  act_paths (when_act cs line) path = path ∷ clauses_paths cs path 0
  act_paths _ path = []

  pub acts_paths : Acts → List ℕ → (n : ℕ) → List (List ℕ)
  acts_paths no_act path n = []
  acts_paths (act_then a s) path n = act_paths a (path ++ n ∷ []) ++ acts_paths s path (suc n)

  pub clauses_paths : Clauses → List ℕ → (n : ℕ) → List (List ℕ)
  clauses_paths no_clause path n = []
  clauses_paths (clause_then (clause e s) cs) path n = acts_paths s (path ++ n ∷ []) 0 ++ clauses_paths cs path (suc n)

-- the numbers that lead to each `when` of a block
abbrev pub await_paths : List Block → (b : ℕ) → List (List ℕ)
await_paths blocks b = acts_paths (block_at blocks b).body [] 0

-- the place of a path among these
abbrev pub place_of : List (List ℕ) → List ℕ → Option ℕ
place_of [] path = None
place_of (p ∷ ps) path = if same p path then Some 0 else option_map suc (place_of ps path)

-- the place of the `when` at a position among those of its block
abbrev pub await_number : ProgramUnit → Position → Option ℕ
await_number unit position = place_of (await_paths unit.blocks position.of) position.path

-- ---- where they stand in the code

module _ (types : List Shape) (blocks : List Block) (b : ℕ) where
  abbrev mutual
    pub act_awaits : Act → ℕ → List ℕ
    act_awaits (if_act cs) at = clauses_awaits once cs at
    act_awaits (while_act cs) at = clauses_awaits repeated cs at
    act_awaits (when_act cs line) at = (at + 2) ∷ clauses_awaits released cs (at + 2)
    act_awaits _ at = []

    pub acts_awaits : Acts → ℕ → List ℕ
    acts_awaits no_act at = []
    acts_awaits (act_then a s) at = act_awaits a at ++ acts_awaits s (at + act_length types blocks b a)

    pub clause_awaits : Clause → ℕ → List ℕ
    clause_awaits (clause e s) at = acts_awaits s (at + expression_length types blocks b e + 3)

    pub clauses_awaits : ClauseKind → Clauses → ℕ → List ℕ
    clauses_awaits kind no_clause at = []
    clauses_awaits kind (clause_then c cs) at =
        clause_awaits c at ++ clauses_awaits kind cs (at + clause_length types blocks b c + code_length (close_code kind 0 cs))

  abbrev pub block_awaits : List ℕ
  block_awaits = acts_awaits (block_at blocks b).body (body_start types blocks b)

-- where a process stands at `when` i of block b, if there is one
abbrev pub await_address : ProgramUnit → (b i : ℕ) → Option ℕ
await_address unit b i = if nat_lt b (length unit.blocks) then slice_get (block_awaits unit.types unit.blocks b) i else None

-- where variable v of block b stands behind the base of its frame
abbrev pub variable_offset : ProgramUnit → (b v : ℕ) → ℕ
variable_offset unit b v = pieces.offset unit.types (block_at unit.blocks b) v
