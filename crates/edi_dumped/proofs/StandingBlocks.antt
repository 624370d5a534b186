-- Where a frame goes on: in the code of the block of its instance.
use Rattle.std.proofs.Common.{◌≡◌, ℕ, zero, suc, ◌+◌, ◌-◌, ◌<◌, ◌≤◌, Bool, true, false, if◌then◌else◌, List, [], ◌∷◌, Some, length, sym, subst, ap, ◌∙◌, arith}
use Rattle.edi_unit.specs.Types.{Shape}
use Rattle.edi_unit.specs.Tree.{Act, skip, assign, call, halt, if_act, while_act, when_act, cobegin, Acts, no_act, act_then, clause, Clauses, no_clause}
use Rattle.edi_unit.specs.Tree.{clause_then, Block}
use Rattle.edi_unit.specs.Need.{block_at}
use Rattle.edi_meaning.specs.Step.{Position}
use Rattle.edi_target.specs.Op as op
use Rattle.edi_target.specs.Op.{Instruction}
use Rattle.edi_scheme.specs.Code.{code_of}
use Rattle.edi_scheme.specs.Lengths.{act_length, acts_length, clauses_length}
use Rattle.edi_scheme.specs.Pieces.{ClauseKind, is_branch, once, released, repeated}
use Rattle.edi_scheme.specs.Sites.{Site, body_site, into, led, nothing_there, nth_list, nth_statement, statement, statements}
use Rattle.edi_follows.specs.places.Coded.{Coded, entry}
use Rattle.edi_follows.specs.places.Located.{Hops, Sited}
use Rattle.edi_dump.specs.Frames.{block_of}
use Rattle.edi_dump.specs.Laws.{last_at}
use Rattle.edi_dump.proofs.JumpsListed.{IsOf}
use Rattle.edi_dump.proofs.Located.{addresses_tell_blocks}

-- ---- sites lie in their block

module _ (types : List Shape) (blocks : List Block) (b low high : ℕ) where
  abbrev Lies : Site → Type 0
  Lies (statements s at) = (low ≤ at) × (at + acts_length types blocks b s ≤ high)
  Lies (statement a at) = (low ≤ at) × (at + act_length types blocks b a ≤ high)
  Lies nothing_there = Unit {0}

  nth_lies : (s : Acts) (at n : ℕ) → low ≤ at → at + acts_length types blocks b s ≤ high → Lies (nth_statement types blocks b s at n)
  nth_lies no_act at n l h = tt
  nth_lies (act_then a s) at zero l h = (l, omega (arith, h))
  nth_lies (act_then a s) at (suc n) l h = nth_lies s (at + act_length types blocks b a) n (omega (arith, l)) (omega (arith, h))

  list_lies : (kind : ClauseKind) (cs : Clauses) (at n : ℕ) → low ≤ at → at + clauses_length types blocks b kind cs ≤ high
      → Lies (nth_list types blocks b kind cs at n)
  list_lies kind no_clause at n l h = tt
  list_lies kind (clause_then (clause e s) cs) at zero l h = (omega (arith, l), omega (arith, h))
  list_lies kind (clause_then (clause e s) cs) at (suc n) l h = list_lies kind cs _ n (omega (arith, l)) (omega (arith, h))

  into_lies : (x : Site) (n : ℕ) → Lies x → Lies (into types blocks b x n)
  into_lies (statements s at) n h = nth_lies s at n h.0 h.1
  into_lies (statement (if_act cs) at) n h = list_lies once cs at n h.0 h.1
  into_lies (statement (while_act cs) at) n h = list_lies repeated cs at n h.0 h.1
  into_lies (statement (when_act cs line) at) n h =
      let from = h.0 in
      let to = h.1 in
      list_lies released cs (at + 2) n (omega (arith, from)) (omega (arith, to))
  into_lies (statement skip at) n h = tt
  into_lies (statement (assign p e) at) n h = tt
  into_lies (statement (call c xs line) at) n h = tt
  into_lies (statement (halt line) at) n h = tt
  into_lies (statement (cobegin bs line) at) n h = tt
  into_lies nothing_there n h = tt

  led_lies : (path : List ℕ) (x : Site) → Lies x → Lies (led types blocks b x path)
  led_lies [] x h = h
  led_lies (n ∷ path) x h = led_lies path (into types blocks b x n) (into_lies x n h)

-- ---- a code that is read where instructions start

module _ (g : Coded) where
  -- this address is in the code of the block
  abbrev pub IsInCode : (b at : ℕ) → Type 0
  IsInCode b at = (entry g b ≤ at) × (at ≤ last_at g.unit b)

  pub body_within : (test : Bool) (at long : ℕ) → (at ≤ (if test then at else at + 6))
      × ((if test then at else at + 6) + long ≤ at + (if test then long + 1 else 6 + long + 3) - (if test then 1 else 3))
  body_within true at long = (omega arith, omega arith)
  body_within false at long = (omega arith, omega arith)

  -- a statement of a block stands in its code
  pub sited_in : (b : ℕ) (position : Position) (a : Act) (at : ℕ) → Sited g b position a at
      → (entry g b ≤ at) × (at + act_length g.unit.types g.unit.blocks b a ≤ last_at g.unit b)
  sited_in b position a at h =
      let types : List Shape = g.unit.types in
      let blocks : List Block = g.unit.blocks in
      let body = body_within (is_branch (block_at blocks b).kind) (entry g b) (acts_length types blocks b (block_at blocks b).body) in
      let there : led types blocks b (body_site types blocks b) position.path ≡ statement a at =
      ap (λ c. led types blocks c (body_site types blocks c) position.path) (sym h.of) ∙ h.there in
      subst (Lies types blocks b (entry g b) (last_at g.unit b)) there
      (led_lies types blocks b (entry g b) (last_at g.unit b) position.path (body_site types blocks b) body)

  module _ (told : (at : ℕ) (found : Instruction × ℕ) → g.fetched at ≡ Some found → IsOf g.unit at found.0) where
    -- an address tells its block
    pub tells : (b at : ℕ) → b < length g.unit.blocks → IsInCode b at → block_of (code_of g.unit) at ≡ b
    tells b at known h = addresses_tell_blocks g.unit g.fits g.parts b at known h.0 h.1

    -- the address of an instruction that leads into a block is in this block too
    back_in : (b at : ℕ) (i : Instruction) (is : IsOf g.unit at i) (target : ℕ) → b < length g.unit.blocks → IsInCode b target → IsInCode is.block target
        → IsInCode b at
    back_in b at i is target known h k =
        let same : is.block ≡ b = sym (tells is.block target is.known k) ∙ tells b target known h in
        subst (λ c. IsInCode c at) same (is.keeps.from, is.keeps.to)

    -- BEFORE JUMPS: where they lead into a block they stand in it
    pub hops_in : (n at to b : ℕ) → Hops g n at to → b < length g.unit.blocks → IsInCode b to → IsInCode b at
    hops_in zero at to b h known k = subst (IsInCode b) (sym h) k
    hops_in (suc n) at to b h known k =
        let is : IsOf g.unit at (op.jump h.0) = told at (op.jump h.0, h.1) h.2 in
        back_in b at (op.jump h.0) is h.0 known (hops_in n h.0 to b h.4 known k) is.keeps.stays

    -- a LOOP that leads back into a block stands in it
    pub loop_in : (at top next b : ℕ) → g.fetched at ≡ Some (op.loop top, next) → b < length g.unit.blocks → IsInCode b top → IsInCode b at
    loop_in at top next b h known k =
        let is : IsOf g.unit at (op.loop top) = told at (op.loop top, next) h in
        back_in b at (op.loop top) is top known k is.keeps.stays
