-- Helper. Where the work that is left to a process stands in the code, and what its frames keep for it.
use Rattle.std.specs.Prelude.{◌≡◌, ℕ, zero, suc, ◌+◌, ◌<◌, ◌≤◌, Bool, true, false, List, [], ◌∷◌, slice_get, unwrap_or}
use Rattle.edi_unit.specs.Tree.{Act, while_act, when_act, Clauses}
use Rattle.edi_unit.specs.Need.{act_height, clauses_height}
use Rattle.edi_unit.specs.Fits.{ActFits, ClausesFit}
use Rattle.edi_meaning.specs.Store.{Frame, no_frame}
use Rattle.edi_meaning.specs.Step.{Position, Work, doing, loop_end, procedure_end, branch_end, program_entry, program_end, Standing, ready, at_when, waiting, is_quiet}
use Rattle.edi_target.specs.Op as op
use Rattle.edi_target.specs.Op.{Instruction, address_of_words}
use Rattle.edi_target.specs.Memory.{word}
use Rattle.edi_scheme.specs.Pieces.{released, again_code}
use Rattle.edi_scheme.specs.Stands as code
use Rattle.edi_scheme.specs.Lengths.{acts_length}
use Rattle.edi_scheme.specs.Sites.{body_start, site, statement}
use Rattle.edi_follows.specs.places.Coded.{Coded, block, entry, kept}
use Rattle.edi_follows.specs.places.Spots.{frame_start}

-- the frame at a depth
abbrev pub frame_of : List Frame → ℕ → Frame
frame_of fs d = unwrap_or (slice_get fs d) no_frame

module _ (g : Coded) where
  -- n jumps lead from one address to another
  abbrev pub Hops : ℕ → ℕ → ℕ → Type 0
  Hops zero a b = a ≡ b
  Hops (suc n) a b = (r next : ℕ) × code.InstructionStands g.fetched a (op.jump r) next × (a < r) × Hops n r b

  -- a block's frame has room for so many words above its variables
  abbrev pub Room : Frame → ℕ → Type 0
  Room f h = kept g f.block + h ≤ f.need

  -- where the list of a block ends, and the last instruction of the block stands
  abbrev pub list_end : ℕ → ℕ
  list_end b = body_start g.unit.types g.unit.blocks b + acts_length g.unit.types g.unit.blocks b (block g b).body

  -- the statement at a position, which is one of the block, stands there
  pub record Sited (b : ℕ) (position : Position) (a : Act) (at : ℕ) : Type 0 where
    pub of : position.of ≡ b
    pub there : site g.unit position ≡ statement a at

  -- a process that stands there stands at the `when` at this position
  pub record IsAwaited (b : ℕ) (position : Position) (cs : Clauses) (pc : ℕ) : Type 0 where
    pub line : ℕ
    pub at : ℕ
    pub sited : Sited b position (when_act cs line) at
    pub stands : code.InstructionStands g.fetched at (op.when line) pc
    pub behind : pc ≡ at + 2

  -- frame `suc e` keeps what the procedure's end leaves it by: the base of the frame below, the address behind the call, and
  -- where the operands of the frame below begin. The frames begin at `from`
  pub record Links (from : ℕ) (fs : List Frame) (m : List ℕ) (e back : ℕ) : Type 0 where
    pub base : word m (from + frame_start fs (suc e) + 1) ≡ from + frame_start fs e
    pub address : address_of_words (word m (from + frame_start fs (suc e) + 2)) (word m (from + frame_start fs (suc e) + 3)) ≡ back
    pub top : word m (from + frame_start fs (suc e) + 4) ≡ from + frame_start fs e + kept g (frame_of fs e).block

  -- in front of this address stands a call that was written on this line
  pub data IsCalledFrom (back line : ℕ) : Type 0 where
    by_block : (at level target : ℕ) → code.InstructionStands g.fetched at (op.call level target line) back → IsCalledFrom back line
    by_parameter : (at level offset : ℕ) → code.InstructionStands g.fetched at (op.call_p level offset line) back → IsCalledFrom back line

  -- One piece of work for the frame at depth d, before the work `after`, of which `rest` says where it stands. After the end of a branch and of
  -- the program nothing is left. `lead` says whether this is the first process, which alone comes to the program's end. Each end stands behind the
  -- list of the frame's block.
  abbrev pub Item : Bool → ℕ → List Frame → List ℕ → Work → ℕ → ℕ → (after : List Work) → (ℕ → ℕ → Type 0) → Type 0
  Item lead from fs m (doing a position) q d after rest =
      (to : ℕ) × code.IsAct g.fetched g.unit.types g.unit.blocks (entry g) (frame_of fs d).block a q to
      × ActFits g.unit.types g.unit.blocks g.fits.headings (frame_of fs d).block a
      × Room (frame_of fs d) (act_height g.unit.types g.unit.blocks (frame_of fs d).block a) × Sited (frame_of fs d).block position a q × rest to d
  Item lead from fs m (loop_end cs position) q d after rest =
      (top next to : ℕ) × code.InstructionStands g.fetched q (op.loop top) next
      × code.IsAct g.fetched g.unit.types g.unit.blocks (entry g) (frame_of fs d).block (while_act cs) top to
      × ClausesFit g.unit.types g.unit.blocks g.fits.headings (frame_of fs d).block cs
      × Room (frame_of fs d) (clauses_height g.unit.types g.unit.blocks (frame_of fs d).block cs)
      × Sited (frame_of fs d).block position (while_act cs) top × rest to d
  Item lead from fs m (procedure_end line) q zero after rest = ⊥
  Item lead from fs m (procedure_end line) q (suc e) after rest =
      (next back : ℕ) × code.InstructionStands g.fetched q (op.return 0 0) next × Links from fs m e back × IsCalledFrom back line × rest back e
      × (q ≡ list_end (frame_of fs (suc e)).block)
  Item lead from fs m branch_end q d after rest =
      (next : ℕ) × code.InstructionStands g.fetched q op.exit next × (d ≡ 0) × (lead ≡ false) × (after ≡ []) × (q ≡ list_end (frame_of fs d).block)
  Item lead from fs m program_entry q d after rest = ⊥
  Item lead from fs m program_end q d after rest =
      (next : ℕ) × code.InstructionStands g.fetched q (op.return 0 0) next × (d ≡ 0) × (lead ≡ true) × (after ≡ []) × (q ≡ list_end (frame_of fs d).block)

  abbrev pub Matches : Bool → ℕ → List Frame → List ℕ → List Work → ℕ → ℕ → Type 0
  Matches lead from fs m [] pc d = ⊥
  Matches lead from fs m (x ∷ ws) pc d = (n q : ℕ) × Hops n pc q × Item lead from fs m x q d ws (Matches lead from fs m ws)

  -- a process between two of its steps
  abbrev pub IsAt : Bool → ℕ → List Frame → List ℕ → Standing → List Work → ℕ → ℕ → Type 0
  IsAt lead from fs m ready ws pc d = Matches lead from fs m ws pc d
  IsAt lead from fs m (waiting n) ws pc d = Matches lead from fs m ws pc d
  IsAt lead from fs m (at_when cs position) ws pc d =
      (again to : ℕ) × code.AreClauses g.fetched g.unit.types g.unit.blocks (entry g) (frame_of fs d).block released to cs pc again
      × code.AreInstructions g.fetched (again_code (is_quiet cs) pc) again to
      × ClausesFit g.unit.types g.unit.blocks g.fits.headings (frame_of fs d).block cs
      × Room (frame_of fs d) (clauses_height g.unit.types g.unit.blocks (frame_of fs d).block cs)
      × IsAwaited (frame_of fs d).block position cs pc
      × Matches lead from fs m ws to d

  -- frames and control words are the same up to a depth
  pub record Agrees (from : ℕ) (fs fs' : List Frame) (m m' : List ℕ) (d : ℕ) : Type 0 where
    pub starts : (e : ℕ) → e ≤ d → frame_start fs' e ≡ frame_start fs e
    pub framed : (e : ℕ) → e ≤ d → frame_of fs' e ≡ frame_of fs e
    pub words : (e j : ℕ) → e ≤ d → j < 5 → word m' (from + frame_start fs e + j) ≡ word m (from + frame_start fs e + j)

  -- ONE LEMMA moves the work over any change
  abbrev pub MatchesKept : Type 0
  MatchesKept =
      (lead : Bool) (from : ℕ) (fs fs' : List Frame) (m m' : List ℕ) (standing : Standing) (ws : List Work) (pc d : ℕ) →
      Agrees from fs fs' m m' d → IsAt lead from fs m standing ws pc d → IsAt lead from fs' m' standing ws pc d
