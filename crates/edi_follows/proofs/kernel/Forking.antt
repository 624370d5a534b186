-- The children of a fork, one at a time.
use Rattle.std.proofs.Common.{◌≡◌, ℕ, suc, ◌+◌, ◌-◌, ◌<◌, ◌≤◌, ◌^◌, ◌⊎◌, inl, inr, false, if◌then◌else◌, List, [], ◌∷◌, ◌++◌, map, length, Option, Some}
use Rattle.std.proofs.Common.{None, refl, sym, subst, ap, ◌∙◌, arith}
use Rattle.std.specs.Prelude.{slice_index_or, sum_by, option_to_list}
use Rattle.edi_calls.specs.Names.{Name, same, find, names}
use Rattle.edi_calls.specs.Ready.{child}
use Rattle.edi_calls.proofs.Tables.{same-refl, same-or-other, find-with_at-same, find-with_at-other}
use Rattle.edi_store.specs.Memory.{words_at}
use Rattle.edi_store.proofs.MemoryLaws.{length-written, get_or-written_before, get_or-written_here, get_or-written_after, words_at-written_apart}
use Rattle.edi_unit.specs.declared.units.Parameter.{Parameter}
use Rattle.edi_unit.specs.declared.units.Parameter.TheVariants as slot
use Rattle.edi_unit.specs.declared.units.BlockKind.{BlockKind}
use Rattle.edi_unit.specs.declared.units.BlockKind.TheVariants as kind
use Rattle.edi_unit.specs.Values.{zero_value}
use Rattle.edi_unit.specs.Tree.{Block}
use Rattle.edi_unit.specs.Need.{slots, slot_words, acts_height}
use Rattle.edi_unit.specs.Fits.{BranchFits, BlockFits, KindFits}
use Rattle.edi_meaning.specs.Store as meaning
use Rattle.edi_meaning.specs.Store.{Spot, Location, system_procedure, block_procedure, Cell, value, location, procedure, no_cell, Instance, Store, Shape}
use Rattle.edi_meaning.specs.Store.{instances, frames, shape, frame_at, cells_in, cell, used, now, Owns, IsLive, Older, within, above}
use Rattle.edi_meaning.specs.Whole.{result_cells, instance_of}
use Rattle.edi_meaning.specs.Step as source
use Rattle.edi_meaning.specs.Step.{Process, Processes, branch_end, body_of, child_process}
use Rattle.edi_calls.proofs.Names.{some_is, same_ends}
use Rattle.edi_meaning.proofs.Own.{instances-same, instances-other, owns_parent}
use Rattle.edi_target.specs.Memory.{word}
use Rattle.edi_target.specs.Mach as target
use Rattle.edi_target.specs.Mach.{Machine, Activity, is_first}
use Rattle.edi_scheme.specs.Stands as code
use Rattle.edi_scheme.specs.Pieces.{is_branch}
use Rattle.edi_follows.specs.places.Coded.{Coded, block, entry, slot_in, slots_of, words_in, offset, kept, heading_of}
use Rattle.edi_follows.specs.places.Spots.{address, block_at, Fine, Holds, Mirrors, Typed, slot_address, cell_words, frame_start}
use Rattle.edi_follows.specs.places.Located.{frame_of, IsAt, Agrees}
use Rattle.edi_follows.specs.places.Related.{Lives, activity, IsPlaced}
use Rattle.edi_follows.proofs.places.Places.{roomy}
use Rattle.edi_follows.proofs.places.Located.{branch_ends, branch_listed, matches_acts, at_kept}
use Rattle.edi_follows.proofs.places.Free.{slot_within}
use Rattle.edi_follows.proofs.kernel.Settled.{fine_kept}
use Rattle.edi_follows.proofs.kernel.Moved.{SameSeg, names_with, names-with, address_moved, words_moved}

-- ---- one child

-- both sides after i children, where the next begins at `at`, and no word from there up to `limit` is anybody's
pub record Stage (g : Coded) (p : Name) (f limit : ℕ) (parent : Spot) (first : Name → ℕ) (i at base : ℕ) (s : Processes) (t : Machine) : Type 0 where
  pub mirrors : Mirrors g first (shape s.world.store) s.world.store t.memory
  pub typed : Typed g (shape s.world.store) s.world.store
  pub fine : (z : Spot) → IsLive (shape s.world.store) z → Fine g (shape s.world.store) z
  pub owner : (z : Spot) → IsLive (shape s.world.store) z → Lives s.live z.0
  pub some : (y : Name) → Lives s.live y → 0 < length (shape s.world.store y)
  pub long : length t.memory ≡ 2 ^ 16
  pub each : (y : Name) (z : Process) → find s.live y ≡ Some z → IsPlaced g first (shape s.world.store) t.memory t.activities y z
  pub same_names : names t.activities ≡ names s.live
  pub system : t.system ≡ s.world.system.now
  pub turns : t.turns ≡ s.world.turns
  pub clear : (z : Spot) → IsLive (shape s.world.store) z → (address first (shape s.world.store) z + (frame_at (shape s.world.store) z).need ≤ at)
      ⊎ (limit ≤ address first (shape s.world.store) z)
  pub fits : limit ≤ 2 ^ 16
  pub in_memory : (z : Spot) → IsLive (shape s.world.store) z → address first (shape s.world.store) z +
      (frame_at (shape s.world.store) z).need ≤ length t.memory
  pub bare : (j : ℕ) → i ≤ j → instances s.world.store (child p f j) ≡ []
  pub parent_lives : IsLive (shape s.world.store) parent
  pub parent_is : parent.0 ≡ p
  pub based : base ≡ address first (shape s.world.store) parent

-- a child is not the first process
child_later : (p : Name) (f i : ℕ) → is_first (child p f i) ≡ false
child_later [] f i = refl
child_later (y ∷ p) f i = refl

-- a branch has no variables
branch_bare : (k : BlockKind) (n : ℕ) (b : Block) → k ≡ kind.Branch → KindFits k n b → slots b ≡ []
branch_bare kind.Branch n b e h = h.1
branch_bare kind.Program n b e h = absurd (cc)
branch_bare kind.Procedure n b e h = absurd (cc)
branch_bare kind.Function n b e h = absurd (cc)

module _ (g : Coded) (p : Name) (f limit share : ℕ) (parent : Spot) (first : Name → ℕ) (i at base : ℕ) (s : Processes) (t : Machine)
    (st : Stage g p f limit parent first i at base s t) (n : ℕ)
    (fit : BranchFits g.unit.types g.unit.blocks g.fits.headings (block_at g (shape s.world.store) parent) n) (small : (block g n).need ≤ share)
    (room : at + share ≤ limit) where
  abbrev c : Name
  c = child p f i

  abbrev F : Shape
  F = shape s.world.store

  abbrev s' : Processes
  s' = source.with_child g.unit c share parent n s

  abbrev t' : Machine
  t' = target.with_child c base at share (record { need = (block g n).need; address = entry g n }) t

  abbrev G : Shape
  G = shape s'.world.store

  abbrev five : List ℕ
  five = base ∷ 0 ∷ 0 ∷ 0 ∷ 0 ∷ []

  -- where segments begin now
  abbrev first' : Name → ℕ
  first' y = if same y c then at else first y

  first_new : first' c ≡ at
  first_new = ap (λ b. if b then at else first c) (same-refl c)

  first_old : (y : Name) → same y c ≡ false → first' y ≡ first y
  first_old y m = ap (λ b. if b then at else first y) m

  abbrev inst : Instance
  inst = instance_of g.unit c share n parent []

  frames_new : G c ≡ record { block = n; need = (block g n).need; parent = parent } ∷ []
  frames_new = ap frames (instances-same s.world.store c (instance_of g.unit c share n parent [] ∷ []))

  old_instances : (y : Name) → same y c ≡ false → instances s'.world.store y ≡ instances s.world.store y
  old_instances y m = instances-other s.world.store c y (instance_of g.unit c share n parent [] ∷ []) m

  old_frames : (y : Name) → same y c ≡ false → G y ≡ F y
  old_frames y m = ap frames (old_instances y m)

  -- who had an instance is another
  other_of : (z : Spot) → IsLive F z → same z.0 c ≡ false
  other_of z l = go (same-or-other z.0 c)
    where
      go : (z.0 ≡ c) ⊎ (same z.0 c ≡ false) → same z.0 c ≡ false
      go (inl e) = let none : length (F z.0) ≡ 0 = ap (λ y. length (F y)) e ∙ ap (λ is. length (frames is)) (st.bare i (omega arith)) in
          absurd (omega (arith, l, none))
      go (inr m) = m

  seg : (y : Spot) → IsLive F y → SameSeg g first first' F G y.0
  seg y l = (old_frames y.0 (other_of y l), first_old y.0 (other_of y l))

  bf : BlockFits g.unit.types g.unit.blocks g.fits.headings n
  bf = g.fits.fits_blocks n fit.0

  no_slots : slots (block g n) ≡ []
  no_slots = branch_bare (block g n).kind n (block g n) fit.1 bf.fits_kind

  kept_is : kept g n ≡ 5
  kept_is = ap (λ l. 5 + sum_by (slot_words g.unit.types) l) no_slots

  enough : kept g n + acts_height g.unit.types g.unit.blocks n (block g n).body ≡ (block g n).need
  enough = sym bf.needs

  write_fits : at + 5 ≤ length t.memory
  write_fits = omega (arith, st.long, st.fits, room, small, enough, kept_is)

  -- words beside the child's five
  word_before : (a : ℕ) → a < at → word t'.memory a ≡ word t.memory a
  word_before a l = get_or-written_before t.memory at five a write_fits l

  word_after : (a : ℕ) → limit ≤ a → word t'.memory a ≡ word t.memory a
  word_after a l = get_or-written_after t.memory at five a write_fits (omega (arith, l, room, small, enough, kept_is))

  -- an instance that lives now is the child's, or lived before
  which : (z : Spot) → IsLive G z → (z ≡ (c, 0)) ⊎ IsLive F z
  which z l = go (same-or-other z.0 c)
    where
      go : (z.0 ≡ c) ⊎ (same z.0 c ≡ false) → (z ≡ (c, 0)) ⊎ IsLive F z
      go (inl e) =
          let one : length (G z.0) ≡ 1 = ap (λ y. length (G y)) e ∙ ap length frames_new in
          let first_one : z.1 ≡ 0 = omega (arith, l, one) in
          inl (λ j. (e j, first_one j))
      go (inr m) = inr (subst (λ fs. z.1 < length fs) (old_frames z.0 m) l)

  new_lives : IsLive G (c, 0)
  new_lives = omega (arith, ap length frames_new)

  old_lives : (z : Spot) → IsLive F z → IsLive G z
  old_lives z l = subst (λ fs. z.1 < length fs) (sym (old_frames z.0 (other_of z l))) l

  new_frame : frame_at G (c, 0) ≡ record { block = n; need = (block g n).need; parent = parent }
  new_frame = ap (λ fs. frame_of fs 0) frames_new

  old_frame : (z : Spot) → IsLive F z → frame_at G z ≡ frame_at F z
  old_frame z l = ap (λ fs. frame_of fs z.1) (old_frames z.0 (other_of z l))

  new_address : address first' G (c, 0) ≡ at
  new_address = omega (arith, first_new)

  old_address : (z : Spot) → IsLive F z → address first' G z ≡ address first F z
  old_address z l = address_moved g first first' F G z (seg z l)

  parent_address : base ≡ address first' G parent
  parent_address = st.based ∙ sym (old_address parent st.parent_lives)

  -- a word of an instance that lived
  word_same : (z : Spot) (a : ℕ) → IsLive F z → address first F z ≤ a → a < address first F z + (frame_at F z).need → word t'.memory a ≡ word t.memory a
  word_same z a l low high = elim (st.clear z l) [ inl h ↦ word_before a (omega (arith, h, high)) | inr h ↦ word_after a (omega (arith, h, low)) ]

  -- the child has no variables
  no_cells : (z : Spot) (v : ℕ) → z ≡ (c, 0) → v < slots_of g (block_at g G z) → ⊥
  no_cells z v e k =
      let none : slots_of g (block_at g G z) ≡ 0 = ap (λ y. slots_of g (block_at g G y)) e ∙ ap (λ (y : meaning.Frame). slots_of g y.block) new_frame
      ∙ ap length no_slots in
      absurd (omega (arith, k, none))

  mirrors' : Mirrors g first' G s'.world.store t'.memory
  mirrors' = record { link = λ z l. link z (which z l); cells = λ z v l k. cells z v (which z l) k }
    where
      link : (z : Spot) → (z ≡ (c, 0)) ⊎ IsLive F z → word t'.memory (address first' G z) ≡ address first' G (frame_at G z).parent
      link z (inl e) = subst (λ y. word t'.memory (address first' G y) ≡ address first' G (frame_at G y).parent) (sym e) (
          ap (word t'.memory) (new_address ∙ omega arith) ∙ get_or-written_here t.memory at five 0 write_fits (omega arith) ∙ parent_address
          ∙ sym (ap (λ (y : meaning.Frame). address first' G y.parent) new_frame)
          )
      link z (inr l) =
          let fz : Fine g F z = st.fine z l in
          ap (word t'.memory) (old_address z l)
          ∙ word_same z (address first F z) l (omega arith) (omega (arith, roomy g F z fz))
          ∙ st.mirrors.link z l ∙ sym (old_address (frame_at F z).parent fz.parent) ∙ sym
          (ap (λ (y : meaning.Frame). address first' G y.parent) (old_frame z l))

      cells : (z : Spot) (v : ℕ) → (z ≡ (c, 0)) ⊎ IsLive F z → v < slots_of g (block_at g G z) →
          words_at t'.memory (slot_address g first' G z v) (words_in g (slot_in g (block_at g G z) v)) ≡ cell_words g first' G (cell s'.world.store z v)
      cells z v (inl e) k = absurd (no_cells z v e k)
      cells z v (inr l) k =
          let e : block_at g G z ≡ block_at g F z = ap (λ (y : meaning.Frame). y.block) (old_frame z l) in
          let k' : v < slots_of g (block_at g F z) = subst (λ b. v < slots_of g b) e k in
          let fz : Fine g F z = st.fine z l in
          let ends : slot_address g first F z v + words_in g (slot_in g (block_at g F z) v) ≤ address first F z + (frame_at F z).need =
          omega (arith, slot_within g (block_at g F z) v k', roomy g F z fz) in
          (λ j. words_at t'.memory (old_address z l j + offset g (e j) v) (words_in g (slot_in g (e j) v)))
          ∙ words_at-written_apart t.memory at five (slot_address g first F z v) (words_in g (slot_in g (block_at g F z) v)) write_fits
          (omega (arith, ends, within_memory z l))
          (elim (st.clear z l) [ inl h ↦ inl (omega (arith, h, ends)) | inr h ↦ inr (omega (arith, h, room, small, enough, kept_is)) ])
          ∙ st.mirrors.cells z v l k'
          ∙ sym (words_moved g first first' F G z (heading_of g (block_at g F z) v) (slot_in g (block_at g F z) v) (cell s.world.store z v) (λ y m. seg y m)
          (st.typed.holds z v l k')).0
          ∙ ap (cell_words g first' G) (sym (cell_same z v l))
        where
          within_memory : (z : Spot) → IsLive F z → address first F z + (frame_at F z).need ≤ length t.memory
          within_memory z l = st.in_memory z l

          cell_same : (z : Spot) (v : ℕ) → IsLive F z → cell s'.world.store z v ≡ cell s.world.store z v
          cell_same z v l = ap (λ is. slice_index_or (cells_in is z.1) v no_cell) (old_instances z.0 (other_of z l))

  none_held : (r : Option ℕ) (ps : List Parameter) (vs : List ℕ) → map slot.Value (option_to_list r) ++ (ps ++ map slot.Value vs) ≡ [] →
      length (result_cells g.unit.types r ++ ([] ++ map (λ y. value (zero_value g.unit.types y)) vs)) ≡ 0
  none_held None [] [] e = refl
  none_held None [] (v ∷ vs) e = absurd (cc)
  none_held None (q ∷ ps) vs e = absurd (cc)
  none_held (Some y) ps vs e = absurd (cc)

  typed' : Typed g G s'.world.store
  typed' = record { count = λ z l. count z (which z l); holds = λ z v l k. holds z v (which z l) k }
    where
      count : (z : Spot) → (z ≡ (c, 0)) ⊎ IsLive F z → length (cells_in (instances s'.world.store z.0) z.1) ≡ slots_of g (block_at g G z)
      count z (inl e) = subst (λ (y : Spot). length (cells_in (instances s'.world.store y.0) y.1) ≡ slots_of g (block_at g G y)) (sym e) (
          ap (λ is. length (cells_in is 0)) (instances-same s.world.store c (inst ∷ []))
          ∙ none_held (block g n).result (block g n).parameters (block g n).variables no_slots
          ∙ sym (ap (λ (y : meaning.Frame). slots_of g y.block) new_frame ∙ ap length no_slots)
          )
      count z (inr l) =
          ap (λ is. length (cells_in is z.1)) (old_instances z.0 (other_of z l)) ∙ st.typed.count z l
          ∙ sym (ap (λ (y : meaning.Frame). slots_of g y.block) (old_frame z l))

      holds : (z : Spot) (v : ℕ) → (z ≡ (c, 0)) ⊎ IsLive F z → v < slots_of g (block_at g G z) →
          Holds g G z (heading_of g (block_at g G z) v) (slot_in g (block_at g G z) v) (cell s'.world.store z v)
      holds z v (inl e) k = absurd (no_cells z v e k)
      holds z v (inr l) k =
          let e : block_at g G z ≡ block_at g F z = ap (λ (y : meaning.Frame). y.block) (old_frame z l) in
          let k' : v < slots_of g (block_at g F z) = subst (λ b. v < slots_of g b) e k in
          subst (λ b. Holds g G z (heading_of g b v) (slot_in g b v) (cell s'.world.store z v)) (sym e)
          (subst (Holds g G z (heading_of g (block_at g F z) v) (slot_in g (block_at g F z) v))
          (sym (ap (λ is. slice_index_or (cells_in is z.1) v no_cell) (old_instances z.0 (other_of z l))))
          (words_moved g first first' F G z (heading_of g (block_at g F z) v) (slot_in g (block_at g F z) v) (cell s.world.store z v) (λ y m. seg y m)
          (st.typed.holds z v l k')).1)

  fine' : (z : Spot) → IsLive G z → Fine g G z
  fine' z l = go (which z l)
    where
      parent_apart : same parent.0 c ≡ false
      parent_apart = other_of parent st.parent_lives

      new : Fine g G (c, 0)
      new = record {
        known = subst (λ (y : meaning.Frame). y.block < length g.unit.blocks) (sym new_frame) fit.0;
        needs = subst (λ (y : meaning.Frame). y.need ≡ (block g y.block).need) (sym new_frame) refl;
        parent = subst (λ (y : meaning.Frame). IsLive G y.parent) (sym new_frame) (old_lives parent st.parent_lives);
        older = subst (λ (y : meaning.Frame). Older y.parent (c, 0)) (sym new_frame)
            (above parent_apart (subst (Owns c) (sym st.parent_is) (owns_parent p f i)));
        up = subst (λ (y : meaning.Frame). block_at g G y.parent ≡ (block g y.block).up) (sym new_frame)
            (ap (λ (y : meaning.Frame). y.block) (old_frame parent st.parent_lives) ∙ sym fit.2);
      }

      go : (z ≡ (c, 0)) ⊎ IsLive F z → Fine g G z
      go (inl e) = subst (Fine g G) (sym e) new
      go (inr m) =
          let fz : Fine g F z = st.fine z m in
          fine_kept g F G z (old_frames z.0 (other_of z m)) (old_frames (frame_at F z).parent.0 (other_of (frame_at F z).parent fz.parent)) fz

  -- ---- where each process stands

  abbrev q_new : Process
  q_new = child_process g.unit share n

  branch : code.IsBranch g.fetched g.unit.types g.unit.blocks (entry g) n
  branch = subst (λ b. code.Either b (code.IsBranch g.fetched g.unit.types g.unit.blocks (entry g) n)
      (code.IsProcedure g.fetched g.unit.types g.unit.blocks (entry g) n)) (ap is_branch fit.1) (g.stands n fit.0)

  abbrev one_frame : List meaning.Frame
  one_frame = record { block = n; need = (block g n).need; parent = parent } ∷ []

  new_at : IsAt g false at one_frame t'.memory source.ready q_new.work (entry g n) 0
  new_at =
      matches_acts g false at one_frame t'.memory (block g n).body _ 0 (branch_end ∷ []) (entry g n) branch.end 0
      (branch_listed g n (ap is_branch fit.1)) branch.list bf.statements
      (omega (arith, enough))
      (0, branch.end, refl, (branch.after, branch.exits, refl, refl, refl, branch_ends g n (ap is_branch fit.1) branch))

  abbrev made : Activity
  made = record {
    base = at;
    end = at + (block g n).need;
    top = at + 5;
    pc = entry g n;
    first = at;
    last = at + share;
    held = 0;
    forks = 0;
    standing =
        target.ready;
  }

  made_is : made ≡ activity g (λ _. at) (λ _. one_frame) c q_new (entry g n)
  made_is = λ j. record made { base = bases j; end = ends j; top = tops j }
    where
      bases : at ≡ at + 0
      bases = omega arith

      ends : at + (block g n).need ≡ at + ((block g n).need + 0)
      ends = omega arith

      tops : at + 5 ≡ at + 0 + kept g n
      tops = omega (arith, kept_is)

  placed_new : IsPlaced g first' G t'.memory t'.activities c q_new
  placed_new = record {
    pc = entry g n;
    found = find-with_at-same t.activities c made ∙ ap (λ (a : Activity). Some a)
        (made_is ∙ sym (λ j. activity g (λ _. first_new j) (λ _. frames_new j) c q_new (entry g n)));
    at = subst (λ fs. IsAt g (is_first c) (first' c) fs t'.memory source.ready q_new.work (entry g n) (length fs - 1)) (sym frames_new)
        (subst (λ a. IsAt g (is_first c) a one_frame t'.memory source.ready q_new.work (entry g n) 0) (sym first_new)
        (subst (λ v. IsAt g v at one_frame t'.memory source.ready q_new.work (entry g n) 0) (sym (child_later p f i)) new_at));
  }

  agrees : (y : Name) → Lives s.live y → Agrees g (first y) (F y) (F y) t.memory t'.memory (length (F y) - 1)
  agrees y l = record {
    starts = λ e h. refl;
    framed = λ e h. refl;
    words = λ e j h k.
        let le : e < length (F y) = omega (arith, h, st.some y l) in
        word_same (y, e) (first y + frame_start (F y) e + j) le (omega arith) (omega (arith, k, roomy g F (y, e) (st.fine (y, e) le)));
  }

  placed_old : (y : Name) (z : Process) → find s.live y ≡ Some z → same y c ≡ false → IsPlaced g first' G t'.memory t'.activities y z
  placed_old y z e m =
      let o : IsPlaced g first F t.memory t.activities y z = st.each y z e in
      let fs : G y ≡ F y = old_frames y m in
      let fy : first' y ≡ first y = first_old y m in
      record {
        pc = o.pc;
        found = find-with_at-other t.activities c y made m ∙ o.found ∙ ap (λ (a : Activity). Some a) (sym (λ j. activity g (λ _. fy j) (λ _. fs j) y z o.pc));
        at = subst (λ l. IsAt g (is_first y) (first' y) l t'.memory z.standing z.work o.pc (length l - 1)) (sym fs)
            (subst (λ a. IsAt g (is_first y) a (F y) t'.memory z.standing z.work o.pc (length (F y) - 1)) (sym fy)
            (at_kept g (is_first y) (first y) (F y) (F y) t.memory t'.memory z.standing z.work o.pc (length (F y) - 1)
            (agrees y (record { process = z; found = e })) o.at));
      }

  each' : (y : Name) (z : Process) → find s'.live y ≡ Some z → IsPlaced g first' G t'.memory t'.activities y z
  each' y z e = go (same-or-other y c)
    where
      go : (y ≡ c) ⊎ (same y c ≡ false) → IsPlaced g first' G t'.memory t'.activities y z
      go (inl k) =
          let one : q_new ≡ z = some_is (sym (find-with_at-same s.live c q_new) ∙ sym (ap (find s'.live) k) ∙ e) in
          subst (λ u. IsPlaced g first' G t'.memory t'.activities u z) (sym k) (subst (IsPlaced g first' G t'.memory t'.activities c) one placed_new)
      go (inr m) = placed_old y z (sym (find-with_at-other s.live c y q_new m) ∙ e) m

  lives_new : (y : Name) → (y ≡ c) ⊎ (same y c ≡ false) → Lives s.live y → Lives s'.live y
  lives_new y (inl k) l = subst (Lives s'.live) (sym k) (record { process = q_new; found = find-with_at-same s.live c q_new })
  lives_new y (inr m) l = record { process = l.process; found = find-with_at-other s.live c y q_new m ∙ l.found }

  new_need : (frame_at G (c, 0)).need ≡ (block g n).need
  new_need = ap (λ (y : meaning.Frame). y.need) new_frame

  old_need : (z : Spot) → IsLive F z → (frame_at G z).need ≡ (frame_at F z).need
  old_need z l = ap (λ (y : meaning.Frame). y.need) (old_frame z l)

  pub child_stage : Stage g p f limit parent first' (suc i) (at + share) base s' t'
  child_stage = record {
    mirrors = mirrors';
    typed = typed';
    fine = fine';
    owner = λ z l. elim (which z l) [
      | inl e ↦ subst (λ (y : Spot). Lives s'.live y.0) (sym e) (record { process = q_new; found = find-with_at-same s.live c q_new })
      | inr m ↦ lives_new z.0 (same-or-other z.0 c) (st.owner z m)
    ];
    some = λ y l. elim (same-or-other y c) [
      | inl e ↦ subst (λ u. 0 < length (G u)) (sym e) new_lives
      | inr m ↦ subst (λ fs. 0 < length fs) (sym (old_frames y m))
          (st.some y (record { process = l.process; found = sym (find-with_at-other s.live c y q_new m) ∙ l.found }))
    ];
    long = length-written t.memory at five write_fits ∙ st.long;
    each = each';
    same_names = names-with t.activities c made ∙ ap (names_with c) st.same_names ∙ sym (names-with s.live c q_new);
    system = st.system;
    turns = st.turns;
    clear = λ z l. elim (which z l) [
      | inl e ↦ inl (subst (λ y. address first' G y + (frame_at G y).need ≤ at + share) (sym e) (omega (arith, new_address, new_need, small)))
      | inr m ↦ elim (st.clear z m) [
        | inl h ↦ inl (omega (arith, h, old_address z m, old_need z m))
        | inr h ↦ inr (omega (arith, h, old_address z m))
      ]
    ];
    fits = st.fits;
    in_memory = λ z l. elim (which z l) [
      | inl e ↦
          subst (λ y. address first' G y + (frame_at G y).need ≤ length t'.memory) (sym e)
          (omega (arith, new_address, new_need, small, room, st.fits, st.long, length-written t.memory at five write_fits))
      | inr m ↦ omega (arith, st.in_memory z m, old_address z m, old_need z m, length-written t.memory at five write_fits)
    ];
    bare = λ j le. old_instances (child p f j) (apart j le) ∙ st.bare j (omega (arith, le));
    parent_lives = old_lives parent st.parent_lives;
    parent_is = st.parent_is;
    based = parent_address;
  }
    where
      apart : (j : ℕ) → suc i ≤ j → same (child p f j) c ≡ false
      apart j le = go (same-or-other (child p f j) c)
        where
          go : (child p f j ≡ c) ⊎ (same (child p f j) c ≡ false) → same (child p f j) c ≡ false
          go (inl e) = let k : j ≡ i = (same_ends p p f j f i e).2 in absurd (omega (arith, k, le))
          go (inr m) = m

  -- the forking instance has the block that it had
  pub parent_block : block_at g G parent ≡ block_at g F parent
  parent_block = ap (λ (y : meaning.Frame). y.block) (old_frame parent st.parent_lives)
