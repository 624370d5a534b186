-- The program's entry: from there on both sides are related.
use Rattle.std.proofs.Common.{◌≡◌, ℕ, zero, suc, ◌+◌, ◌<◌, ◌≤◌, ◌^◌, inl, true, false, List, [], ◌∷◌, ◌++◌, map, take, length, length-append, Option, Some}
use Rattle.std.proofs.Common.{None, refl, sym, subst, ap, ◌∙◌, arith}
use Rattle.std.specs.Prelude.{sum_by, slice_index, slice_index_or, option_to_list, All}
use Rattle.edi_calls.specs.Names.{Name, same, find}
use Rattle.edi_calls.specs.Ready.{has, stays}
use Rattle.edi_calls.specs.State.{State, begun}
use Rattle.edi_store.specs.Memory.{words_at, zero_memory}
use Rattle.edi_store.proofs.MemoryLaws.{length-zero_words, get_or-zero_words, length-written, get_or-written_before}
use Rattle.edi_unit.specs.declared.units.Parameter.{Parameter}
use Rattle.edi_unit.specs.declared.units.Parameter.TheVariants as slot
use Rattle.edi_unit.specs.Types as types
use Rattle.edi_unit.specs.Types.{size}
use Rattle.edi_unit.specs.Values.{zero_value}
use Rattle.edi_unit.proofs.ZeroValues.{zero_is_of}
use Rattle.edi_unit.specs.Tree.{Block}
use Rattle.edi_unit.specs.Need.{slots, slot_words, variable_words, acts_height}
use Rattle.edi_unit.specs.Fits as fits
use Rattle.edi_unit.specs.Headings as headings
use Rattle.edi_unit.specs.Fits.{BlockFits, SlotIsKnown}
use Rattle.edi_meaning.specs.Store.{Spot, system_procedure, Cell, value, procedure, Instance, Store, Shape, instances, cells_in, shape, frame_at, used, cell}
use Rattle.edi_meaning.specs.Store.{no_cell, IsLive, within}
use Rattle.edi_meaning.specs.Whole.{result_cells, instance_of}
use Rattle.edi_meaning.specs.Step as source
use Rattle.edi_meaning.specs.Step.{Process, Processes, program_end, body_of}
use Rattle.edi_meaning.specs.Laws.{IsWaiting}
use Rattle.edi_meaning.proofs.Dangling.{Coherent, permitted_coherent, step_coherent}
use Rattle.edi_calls.proofs.Names.{some_is}
use Rattle.edi_target.specs.Op as op
use Rattle.edi_target.specs.Op.{is_allowed}
use Rattle.edi_target.specs.Memory.{word}
use Rattle.edi_target.specs.Mach as target
use Rattle.edi_target.specs.Mach.{Machine, Activity, descriptors, start_memory, first_activity, machine_at}
use Rattle.edi_target.proofs.segments.Families.{Sound}
use Rattle.edi_target.proofs.segments.Reaching.{alone, first_order}
use Rattle.edi_target.proofs.segments.Keeping.{Allows}
use Rattle.edi_scheme.proofs.Known.{words_sum}
use Rattle.edi_scheme.specs.Pieces as pieces
use Rattle.edi_scheme.specs.Pieces.{is_branch, function_flag, entry_of, return_of}
use Rattle.edi_scheme.specs.Stands as code
use Rattle.edi_follows.specs.values.Words.{value_words, IsTable, ValuesAreLong, ZeroIsZeros}
use Rattle.edi_follows.proofs.calls.Cells.{HoldAll, hold_append, hold_at, zeros_hold}
use Rattle.edi_follows.specs.places.Coded.{Coded, block, entry, slot_in, slots_of, words_in, offset, kept, heading_of}
use Rattle.edi_follows.specs.places.Spots.{cell_words, cells_words, Segments, address, block_at, Fine, Layout, Mirrors, Typed, Holds}
use Rattle.edi_follows.specs.places.Located.{Matches}
use Rattle.edi_follows.specs.places.Related.{Lives, size_in, activity, IsPlaced, Related, MayStep, Queue}
use Rattle.edi_follows.specs.places.Lands.{Begins, BeginsNot, StartClaim}
use Rattle.edi_follows.proofs.places.Located.{procedure_ends, procedure_listed, matches_acts}
use Rattle.edi_follows.proofs.places.Free.{slot_within}
use Rattle.edi_follows.proofs.places.Rows.{part_stands, Aligned, aligned_length, aligned_count, aligned_append, row_words}
use Rattle.edi_follows.proofs.Zeros.{Zeros, zeros_append, zeros_replicate, zeros_behind, of_program, known_right, cells_append}

module _ (g : Coded) (long : ValuesAreLong) (zeros : ZeroIsZeros) (system : State) (n : ℕ) where
  abbrev ts : List types.Shape
  ts = g.unit.types

  abbrev b0 : ℕ
  b0 = g.unit.program

  abbrev B : Block
  B = block g b0

  table : IsTable ts
  table = record { table = g.fits.table; shapes = g.fits.shapes; parts = g.parts }

  here : b0 < length g.unit.blocks
  here = omega (arith, g.fits.first, g.fits.some)

  bf : BlockFits ts g.unit.blocks g.fits.headings b0
  bf = g.fits.fits_blocks b0 here

  no_branch : is_branch B.kind ≡ false
  no_branch = (of_program B.kind b0 B g.fits.first bf.fits_kind).0

  no_result : B.result ≡ None
  no_result = (of_program B.kind b0 B g.fits.first bf.fits_kind).1

  stands : code.IsProcedure g.fetched ts g.unit.blocks (entry g) b0
  stands = subst (λ b. code.Either b (code.IsBranch g.fetched ts g.unit.blocks (entry g) b0)
      (code.IsProcedure g.fetched ts g.unit.blocks (entry g) b0)) no_branch (g.stands b0 here)

  at_zero : g.fetched 0 ≡ Some (entry_of ts B, stands.body)
  at_zero = ap g.fetched (sym (ap (entry g) g.fits.first)) ∙ stands.begins

  -- ---- the two states

  abbrev inst : Instance
  inst = instance_of g.unit [] 65536 b0 ([], 0) (map (λ k. procedure (system_procedure k)) g.unit.calls)

  abbrev store : Store
  store = ([], inst ∷ []) ∷ []

  abbrev F : Shape
  F = shape store

  abbrev q0 : Process
  q0 = record { size = 65536; forks = 0; work = body_of g.unit b0 (program_end ∷ []); standing = source.ready }

  abbrev state : Processes
  state = record { live = ([], q0) ∷ []; world = record { store = store; system = begun system; turns = n } }

  abbrev ps_words : ℕ
  ps_words = sum_by (slot_words ts) B.parameters

  abbrev vs_words : ℕ
  vs_words = sum_by (size ts) B.variables

  abbrev x : Activity
  x = first_activity B.need (5 + ps_words + vs_words) stands.body

  abbrev m : List ℕ
  m = start_memory g.unit.calls

  abbrev machine : Machine
  machine = machine_at m (([], x) ∷ []) n system

  abbrev first : Name → ℕ
  first p = 0

  -- ---- the cells of the program

  calls_aligned : (ps : List Parameter) (ns : List ℕ) → All (λ p. p ≡ slot.Formal None) ps → length ps ≡ length ns →
      Aligned g first F ps (map (λ k. procedure (system_procedure k)) ns)
  calls_aligned [] [] h e = tt
  calls_aligned [] (k ∷ ns) h e = absurd (omega (arith, e))
  calls_aligned (p ∷ ps) [] h e = absurd (omega (arith, e))
  calls_aligned (p ∷ ps) (k ∷ ns) h e =
      let is : p ≡ slot.Formal None = h 0 p (omega arith) in
      (sym (ap (slot_words ts) is), calls_aligned ps ns (λ i d l. h (suc i) d (omega (arith, l))) (omega (arith, e)))

  zeros_aligned : (vs : List ℕ) → All (SlotIsKnown ts) (map slot.Value vs) → Aligned g first F (map slot.Value vs) (map (λ t. value (zero_value ts t)) vs)
  zeros_aligned [] h = tt
  zeros_aligned (t ∷ vs) h =
      let known : t < length ts = h 0 (slot.Value t) (omega arith) in
      (long ts table (zero_value ts t) t known (zero_is_of ts t g.fits.table g.fits.shapes known), zeros_aligned vs (λ i d l. h (suc i) d (omega (arith, l))))

  result_aligned : (r : Option ℕ) → r ≡ None → Aligned g first F (map slot.Value (option_to_list r)) (result_cells ts r)
  result_aligned None e = tt
  result_aligned (Some t) e = absurd (cc)

  procedures : All (λ p. p ≡ slot.Formal None) B.parameters
  procedures = subst (λ b. All (λ p. p ≡ slot.Formal None) (block g b).parameters) (sym g.fits.first) g.fits.fits_calls.procedures

  as_many : length B.parameters ≡ length g.unit.calls
  as_many = ap (λ b. length (block g b).parameters) g.fits.first ∙ g.fits.fits_calls.as_many

  known_variables : All (SlotIsKnown ts) (map slot.Value B.variables)
  known_variables = known_right ts B.parameters (map slot.Value B.variables)
      (known_right ts (map slot.Value (option_to_list B.result)) (B.parameters ++ map slot.Value B.variables) bf.known)

  aligned : Aligned g first F (slots B) inst.cells
  aligned =
      aligned_append g first F (map slot.Value (option_to_list B.result)) (B.parameters ++ map slot.Value B.variables) (result_cells ts B.result) _
      (result_aligned B.result no_result)
      (aligned_append g first F B.parameters (map slot.Value B.variables) (map (λ k. procedure (system_procedure k)) g.unit.calls)
      (map (λ t. value (zero_value ts t)) B.variables)
      (calls_aligned B.parameters g.unit.calls procedures as_many) (zeros_aligned B.variables known_variables))

  calls_words : (ns : List ℕ) → cells_words g first F (map (λ k. procedure (system_procedure k)) ns) ≡ descriptors ns
  calls_words [] = refl
  calls_words (k ∷ ns) = ap (λ l. 65535 ∷ k ∷ 0 ∷ l) (calls_words ns)

  zero_cells : (vs : List ℕ) → All (SlotIsKnown ts) (map slot.Value vs) → Zeros (cells_words g first F (map (λ t. value (zero_value ts t)) vs))
  zero_cells [] h = tt
  zero_cells (t ∷ vs) h =
      zeros_append (value_words (zero_value ts t)) _ (subst Zeros (sym (zeros ts table t (h 0 (slot.Value t) (omega arith)))) (zeros_replicate (size ts t)))
      (zero_cells vs (λ i d l. h (suc i) d (omega (arith, l))))

  result_words : (r : Option ℕ) → r ≡ None → (cs : List Cell) → cells_words g first F (result_cells ts r ++ cs) ≡ cells_words g first F cs
  result_words None e cs = refl
  result_words (Some t) e cs = absurd (cc)

  abbrev zs : List ℕ
  zs = cells_words g first F (map (λ t. value (zero_value ts t)) B.variables)

  words : cells_words g first F inst.cells ≡ descriptors g.unit.calls ++ zs
  words =
      result_words B.result no_result _
      ∙ cells_append g first F (map (λ k. procedure (system_procedure k)) g.unit.calls) (map (λ t. value (zero_value ts t)) B.variables)
      ∙ ap (λ l. l ++ zs) (calls_words g.unit.calls)

  as_length : length (descriptors g.unit.calls ++ zs) ≡ variable_words ts B
  as_length = ap length (sym words) ∙ aligned_length g first F (slots B) inst.cells aligned

  enough : kept g b0 + acts_height ts g.unit.blocks b0 B.body ≡ B.need
  enough = sym bf.needs

  row : words_at m 5 (variable_words ts B) ≡ cells_words g first F inst.cells
  row =
      ap (words_at m 5) (sym as_length)
      ∙ zeros_behind (descriptors g.unit.calls) zs 5 (zero_cells B.variables known_variables) (omega (arith, as_length, enough, bf.small))
      ∙ sym words

  long_memory : length m ≡ 2 ^ 16
  long_memory =
      length-written zero_memory 5 (descriptors g.unit.calls)
      (omega (arith, length-append (descriptors g.unit.calls) zs, as_length, enough, bf.small, length-zero_words (2 ^ 16))) ∙ length-zero_words (2 ^ 16)

  -- ---- nobody else

  only : (p : Name) → Lives state.live p → p ≡ []
  only [] h = refl
  only (y ∷ p) h = let c : ◌≡◌ {A = Option Process} None (Some h.process) = h.found in absurd (cc)

  nobody_waits : (p : Name) → IsWaiting state.live p → ⊥
  nobody_waits [] h = let c : source.ready ≡ source.waiting h.number = ap (λ y. y.standing) (some_is h.found) ∙ h.standing in absurd (cc)
  nobody_waits (y ∷ p) h = let c : ◌≡◌ {A = Option Process} None (Some h.process) = h.found in absurd (cc)

  alone_here : (p q : Name) → Lives state.live p → Lives state.live q → same p q ≡ false → ⊥
  alone_here p q h k e = let c : true ≡ false = sym (λ i. same (only p h i) (only q k i)) ∙ e in absurd (cc)

  segments : Segments (Lives state.live) (IsWaiting state.live) first (size_in state.live) (λ p. used (F p))
  segments = record {
    own = λ p h. subst (λ y. used (F y) ≤ size_in state.live y) (sym (only p h)) (omega (arith, bf.small));
    within = λ p h. subst (λ y. 0 + size_in state.live y ≤ 2 ^ 16) (sym (only p h)) (omega arith);
    pairs = λ p q h k e. absurd (alone_here p q h k e);
  }

  the_spot : (s : Spot) → IsLive F s → s ≡ ([], 0)
  the_spot ([], zero) h = refl
  the_spot ([], suc d) h = absurd (omega (arith, h))
  the_spot (y ∷ p, d) h = absurd (omega (arith, h))

  fine : Fine g F ([], 0)
  fine = record { known = here; needs = refl; parent = omega arith; older = within refl (omega arith); up = g.fits.first ∙ sym (bf.outermost g.fits.first) }

  layout : Layout g (Lives state.live) (IsWaiting state.live) first (size_in state.live) F
  layout = record {
    segments = segments;
    owner = λ s h. subst (Lives state.live) (sym (ap (λ (z : Spot). z.0) (the_spot s h))) (record { process = q0; found = refl });
    some = λ p h. subst (λ y. 0 < length (F y)) (sym (only p h)) (omega arith);
    fine = λ s h. subst (Fine g F) (sym (the_spot s h)) fine;
  }

  -- ---- the memory stands for the program's variables

  mirrors : Mirrors g first F store m
  mirrors = record {
    link = λ s h. subst (λ z. word m (address first F z) ≡ address first F (frame_at F z).parent) (sym (the_spot s h)) link;
    cells = λ s v h k. subst (λ z. v < slots_of g (block_at g F z) → words_at m (address first F z + offset g (block_at g F z) v)
        (words_in g (slot_in g (block_at g F z) v)) ≡ cell_words g first F (cell store z v)) (sym (the_spot s h)) (cells v) k;
  }
    where
      link : word m 0 ≡ 0
      link =
          get_or-written_before zero_memory 5 (descriptors g.unit.calls) 0
          (omega (arith, length-append (descriptors g.unit.calls) zs, as_length, enough, bf.small, length-zero_words (2 ^ 16))) (omega arith)
          ∙ get_or-zero_words (2 ^ 16) 0 (omega arith)

      cells : (v : ℕ) → v < slots_of g b0 → words_at m (0 + offset g b0 v) (words_in g (slot_in g b0 v)) ≡ cell_words g first F
          (slice_index_or inst.cells v no_cell)
      cells v k =
          ap (λ a. words_at m a (words_in g (slot_in g b0 v))) (omega arith)
          ∙ part_stands m (cells_words g first F inst.cells) 5 (variable_words ts B) (sum_by (slot_words ts) (take v (slots B)))
          (words_in g (slot_in g b0 v)) row (omega (arith, enough, bf.small, long_memory)) (omega (arith, slot_within g b0 v k))
          ∙ row_words g first F (slots B) inst.cells v aligned k

  -- ---- each variable holds what it may

  -- the heading of a call: its formals, and no result
  abbrev CallsFrom : ℕ → List Parameter → List ℕ → Type 0
  CallsFrom v ps ns = (i : ℕ) → i < length ns → fits.IsCall ts (slice_index ns i) (headings.heading_formals (heading_of g b0 (v + i)))

  calls_hold : (v : ℕ) (ps : List Parameter) (ns : List ℕ) → All (λ p. p ≡ slot.Formal None) ps → length ps ≡ length ns → CallsFrom v ps ns →
      fits.ResultsAgree (g.fits.headings b0) v ps →
      HoldAll g F ([], 0) b0 v ps (map (λ k. procedure (system_procedure k)) ns)
  calls_hold v [] [] h e c r = tt
  calls_hold v [] (k ∷ ns) h e c r = absurd (omega (arith, e))
  calls_hold v (p ∷ ps) [] h e c r = absurd (omega (arith, e))
  calls_hold v (p ∷ ps) (k ∷ ns) h e c r =
      let is : p ≡ slot.Formal None = h 0 p (omega arith) in
      let none : fits.ResultAgrees (heading_of g b0 v) (slot.Formal None) = subst (fits.ResultAgrees (heading_of g b0 v)) is r.0 in (
        subst (λ y. Holds g F ([], 0) (heading_of g b0 v) (Some y) (procedure (system_procedure k))) (sym is)
            (subst (λ y. fits.IsCall ts k (headings.heading_formals (heading_of g b0 y))) (omega arith) (c 0 (omega arith)), none),
        calls_hold (suc v) ps ns (λ i d l. h (suc i) d (omega (arith, l))) (omega (arith, e))
            (λ i l. subst (λ y. fits.IsCall ts (slice_index ns i) (headings.heading_formals (heading_of g b0 y))) (omega arith) (c (suc i) (omega (arith, l)))) r.1,
      )

  all_hold : HoldAll g F ([], 0) b0 0 (slots B) inst.cells
  all_hold = go B.result no_result bf.results
    where
      rest : fits.ResultsAgree (g.fits.headings b0) 0 B.parameters → HoldAll g F ([], 0) b0 0 (B.parameters ++ map slot.Value B.variables)
          (map (λ k. procedure (system_procedure k)) g.unit.calls ++ map (λ t. value (zero_value ts t)) B.variables)
      rest r =
          hold_append g F ([], 0) b0 0 (length B.parameters) B.parameters (map slot.Value B.variables) (map (λ k. procedure (system_procedure k)) g.unit.calls)
          (map (λ t. value (zero_value ts t)) B.variables) (omega arith)
          (calls_hold 0 B.parameters g.unit.calls procedures as_many
          (λ i l. subst (λ b. fits.IsCall ts (slice_index g.unit.calls i) (headings.heading_formals (g.fits.headings b (0 + i)))) (sym g.fits.first)
          (subst (λ y. fits.IsCall ts (slice_index g.unit.calls i) (headings.heading_formals (g.fits.headings 0 y))) (omega arith)
          (g.fits.fits_calls.each i l))) r)
          (zeros_hold g F ([], 0) b0 (length B.parameters) B.variables known_variables)

      go : (r : Option ℕ) → r ≡ None → fits.ResultsAgree (g.fits.headings b0) (fits.first_parameter r) B.parameters →
          HoldAll g F ([], 0) b0 0 (map slot.Value (option_to_list r) ++ (B.parameters ++ map slot.Value B.variables))
          (result_cells ts r ++ (map (λ k. procedure (system_procedure k)) g.unit.calls ++ map (λ t. value (zero_value ts t)) B.variables))
      go None e r = rest r
      go (Some t) e r = absurd (cc)

  typed : Typed g F store
  typed = record {
    count = λ s h. subst (λ z. length (cells_of z) ≡ slots_of g (block_at g F z)) (sym (the_spot s h)) (aligned_count g first F (slots B) inst.cells aligned);
    holds = λ s v h k. subst (λ z. v < slots_of g (block_at g F z) → Holds g F z (heading_of g (block_at g F z) v) (slot_in g (block_at g F z) v)
        (cell store z v)) (sym (the_spot s h)) (holds v) k;
  }
    where
      cells_of : Spot → List Cell
      cells_of z = cells_in (instances store z.0) z.1

      holds : (v : ℕ) → v < slots_of g b0 → Holds g F ([], 0) (heading_of g b0 v) (slot_in g b0 v) (slice_index_or inst.cells v no_cell)
      holds v k = subst (λ y. Holds g F ([], 0) (heading_of g b0 y) (slot_in g b0 v) (slice_index_or inst.cells v no_cell)) (omega arith)
          (hold_at g F ([], 0) b0 0 (slots B) inst.cells v all_hold k)

  -- ---- where the program stands

  returns_so : (r : Option ℕ) (b : Block) → b.result ≡ r → r ≡ None → return_of ts b ≡ op.return 0 0
  returns_so None b e f = λ i. op.return (results i) (flags i)
    where
      results : pieces.result_words ts b.result ≡ 0
      results = ap (pieces.result_words ts) e

      flags : function_flag b.result ≡ 0
      flags = ap function_flag e
  returns_so (Some t) b e f = absurd (cc)

  work_stands : Matches g true 0 (F []) m (body_of g.unit b0 (program_end ∷ [])) stands.body 0
  work_stands =
      matches_acts g true 0 (F []) m B.body _ 0 (program_end ∷ []) stands.body stands.end 0
      (procedure_listed g b0 no_branch stands) stands.list bf.statements (omega (arith, enough)) (
        0,
        stands.end,
        refl,
        (
          stands.after,
          subst (λ i. g.fetched stands.end ≡ Some (i, stands.after)) (returns_so B.result B refl no_result) stands.returns,
          refl,
          refl,
          refl,
          procedure_ends g b0 no_branch stands,
        ),
      )

  variables_sum : variable_words ts B ≡ ps_words + vs_words
  variables_sum = omega (arith, words_sum ts B, ap (pieces.result_words ts) no_result)

  placed : (p : Name) (q : Process) → find state.live p ≡ Some q → IsPlaced g first F m machine.activities p q
  placed (y ∷ p) q e = let c : ◌≡◌ {A = Option Process} None (Some q) = e in absurd (cc)
  placed [] q e = subst (IsPlaced g first F m machine.activities []) (some_is e)
      (record { pc = stands.body; found = ap (λ (a : Activity). Some a) same; at = work_stands })
    where
      ends : B.need ≡ 0 + (B.need + 0)
      ends = omega arith

      tops : 5 + ps_words + vs_words ≡ 0 + kept g b0
      tops = omega (arith, variables_sum)

      same : x ≡ activity g first F [] q0 stands.body
      same = λ i. record x { end = ends i; top = tops i }

  related : Related g state machine
  related = record {
    first = first;
    words = record { layout = layout; mirrors = mirrors; typed = typed; long = long_memory; each = placed };
    same_names = refl;
    system = refl;
    turns = refl;
  }

  -- ---- both sides by themselves

  stepped : source.step g.unit (source.start g.unit system (suc n)) [] ≡ source.went state stays false
  stepped = refl

  coherent : Coherent state
  coherent = step_coherent g.unit (source.start g.unit system (suc n)) []
      (permitted_coherent g.unit system (suc n) [] (source.start g.unit system (suc n)) refl)

  allowed : is_allowed (entry_of ts B) ≡ true
  allowed = subst (Allows 0 0) at_zero (g.allows 0 0 0)

  sound : Sound machine.activities
  sound = alone x (first_order B.need (pieces.result_words ts B.result) ps_words vs_words (function_flag B.result) stands.body allowed
      (omega (arith, bf.small))) refl

  queue : Queue state ([] ∷ [])
  queue = record { once = (refl, tt); holds = holds; all = all }
    where
      holds : (p : Name) → has ([] ∷ []) p ≡ true → MayStep state p
      holds [] h = refl
      holds (y ∷ p) h = absurd (cc)

      all : (p : Name) → MayStep state p → has ([] ∷ []) p ≡ true
      all [] h = refl
      all (y ∷ p) h = absurd (cc)

  pub begins : Begins g system n
  begins = record {
    state = state;
    machine = machine;
    stepped = stepped;
    entered = ap (λ o. target.entered o 0 g.unit.calls (suc n) system) at_zero;
    taken = record { related = related; kept = record { coherent = coherent; sound = sound }; queue = queue; marks_agree = inl refl };
    no_past = refl;
  }

  pub begins_not : BeginsNot g system
  begins_not = record {
    machine = machine_at m (([], x) ∷ []) 0 system;
    entered = ap (λ o. target.entered o 0 g.unit.calls zero system) at_zero;
    system_is = refl;
    turns_are = refl;
  }

pub start_claim : (g : Coded) → ValuesAreLong → ZeroIsZeros → StartClaim g
start_claim g long zeros = record { begins = λ system n. begins g long zeros system n; begins_not = λ system. begins_not g long zeros system 0 }
