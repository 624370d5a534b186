-- The dump of a standstill tells the state of the meaning in which the execution stands still.
use Rattle.std.proofs.Common.{◌≡◌, inl, inr, ℕ, zero, suc, ◌+◌, ◌-◌, ◌<◌, ◌≤◌, Bool, true, false, if◌then◌else◌, List, [], ◌∷◌, ◌++◌, flat_map, length}
use Rattle.std.proofs.Common.{Option, Some, None, refl, sym, subst, ap, ◌∙◌, arith, slice_get}
use Rattle.std.specs.Prelude.{codes, unwrap_or}
use Rattle.edi_calls.specs.Choice.{Choices}
use Rattle.edi_calls.specs.Names.{Name, Table, find, names, same}
use Rattle.edi_calls.specs.Outcome as outcome
use Rattle.edi_calls.specs.Outcome.{Ending}
use Rattle.edi_calls.specs.State.{State, Traced, fresh}
use Rattle.edi_calls.proofs.Names.{some_is}
use Rattle.edi_lex.specs.Symbols.{symbols_of}
use Rattle.edi_sights.specs.named.Naming.{Names, named_at}
use Rattle.edi_unit.specs.Tree.{ProgramUnit}
use Rattle.edi_meaning.specs.Permitted.{is_running_process, may_step}
use Rattle.edi_meaning.specs.Places.{call_lines}
use Rattle.edi_meaning.specs.Select as selection
use Rattle.edi_meaning.specs.Step.{Process, Processes}
use Rattle.edi_meaning.specs.Store.{Frame, Shape, shape}
use Rattle.edi_meaning.proofs.Branching.{fitting_forks_have_branches}
use Rattle.edi_meaning.proofs.Dangling.{Coherent}
use Rattle.edi_meaning.proofs.Someone.{someone_may_step}
use Rattle.edi_target.specs.Fetch.{fetch}
use Rattle.edi_target.specs.Mach as target
use Rattle.edi_target.specs.Mach.{Activity, Machine, is_first}
use Rattle.edi_target.specs.Op.{Instruction}
use Rattle.edi_target.specs.Reading.{AreWords}
use Rattle.edi_scheme.specs.Code.{code_of}
use Rattle.edi_scheme.specs.Laws.{parts_of}
use Rattle.edi_follows.specs.Theorem.{CanBeCoded}
use Rattle.edi_follows.specs.places.Coded.{Coded, kept}
use Rattle.edi_follows.specs.places.Located.{frame_of}
use Rattle.edi_follows.specs.places.Related.{IsPlaced, Related, activity, no_process, process_in}
use Rattle.edi_follows.specs.places.Spots.{frame_start}
use Rattle.edi_follows.proofs.Coding.{code_ends_as_meant}
use Rattle.edi_follows.proofs.Lined.{at_called}
use Rattle.edi_follows.proofs.Whole.{starts, steps}
use Rattle.edi_follows.proofs.kernel.Meaning.{steps_cohere, steps_queue}
use Rattle.edi_follows.proofs.places.Places.{roomy}
use Rattle.edi_texts.proofs.Once.{one_unit}
use Rattle.edi_timeline.specs.Text.{ending_text, process_text}
use Rattle.edi_kernel.specs.declared.frames.Below.{Below}
use Rattle.edi_waits.specs.Ends.{AreAtEnd, AtEnd, IsSeen, end_of, frames_of, has_broken, is_before, stands_by}
use Rattle.edi_waits.proofs.Lists.{at_contained, contains_at}
use Rattle.edi_waits.proofs.Ordered.{IsIn, at_in, contained_in, in_contained}
use Rattle.edi_dump.specs.Frames.{Program, block_frame, name_line}
use Rattle.edi_dump.specs.Text.{calls_text, dump_text, end_text, frame_text, place_text}
use Rattle.edi_dump.proofs.JumpsListed.{IsOf, is_of}
use Rattle.edi_dumped.specs.Dumps.{HasProgram, TellsEnd}
use Rattle.edi_dumped.specs.Standing.{AgreesWith, StandsIn}
use Rattle.edi_dumped.specs.StandingDumps.{AreProcesses, DumpsAreAsMeant, TellsStandstill, calls_told, instance_lines, lines_down, newest, process_lines}
use Rattle.edi_dumped.specs.StandingDumps.{process_told, stands_told}
use Rattle.edi_dumped.proofs.Chained.{many}
use Rattle.edi_dumped.proofs.Held.{lines_are_of_instances}
use Rattle.edi_dumped.proofs.Programs.{accepted}
use Rattle.edi_dumped.proofs.Standing.{code_stands_as_meant, last_ending, last_machine, one_end}
use Rattle.edi_dumped.proofs.StandingBlocks.{IsInCode}
use Rattle.edi_dumped.proofs.StandingFrames.{GoesOn, below_at, chain, front_at, told_down}
use Rattle.edi_dumped.proofs.StandingPlaces.{calls_are, rest_of, stands_is}
use Rattle.edi_dumped.proofs.StandingStarted.{are_words}

-- ---- tables of the same names

heads : {x y : Name} {xs ys : List Name} → x ∷ xs ≡ y ∷ ys → x ≡ y
heads h = cc

tails : {x y : Name} {xs ys : List Name} → x ∷ xs ≡ y ∷ ys → xs ≡ ys
tails h = cc

found_there : {A B : Type 0} (t : Table A) (u : Table B) (p : Name) (a : A) → names t ≡ names u → find t p ≡ Some a → (b : B) × (find u p ≡ Some b)
found_there [] u p a n e = absurd (cc)
found_there (x ∷ t) [] p a n e = absurd (cc)
found_there {A = A} {B = B} (x ∷ t) (y ∷ u) p a n e = go (same p x.0) refl e (λ f. found_there t u p a (tails n) f)
  where
    there : same p x.0 ≡ same p y.0
    there = ap (same p) (heads n)

    go : (b : Bool) → same p x.0 ≡ b → (if b then Some x.1 else find t p) ≡ Some a → (find t p ≡ Some a → (b : B) × (find u p ≡ Some b))
        → (b : B) × (find (y ∷ u) p ≡ Some b)
    go true k f later = (y.1, ap (λ b. if b then Some y.1 else find u p) (sym there ∙ k))
    go false k f later = let r = later f in (r.0, ap (λ b. if b then Some y.1 else find u p) (sym there ∙ k) ∙ r.1)

-- ---- the lines of a process

module _ (g : Coded) (told : (at : ℕ) (found : Instruction × ℕ) → g.fetched at ≡ Some found → IsOf g.unit at found.0)
    (reads : (at : ℕ) (found : Instruction × ℕ) → g.fetched at ≡ Some found → fetch (code_of g.unit) at ≡ Some found) (fine : AreWords (code_of g.unit))
    (s : Processes) (m : Machine) (running : (x : Name) × (may_step s x ≡ true)) (names_in : Names) (r : Related g s m) where
  abbrev own : Program
  own = record { unit = g.unit; names = names_in }

  abbrev F : Shape
  F = shape s.world.store

  -- the text of a frame that begins here, read as one of this block
  abbrev frame_as : (base block : ℕ) → List ℕ
  frame_as base block = block_frame own m.memory block base (named_at names_in.blocks block)

  module _ (coherent : Coherent s) where
    lines_at : (p : Name) (d : ℕ) → d < length (F p) → frame_as (r.first p + frame_start (F p) d) (frame_of (F p) d).block ≡ instance_lines own s.world.store (p, d)
    lines_at p d k = go (find s.live running.0) refl running.1
      where
        go : (o : Option Process) → find s.live running.0 ≡ o → is_running_process o ≡ true
            → frame_as (r.first p + frame_start (F p) d) (frame_of (F p) d).block ≡ instance_lines own s.world.store (p, d)
        go None e h = absurd (cc)
        go (Some q) e h =
            ap (λ l. name_line (named_at names_in.blocks (frame_of (F p) d).block).name ++ l)
            (lines_are_of_instances g s m coherent r running.0 q e h names_in (p, d) k)

    lines_are_down : (p : Name) (d : ℕ) → d ≤ length (F p) → told_down frame_as (r.first p) (F p) d ≡ lines_down own s.world.store p d
    lines_are_down p zero k = refl
    lines_are_down p (suc d) k =
        ap (λ l. l ++ told_down frame_as (r.first p) (F p) d) (lines_at p d (omega (arith, k)))
        ∙ ap (λ l. instance_lines own s.world.store (p, d) ++ l) (lines_are_down p d (omega (arith, k)))

    -- ---- a process of the machine

    module _ (p : Name) (q : Process) (found : find s.live p ≡ Some q) where
      abbrev fs : List Frame
      fs = F p

      abbrev d : ℕ
      d = newest s.world.store p

      abbrev placed_at : IsPlaced g r.first F m.memory m.activities p q
      placed_at = r.words.each p q found

      abbrev b : Activity
      b = activity g r.first F p q placed_at.pc

      some : 0 < length fs
      some = r.words.layout.some p (record { process = q; found = found })

      last : d < length fs
      last = omega (arith, some)

      known : (e : ℕ) → e < length fs → (frame_of fs e).block < length g.unit.blocks
      known e h = (r.words.layout.fine (p, e) h).known

      roomy_at : (e : ℕ) → e < length fs → kept g (frame_of fs e).block ≤ (frame_of fs e).need
      roomy_at e h = roomy g F (p, e) (r.words.layout.fine (p, e) h)

      within : IsInCode g (frame_of fs d).block placed_at.pc
      within = front_at g told (is_first p) (r.first p) fs m.memory known q.standing q.work placed_at.pc d last placed_at.at

      below : (e : ℕ) → e < d → GoesOn g told (is_first p) (r.first p) fs m.memory known e
      below = below_at g told (is_first p) (r.first p) fs m.memory known q.standing q.work placed_at.pc d last placed_at.at

      enough : d ≤ b.base - b.first
      enough = omega (arith, many g (r.first p) fs m.memory roomy_at d last)

      it_is : (a : Activity) → find m.activities p ≡ Some a → b ≡ a
      it_is a there = some_is (sym placed_at.found ∙ there)

      abbrev frames : Activity → List Below
      frames a = frames_of (suc (a.base - a.first)) m.memory a.first a.base a.top a.pc

      -- its frames are told by the lines of its instances
      lines_are : (a : Activity) → find m.activities p ≡ Some a
          → flat_map (frame_text (Some own) (code_of g.unit) m.memory) (frames a) ≡ process_lines own s.world.store p
      lines_are a there =
          let all : suc d ≡ length fs = omega (arith, some) in
          ap (λ (c : Activity). flat_map (frame_text (Some own) (code_of g.unit) m.memory) (frames c)) (sym (it_is a there))
          ∙ (chain g told (is_first p) (r.first p) fs m.memory known roomy_at frame_as (suc (b.base - b.first)) d b.top placed_at.pc (omega (arith, enough)) last within
          below
          ∙ (ap (told_down frame_as (r.first p) fs) all ∙ lines_are_down p (length fs) (omega arith)))

      -- and where it stands by how the process stands and by its work
      place_is : (a : Activity) → find m.activities p ≡ Some a
          → place_text (Some own) (code_of g.unit) m.memory (stands_by false a.standing a.forks) (frames a)
          ≡ stands_told own s.world.store p q.standing q.forks ++ calls_told own s.world.store true p (call_lines q.work) d
      place_is a there =
          ap (λ (c : Activity). place_text (Some own) (code_of g.unit) m.memory (stands_by false c.standing c.forks) (frames c)) (sym (it_is a there))
          ∙ (ap (λ l. l ++ calls_text (Some own) (code_of g.unit) m.memory true (rest_of g told reads fine names_in s.world.store p (is_first p) (r.first p) m.memory known
          roomy_at (b.base - b.first) d))
          (stands_is g told reads fine names_in s.world.store p (is_first p) (r.first p) m.memory known roomy_at q.standing q.work q.forks placed_at.pc d refl last
          placed_at.at within)
          ∙ ap (λ l. stands_told own s.world.store p q.standing q.forks ++ l)
          (calls_are g told reads fine names_in s.world.store p (is_first p) (r.first p) m.memory known roomy_at (b.base - b.first) d (call_lines q.work) true enough last
          (at_called g (is_first p) (r.first p) fs m.memory q.standing q.work placed_at.pc d placed_at.at) below))

    -- ---- all processes

    abbrev pub placed : List AtEnd → List (Name × Process)
    placed [] = []
    placed (x ∷ xs) = (x.process, process_in s.live x.process) ∷ placed xs

    abbrev Ends : Name → Activity → AtEnd
    Ends = end_of m (λ p. false)

    abbrev IsHere : AtEnd → Type 0
    IsHere x = (a : Activity) × (find m.activities x.process ≡ Some a) × (x ≡ Ends x.process a)

    in_live : (p : Name) (q : Process) → find s.live p ≡ Some q → process_in s.live p ≡ q
    in_live p q e = ap (λ o. unwrap_or o no_process) e

    text_is : (x : AtEnd) → IsHere x → end_text (Some own) (code_of g.unit) m.memory x ≡ process_told own s.world.store (x.process, process_in s.live x.process)
    text_is x here =
        let p : Name = x.process in
        let q = found_there m.activities s.live p here.0 r.same_names here.1 in
        let place = ap (λ (y : AtEnd). place_text (Some own) (code_of g.unit) m.memory y.stands y.frames) here.2 ∙ place_is p q.0 q.1 here.0 here.1 in
        let lines = ap (λ (y : AtEnd). flat_map (frame_text (Some own) (code_of g.unit) m.memory) y.frames) here.2 ∙ lines_are p q.0 q.1 here.0 here.1 in
        (λ i. process_text p ++ (place i ++ (codes "\n" ++ lines i))) ∙ ap (λ z. process_told own s.world.store (p, z)) (sym (in_live p q.0 q.1))

    pub texts_are : (xs : List AtEnd) → ((x : AtEnd) → IsIn x xs → IsHere x)
        → flat_map (end_text (Some own) (code_of g.unit) m.memory) xs ≡ flat_map (process_told own s.world.store) (placed xs)
    texts_are [] h = refl
    texts_are (x ∷ xs) h =
        ap (λ l. l ++ flat_map (end_text (Some own) (code_of g.unit) m.memory) xs) (text_is x (h x (inl refl)))
        ∙ ap (λ l. process_told own s.world.store (x.process, process_in s.live x.process) ++ l) (texts_are xs (λ y i. h y (inr i)))

    -- these are the processes of the state
    at_placed : (xs : List AtEnd) (i : ℕ) (x : Name × Process) → slice_get (placed xs) i ≡ Some x
        → (y : AtEnd) × (slice_get xs i ≡ Some y) × ((y.process, process_in s.live y.process) ≡ x)
    at_placed [] i x e = absurd (cc)
    at_placed (y ∷ ys) zero x e = (y, refl, some_is e)
    at_placed (y ∷ ys) (suc i) x e = at_placed ys i x e

    in_placed : (xs : List AtEnd) (x : AtEnd) → IsIn x xs → (i : ℕ) × (slice_get (placed xs) i ≡ Some (x.process, process_in s.live x.process))
    in_placed [] x h = absurd h
    in_placed (y ∷ ys) x (inl e) = (0, ap (λ (z : AtEnd). Some (z.process, process_in s.live z.process)) (sym e))
    in_placed (y ∷ ys) x (inr h) = let k = in_placed ys x h in (suc k.0, k.1)

    pub are_processes : (xs : List AtEnd) → AreAtEnd m (λ p. false) xs → AreProcesses s (placed xs)
    are_processes xs h = record {
      each = λ x c.
          let i = at_contained (placed xs) x c in
          let y = at_placed xs i.0 x i.1 in
          let here = h.each y.0 (in_contained xs y.0 (at_in xs i.0 y.0 y.1)) in
          let q = found_there m.activities s.live y.0.process here.0 r.same_names here.1 in
          subst (λ (z : Name × Process). find s.live z.0 ≡ Some z.1) y.2 (q.1 ∙ ap Some (sym (in_live y.0.process q.0 q.1)));
      all = λ p q e.
          let a = found_there s.live m.activities p q (sym r.same_names) e in
          let x : AtEnd = Ends p a.0 in
          let i = in_placed xs x (contained_in xs x (h.all p a.0 a.1)) in
          contains_at (placed xs) i.0 (p, q) (i.1 ∙ ap (λ z. Some (p, z)) (in_live p q e));
      order = λ i x y e f.
          let a = at_placed xs i x e in
          let b = at_placed xs (suc i) y f in
          (λ j. is_before (sym a.2 j).0 (sym b.2 j).0) ∙ h.order i a.0 b.0 a.1 b.1;
    }

-- ---- the dump

-- at a standstill the machine of the end is told
seen_at : (words : List ℕ) (ending : Ending) (m seen : Machine) (p : Name) → ending ≡ outcome.standstill → IsSeen words ending m seen p → seen ≡ m
seen_at words ending m seen p e h = let P : Ending → Type 0 = λ x. IsSeen words x m seen p in subst P e h

module _ (program : Program) (c : CanBeCoded program.unit) (system : State) (bound : ℕ) (choices : Choices) (told : List ℕ)
    (t : TellsEnd (parts_of program.unit) (Some program) system bound choices told) where
  abbrev unit : ProgramUnit
  unit = program.unit

  abbrev as_of : ProgramUnit → Program
  as_of u = record { unit = u; names = program.names }

  module _ (m : Machine) (drawn : ℕ) (run : target.Ends (fetch (code_of unit)) 0 unit.calls (fresh system) bound choices outcome.standstill m drawn) where
    one_run : target.finished t.run.ending t.run.machine t.run.drawn ≡ target.finished outcome.standstill m drawn
    one_run =
        one_end unit (fresh system) bound choices t.run.ending outcome.standstill t.run.machine m t.run.drawn drawn (t.run.steps, t.run.ends) run

    seen_is : t.seen ≡ m
    seen_is = seen_at (code_of unit) t.run.ending t.run.machine t.seen t.last.process (last_ending one_run) t.is_seen ∙ last_machine one_run

    at_end : AreAtEnd m (λ p. false) t.processes
    at_end =
        subst (λ x. AreAtEnd m (has_broken x t.last.process) t.processes) (last_ending one_run)
        (subst (λ x. AreAtEnd x (has_broken t.run.ending t.last.process) t.processes) seen_is t.are)

    module _ (s : Processes) (stands : StandsIn unit (fresh system) bound choices s drawn) (agrees : AgreesWith unit s m) where
      -- what is told, for the unit of the code that agrees
      abbrev IsTold : ProgramUnit → Type 0
      IsTold u = (xs : List (Name × Process)) × AreProcesses s xs
          × (flat_map (end_text (Some (as_of u)) (code_of u) m.memory) t.processes ≡ flat_map (process_told (as_of u) s.world.store) xs)

      is_told : IsTold agrees.coded.unit
      is_told =
          let g : Coded = agrees.coded in
          let told : (at : ℕ) (found : Instruction × ℕ) → g.fetched at ≡ Some found → IsOf g.unit at found.0 =
          λ at found e. let k = agrees.reads at found e in
          subst (λ u. IsOf u at found.0) (sym agrees.of) (is_of unit c.fits c.parts at found k.0 k.1) in
          let reads : (at : ℕ) (found : Instruction × ℕ) → g.fetched at ≡ Some found → fetch (code_of g.unit) at ≡ Some found =
          λ at found e. subst (λ u. fetch (code_of u) at ≡ Some found) (sym agrees.of) (agrees.reads at found e).1 in
          let fine : AreWords (code_of g.unit) = subst (λ u. AreWords (code_of u)) (sym agrees.of) (are_words unit c) in
          let running : (x : Name) × (may_step s x ≡ true) =
          someone_may_step unit (fresh system) bound stands.order s (fitting_forks_have_branches unit c.fits) stands.leads in (
            placed g told reads fine s m running program.names agrees.related agrees.coherent t.processes,
            are_processes g told reads fine s m running program.names agrees.related agrees.coherent t.processes at_end,
            texts_are g told reads fine s m running program.names agrees.related agrees.coherent t.processes
                (λ x i. at_end.each x (in_contained t.processes x i)),
          )

      pub tells : (bytes : List ℕ) → HasProgram (symbols_of bytes) program → TellsStandstill bytes system bound choices drawn told
      tells bytes has =
          let all : IsTold unit = subst IsTold agrees.of is_told in
          record {
            program = program;
            has = has;
            state = s;
            stands = stands;
            processes = all.0;
            are = all.1;
            text_is = t.text_is
                ∙ (ap (λ x. dump_text (Some program) (code_of unit) x.memory t.run.ending t.processes) seen_is
                ∙ (ap (λ x. dump_text (Some program) (code_of unit) m.memory x t.processes) (last_ending one_run)
                ∙ ap (λ l. ending_text outcome.standstill ++ (codes "\n" ++ l)) all.2));
          }

-- of a program that a text has
tells_as_meant : (bytes : List ℕ) (program : Program) → HasProgram (symbols_of bytes) program → CanBeCoded program.unit → (system : State) (bound : ℕ)
    (choices : Choices) (told : List ℕ) → TellsEnd (parts_of program.unit) (Some program) system bound choices told →
    (end : Traced) (turns drawn : ℕ) (order : List Name) →
    selection.Ends program.unit (fresh system) bound choices outcome.standstill end turns drawn order → TellsStandstill bytes system bound choices drawn told
tells_as_meant bytes program has c system bound choices told t end turns drawn order e =
    let ends = code_ends_as_meant steps starts steps_cohere steps_queue program.unit c (fresh system) bound choices outcome.standstill end turns drawn order e in
    let run : target.Ends (fetch (code_of program.unit)) 0 program.unit.calls (fresh system) bound choices outcome.standstill ends.0 drawn =
    (ends.1.0, ends.1.1) in
    let meant = code_stands_as_meant program.unit c (fresh system) bound choices ends.0 drawn run in
    tells program c system bound choices told t ends.0 drawn run meant.0 meant.1 meant.2 bytes has

pub dumps_are_as_meant : DumpsAreAsMeant
dumps_are_as_meant bytes unit is c system bound choices told d end turns drawn order e =
    let program : Program = d.2.0 in
    let one : unit ≡ program.unit = one_unit (symbols_of bytes) unit program.unit is (accepted (symbols_of bytes) program d.2.1) in
    tells_as_meant bytes program d.2.1 (subst CanBeCoded one c) system bound choices told
    (subst (λ k. TellsEnd (parts_of program.unit) k system bound choices told) d.2.3 (subst (λ p. TellsEnd p d.1 system bound choices told) d.2.2 d.3))
    end turns drawn order (subst (λ u. selection.Ends u (fresh system) bound choices outcome.standstill end turns drawn order) one e)
