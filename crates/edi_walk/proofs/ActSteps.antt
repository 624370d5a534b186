-- Statements, conditions and calls of blocks as frames: what each makes, and what then is left, is what frames for its parts make.
use Rattle.std.proofs.Common.{◌≡◌, ℕ, zero, suc, ◌≤◌, Bool, true, false, List, [], ◌++◌, refl, sym, ap, ◌∙◌, arith}
use Rattle.std.specs.Prelude.{if◌then◌else◌, nat_lt}
use Rattle.std.proofs.lemmas.List.{append-nil}
use Rattle.edi_calls.specs.declared.kinds.Cause.TheVariants as cause
use Rattle.edi_calls.specs.Names.{Name}
use Rattle.edi_calls.specs.Outcome as outcome
use Rattle.edi_unit.specs.declared.expressions.Callee.{Callee}
use Rattle.edi_unit.specs.Values.{Value, compound, members, values, is_true}
use Rattle.edi_unit.specs.Need.{block_at}
use Rattle.edi_unit.specs.Tree as tree
use Rattle.edi_unit.specs.Tree.{Expression, Expressions, Place, Arguments, Acts, Clauses, ProgramUnit}
use Rattle.edi_meaning.specs.Store.{Spot, block_procedure, Cell, procedure, shape, room, grown, shrunk}
use Rattle.edi_meaning.specs.Evaluation.{World, Evaluation, gives, ends, ◌>>=◌, turn, turn_from, stops, fails}
use Rattle.edi_meaning.specs.Whole.{Designated, meant, instance_of, entered, left, function_body, function_call, procedure_body, procedure_call}
use Rattle.edi_meaning.specs.Whole.{result_of, expression, expressions, members_of, designated, parts, arguments, acts, first, levels_of}
use Rattle.edi_walk.specs.Frames.{Given, nothing, a_value, a_place, some_cells, whether, values_given}
use Rattle.edi_walk.specs.Frames.{cell_given, member_given, Frame, evaluates, places, performs, tries, gathers, joins_members, collects}
use Rattle.edi_walk.specs.Frames.{stores, tests, assigns, calls_function, calls_procedure, loops}
use Rattle.edi_walk.specs.Frames.{ends_function, ends_procedure, was_true}
use Rattle.edi_walk.proofs.FrameSteps as steps
use Rattle.edi_walk.proofs.FrameSteps.{done, one_deeper}

module _ (unit : ProgramUnit) (p : Name) (size : ℕ) (deeper : Acts → World → Evaluation (Unit {0})) (K : Given → World → Evaluation Given) where
  abbrev pub then_go : Frame → (Given → World → Evaluation Given) → Given → World → Evaluation Given
  then_go = steps.then_go unit p size deeper K

  abbrev pub alone : Frame → Given → World → Evaluation Given
  alone = steps.alone unit p size deeper K

  abbrev pub two : (upper lower : Frame) → Given → World → Evaluation Given
  two = steps.two unit p size deeper K

  -- ---- statements

  pub no_act_goes : (g : Given) (w : World) → alone (performs tree.no_act) g w ≡ K nothing w
  no_act_goes g w = refl

  -- a statement, and then those behind it
  behind : (m : Evaluation (Unit {0})) (s : Acts) →
      (((m >>= λ _ w. acts unit p size deeper s w) >>= λ _ w. gives nothing w) >>= K) ≡ (m >>= λ _ w. alone (performs s) nothing w)
  behind (gives a w) s = refl
  behind (ends e system turns) s = refl

  pub skip_goes : (s : Acts) (g : Given) (w : World) → alone (performs (tree.act_then tree.skip s)) g w ≡ alone (performs s) nothing w
  skip_goes s g w = refl

  pub halt_goes : (line : ℕ) (s : Acts) (g : Given) (w : World) → alone (performs (tree.act_then (tree.halt line) s)) g w ≡ stops (outcome.halted line) w
  halt_goes line s g w = refl

  pub held_when : (cs : Clauses) (line : ℕ) (s : Acts) (g : Given) (w : World) →
      alone (performs (tree.act_then (tree.when_act cs line) s)) g w ≡ fails cause.Held line w
  held_when cs line s g w = refl

  pub held_cobegin : (bs : List ℕ) (line : ℕ) (s : Acts) (g : Given) (w : World) →
      alone (performs (tree.act_then (tree.cobegin bs line) s)) g w ≡ fails cause.Held line w
  held_cobegin bs line s g w = refl

  pub assign_goes : (v : Place) (e : Expression) (s : Acts) (g h : Given) (w : World) →
      alone (performs (tree.act_then (tree.assign v e) s)) g w
      ≡ then_go (places v) (two (assigns e) (performs s)) h w
  assign_goes v e s g h w = behind _ s ∙ on (designated unit p size deeper v w) where
    last : (d : Designated) (m : Evaluation Value) →
        ((m >>= λ x w. done (record w { store = Rattle.edi_meaning.specs.Store.put w.store d.at x })) >>= λ _ w. alone (performs s) nothing w)
        ≡ ((m >>= λ x w. gives nothing (record w { store = Rattle.edi_meaning.specs.Store.put w.store d.at x })) >>= alone (performs s))
    last d (gives x w) = refl
    last d (ends e system turns) = refl

    on : (m : Evaluation Designated) →
        ((m >>= λ d w. expression unit p size deeper e w >>= λ x w. done (record w { store = Rattle.edi_meaning.specs.Store.put w.store d.at x }))
        >>= λ _ w. alone (performs s) nothing w)
        ≡ ((m >>= λ d w. gives (a_place d) w) >>= two (assigns e) (performs s))
    on (gives d w) = last d (expression unit p size deeper e w)
    on (ends e system turns) = refl

  pub value_goes : (d : Designated) (e : Expression) (h : Given) (w : World) →
      alone (assigns e) (a_place d) w ≡ two (evaluates e) (stores d) h w
  value_goes d e h w = on (expression unit p size deeper e w) where
    on : (m : Evaluation Value) →
        ((m >>= λ x w. gives nothing (record w { store = Rattle.edi_meaning.specs.Store.put w.store d.at x })) >>= K)
        ≡ ((m >>= λ v w. gives (a_value v) w) >>= alone (stores d))
    on (gives d w) = refl
    on (ends e system turns) = refl

  pub call_goes : (c : Callee) (es : Arguments) (line : ℕ) (s : Acts) (g : Given) (w : World) →
      alone (performs (tree.act_then (tree.call c es line) s)) g w
      ≡ then_go (collects [] es) (two (calls_procedure c line) (performs s)) nothing w
  call_goes c es line s g w = behind _ s ∙ on (arguments unit p size deeper es w) where
    last : (m : Evaluation (Unit {0})) → (m >>= λ _ w. alone (performs s) nothing w) ≡ ((m >>= λ _ w. gives nothing w) >>= alone (performs s))
    last (gives x w) = refl
    last (ends e system turns) = refl

    on : (m : Evaluation (List Cell)) →
        ((m >>= λ cells w. procedure_call unit p size deeper (meant unit p size c w) cells line w) >>= λ _ w. alone (performs s) nothing w)
        ≡ ((m >>= λ more w. gives (some_cells more) w) >>= two (calls_procedure c line) (performs s))
    on (gives cells w) = last (procedure_call unit p size deeper (meant unit p size c w) cells line w)
    on (ends e system turns) = refl

  pub if_goes : (cs : Clauses) (s : Acts) (g h : Given) (w : World) →
      alone (performs (tree.act_then (tree.if_act cs) s)) g w ≡ two (tries cs) (performs s) h w
  if_goes cs s g h w = behind _ s ∙ on (first unit p size deeper cs w) where
    on : (m : Evaluation Bool) → ((m >>= λ ran w. done w) >>= λ _ w. alone (performs s) nothing w)
        ≡ ((m >>= λ b w. gives (whether b) w) >>= alone (performs s))
    on (gives b w) = refl
    on (ends e system turns) = refl

  pub while_goes : (cs : Clauses) (s : Acts) (g h : Given) (w : World) →
      alone (performs (tree.act_then (tree.while_act cs) s)) g w ≡ then_go (tries cs) (two (loops cs) (performs s)) h w
  while_goes cs s g h w = behind _ s ∙ on (first unit p size deeper cs w) where
    again : Acts
    again = tree.act_then (tree.while_act cs) tree.no_act

    deep : (m : Evaluation (Unit {0})) → (m >>= λ _ w. alone (performs s) nothing w) ≡ ((m >>= λ _ w. gives nothing w) >>= alone (performs s))
    deep (gives x w) = refl
    deep (ends e system turns) = refl

    taken : (n : ℕ) (w : World) →
        (turn_from n w (deeper again) >>= λ _ w. alone (performs s) nothing w)
        ≡ (turn_from n w (λ w. deeper again w >>= λ _ w. gives nothing w) >>= alone (performs s))
    taken zero w = refl
    taken (suc n) w = deep (deeper again (record w { turns = n }))

    either : (b : Bool) (w : World) →
        ((if b then turn w (deeper again) else done w) >>= λ _ w. alone (performs s) nothing w) ≡ two (loops cs) (performs s) (whether b) w
    either true w = taken w.turns w
    either false w = refl

    on : (m : Evaluation Bool) →
        ((m >>= λ ran w. if ran then turn w (deeper again) else done w) >>= λ _ w. alone (performs s) nothing w)
        ≡ ((m >>= λ b w. gives (whether b) w) >>= two (loops cs) (performs s))
    on (gives b w) = either b w
    on (ends e system turns) = refl

  pub left_loop : (cs : Clauses) (w : World) → alone (loops cs) (whether false) w ≡ K nothing w
  left_loop cs w = refl

  -- ---- conditions

  pub no_clause_goes : (g : Given) (w : World) → alone (tries tree.no_clause) g w ≡ K (whether false) w
  no_clause_goes g w = refl

  pub clause_goes : (e : Expression) (s : Acts) (cs : Clauses) (g h : Given) (w : World) →
      alone (tries (tree.clause_then (tree.clause e s) cs)) g w ≡ two (evaluates e) (tests s cs) h w
  clause_goes e s cs g h w = on (expression unit p size deeper e w) where
    body : (m : Evaluation (Unit {0})) →
        ((((m >>= λ _ w. gives true w) >>= λ ran w. if ran then gives true w else first unit p size deeper cs w) >>= λ b w. gives (whether b) w) >>= K)
        ≡ ((m >>= λ _ w. gives (whether true) w) >>= K)
    body (gives x w) = refl
    body (ends e system turns) = refl

    tested : (b : Bool) (w : World) →
        ((((if b then (acts unit p size deeper s w >>= λ _ w. gives true w) else gives false w)
        >>= λ ran w. if ran then gives true w else first unit p size deeper cs w) >>= λ b w. gives (whether b) w) >>= K)
        ≡ ((if b then (acts unit p size deeper s w >>= λ _ w. gives (whether true) w) else (first unit p size deeper cs w >>= λ b w. gives (whether b) w)) >>= K)
    tested true w = body (acts unit p size deeper s w)
    tested false w = refl

    on : (m : Evaluation Value) →
        ((((m >>= λ v w. if is_true v then (acts unit p size deeper s w >>= λ _ w. gives true w) else gives false w)
        >>= λ ran w. if ran then gives true w else first unit p size deeper cs w) >>= λ b w. gives (whether b) w) >>= K)
        ≡ ((m >>= λ v w. gives (a_value v) w) >>= alone (tests s cs))
    on (gives v w) = tested (is_true v) w
    on (ends e system turns) = refl

  pub true_goes : (s : Acts) (cs : Clauses) (v : Value) (h : Given) (w : World) → is_true v ≡ true →
      alone (tests s cs) (a_value v) w ≡ two (performs s) was_true h w
  true_goes s cs v h w is = rw is (on (acts unit p size deeper s w)) where
    on : (m : Evaluation (Unit {0})) →
        ((m >>= λ _ w. gives (whether true) w) >>= K) ≡ ((m >>= λ _ w. gives nothing w) >>= alone was_true)
    on (gives x w) = refl
    on (ends e system turns) = refl

  pub false_goes : (s : Acts) (cs : Clauses) (v : Value) (h : Given) (w : World) → is_true v ≡ false →
      alone (tests s cs) (a_value v) w ≡ alone (tries cs) h w
  false_goes s cs v h w is = rw is refl

-- ---- what is given has been taken into the list

module _ (unit : ProgramUnit) (p : Name) (size : ℕ) (deeper : Acts → World → Evaluation (Unit {0})) (K : Given → World → Evaluation Given) where
  pub gathers_taken : (vs all : List Value) (es : Expressions) (g : Given) (w : World) → all ≡ vs ++ values_given g →
      alone unit p size deeper K (gathers vs es) g w ≡ alone unit p size deeper K (gathers all es) nothing w
  gathers_taken vs all es g w is =
      ap (λ us. (expressions unit p size deeper es w >>= λ more w. gives (a_value (compound (values (us ++ more)))) w) >>= K) (sym is ∙ sym (append-nil all))

  pub collects_taken : (cells all : List Cell) (es : Arguments) (g : Given) (w : World) → all ≡ cells ++ cell_given g →
      alone unit p size deeper K (collects cells es) g w ≡ alone unit p size deeper K (collects all es) nothing w
  collects_taken cells all es g w is =
      ap (λ us. (arguments unit p size deeper es w >>= λ more w. gives (some_cells (us ++ more)) w) >>= K) (sym is ∙ sym (append-nil all))

module _ (unit : ProgramUnit) (p : Name) (size : ℕ) (deeper : Acts → World → Evaluation (Unit {0})) (K : Given → World → Evaluation Given) where
  pub members_taken : (set all : List ℕ) (es : Expressions) (line : ℕ) (g : Given) (w : World) → member_given set line g w ≡ gives all w →
      alone unit p size deeper K (joins_members set es line) g w ≡ alone unit p size deeper K (joins_members all es line) nothing w
  members_taken set all es line g w is =
      ap (λ m. (m >>= λ set w. members_of unit p size deeper set es line w >>= λ set w. gives (a_value (members set)) w) >>= K) is

  pub member_fails : (set : List ℕ) (es : Expressions) (line : ℕ) (g : Given) (w : World) → member_given set line g w ≡ fails cause.Range line w →
      alone unit p size deeper K (joins_members set es line) g w ≡ fails cause.Range line w
  member_fails set es line g w is =
      ap (λ m. (m >>= λ set w. members_of unit p size deeper set es line w >>= λ set w. gives (a_value (members set)) w) >>= K) is

-- ---- calls: the body stands one level deeper, and is a list of statements like any other

module _ (unit : ProgramUnit) (p : Name) (size levels : ℕ) (K : Given → World → Evaluation Given) where
  -- the body and the end of a function
  ends_with : (m : Evaluation (Unit {0})) →
      (((m >>= λ _ w. left unit p size w (gives (result_of unit p size w))) >>= λ v w. gives (a_value v) w) >>= K)
      ≡ ((m >>= λ _ w. gives nothing w) >>= alone unit p size (levels_of unit p size levels) K ends_function)
  ends_with (gives x w) = on w.turns where
    on : (n : ℕ) →
        ((turn_from n w (λ v. gives (result_of unit p size w) (record v { store = shrunk p v.store })) >>= λ v w. gives (a_value v) w) >>= K)
        ≡ (turn_from n w (λ v. gives (a_value (result_of unit p size w)) (record v { store = shrunk p v.store })) >>= K)
    on zero = refl
    on (suc n) = refl
  ends_with (ends e system turns) = refl

  -- and of a procedure
  ends_without : (m : Evaluation (Unit {0})) →
      (((m >>= λ _ w. left unit p size w done) >>= λ _ w. gives nothing w) >>= K)
      ≡ ((m >>= λ _ w. gives nothing w) >>= alone unit p size (levels_of unit p size levels) K ends_procedure)
  ends_without (gives x w) = on w.turns where
    on : (n : ℕ) →
        ((turn_from n w (λ v. done (record v { store = shrunk p v.store })) >>= λ _ w. gives nothing w) >>= K)
        ≡ (turn_from n w (λ v. gives nothing (record v { store = shrunk p v.store })) >>= K)
    on zero = refl
    on (suc n) = refl
  ends_without (ends e system turns) = refl

  -- the world in which a block has been entered
  abbrev pub inside : (number : ℕ) → Spot → List Cell → (turns : ℕ) → World → World
  inside number parent cells n w = record { store = grown p (instance_of unit p size number parent cells) w.store; system = w.system; turns = n }

  -- where there is room and a turn, a block is entered
  enters : {A : Type 0} (number : ℕ) (parent : Spot) (cells : List Cell) (line n : ℕ) (w : World) (go : World → Evaluation A) →
      nat_lt (room size (shape w.store p)) (block_at unit.blocks number).need ≡ false → w.turns ≡ suc n →
      entered unit p size number parent cells line w go ≡ go (inside number parent cells n w)
  enters number parent cells line n w go fits some = rw (fits, some) refl

  -- with room and a turn the block is entered, and its body and its end are to do
  pub function_enters : (number : ℕ) (parent : Spot) (c : Callee) (cells : List Cell) (line n : ℕ) (h : Given) (w : World) →
      meant unit p size c w ≡ block_procedure number parent →
      nat_lt (room size (shape w.store p)) (block_at unit.blocks number).need ≡ false → w.turns ≡ suc n → w.turns ≤ levels →
      alone unit p size (levels_of unit p size levels) K (calls_function c line) (some_cells cells) w
      ≡ two unit p size (levels_of unit p size levels) K (performs (block_at unit.blocks number).body) ends_function h (inside number parent cells n w)
  function_enters number parent c cells line n h w means fits some enough =
      ap (λ x. (function_call unit p size (levels_of unit p size levels) x cells line w >>= λ v w. gives (a_value v) w) >>= K) means
      ∙ ap (λ m. (m >>= λ v w. gives (a_value v) w) >>= K)
      (enters number parent cells line n w (function_body unit p size (levels_of unit p size levels) number) fits some)
      ∙ ends_with _
      ∙ ap (λ m. (m >>= λ _ w. gives nothing w) >>= alone unit p size (levels_of unit p size levels) K ends_function)
      (one_deeper unit p size levels (block_at unit.blocks number).body (inside number parent cells n w) (omega (arith, some, enough)))

  pub procedure_enters : (number : ℕ) (parent : Spot) (c : Callee) (cells : List Cell) (line n : ℕ) (h : Given) (w : World) →
      meant unit p size c w ≡ block_procedure number parent →
      nat_lt (room size (shape w.store p)) (block_at unit.blocks number).need ≡ false → w.turns ≡ suc n → w.turns ≤ levels →
      alone unit p size (levels_of unit p size levels) K (calls_procedure c line) (some_cells cells) w
      ≡ two unit p size (levels_of unit p size levels) K (performs (block_at unit.blocks number).body) ends_procedure h (inside number parent cells n w)
  procedure_enters number parent c cells line n h w means fits some enough =
      ap (λ x. (procedure_call unit p size (levels_of unit p size levels) x cells line w >>= λ _ w. gives nothing w) >>= K) means
      ∙ ap (λ m. (m >>= λ _ w. gives nothing w) >>= K)
      (enters number parent cells line n w (procedure_body unit p size (levels_of unit p size levels) number) fits some)
      ∙ ends_without _
      ∙ ap (λ m. (m >>= λ _ w. gives nothing w) >>= alone unit p size (levels_of unit p size levels) K ends_procedure)
      (one_deeper unit p size levels (block_at unit.blocks number).body (inside number parent cells n w) (omega (arith, some, enough)))

  -- another turn of a loop
  pub loop_again : (cs : Clauses) (n : ℕ) (h : Given) (w : World) → w.turns ≡ suc n → w.turns ≤ levels →
      alone unit p size (levels_of unit p size levels) K (loops cs) (whether true) w
      ≡ two unit p size (levels_of unit p size levels) K (tries cs) (loops cs) h (record w { turns = n })
  loop_again cs n h w some enough =
      rw some
      (ap (λ m. (m >>= λ _ w. gives nothing w) >>= K) (one_deeper unit p size levels again (record w { turns = n }) (omega (arith, some, enough)))
      ∙ on (first unit p size (levels_of unit p size levels) cs (record w { turns = n }))) where
        again : Acts
        again = tree.act_then (tree.while_act cs) tree.no_act

        deep : (m : Evaluation (Unit {0})) → (((m >>= λ _ w. done w) >>= λ _ w. gives nothing w) >>= K) ≡ ((m >>= λ _ w. gives nothing w) >>= K)
        deep (gives x w) = refl
        deep (ends e system turns) = refl

        taken : (n : ℕ) (w : World) →
            (((turn_from n w (levels_of unit p size levels again) >>= λ _ w. done w) >>= λ _ w. gives nothing w) >>= K)
            ≡ (turn_from n w (λ w. levels_of unit p size levels again w >>= λ _ w. gives nothing w) >>= K)
        taken zero w = refl
        taken (suc n) w = deep (levels_of unit p size levels again (record w { turns = n }))

        either : (b : Bool) (w : World) →
            ((((if b then turn w (levels_of unit p size levels again) else done w) >>= λ _ w. done w) >>= λ _ w. gives nothing w) >>= K)
            ≡ alone unit p size (levels_of unit p size levels) K (loops cs) (whether b) w
        either true w = taken w.turns w
        either false w = refl

        on : (m : Evaluation Bool) →
            ((((m >>= λ ran w. if ran then turn w (levels_of unit p size levels again) else done w) >>= λ _ w. done w) >>= λ _ w. gives nothing w) >>= K)
            ≡ ((m >>= λ b w. gives (whether b) w) >>= alone unit p size (levels_of unit p size levels) K (loops cs))
        on (gives b w) = either b w
        on (ends e system turns) = refl
