-- The resolved unit of a program fits.
use Rattle.std.proofs.Common.{◌≡◌, ◌≢◌, ℕ, zero, suc, ◌+◌, ◌<◌, ◌≤◌, ◌^◌, true, false, ◌||◌, ◌==◌, List, [], ◌∷◌, ◌++◌, length, map, get_or, All, None, refl}
use Rattle.std.proofs.Common.{sym, ap, subst, ◌∙◌, arith, length-append, append-nil, inl, inr}
use Rattle.std.specs.Prelude.{option_to_list, slice_set}
use Rattle.std.proofs.lemmas.Bool.{false≢true, cases_eq}
use Rattle.std.proofs.Math.Dec.{eqb-zero-suc}
use Rattle.edi_scope.specs.declared.entity.Entity.TheVariants as entity
use Rattle.edi_scope.specs.Scope.{Scope, standard, with_name}
use Rattle.edi_tree.specs.declared.names.Name.{Name}
use Rattle.edi_tree.specs.Depth.{list_depth, procedure_depth, depth}
use Rattle.edi_tree.specs.Tree as text
use Rattle.edi_unit.specs.declared.units.BlockKind.TheVariants as block_kind
use Rattle.edi_unit.specs.declared.units.Parameter.TheVariants as slot
use Rattle.edi_unit.specs.Types.{shape_at, fields_of, standard_types}
use Rattle.edi_unit.specs.Tree.{Block, ProgramUnit}
use Rattle.edi_unit.specs.Need.{block_at}
use Rattle.edi_unit.specs.Fits.{first_parameter, is_called, greatest_levels, ActsFit, ShapeFits, SlotIsKnown, Fits}
use Rattle.edi_unit.specs.Headings.{Heading, heading_result, heading_formals}
use Rattle.edi_unit.proofs.Example.{standard_table}
use Rattle.edi_static.specs.InRange.{GlobalInRange, GlobalsInRange, ProcedureInRange, ProgramInRange}
use Rattle.edi_static.specs.Judged.{Judged, gives, ◌>>=◌}
use Rattle.edi_static.specs.Environment.{Environment, at_first, declare, enter, here, begun_block, with_block, heading_at, parameters_of}
use Rattle.edi_static.specs.Headings.{Headed, round, own_name, heading_parts}
use Rattle.edi_static.specs.Statements.{statement_list}
use Rattle.edi_static.specs.Declarations.{with_heading, all_completed, enter_block, heading_of, procedure_rest, declarations}
use Rattle.edi_static.specs.Programs.{program_heading, global_decl, global_decls, program_procedure, resolve_tree}
use Rattle.edi_static.specs.Laws.{UnitsFit}
use Rattle.edi_static.specs.Proper.{NamesFit}
use Rattle.edi_static.proofs.Judging.{Gives, bind, also}
use Rattle.edi_static.proofs.Fitness.{is_round, Names, StandsIn, IsChain, Sits}
use Rattle.edi_static.proofs.FitnessOnward.{Closed, BegunFits, Tidy, is_begun, is_open, Onward, onward_same, with_name_fits}
use Rattle.edi_static.proofs.FitnessTypes.{go_on, const_list_onward, type_decl_onward}
use Rattle.edi_static.proofs.FitnessVariables.{Ready}
use Rattle.edi_static.proofs.FitnessHeadings.{Given, headed_env, Heads, heading_heads, declare_is}
use Rattle.edi_static.proofs.FitnessChanges.{placed_sits}
use Rattle.edi_static.proofs.FitnessBlocks.{shapes_sit, BlockBegins, block_sits, new_block, new_heading}
use Rattle.edi_static.proofs.FitnessStatements.{Does, scopes_wider}
use Rattle.edi_static.proofs.FitnessSequels.{list_does, onward_deep}
use Rattle.edi_static.proofs.FitnessBeginnings.{scope_given, types_known}
use Rattle.edi_static.proofs.FitnessProcedures.{Ends, no_begun, completed, ends}
use Rattle.edi_static.proofs.FitnessWalk.{Declares, declarations_onward}
use Rattle.edi_static.proofs.Declared.{Keeping, of_blocks, globals_kept}
use Rattle.edi_static.proofs.FitnessSystem.{AreCalls, GivesCalls, heading_calls, are_calls_later}
use Rattle.edi_static.proofs.FitnessUnits.{NeedsSo, unit_fits}

-- ---- before a program

standard_fits : (t : ℕ) → t < 3 → ShapeFits standard_types (shape_at standard_types t)
standard_fits zero h = tt
standard_fits (suc zero) h = tt
standard_fits (suc (suc zero)) h = tt
standard_fits (suc (suc (suc t))) h = absurd (omega (arith, h))

start_fields : (t : ℕ) → length (get_or at_first.fields t []) ≤ length (fields_of (shape_at standard_types t))
start_fields zero = omega arith
start_fields (suc zero) = omega arith
start_fields (suc (suc zero)) = omega arith
start_fields (suc (suc (suc t))) = omega arith

pub start_sits : Sits (enter false at_first)
start_sits = record {
  types = record {
    table = record { three = standard_table.three; standard = standard_table.standard; declared = standard_table.declared };
    shapes = standard_fits;
    field_lists = refl;
    fields = start_fields;
  };
  as_many = refl;
  stand = λ n h. absurd (omega (arith, h));
  nested = record { chain = tt; near = omega arith };
  names =
      (tt, ((omega arith, (omega arith, (omega arith, ((omega arith, refl), ((omega arith, refl), (tt, tt)))))), tt));
}

global_onward : (g : text.Global) (env : Environment) → Sits env → GlobalInRange g → Gives (Onward false env) (global_decl g env)
global_onward (text.const_global cs) env s h = const_list_onward false cs env s h
global_onward (text.type_global t) env s h = type_decl_onward false t env s h

pub globals_onward : (gs : text.Globals) (env : Environment) → Sits env → GlobalsInRange gs → Gives (Onward false env) (global_decls gs env)
globals_onward text.no_global env s h = onward_same false env s
globals_onward (text.next_global g gs) env s h =
    go_on false env (global_decl g env) (global_decls gs) (global_onward g env s h.0) (λ e o. globals_onward gs e o.sits h.1)

-- ---- the block of a program

abbrev program_block : Environment → Heading → Block
program_block env asks = begun_block block_kind.Program (here env) (heading_result asks) (parameters_of (heading_formals asks))

-- its name and its parameters are declared
abbrev opened : Environment → Scope → List Heading → Heading → List ℕ → Environment
opened env scope more asks name =
    record (with_block (program_block env asks) asks (record env { shapes = env.shapes ++ more })) {
      scopes = scope ∷ with_name name (entity.Procedure 0) env.scopes;
    }

opened_is : (env : Environment) (scope : Scope) (more : List Heading) (asks : Heading) (name : Name) →
    Gives (λ e. e ≡ opened env scope more asks name.text)
    (round (declare false name (entity.Procedure 0)) (with_heading block_kind.Program (record { env = headed_env env scope more; asks = asks })))
opened_is env scope more asks name =
    let next : Environment = with_block (program_block env asks) asks (record env { shapes = env.shapes ++ more }) in
    bind (λ e. e ≡ record next { scopes = with_name name.text (entity.Procedure 0) next.scopes }) (λ e. e ≡ opened env scope more asks name.text)
    (declare false name (entity.Procedure 0) next) _ (declare_is name (entity.Procedure 0) next)
    (λ e is. ap (λ (o : Environment). record o { scopes = scope ∷ o.scopes }) is)

module _ (env : Environment) (s : Sits env) (bare : env.blocks ≡ []) (out : env.around ≡ []) (scope : Scope) (more : List Heading) (asks : Heading)
    (name : List ℕ)
    (none : heading_result asks ≡ None)
    (names : NamesFit (Given 0 (first_parameter (heading_result asks)) (heading_formals asks) (env.shapes ++ more)) scope.names)
    (known : All (SlotIsKnown env.types) (map slot.Value (option_to_list (heading_result asks)) ++ parameters_of (heading_formals asks))) where
  outermost : here env ≡ 0
  outermost = ap (λ a. get_or a 0 0) out

  first : length env.blocks ≡ 0
  first = ap length bare

  begins : BlockBegins env.types (length env.blocks) (program_block env asks) asks
  begins = record {
    fits_kind = (first, none);
    outermost = λ e. outermost;
    inner = λ h. absurd (omega (arith, h, first));
    known = subst (λ ps. All (SlotIsKnown env.types) (map slot.Value (option_to_list (heading_result asks)) ++ ps))
        (sym (append-nil (parameters_of (heading_formals asks)))) known;
    parameters = refl;
    result = refl;
    nothing = refl;
  }

  next_sits : Sits (with_block (program_block env asks) asks (record env { shapes = env.shapes ++ more }))
  next_sits = block_sits (program_block env asks) asks (record env { shapes = env.shapes ++ more }) (shapes_sit more env s) begins

  at_block : block_at (env.blocks ++ program_block env asks ∷ []) 0 ≡ program_block env asks
  at_block = ap (block_at (env.blocks ++ program_block env asks ∷ [])) (sym first) ∙ new_block (program_block env asks) asks
      (record env { shapes = env.shapes ++ more }) (shapes_sit more env s)

  pub at_heading : heading_at (env.headings ++ asks ∷ []) 0 ≡ asks
  at_heading = ap (heading_at (env.headings ++ asks ∷ [])) (sym first) ∙ new_heading (program_block env asks) asks
      (record env { shapes = env.shapes ++ more }) (shapes_sit more env s)

  pub there : 0 < length (env.blocks ++ program_block env asks ∷ [])
  there = omega (arith, length-append env.blocks (program_block env asks ∷ []))

  pub alone : length (env.blocks ++ program_block env asks ∷ []) ≡ 1
  alone = length-append env.blocks (program_block env asks ∷ []) ∙ ap (λ n. n + 1) first

  chained : IsChain (env.blocks ++ program_block env asks ∷ []) (0 ∷ env.around)
  chained = (there, subst (StandsIn (env.blocks ++ program_block env asks ∷ []) 0) (sym out) tt, next_sits.nested.chain)

  called : is_called (block_at (env.blocks ++ program_block env asks ∷ []) 0).kind ≡ true
  called = ap (λ b. is_called b.kind) at_block

  inside_sits : Sits (enter_block 0 (opened env scope more asks name))
  inside_sits =
      let far : length env.around ≡ 0 = ap length out in
      placed_sits (scope ∷ with_name name (entity.Procedure 0) env.scopes) (0 ∷ env.around) []
      (with_block (program_block env asks) asks (record env { shapes = env.shapes ++ more })) next_sits
      (record { chain = chained; near = omega (arith, far) }) (
        scope_given env.types (env.blocks ++ program_block env asks ∷ []) (env.headings ++ asks ∷ []) (env.shapes ++ more) 0 asks (0 ∷ env.around) refl
            at_heading
            (ap (λ b. b.parameters) at_block) (ap (λ b. b.result) at_block) scope.names names,
        with_name_fits (Names env.types (env.blocks ++ program_block env asks ∷ []) (env.headings ++ asks ∷ []) (env.shapes ++ more) (0 ∷ env.around)) name
            (entity.Procedure 0) env.scopes
            (there, called, ap (λ b. is_round b.up (0 ∷ env.around)) at_block ∙ ap (λ n. is_round n (0 ∷ env.around)) outermost)
            (scopes_wider env.types (env.blocks ++ program_block env asks ∷ []) (env.headings ++ asks ∷ []) (env.shapes ++ more) 0 env.around env.scopes
            next_sits.names),
      )

  inside_ready : Ready (enter_block 0 (opened env scope more asks name))
  inside_ready = record { inside = omega arith; called = called; scoped = omega arith }

  pub inside_declares : Declares (enter_block 0 (opened env scope more asks name))
  inside_declares =
      let inner : Environment = enter_block 0 (opened env scope more asks name) in
      record { sits = inside_sits; ready = inside_ready; all = no_begun (BegunFits inner.scopes inner.blocks (here inner)) }

-- ---- a whole program

program_ends : (p : text.Procedure) (next : Environment) → Declares (enter_block 0 next) → 0 < length next.blocks → next.around ≡ []
    → procedure_depth p ≤ greatest_levels → ProcedureInRange p →
    Gives (Ends 0 (enter_block 0 next)) (procedure_rest 0 p next)
program_ends (text.procedure h ds s end) next d there out deep i =
    let inner : Environment = enter_block 0 next in
    let near : length inner.around ≡ 1 = ap (λ a. suc (length a)) out in
    bind (Onward false inner) (Ends 0 inner) (declarations ds inner) _ (declarations_onward ds inner d (omega (arith, deep, near)) i.0) (λ now o.
    bind (λ u. now.begun ≡ []) (Ends 0 inner) (all_completed now.begun) _ (completed now.begun) (λ u none.
    bind (Does ActsFit now) (Ends 0 inner) (statement_list s now) _
    (list_does s now (onward_deep false inner now o (omega arith) (list_depth s) (omega (arith, deep, near))) i.1)
    (λ done does. ends 0 end inner now done next.around refl o d.sits d.all none there does)))

not_first : (m : ℕ) → m ≢ 0 → (0 == m) ≡ false
not_first zero h = absurd (h refl)
not_first (suc m) h = eqb-zero-suc m

-- each block of a program has told its need
all_stated : (inner after : Environment) → inner.around ≡ 0 ∷ [] → length inner.blocks ≡ 1 → Ends 0 inner after → (m : ℕ) → m < length after.blocks
    → NeedsSo after.types after.blocks m
all_stated inner after around alone e m h =
    elim (cases_eq m 0) [
      | inl first ↦ let c : Closed after.types after.blocks m = subst (Closed after.types after.blocks) (sym first) e.closed in (c.needs, c.small)
      | inr other ↦
          let shown : is_open (λ n. false) (record inner { begun = [] }) m ≡ false =
          ap (λ a. is_round m a || false) around ∙ ap (λ b. (b || false) || false) (not_first m other) in
          let c : Closed after.types after.blocks m = e.tidy (λ n. false) vacant m h other shown in
          (c.needs, c.small)
    ]
  where
    vacant : Tidy (is_open (λ n. false) inner) inner
    vacant n lt o =
        let zeroth : n ≡ 0 = omega (arith, lt, alone) in
        let shut : is_open (λ n. false) inner 0 ≡ false = ap (is_open (λ n. false) inner) (sym zeroth) ∙ o in
        let opened : is_open (λ n. false) inner 0 ≡ true = ap (λ a. is_round 0 a || is_begun 0 inner.begun) around in
        absurd (false≢true (sym shut ∙ opened))

-- the unit fits, where it has not too many types
abbrev pub UnitFits : ProgramUnit → Type 0
UnitFits unit = length unit.types < 2 ^ 32 → Fits unit

-- behind the parts of a program's heading
abbrev behind_heading : text.Procedure → Headed → Judged ProgramUnit
behind_heading p headed =
    round (declare false (own_name (heading_of p)) (entity.Procedure 0)) (with_heading block_kind.Program headed) >>= λ begun.
    program_heading begun.types (heading_of p) headed.asks >>= λ calls.
    procedure_rest 0 p begun >>= λ after.
    gives (record { types = after.types; blocks = after.blocks; program = 0; calls = calls })

abbrev behind_name : text.Procedure → Heading → Environment → Judged ProgramUnit
behind_name p asks begun =
    program_heading begun.types (heading_of p) asks >>= λ calls.
    procedure_rest 0 p begun >>= λ after.
    gives (record { types = after.types; blocks = after.blocks; program = 0; calls = calls })

named_fits : (p : text.Procedure) (env : Environment) → Sits env → env.blocks ≡ [] → env.around ≡ [] → procedure_depth p ≤ greatest_levels
    → ProcedureInRange p →
    (scope : Scope) (more : List Heading) (asks : Heading) →
    NamesFit (Given 0 (first_parameter (heading_result asks)) (heading_formals asks) (env.shapes ++ more)) scope.names →
    All (SlotIsKnown env.types) (map slot.Value (option_to_list (heading_result asks)) ++ parameters_of (heading_formals asks)) →
    Gives (AreCalls env.types asks) (program_heading env.types (heading_of p) asks) →
    Gives UnitFits (behind_name p asks (opened env scope more asks (own_name (heading_of p)).text))
named_fits p env s bare out deep h scope more asks names known calls_named =
    let name : List ℕ = (own_name (heading_of p)).text in
    bind (AreCalls env.types asks) UnitFits (program_heading env.types (heading_of p) asks) _ calls_named (λ calls named.
    let none : heading_result asks ≡ None = ap heading_result named.1 in
    let begun : Environment = opened env scope more asks name in
    let inner : Environment = enter_block 0 begun in
    bind (Ends 0 inner) UnitFits (procedure_rest 0 p begun) _
    (program_ends p begun (inside_declares env s bare out scope more asks name none names known) (there env s bare out scope more asks name none names known)
    out deep h)
    (λ after e short.
    let l = e.later in
    let longer = l.longer in
    let lt : 0 < length inner.blocks = there env s bare out scope more asks name none names known in
    let at : heading_at after.headings 0 ≡ asks = l.headings 0 lt ∙ at_heading env s bare out scope more asks name none names known in
    unit_fits after calls e.sits
    (all_stated inner after (ap (λ a. 0 ∷ a) out) (alone env s bare out scope more asks name none names known) e)
    (omega (arith, lt, longer)) short
    (subst (λ ts. AreCalls ts (heading_at after.headings 0) calls) (sym l.types)
    (subst (λ g. AreCalls (env.types ++ l.more) g calls) (sym at) (are_calls_later env.types l.more asks calls named)))))

heading_fits : (p : text.Procedure) (env : Environment) → Sits env → env.blocks ≡ [] → env.around ≡ [] → procedure_depth p ≤ greatest_levels
    → ProcedureInRange p → Gives UnitFits (program_procedure p env)
heading_fits p env s bare out deep h =
    bind (λ headed. Heads env 0 headed × GivesCalls (heading_of p) headed) UnitFits (heading_parts 0 (heading_of p) env) (behind_heading p)
    (also (Heads env 0) (GivesCalls (heading_of p)) (heading_parts 0 (heading_of p) env)
    (heading_heads 0 (heading_of p) env (types_known env s)) (heading_calls (heading_of p) env))
    (λ headed k.
    let g = k.0 in
    subst (λ x. Gives UnitFits (behind_heading p x)) (sym g.is)
    (bind (λ e. e ≡ opened env g.scope g.more headed.asks (own_name (heading_of p)).text) UnitFits
    (round (declare false (own_name (heading_of p)) (entity.Procedure 0))
    (with_heading block_kind.Program (record { env = headed_env env g.scope g.more; asks = headed.asks })))
    (behind_name p headed.asks) (opened_is env g.scope g.more headed.asks (own_name (heading_of p)))
    (λ begun is.
    subst (λ e. Gives UnitFits (behind_name p headed.asks e)) (sym is)
    (named_fits p env s bare out deep h g.scope g.more headed.asks g.names g.known (k.1 env.types)))))

-- constants and types begin no block
abbrev no_block_begun : Keeping
no_block_begun = of_blocks (λ blocks. blocks ≡ []) (λ blocks n block body need h. subst (λ bs. slice_set bs n block ≡ []) (sym h) refl)

pub resolved_fits : (tree : text.Program) → depth tree ≤ greatest_levels → ProgramInRange tree → Gives UnitFits (resolve_tree tree)
resolved_fits (text.program gs p) deep h =
    bind (λ e. Onward false (enter false at_first) e × (e.blocks ≡ [])) UnitFits (global_decls gs (enter false at_first)) (program_procedure p)
    (also (Onward false (enter false at_first)) (λ e. e.blocks ≡ []) (global_decls gs (enter false at_first))
    (globals_onward gs (enter false at_first) start_sits h.0) (globals_kept no_block_begun (λ types blocks k. k) gs (enter false at_first) refl))
    (λ e k. let o = k.0 in heading_fits p e o.sits k.1 o.around (omega (arith, deep)) h.1)

pub units_fit : UnitsFit
units_fit tree unit deep in_range short e = subst (Gives UnitFits) e (resolved_fits tree deep in_range) short
