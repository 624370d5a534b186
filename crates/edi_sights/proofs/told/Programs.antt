-- The `when`s that are met in a program tell of the blocks of its unit.
use Rattle.std.proofs.Common.{◌≡◌, ℕ, zero, suc, ◌<◌, ◌≤◌, false, List, [], ◌∷◌, ◌++◌, length, map, get_or, All, None, refl, sym, ap, ◌∙◌, subst, arith}
use Rattle.std.specs.Prelude.{option_to_list, slice_set}
use Rattle.edi_scope.specs.declared.entity.Entity.TheVariants as entity
use Rattle.edi_scope.specs.Scope.{Scope, with_name}
use Rattle.edi_tree.specs.declared.names.Name.{Name}
use Rattle.edi_tree.specs.Tree as text
use Rattle.edi_tree.specs.Depth.{procedure_depth, depth}
use Rattle.edi_unit.specs.declared.units.BlockKind.TheVariants as block_kind
use Rattle.edi_unit.specs.declared.units.Parameter.TheVariants as slot
use Rattle.edi_unit.specs.Types.{shape_at, fields_of, standard_types}
use Rattle.edi_unit.specs.Tree.{ProgramUnit}
use Rattle.edi_unit.specs.Fits.{first_parameter, greatest_levels, ShapeFits, SlotIsKnown}
use Rattle.edi_unit.specs.Headings.{Heading, heading_result, heading_formals}
use Rattle.edi_unit.proofs.Example.{standard_table}
use Rattle.edi_static.specs.InRange.{GlobalInRange, GlobalsInRange, ProcedureInRange, ProgramInRange}
use Rattle.edi_static.specs.Judged.{Judged, gives, faults, ◌>>=◌}
use Rattle.edi_static.specs.Environment.{Environment, at_first, declare, enter, here, begun_block, with_block, parameters_of}
use Rattle.edi_static.specs.Headings.{Headed, round, own_name, heading_parts}
use Rattle.edi_static.specs.Declarations.{with_heading, enter_block, heading_of, procedure_rest}
use Rattle.edi_static.specs.Programs.{program_heading, global_decl, global_decls, program_procedure, resolve_tree}
use Rattle.edi_static.specs.Proper.{NamesFit}
use Rattle.edi_static.proofs.Judging.{Gives, bind, weaker, also}
use Rattle.edi_static.proofs.Fitness.{Sits}
use Rattle.edi_static.proofs.FitnessOnward.{Onward, onward_same}
use Rattle.edi_static.proofs.FitnessTypes.{go_on, const_list_onward, type_decl_onward}
use Rattle.edi_static.proofs.FitnessHeadings.{Given, headed_env, Heads, heading_heads, declare_is}
use Rattle.edi_static.proofs.FitnessBeginnings.{types_known}
use Rattle.edi_static.proofs.FitnessProcedures.{Ends}
use Rattle.edi_static.proofs.FitnessPrograms.{there, inside_declares}
use Rattle.edi_static.proofs.FitnessSystem.{AreCalls, GivesCalls, heading_calls}
use Rattle.edi_static.proofs.Declared.{Keeping, of_blocks, globals_kept}
use Rattle.edi_sights.specs.declared.awaits.Await.{Await}
use Rattle.edi_sema.specs.Whole.{Heads as BegunHeads}
use Rattle.edi_sights.specs.Awaits.{behind, procedure_met, program_met, awaits_of}
use Rattle.edi_sights.specs.Whens.{block_lines}
use Rattle.edi_sights.proofs.told.Told.{Told, ToldAt, none_coming}
use Rattle.edi_sights.proofs.told.Blocks.{begun_lines}
use Rattle.edi_sights.proofs.told.Statements.{met_behind}
use Rattle.edi_sights.proofs.told.Declarations.{procedure_told}

-- ---- before a program

standard_fits : (t : ℕ) → t < 3 → ShapeFits standard_types (shape_at standard_types t)
standard_fits zero h = tt
standard_fits (suc zero) h = tt
standard_fits (suc (suc zero)) h = tt
standard_fits (suc (suc (suc t))) h = absurd (omega (arith, h))

start_fields : (t : ℕ) → length (get_or at_first.fields t []) ≤ length (fields_of (shape_at standard_types t))
start_fields zero = omega arith
start_fields (suc zero) = omega arith
start_fields (suc (suc zero)) = omega arith
start_fields (suc (suc (suc t))) = omega arith

start_sits : Sits (enter false at_first)
start_sits = record {
  types = record {
    table = record { three = standard_table.three; standard = standard_table.standard; declared = standard_table.declared };
    shapes = standard_fits;
    field_lists = refl;
    fields = start_fields;
  };
  as_many = refl;
  stand = λ n h. absurd (omega (arith, h));
  nested = record { chain = tt; near = omega arith };
  names =
      (tt, ((omega arith, (omega arith, (omega arith, ((omega arith, refl), ((omega arith, refl), (tt, tt)))))), tt));
}

global_onward : (g : text.Global) (env : Environment) → Sits env → GlobalInRange g → Gives (Onward false env) (global_decl g env)
global_onward (text.const_global cs) env s h = const_list_onward false cs env s h
global_onward (text.type_global t) env s h = type_decl_onward false t env s h

globals_onward : (gs : text.Globals) (env : Environment) → Sits env → GlobalsInRange gs → Gives (Onward false env) (global_decls gs env)
globals_onward text.no_global env s h = onward_same false env s
globals_onward (text.next_global g gs) env s h =
    go_on false env (global_decl g env) (global_decls gs) (global_onward g env s h.0) (λ e o. globals_onward gs e o.sits h.1)

abbrev no_block_begun : Keeping
no_block_begun = of_blocks (λ blocks. blocks ≡ []) (λ blocks n block body need h. subst (λ bs. slice_set bs n block ≡ []) (sym h) refl)

-- ---- the block of a program

abbrev opened : Environment → Scope → List Heading → Heading → List ℕ → Environment
opened env scope more asks name =
    record (with_block (begun_block block_kind.Program (here env) (heading_result asks) (parameters_of (heading_formals asks))) asks
    (record env { shapes = env.shapes ++ more })) { scopes = scope ∷ with_name name (entity.Procedure 0) env.scopes }

opened_is : (env : Environment) (scope : Scope) (more : List Heading) (asks : Heading) (name : Name) →
    Gives (λ e. e ≡ opened env scope more asks name.text)
    (round (declare false name (entity.Procedure 0)) (with_heading block_kind.Program (record { env = headed_env env scope more; asks = asks })))
opened_is env scope more asks name =
    let next : Environment = with_block (begun_block block_kind.Program (here env) (heading_result asks) (parameters_of (heading_formals asks))) asks
    (record env { shapes = env.shapes ++ more }) in
    bind (λ e. e ≡ record next { scopes = with_name name.text (entity.Procedure 0) next.scopes }) (λ e. e ≡ opened env scope more asks name.text)
    (declare false name (entity.Procedure 0) next) _ (declare_is name (entity.Procedure 0) next)
    (λ e is. ap (λ (o : Environment). record o { scopes = scope ∷ o.scopes }) is)

-- ---- a whole program

abbrev UnitTold : ProgramUnit → List Await → Type 0
UnitTold unit awaits = Told unit.types unit.blocks awaits none_coming

abbrev with_calls : List ℕ → Environment → Judged BegunHeads
with_calls ns begun = gives (record { calls = ns; env = begun })

-- what stands behind a heading, its own name and its calls
steps_told : (m : Judged Headed) (named : Headed → Judged Environment) (calls : Headed → Environment → Judged (List ℕ)) (rest : Environment → Judged Environment)
    (more : Environment → List Await → List Await) (awaits : List Await) (P : Headed → Type 0) → Gives P m →
    ((headed : Headed) → P headed
    → Gives (λ begun. Gives (λ ns. Gives (λ after. ToldAt after (more begun awaits) none_coming) (rest begun)) (calls headed begun)) (named headed)) →
    Gives (λ unit. UnitTold unit
    (behind ((m >>= λ headed. named headed >>= λ begun. calls headed begun >>= λ ns. with_calls ns begun) >>= λ heads. gives heads.env) more
    awaits))
    (m >>= λ headed. named headed >>= λ begun. calls headed begun >>= λ ns. rest begun >>= λ after.
    gives (record { types = after.types; blocks = after.blocks; program = 0; calls = ns }))
steps_told (faults why line) named calls rest more awaits P h k = tt
steps_told (gives headed) named calls rest more awaits P h k = behind_heading (named headed) (k headed h)
  where
    behind_name : (begun : Environment) (j : Judged (List ℕ)) → Gives (λ ns. Gives (λ after. ToldAt after (more begun awaits) none_coming) (rest begun)) j →
        Gives (λ unit. UnitTold unit (behind (j >>= (λ ns. with_calls ns begun) >>= λ heads. gives heads.env) more awaits))
        (j >>= λ ns. rest begun >>= λ after. gives (record { types = after.types; blocks = after.blocks; program = 0; calls = ns }))
    behind_name begun (faults why line) g = tt
    behind_name begun (gives ns) g =
        bind (λ after. ToldAt after (more begun awaits) none_coming) (λ unit. UnitTold unit (more begun awaits)) (rest begun) _ g (λ after t. t)

    behind_heading : (j : Judged Environment)
        → Gives (λ begun. Gives (λ ns. Gives (λ after. ToldAt after (more begun awaits) none_coming) (rest begun)) (calls headed begun)) j →
        Gives (λ unit. UnitTold unit
        (behind ((j >>= λ begun. calls headed begun >>= λ ns. with_calls ns begun) >>= λ heads. gives heads.env) more awaits))
        (j >>= λ begun. calls headed begun >>= λ ns. rest begun >>= λ after.
        gives (record { types = after.types; blocks = after.blocks; program = 0; calls = ns }))
    behind_heading (faults why line) g = tt
    behind_heading (gives begun) g = behind_name begun (calls headed begun) g

module _ (name : List ℕ) where
  abbrev RestTold : text.Procedure → Environment → Type 0
  RestTold p begun = Gives (λ after. ToldAt after (procedure_met name 0 p begun []) none_coming) (procedure_rest 0 p begun)

  opened_told : (p : text.Procedure) (env : Environment) → Sits env → env.blocks ≡ [] → env.around ≡ [] → procedure_depth p ≤ greatest_levels
      → ProcedureInRange p → (scope : Scope) (more : List Heading) (asks : Heading) →
      NamesFit (Given 0 (first_parameter (heading_result asks)) (heading_formals asks) (env.shapes ++ more)) scope.names →
      All (SlotIsKnown env.types) (map slot.Value (option_to_list (heading_result asks)) ++ parameters_of (heading_formals asks)) →
      heading_result asks ≡ None → RestTold p (opened env scope more asks (own_name (heading_of p)).text)
  opened_told p env s bare out deep h scope more asks names known none =
      let own : List ℕ = (own_name (heading_of p)).text in
      let begun : Environment = opened env scope more asks own in
      let far : length env.around ≡ 0 = ap length out in
      weaker (λ after. Ends 0 (enter_block 0 begun) after × ToldAt after (procedure_met name 0 p begun []) none_coming)
      (λ after. ToldAt after (procedure_met name 0 p begun []) none_coming) (procedure_rest 0 p begun) (λ after k. k.1)
      (procedure_told name p 0 begun (inside_declares env s bare out scope more asks own none names known) (there env s bare out scope more asks own none names known)
      (omega (arith, deep, far)) h []
      (record {
        lines = λ b.
            ap (λ l. l ++ []) (sym (begun_lines env.blocks _ b refl ∙ ap (λ bs. block_lines bs b) bare));
        sit = λ i d past. absurd (omega (arith, past));
      }))

  procedure_is_told : (p : text.Procedure) (env : Environment) → Sits env → env.blocks ≡ [] → env.around ≡ [] → procedure_depth p ≤ greatest_levels
      → ProcedureInRange p → Gives (λ unit. UnitTold unit (program_met name p env [])) (program_procedure p env)
  procedure_is_told p env s bare out deep h =
      let own : Name = own_name (heading_of p) in
      steps_told (heading_parts 0 (heading_of p) env)
      (λ headed. round (declare false own (entity.Procedure 0)) (with_heading block_kind.Program headed))
      (λ headed begun. program_heading begun.types (heading_of p) headed.asks) (procedure_rest 0 p) (procedure_met name 0 p) []
      (λ headed. Heads env 0 headed × GivesCalls (heading_of p) headed)
      (also (Heads env 0) (GivesCalls (heading_of p)) (heading_parts 0 (heading_of p) env) (heading_heads 0 (heading_of p) env (types_known env s))
      (heading_calls (heading_of p) env))
      (λ headed k.
      let g = k.0 in
      subst (λ x. Gives (λ begun. Gives (λ ns. RestTold p begun) (program_heading begun.types (heading_of p) x.asks))
      (round (declare false own (entity.Procedure 0)) (with_heading block_kind.Program x))) (sym g.is)
      (weaker (λ e. e ≡ opened env g.scope g.more headed.asks own.text)
      (λ begun. Gives (λ ns. RestTold p begun) (program_heading begun.types (heading_of p) headed.asks))
      (round (declare false own (entity.Procedure 0)) (with_heading block_kind.Program (record { env = headed_env env g.scope g.more; asks = headed.asks })))
      (λ begun is.
      subst (λ e. Gives (λ ns. RestTold p e) (program_heading e.types (heading_of p) headed.asks)) (sym is)
      (weaker (AreCalls env.types headed.asks) (λ ns. RestTold p (opened env g.scope g.more headed.asks own.text))
      (program_heading env.types (heading_of p) headed.asks)
      (λ ns named. opened_told p env s bare out deep h g.scope g.more headed.asks g.names g.known (ap heading_result named.1)) (k.1 env.types)))
      (opened_is env g.scope g.more headed.asks own)))

  pub program_told : (tree : text.Program) → depth tree ≤ greatest_levels → ProgramInRange tree
      → Gives (λ unit. UnitTold unit (awaits_of name tree)) (resolve_tree tree)
  program_told (text.program gs p) deep h =
      met_behind (λ e. Onward false (enter false at_first) e × (e.blocks ≡ [])) UnitTold (global_decls gs (enter false at_first)) (program_procedure p)
      (program_met name p) []
      (also (Onward false (enter false at_first)) (λ e. e.blocks ≡ []) (global_decls gs (enter false at_first))
      (globals_onward gs (enter false at_first) start_sits h.0) (globals_kept no_block_begun (λ types blocks k. k) gs (enter false at_first) refl))
      (λ e k. let o = k.0 in procedure_is_told p e o.sits k.1 o.around (omega (arith, deep)) h.1)
