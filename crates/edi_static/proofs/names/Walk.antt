-- Procedures, modules and whole programs: each name is visible where it is used.
use Rattle.std.proofs.Common.{◌≡◌, ℕ, Bool, true, false, is_some, List, [], ◌∷◌, ◌++◌, length, Option, Some, None, refl, sym, ◌∙◌, subst}
use Rattle.std.specs.Option.{option_or}
use Rattle.edi_scope.specs.declared.entity.Entity.{Entity}
use Rattle.edi_scope.specs.declared.entity.Entity.TheVariants as entity
use Rattle.edi_scope.specs.Scope.{Scope, meaning, declared, outside, entered, standard}
use Rattle.edi_tree.specs.Tree as text
use Rattle.edi_unit.specs.declared.units.BlockKind.TheVariants as block_kind
use Rattle.edi_unit.specs.Tree.{Acts, ProgramUnit}
use Rattle.edi_unit.specs.Headings.{heading_result}
use Rattle.edi_static.specs.Judged.{Judged, gives, ◌>>=◌}
use Rattle.edi_static.specs.Environment.{Environment, Begun, at_first, enter, declare, give_outside}
use Rattle.edi_static.specs.Headings.{leave, round, own_name, heading_parts}
use Rattle.edi_static.specs.Statements.{After, statement_list, close_block}
use Rattle.edi_static.specs.Declarations as spec
use Rattle.edi_static.specs.Declarations.{enter_block, leave_to, leave_module, with_heading, kind_of, all_completed, begun_named, without_begun, completes}
use Rattle.edi_static.specs.Declarations.{post_export, block_of, begin_procedure, begin_post, pre_decl, heading_of, procedure_name}
use Rattle.edi_static.specs.Programs as programs
use Rattle.edi_static.specs.Programs.{Resolved, resolve_tree}
use Rattle.edi_static.proofs.Judging.{Gives, bind, behind, choose, weaker}
use Rattle.edi_static.specs.names.Uses.{ListKnown}
use Rattle.edi_static.specs.names.Visible.{item_names, exported_names, module_names, members_names, declaration_names, declarations_names, heading_name}
use Rattle.edi_static.specs.names.Visible.{parameter_names, HeadingKnown, inside, ProcedureKnown, ItemKnown, ModuleKnown, MembersKnown, DeclarationKnown}
use Rattle.edi_static.specs.names.Visible.{DeclarationsKnown, standard_names, global_names, globals_names, GlobalKnown, GlobalsKnown, NamesAreVisible}
use Rattle.edi_static.proofs.names.UsesExpressions.{Within}
use Rattle.edi_static.proofs.names.UsesStatements.{closed, statements_known}
use Rattle.edi_static.proofs.names.Scoping.{Adds, exports, none, behind_same, sees_behind, leaving, exported_adds, Opens, sees_inside, opened, opened_same}
use Rattle.edi_static.proofs.names.Scoping.{lookup_among}
use Rattle.edi_static.proofs.names.Growing.{in_env, Grows, chain}
use Rattle.edi_static.proofs.names.Declared.{declare_grows, const_list_grows, type_grows, var_list_grows, heading_grows}

-- ---- the name of a procedure

-- inside a heading whose own name is declared in the scope round it
abbrev pub IsOpen : Bool → text.Heading → List Scope → Environment → Type 0
IsOpen m h a r = Opens (heading_name h ∷ []) (exports m (heading_name h ∷ [])) (parameter_names h) a r.scopes

abbrev pub Opening : List (List ℕ) → Bool → text.Heading → List Scope → Environment → Type 0
Opening names m h a r = HeadingKnown names h × IsOpen m h a r

round_opens : (m : Bool) (h : text.Heading) (means : Entity) (a : List Scope) (env : Environment) → Adds (parameter_names h) [] (entered false a) env.scopes
    → Gives (IsOpen m h a) (round (declare m (own_name h) means) env)
round_opens m h means a env x =
    bind (λ o. Unit {0} × Adds (heading_name h ∷ []) (exports m (heading_name h ∷ [])) (outside env.scopes) o.scopes) (IsOpen m h a)
    (declare m (own_name h) means (leave env)) _
    (declare_grows m (own_name h) means (leave env)).grows
    (λ o k. opened false a env.scopes o.scopes x k.1)

begun_opens : (m : Bool) (h : text.Heading) (env : Environment) (names : List (List ℕ)) → Within names env → Gives (Opening names m h env.scopes)
    (begin_procedure m h env)
begun_opens m h env names w =
    bind (λ d. HeadingKnown names h × Adds (parameter_names h) [] (entered false env.scopes) d.env.scopes) (Opening names m h env.scopes)
    (heading_parts (length env.blocks) h env) _
    (heading_grows (length env.blocks) h env names w).grows
    (λ d k.
    weaker (IsOpen m h env.scopes) (Opening names m h env.scopes)
    (round (declare m (own_name h) (entity.Procedure (length env.blocks))) (with_heading (kind_of (heading_result d.asks)) d)) (λ r o. (k.0, o))
    (round_opens m h (entity.Procedure (length env.blocks)) env.scopes (with_heading (kind_of (heading_result d.asks)) d) k.1))

post_opens : (m : Bool) (h : text.Heading) (block : ℕ) (a : List Scope) (env : Environment) → Adds (parameter_names h) [] (entered false a) env.scopes
    → Gives (IsOpen m h a) (post_export m (own_name h) block env)
post_opens true h block a env x =
    bind (λ o. Adds (heading_name h ∷ []) (heading_name h ∷ []) (outside env.scopes) o.scopes) (IsOpen true h a)
    (give_outside (own_name h) (entity.Procedure block) (leave env)) _
    (choose (λ o. Adds (heading_name h ∷ []) (heading_name h ∷ []) (outside env.scopes) o.scopes)
    (is_some (declared (outside (outside env.scopes)) (heading_name h))) _ _ tt
    (exported_adds (heading_name h) (entity.Procedure block) (outside env.scopes)))
    (λ o k. opened false a env.scopes o.scopes x k)
post_opens false h block a env x = opened_same false (heading_name h) a env.scopes x

posted_opens : (m : Bool) (h : text.Heading) (env : Environment) (names : List (List ℕ)) → Within names env → Gives (Opening names m h env.scopes)
    (begin_post m h env)
posted_opens m h env names w =
    let found : Option Begun = begun_named env.begun (own_name h).text in
    bind (λ d. HeadingKnown names h × Adds (parameter_names h) [] (entered false env.scopes) d.env.scopes) (Opening names m h env.scopes)
    (heading_parts (block_of env found) h env) _
    (heading_grows (block_of env found) h env names w).grows
    (λ d k.
    behind (Opening names m h env.scopes) (completes found (own_name h) d) _ (λ _.
    weaker (IsOpen m h env.scopes) (Opening names m h env.scopes) (post_export m (own_name h) (block_of env found) d.env) (λ r o. (k.0, o))
    (post_opens m h (block_of env found) env.scopes d.env k.1)))

-- ---- procedures and modules

-- the declarations and statements of a scope
abbrev Bodied : List (List ℕ) → text.Declarations → text.StatementList → List Scope → Environment → Type 0
Bodied names ds s a e = (DeclarationsKnown names ds × ListKnown (declarations_names ds ++ names) s) × Adds (declarations_names ds) [] a e.scopes

-- behind a construct of these names
abbrev Left : Type 0 → (ns xs : List (List ℕ)) → List Scope → Environment → Type 0
Left X ns xs a e = X × Adds ns xs a e.scopes

abbrev RestOf : List (List ℕ) → text.Procedure → List Scope → Environment → Type 0
RestOf names (text.procedure h ds s end) a e = Bodied names ds s a e

-- a procedure, and its end; what stands behind its heading is given
procedure_grows : (m : Bool) (block : ℕ) (p : text.Procedure) (env : Environment) (names : List (List ℕ)) → Within names env
    → (begin : text.Heading → Judged Environment) →
    ((h : text.Heading) → Gives (Opening names m h env.scopes) (begin h)) → (begun : List Begun) →
    ((r : Environment) (known : List (List ℕ)) → Within known r → Gives (RestOf known p r.scopes) (spec.procedure_rest block p r)) →
    Gives (Left (ProcedureKnown names p) ((procedure_name p).text ∷ []) (exports m ((procedure_name p).text ∷ [])) env.scopes)
    (begin (heading_of p) >>= spec.procedure_rest block p >>= λ after. gives (leave_to env begun after))
procedure_grows m block (text.procedure h ds s end) env names w begin opens begun rest =
    let p : text.Procedure = text.procedure h ds s end in
    let Out = λ (e : Environment). ProcedureKnown names p × Adds (heading_name h ∷ []) (exports m (heading_name h ∷ [])) env.scopes (outside e.scopes) in
    bind Out (Left (ProcedureKnown names p) (heading_name h ∷ []) (exports m (heading_name h ∷ [])) env.scopes) (begin h >>= spec.procedure_rest block p) _
    (bind (Opening names m h env.scopes) Out (begin h) _ (opens h) (λ r k.
    weaker (Bodied (inside names h) ds s r.scopes) Out (spec.procedure_rest block p r)
    (λ e j. ((k.0, j.0.0, j.0.1), behind_same k.1.outer (leaving j.1)))
    (rest r (inside names h) (sees_inside names w k.1))))
    (λ e j. j)

mutual
  rest_grows : (p : text.Procedure) (block : ℕ) (r : Environment) (names : List (List ℕ)) → Within names r → Gives (RestOf names p r.scopes)
      (spec.procedure_rest block p r)
  rest_grows (text.procedure h ds s end) block r names w =
      bind (λ i. DeclarationsKnown names ds × Adds (declarations_names ds) [] r.scopes i.scopes) (Bodied names ds s r.scopes)
      (spec.declarations ds (enter_block block r)) _
      (declarations_grow ds (enter_block block r) names w).grows
      (λ i k.
      let all = declarations_names ds ++ names in
      let w' : Within all i = sees_behind names w k.1 in
      behind (Bodied names ds s r.scopes) (all_completed i.begun) _ (λ _.
      bind (λ (d : After Acts). ListKnown all s × (d.env.scopes ≡ i.scopes)) (Bodied names ds s r.scopes) (statement_list s i) _
      (statements_known i.scopes all w' s i refl)
      (λ d j.
      weaker (λ e. e.scopes ≡ i.scopes) (Bodied names ds s r.scopes) (close_block block d.what end d.env)
      (λ e q. ((k.0, j.0), subst (λ (t : List Scope). Adds (declarations_names ds) [] r.scopes t) (sym q) k.1))
      (closed i.scopes all w' block d.what end d.env j.1))))

  item_grows : (m : Bool) (i : text.Item) (env : Environment) (names : List (List ℕ)) → Within names env → Grows in_env (ItemKnown names i) (item_names i)
      (exports m (item_names i)) env.scopes (spec.item m i env)
  item_grows m (text.const_item cs) env names w = const_list_grows m cs env names w
  item_grows m (text.type_item t) env names w = type_grows m t env names w
  item_grows m (text.var_item vs) env names w = var_list_grows m vs env names w
  item_grows m (text.procedure_item p) env names w = record {
    grows =
        procedure_grows m (length env.blocks) p env names w (λ h. begin_procedure m h env) (λ h. begun_opens m h env names w) env.begun
        (λ r known v. rest_grows p (length env.blocks) r known v);
  }
  item_grows m (text.pre_item h) env names w = record {
    grows =
        bind (Opening names m h env.scopes) (Left (HeadingKnown names h) (heading_name h ∷ []) (exports m (heading_name h ∷ [])) env.scopes)
        (begin_procedure m h env) _ (begun_opens m h env names w)
        (λ r k. (k.0, k.1.outer));
  }
  item_grows m (text.post_item p) env names w = record {
    grows =
        procedure_grows m (block_of env (begun_named env.begun (procedure_name p).text)) p env names w (λ h. begin_post m h env)
        (λ h. posted_opens m h env names w)
        (without_begun (procedure_name p).text env.begun)
        (λ r known v. rest_grows p (block_of env (begun_named env.begun (procedure_name p).text)) r known v);
  }

  module_grows : (x : text.Module) (env : Environment) (names : List (List ℕ)) → Within names env → Grows in_env (ModuleKnown names x) (module_names x) []
      env.scopes (spec.module_decl x env)
  module_grows (text.module_with ms s) env names w = record {
    grows =
        bind (λ i. MembersKnown names ms × Adds (members_names ms) (exported_names ms) (entered true env.scopes) i.scopes)
        (Left (ModuleKnown names (text.module_with ms s)) (exported_names ms) [] env.scopes)
        (spec.members ms (record (enter true env) { begun = [] })) _
        (members_grow ms (record (enter true env) { begun = [] }) names w).grows
        (λ i k.
        let all = members_names ms ++ names in
        behind (Left (ModuleKnown names (text.module_with ms s)) (exported_names ms) [] env.scopes) (all_completed i.begun) _ (λ _.
        bind (λ (d : After Acts). ListKnown all s × (d.env.scopes ≡ i.scopes))
        (Left (ModuleKnown names (text.module_with ms s)) (exported_names ms) [] env.scopes) (statement_list s i) _
        (statements_known i.scopes all (sees_behind names w k.1) s i refl)
        (λ d j. ((k.0, j.0), subst (λ (t : List Scope). Adds (exported_names ms) [] env.scopes (outside t)) (sym j.1) (leaving k.1)))));
  }

  members_grow : (ms : text.Members) (env : Environment) (names : List (List ℕ)) → Within names env → Grows in_env (MembersKnown names ms) (members_names ms)
      (exported_names ms) env.scopes (spec.members ms env)
  members_grow text.no_member env names w = record { grows = (tt, none false env.scopes) }
  members_grow (text.next_member (text.item_member i) ms) env names w =
      chain in_env in_env (item_grows false i env names w) (λ e k. members_grow ms e (item_names i ++ names) (sees_behind names w k))
  members_grow (text.next_member (text.exported_member i) ms) env names w =
      chain in_env in_env (item_grows true i env names w) (λ e k. members_grow ms e (item_names i ++ names) (sees_behind names w k))
  members_grow (text.next_member (text.module_member x) ms) env names w =
      chain in_env in_env (module_grows x env names w) (λ e k. members_grow ms e (module_names x ++ names) (sees_behind names w k))

  declaration_grows : (d : text.Declaration) (env : Environment) (names : List (List ℕ)) → Within names env → Grows in_env (DeclarationKnown names d)
      (declaration_names d) [] env.scopes (spec.declaration d env)
  declaration_grows (text.item_declaration i) env names w = item_grows false i env names w
  declaration_grows (text.module_declaration x) env names w = module_grows x env names w

  declarations_grow : (ds : text.Declarations) (env : Environment) (names : List (List ℕ)) → Within names env → Grows in_env (DeclarationsKnown names ds)
      (declarations_names ds) [] env.scopes (spec.declarations ds env)
  declarations_grow text.no_declaration env names w = record { grows = (tt, none false env.scopes) }
  declarations_grow (text.next_declaration d ds) env names w =
      chain in_env in_env (declaration_grows d env names w) (λ e k. declarations_grow ds e (declaration_names d ++ names) (sees_behind names w k))

-- ---- programs

global_grows : (g : text.Global) (env : Environment) (names : List (List ℕ)) → Within names env → Grows in_env (GlobalKnown names g) (global_names g) []
    env.scopes (programs.global_decl g env)
global_grows (text.const_global cs) env names w = const_list_grows false cs env names w
global_grows (text.type_global t) env names w = type_grows false t env names w

globals_grow : (gs : text.Globals) (env : Environment) (names : List (List ℕ)) → Within names env → Grows in_env (GlobalsKnown names gs) (globals_names gs) []
    env.scopes (programs.global_decls gs env)
globals_grow text.no_global env names w = record { grows = (tt, none false env.scopes) }
globals_grow (text.next_global g gs) env names w =
    chain in_env in_env (global_grows g env names w) (λ e k. globals_grow gs e (global_names g ++ names) (sees_behind names w k))

program_known : (p : text.Procedure) (env : Environment) (names : List (List ℕ)) → Within names env → Gives (λ (u : ProgramUnit). ProcedureKnown names p)
    (programs.program_procedure p env)
program_known (text.procedure h ds s end) env names w =
    let Known = λ (u : ProgramUnit). ProcedureKnown names (text.procedure h ds s end) in
    bind (λ d. HeadingKnown names h × Adds (parameter_names h) [] (entered false env.scopes) d.env.scopes) Known (heading_parts 0 h env) _
    (heading_grows 0 h env names w).grows
    (λ d k.
    bind (IsOpen false h env.scopes) Known (round (declare false (own_name h) (entity.Procedure 0)) (with_heading block_kind.Program d)) _
    (round_opens false h (entity.Procedure 0) env.scopes (with_heading block_kind.Program d) k.1)
    (λ r o.
    behind Known (programs.program_heading r.types h d.asks) _ (λ calls.
    bind (Bodied (inside names h) ds s r.scopes) Known (spec.procedure_rest 0 (text.procedure h ds s end) r) _
    (rest_grows (text.procedure h ds s end) 0 r (inside names h) (sees_inside names w o))
    (λ e j. (k.0, j.0.0, j.0.1)))))

or_none : (o : Option Entity) → is_some (option_or o None) ≡ true → is_some o ≡ true
or_none None h = h
or_none (Some e) h = refl

standard_seen : Within standard_names (enter false at_first)
standard_seen = λ n h. sym (lookup_among standard.names n) ∙ or_none (meaning standard.names n) h

resolved_known : (tree : text.Program) → Gives (λ (u : ProgramUnit). NamesAreVisible tree) (resolve_tree tree)
resolved_known (text.program gs p) =
    bind (λ e. GlobalsKnown standard_names gs × Adds (globals_names gs) [] (enter false at_first).scopes e.scopes)
    (λ (u : ProgramUnit). NamesAreVisible (text.program gs p))
    (programs.global_decls gs (enter false at_first)) _ (globals_grow gs (enter false at_first) standard_names standard_seen).grows
    (λ e k.
    weaker (λ (u : ProgramUnit). ProcedureKnown (globals_names gs ++ standard_names) p) (λ (u : ProgramUnit). NamesAreVisible (text.program gs p))
    (programs.program_procedure p e) (λ u j. (k.0, j))
    (program_known p e (globals_names gs ++ standard_names) (sees_behind standard_names standard_seen k.1)))

pub names_are_visible : (tree : text.Program) (unit : ProgramUnit) → Resolved tree unit → NamesAreVisible tree
names_are_visible tree unit resolved = subst (Gives (λ (u : ProgramUnit). NamesAreVisible tree)) resolved (resolved_known tree)
