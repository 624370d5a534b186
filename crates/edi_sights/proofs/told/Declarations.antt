-- The `when`s that are met in declarations tell of the blocks that these become.
use Rattle.std.proofs.Common.{◌≡◌, ℕ, ◌+◌, ◌<◌, ◌≤◌, Bool, true, false, not, List, [], ◌∷◌, ◌++◌, length, get_or, All, refl, sym, ap}
use Rattle.std.proofs.Common.{◌∙◌, subst, arith}
use Rattle.std.specs.Str.{bytes_eq}
use Rattle.std.proofs.lemmas.List.Elements.{All-push, All-filter}
use Rattle.edi_scope.specs.declared.entity.Entity.TheVariants as entity
use Rattle.edi_scope.specs.Scope.{Scope, declared, outside, entered}
use Rattle.edi_tree.specs.declared.names.Name.{Name}
use Rattle.edi_tree.specs.Tree as text
use Rattle.edi_tree.specs.Depth.{list_depth, procedure_depth, item_depth, module_depth, member_depth, members_depth, declaration_depth, declarations_depth}
use Rattle.edi_unit.specs.Tree.{Block}
use Rattle.edi_unit.specs.Need.{block_at}
use Rattle.edi_unit.specs.Fits.{ActsFit, greatest_levels, is_called}
use Rattle.edi_unit.specs.Headings.{heading_result}
use Rattle.edi_static.specs.Judged.{Judged, gives, faults, ◌>>=◌}
use Rattle.edi_static.specs.Environment.{Begun, Environment, here}
use Rattle.edi_static.specs.Types.{const_list, type_decl, var_list}
use Rattle.edi_static.specs.Headings.{leave, own_name, heading_parts}
use Rattle.edi_static.specs.Statements.{add_statements, close_block, statement_list}
use Rattle.edi_static.specs.Declarations.{kind_of, with_heading, begun_named, without_begun, all_completed, completes, post_export, leave_to}
use Rattle.edi_static.specs.Declarations.{heading_of, procedure_name, block_of, enter_block, begin_procedure, begin_post, procedure_rest, item, module_decl}
use Rattle.edi_static.specs.Declarations.{members, member, declarations, declaration}
use Rattle.edi_static.specs.InRange.{ProcedureInRange, ItemInRange, ModuleInRange, MemberInRange, MembersInRange, DeclarationInRange, DeclarationsInRange}
use Rattle.edi_static.proofs.Judging.{Gives, bind, behind as unknown_before, weaker, also}
use Rattle.edi_static.proofs.Declared.{Keeping, of_blocks, const_list_kept, type_decl_kept, var_kept, heading_kept, round_kept, outside_round_kept}
use Rattle.edi_static.specs.Proper.{ScopesFit}
use Rattle.edi_static.proofs.Fitness.{headings_of, Names, Sits}
use Rattle.edi_static.proofs.FitnessLater.{Later, later_same, later_then, nested_later, scopes_later}
use Rattle.edi_static.proofs.FitnessChanges.{placed_sits}
use Rattle.edi_static.proofs.FitnessOnward.{BegunFits, begun_later, Onward}
use Rattle.edi_static.proofs.FitnessTypes.{const_list_onward, type_decl_onward}
use Rattle.edi_static.proofs.FitnessVariables.{Ready, ready_later, here_inside, var_onward}
use Rattle.edi_static.proofs.FitnessBlocks.{Changes, more_change}
use Rattle.edi_static.proofs.FitnessStatements.{Does}
use Rattle.edi_static.proofs.FitnessSequels.{Deep, list_does}
use Rattle.edi_static.proofs.FitnessBeginnings.{Entered, begin_entered, post_entered}
use Rattle.edi_static.proofs.FitnessProcedures.{inside_of, inner_sits, inner_ready, no_begun, completed, Ends, ends}
use Rattle.edi_static.proofs.FitnessWalk.{Declares, declarations_onward}
use Rattle.edi_sema.specs.Bodies.{inside_module}
use Rattle.edi_sights.specs.declared.awaits.Await.{Await}
use Rattle.edi_sights.specs.Awaits.{behind, list_met, procedure_met, item_met, module_met, members_met, member_met, declarations_met, declaration_met}
use Rattle.edi_sights.specs.Whens.{acts_lines, block_lines}
use Rattle.edi_sights.proofs.told.Told.{lines_in, AwaitSits, ToldAt, and_then, none_coming}
use Rattle.edi_sights.proofs.told.Blocks.{begun_lines, changed_lines, come}
use Rattle.edi_sights.proofs.told.Slots.{all_later}
use Rattle.edi_sights.proofs.told.Statements.{met_behind, closed_told, list_told}

-- ---- lines of blocks

abbrev pub Lines : List Await → List Block → Type 0
Lines awaits blocks = (b : ℕ) → lines_in b awaits ≡ block_lines blocks b ++ []

abbrev LinesAt : List Await → Environment → Type 0
LinesAt awaits env = Lines awaits env.blocks

abbrev keeping : List Await → Keeping
keeping awaits = of_blocks (Lines awaits) (λ blocks n block body need h b. h b ∙ ap (λ l. l ++ []) (sym (changed_lines blocks n block body b)))

begin_lines : (awaits : List Await) (m : Bool) (h : text.Heading) (env : Environment) → LinesAt awaits env → Gives (LinesAt awaits) (begin_procedure m h env)
begin_lines awaits m h env l =
    bind (λ headed. Lines awaits headed.env.blocks) (LinesAt awaits) (heading_parts (length env.blocks) h env) _
    (heading_kept (keeping awaits) (length env.blocks) h env l) (λ headed k.
    round_kept (keeping awaits) m (own_name h) (entity.Procedure (length env.blocks)) (with_heading (kind_of (heading_result headed.asks)) headed)
    (λ b. k b ∙ ap (λ l. l ++ []) (sym (begun_lines headed.env.blocks _ b refl))))

export_lines : (awaits : List Await) (m : Bool) (name : Name) (block : ℕ) (env : Environment) → LinesAt awaits env
    → Gives (LinesAt awaits) (post_export m name block env)
export_lines awaits true name block env h = outside_round_kept (keeping awaits) name (entity.Procedure block) env h
export_lines awaits false name block env h = h

post_lines : (awaits : List Await) (m : Bool) (h : text.Heading) (env : Environment) → LinesAt awaits env → Gives (LinesAt awaits) (begin_post m h env)
post_lines awaits m h env l =
    bind (λ headed. Lines awaits headed.env.blocks) (LinesAt awaits) (heading_parts (block_of env (begun_named env.begun (own_name h).text)) h env) _
    (heading_kept (keeping awaits) _ h env l) (λ headed k.
    unknown_before (LinesAt awaits) (completes (begun_named env.begun (own_name h).text) (own_name h) headed) _
    (λ u. export_lines awaits m (own_name h) _ headed.env k))

-- ---- from one place to another

ready_at : (env next : Environment) → Sits env → Later env next → next.around ≡ env.around → 0 < length next.scopes → Ready env → Ready next
ready_at env next s l around scoped r = record {
  inside = subst (λ a. 0 < length a) (sym around) r.inside;
  called =
      ap (λ a. is_called (block_at next.blocks (get_or a 0 0)).kind) around ∙ ap is_called (l.each (here env) (here_inside env s r.inside)).kind ∙ r.called;
  scoped = scoped;
}

record Reached (env : Environment) (awaits : List Await) (next : Environment) : Type 0 where
  declares : Declares next
  later : Later env next
  around : next.around ≡ env.around
  told : ToldAt next awaits none_coming

reached_then : (a b c : Environment) (before awaits : List Await) → Reached a before b → Reached b awaits c → Reached a awaits c
reached_then a b c before awaits g h = record {
  declares = h.declares;
  later = later_then a b c g.later h.later;
  around = h.around ∙ g.around;
  told = h.told;
}

-- by what is known of it already
onward_reached : (m : Bool) (env : Environment) → Declares env → (awaits met : List Await) → (j : Judged Environment) → Gives (Onward m env) j
    → Gives (λ e. ToldAt e met none_coming) j → Gives (Reached env met) j
onward_reached m env d awaits met j onward told =
    weaker (λ e. Onward m env e × ToldAt e met none_coming) (Reached env met) j
    (λ e k.
    let o = k.0 in
    record {
      declares = record { sits = o.sits; ready = ready_later m env e d.sits o d.ready; all = o.begun d.all };
      later = o.later;
      around = o.around;
      told = k.1;
    })
    (also (Onward m env) (λ e. ToldAt e met none_coming) j onward told)

-- where no `when` is met
kept_reached : (m : Bool) (env : Environment) → Declares env → (awaits : List Await) → ToldAt env awaits none_coming → (j : Judged Environment)
    → Gives (Onward m env) j → Gives (LinesAt awaits) j → Gives (Reached env awaits) j
kept_reached m env d awaits t j onward lines =
    onward_reached m env d awaits awaits j onward
    (weaker (λ e. Onward m env e × LinesAt awaits e) (λ e. ToldAt e awaits none_coming) j
    (λ e k. let o = k.0 in record { lines = k.1; sit = all_later env e d.sits o.later awaits t.sit })
    (also (Onward m env) (LinesAt awaits) j onward lines))

single : (m : Judged Environment) (P : Environment → Type 0) → Gives P (m >>= λ e. gives e) → Gives P m
single (gives e) P h = h
single (faults why line) P h = tt

declaration_onward : (x : text.Declaration) (env : Environment) → Declares env → length env.around + declaration_depth x ≤ greatest_levels
    → DeclarationInRange x → Gives (Onward false env) (declaration x env)
declaration_onward x env d deep h =
    single (declaration x env) (Onward false env) (declarations_onward (text.next_declaration x text.no_declaration) env d (omega (arith, deep)) (h, tt))

-- ---- procedures

module _ (n : ℕ) (m : Bool) (name : Name) (env next : Environment) (d : Declares env) (e : Entered n m name env next) where
  -- what was known has been told at its begin
  entered_told : (awaits : List Await) → ToldAt env awaits none_coming → LinesAt awaits next → ToldAt next awaits none_coming
  entered_told awaits t lines = record {
    lines = lines;
    sit = subst (λ (x : Environment). All (AwaitSits x.types x.blocks) awaits) (sym e.is) (all_later env e.outer d.sits e.later awaits t.sit);
  }

  abbrev alone_begun : Environment
  alone_begun = record e.outer { begun = env.begun ++ record { name = name; block = n } ∷ [] }

  -- one that is begun alone
  begun_reached : (awaits : List Await) → ToldAt env awaits none_coming → LinesAt awaits next → Reached env awaits alone_begun
  begun_reached awaits t lines =
      let outer : Environment = e.outer in
      let o = e.sits in
      let r = d.ready in
      let scoped = r.scoped in
      let scopes = e.scopes in
      record {
        declares = record {
          sits = placed_sits outer.scopes outer.around (env.begun ++ record { name = name; block = n } ∷ []) outer o o.nested o.names;
          ready = ready_at env alone_begun d.sits e.later e.around (omega (arith, scoped, scopes)) d.ready;
          all = All-push (BegunFits outer.scopes outer.blocks (here outer)) env.begun (record { name = name; block = n })
              (begun_later env alone_begun e.later e.around e.kept env.begun d.all)
              (record {
                means = e.means;
                there = e.there;
                inside = e.inside ∙ ap (λ a. get_or a 0 0) (sym e.around);
                no_program = e.no_program;
                called = e.called;
              });
        };
        later = e.later;
        around = e.around;
        told = record {
          lines = subst (λ (x : Environment). LinesAt awaits x) e.is lines;
          sit = all_later env outer d.sits e.later awaits t.sit;
        };
      }

  -- one that has ended
  ended_reached : (begun : List Begun)
      → ((scopes : List Scope) (blocks : List Block) (k : ℕ) → All (BegunFits scopes blocks k) env.begun → All (BegunFits scopes blocks k) begun) →
      (after : Environment) → Ends n (inside_of e.outer e.scope n) after → (awaits : List Await) → ToldAt after awaits none_coming
      → Reached env awaits (leave_to env begun after)
  ended_reached begun fewer after k awaits t =
      let outer : Environment = e.outer in
      let o = e.sits in
      let l : Later outer after = k.later in
      let whole : Later env after = later_then env outer after e.later l in
      let final : Environment = leave_to env begun after in
      let scopes : outside after.scopes ≡ outer.scopes = k.outermost in
      let many : length (outside after.scopes) ≡ length env.scopes = ap length scopes ∙ e.scopes in
      let r = d.ready in
      let scoped = r.scoped in
      record {
        declares = record {
          sits =
              placed_sits (outside after.scopes) env.around begun after k.sits (nested_later env after d.sits whole)
              (subst (ScopesFit (Names after.types after.blocks after.headings after.shapes env.around)) (sym scopes)
              (subst (λ a. ScopesFit (Names after.types after.blocks after.headings after.shapes a) outer.scopes) e.around
              (scopes_later outer after o l outer.around o.nested.chain outer.scopes o.names)));
          ready = ready_at env final d.sits whole refl (omega (arith, scoped, many)) d.ready;
          all = fewer (outside after.scopes) after.blocks (here env)
              (begun_later env final whole refl (λ x y i. ap (λ ss. declared ss x) scopes ∙ e.kept x y i) env.begun d.all);
        };
        later = whole;
        around = refl;
        told = record { lines = t.lines; sit = t.sit };
      }

-- ---- the walk

module_declares : (env : Environment) → Declares env → Declares (inside_module env)
module_declares env d =
    let s = d.sits in
    let r = d.ready in
    record {
      sits = placed_sits (entered true env.scopes) env.around [] env s s.nested (tt, s.names);
      ready = record { inside = r.inside; called = r.called; scoped = omega arith };
      all = no_begun (BegunFits (entered true env.scopes) env.blocks (here env));
    }

deep_at : (env next : Environment) → Declares next → next.around ≡ env.around → 0 < length env.around → (d : ℕ) → length env.around + d ≤ greatest_levels
    → Deep next d
deep_at env next k around inside d deep = record {
  sits = k.sits;
  inside = subst (λ a. 0 < length a) (sym around) inside;
  deep = subst (λ a. length a + d ≤ greatest_levels) (sym around) deep;
}

name_same : (p : text.Procedure) → own_name (heading_of p) ≡ procedure_name p
name_same (text.procedure h ds s end) = refl

-- one that is entered, where this is told of what stands behind its heading
rest_told : (name : List ℕ) (p : text.Procedure) (n : ℕ) (m : Bool) (own : Name) (env next : Environment) → (d : Declares env)
    → (e : Entered n m own env next) → length env.around + procedure_depth p ≤ greatest_levels → (begun : List Begun)
    → ((scopes : List Scope) (blocks : List Block) (k : ℕ) → All (BegunFits scopes blocks k) env.begun → All (BegunFits scopes blocks k) begun) →
    (awaits : List Await) → ToldAt next awaits none_coming →
    ((x : Environment) → Declares (enter_block n x) → n < length x.blocks → length x.around + procedure_depth p ≤ greatest_levels → ToldAt x awaits none_coming →
    Gives (λ after. Ends n (enter_block n x) after × ToldAt after (procedure_met name n p x awaits) none_coming) (procedure_rest n p x)) →
    Gives (λ after. Reached env (procedure_met name n p next awaits) (leave_to env begun after)) (procedure_rest n p next)
rest_told name p n m own env next d e deep begun fewer awaits t told =
    let outer : Environment = e.outer in
    let inside : Environment = inside_of outer e.scope n in
    let far : length outer.around ≡ length env.around = ap length e.around in
    let within : Declares inside = record {
      sits = inner_sits n m own env next d.ready e (omega (arith, deep, procedure_levels p));
      ready = inner_ready n m own env next d.ready e;
      all = no_begun (BegunFits inside.scopes inside.blocks (here inside));
    } in
    let first : Environment = record outer { scopes = e.scope ∷ outer.scopes } in
    subst (λ x. ToldAt x awaits none_coming → Gives (λ after. Reached env (procedure_met name n p x awaits) (leave_to env begun after)) (procedure_rest n p x))
    (sym e.is)
    (λ u.
    weaker (λ after. Ends n inside after × ToldAt after (procedure_met name n p first awaits) none_coming)
    (λ after. Reached env (procedure_met name n p first awaits) (leave_to env begun after)) (procedure_rest n p first)
    (λ after k. ended_reached n m own env next d e begun fewer after k.0 _ k.1)
    (told first within e.there (omega (arith, deep, far)) u)) t
  where
    procedure_levels : (p : text.Procedure) → 1 ≤ procedure_depth p
    procedure_levels (text.procedure h ds s end) = omega arith

module _ (name : List ℕ) where
  mutual
    -- behind its heading
    pub procedure_told : (p : text.Procedure) (n : ℕ) (next : Environment) → Declares (enter_block n next) → n < length next.blocks →
        length next.around + procedure_depth p ≤ greatest_levels → ProcedureInRange p → (awaits : List Await) → ToldAt next awaits none_coming →
        Gives (λ after. Ends n (enter_block n next) after × ToldAt after (procedure_met name n p next awaits) none_coming) (procedure_rest n p next)
    procedure_told (text.procedure h ds s end) n next d there deep i awaits t =
        let inner : Environment = enter_block n next in
        let met : List Await = declarations_met name ds inner awaits in
        met_behind (λ now. Onward false inner now × Reached inner met now) (λ after all. Ends n inner after × ToldAt after all none_coming)
        (declarations ds inner) _ (list_met name s) met
        (also (Onward false inner) (Reached inner met) (declarations ds inner) (declarations_onward ds inner d (omega (arith, deep)) i.0)
        (declarations_told ds inner d (omega (arith, deep)) i.0 awaits t))
        (λ now k.
        let o = k.0 in
        let r = k.1 in
        let all : List Await = list_met name s now met in
        let at : here now ≡ n = ap (λ a. get_or a 0 0) r.around in
        let w : Deep now (list_depth s) = deep_at inner now r.declares r.around (omega arith) (list_depth s) (omega (arith, deep)) in
        let longer = o.later in
        let first = longer.longer in
        bind (λ u. now.begun ≡ []) (λ after. Ends n inner after × ToldAt after all none_coming) (all_completed now.begun) _ (completed now.begun) (λ u none.
        bind (λ done. Does ActsFit now done × ToldAt done.env all (and_then n (acts_lines done.what) none_coming))
        (λ after. Ends n inner after × ToldAt after all none_coming) (statement_list s now) _
        (also (Does ActsFit now) (λ done. ToldAt done.env all (and_then n (acts_lines done.what) none_coming)) (statement_list s now) (list_does s now w i.1)
        (list_told name s now n at w i.1 none_coming (λ b past. refl) met r.told))
        (λ done j.
        let steps = (j.0).steps in
        let more = steps.later in
        let second = more.longer in
        also (Ends n inner) (λ after. ToldAt after all none_coming) (close_block n done.what end done.env)
        (ends n end inner now done next.around refl o d.sits d.all none there j.0)
        (closed_told n done.what end done.env all none_coming steps.sits (omega (arith, there, first, second))
        (subst (λ b. ActsFit done.env.types done.env.blocks (headings_of done.env.headings) b done.what) at (j.0).fits) refl j.1))))

    item_told : (i : text.Item) (m : Bool) (env : Environment) → Declares env → length env.around + item_depth i ≤ greatest_levels → ItemInRange i →
        (awaits : List Await) → ToldAt env awaits none_coming → Gives (Reached env (item_met name m i env awaits)) (item m i env)
    item_told (text.const_item cs) m env d deep h awaits t =
        kept_reached m env d awaits t (const_list m cs env) (const_list_onward m cs env d.sits h) (const_list_kept (keeping awaits) m cs env t.lines)
    item_told (text.type_item x) m env d deep h awaits t =
        kept_reached m env d awaits t (type_decl m x env) (type_decl_onward m x env d.sits h) (type_decl_kept (keeping awaits) m x env t.lines)
    item_told (text.var_item vs) m env d deep h awaits t =
        kept_reached m env d awaits t (var_list m vs env) (var_onward m vs env d.sits d.ready) (var_kept (keeping awaits) m vs env t.lines)
    item_told (text.procedure_item p) m env d deep h awaits t =
        let n : ℕ = length env.blocks in
        let own : Name = own_name (heading_of p) in
        let met : List Await = behind (begin_procedure m (heading_of p) env) (procedure_met name n p) awaits in
        bind (λ after. Reached env met (leave_to env env.begun after)) (Reached env met) (begin_procedure m (heading_of p) env >>= procedure_rest n p) _
        (met_behind (λ next. Entered n m own env next × LinesAt awaits next) (λ after all. Reached env all (leave_to env env.begun after))
        (begin_procedure m (heading_of p) env) (procedure_rest n p) (procedure_met name n p) awaits
        (also (Entered n m own env) (LinesAt awaits) (begin_procedure m (heading_of p) env) (begin_entered m (heading_of p) env d.sits d.ready)
        (begin_lines awaits m (heading_of p) env t.lines))
        (λ next k.
        rest_told name p n m own env next d k.0 deep env.begun (λ scopes blocks b all. all) awaits (entered_told n m own env next d k.0 awaits t k.1)
        (λ x within there near u. procedure_told p n x within there near h awaits u)))
        (λ after k. k)
    item_told (text.pre_item p) m env d deep h awaits t =
        bind (λ next. Entered (length env.blocks) m (own_name p) env next × LinesAt awaits next) (Reached env awaits) (begin_procedure m p env) _
        (also (Entered (length env.blocks) m (own_name p) env) (LinesAt awaits) (begin_procedure m p env) (begin_entered m p env d.sits d.ready)
        (begin_lines awaits m p env t.lines))
        (λ next k.
        let e = k.0 in
        subst (λ x. Reached env awaits (record (leave x) { begun = env.begun ++ record { name = own_name p; block = length env.blocks } ∷ [] })) (sym e.is)
        (begun_reached (length env.blocks) m (own_name p) env next d e awaits t k.1))
    item_told (text.post_item p) m env d deep h awaits t =
        let own : Name = procedure_name p in
        let n : ℕ = block_of env (begun_named env.begun own.text) in
        let met : List Await = behind (begin_post m (heading_of p) env) (procedure_met name n p) awaits in
        let begun : List Begun = without_begun own.text env.begun in
        bind (λ after. Reached env met (leave_to env begun after)) (Reached env met) (begin_post m (heading_of p) env >>= procedure_rest n p) _
        (met_behind (λ next. Entered n m own env next × LinesAt awaits next) (λ after all. Reached env all (leave_to env begun after))
        (begin_post m (heading_of p) env) (procedure_rest n p) (procedure_met name n p) awaits
        (also (Entered n m own env) (LinesAt awaits) (begin_post m (heading_of p) env)
        (subst (λ x. Gives (Entered (block_of env (begun_named env.begun x.text)) m x env) (begin_post m (heading_of p) env)) (name_same p)
        (post_entered m (heading_of p) env d.sits d.ready d.all)) (post_lines awaits m (heading_of p) env t.lines))
        (λ next k.
        rest_told name p n m own env next d k.0 deep begun
        (λ scopes blocks b all. All-filter (λ b. not (bytes_eq b.name.text own.text)) (BegunFits scopes blocks b) env.begun all) awaits
        (entered_told n m own env next d k.0 awaits t k.1) (λ x within there near u. procedure_told p n x within there near h awaits u)))
        (λ after k. k)

    module_told : (mm : text.Module) (env : Environment) → Declares env → length env.around + module_depth mm ≤ greatest_levels → ModuleInRange mm →
        (awaits : List Await) → ToldAt env awaits none_coming → Gives (Reached env (module_met name mm env awaits)) (module_decl mm env)
    module_told (text.module_with ms s) env d deep h awaits t =
        let inner : Environment = inside_module env in
        let met : List Await = members_met name ms inner awaits in
        let whole : List Await = module_met name (text.module_with ms s) env awaits in
        onward_reached false env d awaits whole (module_decl (text.module_with ms s) env)
        (declaration_onward (text.module_declaration (text.module_with ms s)) env d deep h)
        (met_behind (Reached inner met) (λ e all. ToldAt e all none_coming) (members ms inner) _ (list_met name s) met
        (members_told ms inner (module_declares env d) (omega (arith, deep)) h.0 awaits (record { lines = t.lines; sit = t.sit }))
        (λ now r.
        let all : List Await = list_met name s now met in
        let n : ℕ = here env in
        let at : here now ≡ n = ap (λ a. get_or a 0 0) r.around in
        let ready = d.ready in
        let w : Deep now (list_depth s) = deep_at inner now r.declares r.around ready.inside (list_depth s) (omega (arith, deep)) in
        let later = r.later in
        let first = later.longer in
        let there : n < length env.blocks = here_inside env d.sits ready.inside in
        unknown_before (λ e. ToldAt e all none_coming) (all_completed now.begun) _ (λ u.
        bind (λ done. Does ActsFit now done × ToldAt done.env all (and_then n (acts_lines done.what) none_coming))
        (λ e. ToldAt e all none_coming) (statement_list s now) _
        (also (Does ActsFit now) (λ done. ToldAt done.env all (and_then n (acts_lines done.what) none_coming)) (statement_list s now) (list_does s now w h.1)
        (list_told name s now n at w h.1 none_coming (λ b past. refl) met r.told))
        (λ done j.
        let steps = (j.0).steps in
        let more = steps.later in
        let second = more.longer in
        let inside : n < length done.env.blocks = omega (arith, there, first, second) in
        let c : Changes n done.env (add_statements n done.what done.env) =
        more_change n done.what done.env steps.sits inside
        (subst (λ b. ActsFit done.env.types done.env.blocks (headings_of done.env.headings) b done.what) at (j.0).fits) in
        let u = j.1 in
        record {
          lines = come n done.what done.env all none_coming inside refl u.lines;
          sit = all_later done.env (add_statements n done.what done.env) steps.sits c.later all u.sit;
        }))))

    members_told : (ms : text.Members) (env : Environment) → Declares env → length env.around + members_depth ms ≤ greatest_levels → MembersInRange ms →
        (awaits : List Await) → ToldAt env awaits none_coming → Gives (Reached env (members_met name ms env awaits)) (members ms env)
    members_told text.no_member env d deep h awaits t = record { declares = d; later = later_same env; around = refl; told = t }
    members_told (text.next_member m ms) env d deep h awaits t =
        let met : List Await = member_met name m env awaits in
        met_behind (Reached env met) (λ e all. Reached env all e) (member m env) (members ms) (members_met name ms) met
        (member_told m env d (omega (arith, deep)) h.0 awaits t)
        (λ e k.
        weaker (Reached e (members_met name ms e met)) (Reached env (members_met name ms e met)) (members ms e)
        (λ f j. reached_then env e f met (members_met name ms e met) k j)
        (members_told ms e k.declares (subst (λ a. length a + members_depth ms ≤ greatest_levels) (sym k.around) (omega (arith, deep))) h.1 met k.told))

    member_told : (m : text.Member) (env : Environment) → Declares env → length env.around + member_depth m ≤ greatest_levels → MemberInRange m →
        (awaits : List Await) → ToldAt env awaits none_coming → Gives (Reached env (member_met name m env awaits)) (member m env)
    member_told (text.item_member i) env d deep h awaits t = item_told i false env d deep h awaits t
    member_told (text.exported_member i) env d deep h awaits t = item_told i true env d deep h awaits t
    member_told (text.module_member m) env d deep h awaits t = module_told m env d deep h awaits t

    declarations_told : (ds : text.Declarations) (env : Environment) → Declares env → length env.around + declarations_depth ds ≤ greatest_levels →
        DeclarationsInRange ds → (awaits : List Await) → ToldAt env awaits none_coming →
        Gives (Reached env (declarations_met name ds env awaits)) (declarations ds env)
    declarations_told text.no_declaration env d deep h awaits t = record { declares = d; later = later_same env; around = refl; told = t }
    declarations_told (text.next_declaration x ds) env d deep h awaits t =
        let met : List Await = declaration_met name x env awaits in
        met_behind (Reached env met) (λ e all. Reached env all e) (declaration x env) (declarations ds) (declarations_met name ds) met
        (declaration_told x env d (omega (arith, deep)) h.0 awaits t)
        (λ e k.
        weaker (Reached e (declarations_met name ds e met)) (Reached env (declarations_met name ds e met)) (declarations ds e)
        (λ f j. reached_then env e f met (declarations_met name ds e met) k j)
        (declarations_told ds e k.declares (subst (λ a. length a + declarations_depth ds ≤ greatest_levels) (sym k.around) (omega (arith, deep))) h.1 met
        k.told))

    declaration_told : (x : text.Declaration) (env : Environment) → Declares env → length env.around + declaration_depth x ≤ greatest_levels →
        DeclarationInRange x → (awaits : List Await) → ToldAt env awaits none_coming →
        Gives (Reached env (declaration_met name x env awaits)) (declaration x env)
    declaration_told (text.item_declaration i) env d deep h awaits t = item_told i false env d deep h awaits t
    declaration_told (text.module_declaration m) env d deep h awaits t = module_told m env d deep h awaits t
