-- Declarations, procedures and modules keep what holds of an environment.
use Rattle.std.proofs.Common.{◌≡◌, ◌≢◌, ℕ, suc, ◌+◌, ◌<◌, ◌≤◌, Bool, true, false, not, cond, ◌||◌, ◌==◌, List, [], ◌∷◌, ◌++◌, length, get_or, filter, All}
use Rattle.std.proofs.Common.{Option, Some, refl, sym, ap, ◌∙◌, subst, arith, inl, inr}
use Rattle.std.specs.List.{list_any}
use Rattle.std.specs.Str.{bytes_eq}
use Rattle.std.proofs.lemmas.Bool.{false≢true, cases_eq}
use Rattle.std.proofs.lemmas.Bool.Decides.{Decides-eqb}
use Rattle.std.proofs.lemmas.List.Elements.{All-push, All-filter}
use Rattle.std.proofs.lemmas.List.Folds.{list_any-append}
use Rattle.std.proofs.lemmas.Slice.Eq.{bytes_eq-Decides}
use Rattle.edi_scope.specs.declared.entity.Entity.{Entity}
use Rattle.edi_scope.specs.declared.entity.Entity.TheVariants as entity
use Rattle.edi_scope.specs.Scope.{Scope, declared, outside, entered}
use Rattle.edi_tree.specs.declared.names.Name.{Name}
use Rattle.edi_tree.specs.Tree as text
use Rattle.edi_tree.specs.Depth.{list_depth, procedure_depth, item_depth, module_depth, member_depth, members_depth, declaration_depth, declarations_depth}
use Rattle.edi_unit.specs.Tree.{Acts, Block}
use Rattle.edi_unit.specs.Fits.{ActsFit, greatest_levels}
use Rattle.edi_static.specs.Judged.{Judged, ◌>>=◌}
use Rattle.edi_static.specs.Environment.{Begun, Environment, here, enter}
use Rattle.edi_static.specs.Headings.{leave, own_name}
use Rattle.edi_static.specs.Statements.{After, add_statements, close_block, statement_list}
use Rattle.edi_static.specs.Declarations.{begun_named, without_begun, all_completed, leave_to, leave_module, heading_of, procedure_name, block_of}
use Rattle.edi_static.specs.Declarations.{begin_procedure, begin_post, procedure_rest, item, module_decl, members, member, declarations, declaration}
use Rattle.edi_static.specs.InRange.{ProcedureInRange, ItemInRange, ModuleInRange, MemberInRange, MembersInRange, DeclarationInRange, DeclarationsInRange}
use Rattle.edi_static.specs.Proper.{ScopesFit}
use Rattle.edi_static.proofs.Judging.{Gives, bind, weaker}
use Rattle.edi_static.proofs.Proper.{outside_fit}
use Rattle.edi_static.proofs.Fitness.{headings_of, is_round, Names, EntitySits, Sits}
use Rattle.edi_static.proofs.FitnessLater.{Later, later_then, nested_later, scopes_later}
use Rattle.edi_static.proofs.FitnessChanges.{placed_sits}
use Rattle.edi_static.proofs.FitnessOnward.{Closed, BegunFits, AllBegun, begun_later, Tidy, is_open, is_begun, closed_later, Onward, onward_same, onward_any}
use Rattle.edi_static.proofs.FitnessTypes.{go_on, const_list_onward, type_decl_onward}
use Rattle.edi_static.proofs.FitnessVariables.{Ready, ready_later, here_inside, here_round, var_onward}
use Rattle.edi_static.proofs.FitnessBlocks.{Changes, more_change}
use Rattle.edi_static.proofs.FitnessStatements.{steps_onward, Does}
use Rattle.edi_static.proofs.FitnessSequels.{list_does, onward_deep}
use Rattle.edi_static.proofs.FitnessBeginnings.{Entered, begin_entered, post_entered}
use Rattle.edi_static.proofs.FitnessProcedures.{inside_of, inner_sits, inner_ready, no_begun, completed, Ends, apart, together, differs, ends}

-- ---- after a procedure

-- the blocks that are open outside, where a procedure ends
abbrev still : (ℕ → Bool) → Environment → ℕ → ℕ → Bool
still further env n m = further m || (is_begun m env.begun || (m == n))

still_tidy : (further : ℕ → Bool) (env : Environment) (n : ℕ) → Tidy (is_open further env) env → Tidy (is_open (still further env n) env) env
still_tidy further env n t m h o =
    let p = apart (still further env n m) (is_round m env.around) (is_begun m env.begun) o in
    t m h (together (further m) (is_round m env.around) (is_begun m env.begun) (apart (further m) (is_begun m env.begun) (m == n) p.0).0 p.1 p.2)

two_apart : (a b : Bool) → (a || b) ≡ false → (a ≡ false) × (b ≡ false)
two_apart true b e = absurd (false≢true (sym e))
two_apart false b e = (refl, e)

same_number : (n : ℕ) → (n == n) ≡ true
same_number n = (Decides-eqb n n).1 refl

is_still : (further : ℕ → Bool) (env : Environment) (n : ℕ) → still further env n n ≡ true
is_still further env n = stated (further n) (is_begun n env.begun) (n == n) (same_number n)
  where
    stated : (a b c : Bool) → c ≡ true → (a || (b || c)) ≡ true
    stated true b c e = refl
    stated false true c e = refl
    stated false false c e = e

module _ (n : ℕ) (export : Bool) (name : Name) (env next : Environment) (s : Sits env) (r : Ready env) (e : Entered n export name env next) (begun : List Begun)
    (fewer : (scopes : List Scope) (blocks : List Block) (k : ℕ) → All (BegunFits scopes blocks k) env.begun → All (BegunFits scopes blocks k) begun)
    (shut : AllBegun env → (m : ℕ) → m ≢ n → is_begun m begun ≡ false → is_begun m env.begun ≡ false) where
  -- its own scope and the place inside it are left
  left_onward : (after : Environment) → Ends n (inside_of e.outer e.scope n) after → Onward export env (leave_to env begun after)
  left_onward after k =
      let outer : Environment = e.outer in
      let inside : Environment = inside_of outer e.scope n in
      let t = e.sits in
      let l : Later outer after = k.later in
      let all_later : Later env after = later_then env outer after e.later l in
      let final : Environment = leave_to env begun after in
      let final_later : Later env final = all_later in
      let scopes : outside after.scopes ≡ outer.scopes = k.outermost in
      let kept : (x : List ℕ) (y : Entity) → declared env.scopes x ≡ Some y → declared (outside after.scopes) x ≡ Some y =
      λ x y i. ap (λ ss. declared ss x) scopes ∙ e.kept x y i in
      record {
        sits =
            placed_sits (outside after.scopes) env.around begun after k.sits (nested_later env after s all_later)
            (subst (ScopesFit (Names after.types after.blocks after.headings after.shapes env.around)) (sym scopes)
            (subst (λ a. ScopesFit (Names after.types after.blocks after.headings after.shapes a) outer.scopes) e.around
            (scopes_later outer after t l outer.around t.nested.chain outer.scopes t.names)));
        later = final_later;
        around = refl;
        outer = λ m. ap outside scopes ∙ e.outermost m;
        farther = ap (λ ss. outside (outside ss)) scopes ∙ e.farther;
        kept = kept;
        kept_outside = λ x y i. ap (λ ss. declared (outside ss) x) scopes ∙ e.kept_outside x y i;
        begun = λ all. fewer final.scopes final.blocks (here final) (begun_later env final final_later refl kept env.begun all);
        tidy = λ all further u m h o.
            elim (cases_eq m n) [
              | inl is ↦ subst (Closed after.types after.blocks) (sym is) k.closed
              | inr other ↦
                  let p = apart (further m) (is_round m env.around) (is_begun m begun) o in
                  k.tidy (still further env n) (inner_tidy further (e.tidy all (still further env n) (is_still further env n) (still_tidy further env n u))) m
                  h other
                  (together (still further env n m) ((n == m) || is_round m outer.around) false
                  (together (further m) (is_begun m env.begun) (m == n) p.0 (shut all m other p.2) (differs m n other))
                  (neither (n == m) (is_round m outer.around) (differs n m (λ is. other (sym is))) (ap (is_round m) e.around ∙ p.1)) refl)
            ];
        scopes = ap length scopes ∙ e.scopes;
      }
    where
      neither : (a b : Bool) → a ≡ false → b ≡ false → (a || b) ≡ false
      neither a b i j = ap (λ x. x || b) i ∙ j

      inner_tidy : (further : ℕ → Bool) → Tidy (is_open (still further env n) e.outer) e.outer
          → Tidy (is_open (still further env n) (inside_of e.outer e.scope n)) (inside_of e.outer e.scope n)
      inner_tidy further t m h o =
          let p = apart (still further env n m) ((n == m) || is_round m e.outer.around) false o in
          let q = two_apart (n == m) (is_round m e.outer.around) p.1 in
          let f = apart (further m) (is_begun m env.begun) (m == n) p.0 in
          t m h (together (still further env n m) (is_round m e.outer.around) (is_begun m e.outer.begun) p.0 q.1 (ap (is_begun m) e.begun ∙ f.1))

-- ---- a procedure that is begun alone

abbrev new_begun : Name → Environment → Begun
new_begun name env = record { name = name; block = length env.blocks }

-- the scope of its heading ends at once
whole_onward : (export : Bool) (name : Name) (env next : Environment) → (e : Entered (length env.blocks) export name env next)
    → Onward export env (record e.outer { begun = env.begun ++ new_begun name env ∷ [] })
whole_onward export name env next e =
    let outer : Environment = e.outer in
    let n : ℕ = length env.blocks in
    let one : Begun = new_begun name env in
    let t = e.sits in
    let final : Environment = record outer { begun = env.begun ++ one ∷ [] } in
    let l : Later env final = e.later in
    record {
      sits = placed_sits outer.scopes outer.around (env.begun ++ one ∷ []) outer t t.nested t.names;
      later = l;
      around = e.around;
      outer = e.outermost;
      farther = e.farther;
      kept = e.kept;
      kept_outside = e.kept_outside;
      begun = λ all.
          All-push (BegunFits outer.scopes outer.blocks (here outer)) env.begun one (begun_later env final l e.around e.kept env.begun all)
          (record {
            means = e.means;
            there = e.there;
            inside = e.inside ∙ ap (λ a. get_or a 0 0) (sym e.around);
            no_program = e.no_program;
            called = e.called;
          });
      tidy = λ all further u m h o.
          let p = apart (further m) (is_round m outer.around) (is_begun m (env.begun ++ one ∷ [])) o in
          let q = two_apart (is_begun m env.begun) (is_begun m (one ∷ [])) (sym (list_any-append (λ b. b.block == m) env.begun (one ∷ [])) ∙ p.2) in
          let i = two_apart (n == m) false q.1 in
          let other : (m == n) ≡ false = differs m n (λ is. false≢true (sym i.0 ∙ ap (λ k. k == m) (sym is) ∙ same_number m)) in
          e.tidy all (still further env n) (is_still further env n) (still_tidy further env n u) m h
          (together (still further env n m) (is_round m outer.around) (is_begun m outer.begun)
          (together (further m) (is_begun m env.begun) (m == n) p.0 q.0 other) p.1 (ap (is_begun m) e.begun ∙ q.0));
      scopes = e.scopes;
    }

pre_onward : (export : Bool) (name : Name) (env next : Environment) → Entered (length env.blocks) export name env next
    → Onward export env (record (leave next) { begun = env.begun ++ new_begun name env ∷ [] })
pre_onward export name env next e = subst (λ x. Onward export env (record (leave x) { begun = env.begun ++ new_begun name env ∷ [] })) (sym e.is)
    (whole_onward export name env next e)

-- ---- a procedure that is completed

-- no other is taken out with it
others_begun : (P : Begun → Type 0) (name : List ℕ) (n m : ℕ) → ((b : Begun) → P b → bytes_eq b.name.text name ≡ true → b.block ≡ n) → (begun : List Begun)
    → All P begun → m ≢ n →
    is_begun m (without_begun name begun) ≡ false → is_begun m begun ≡ false
others_begun P name n m same [] all other h = refl
others_begun P name n m same (b ∷ bs) all other h =
    stated (others_begun P name n m same bs (λ k d i. all (suc k) d (omega (arith, i))) other) (bytes_eq b.name.text name) refl h
  where
    stated : (is_begun m (without_begun name bs) ≡ false → is_begun m bs ≡ false) → (t : Bool) → bytes_eq b.name.text name ≡ t
        → is_begun m (cond (not t) (b ∷ without_begun name bs) (without_begun name bs)) ≡ false → ((b.block == m) || is_begun m bs) ≡ false
    stated rest true e h =
        let is : b.block ≡ n = same b (all 0 b (omega arith)) e in
        ap (λ x. x || is_begun m bs) (differs b.block m (λ i. other (sym i ∙ is))) ∙ rest h
    stated rest false e h =
        let p = two_apart (b.block == m) (is_begun m (without_begun name bs)) h in
        ap (λ x. x || is_begun m bs) p.0 ∙ rest p.1

procedures_same : (a b : ℕ) → Some (entity.Procedure a) ≡ Some (entity.Procedure b) → a ≡ b
procedures_same a b e = ap block_in e
  where
    block_in : Option Entity → ℕ
    block_in (Some (entity.Procedure b)) = b
    block_in _ = 0

post_shut : (n : ℕ) (export : Bool) (name : Name) (env next : Environment) → Entered n export name env next → AllBegun env → (m : ℕ) → m ≢ n →
    is_begun m (without_begun name.text env.begun) ≡ false → is_begun m env.begun ≡ false
post_shut n export name env next e all m other h =
    others_begun (BegunFits env.scopes env.blocks (here env)) name.text n m
    (λ b f same.
    procedures_same b.block n
    (sym (e.kept b.name.text (entity.Procedure b.block) f.means) ∙ ap (declared e.outer.scopes) ((bytes_eq-Decides b.name.text name.text).0 same) ∙ e.means))
    env.begun all other h

-- ---- the walk

-- a place where declarations can stand
pub record Declares (env : Environment) : Type 0 where
  pub sits : Sits env
  pub ready : Ready env
  pub all : AllBegun env

declares_later : (m : Bool) (env next : Environment) → Declares env → Onward m env next → Declares next
declares_later m env next d o = record { sits = o.sits; ready = ready_later m env next d.sits o d.ready; all = o.begun d.all }

-- inside a module
abbrev module_env : Environment → Environment
module_env env = record (enter true env) { begun = [] }

module_declares : (env : Environment) → Declares env → Declares (module_env env)
module_declares env d =
    let s = d.sits in
    let r = d.ready in
    record {
      sits = placed_sits (entered true env.scopes) env.around [] env s s.nested (tt, s.names);
      ready = record { inside = r.inside; called = r.called; scoped = omega arith };
      all = no_begun (BegunFits (entered true env.scopes) env.blocks (here env));
    }

outside_length : (scopes : List Scope) (n : ℕ) → length scopes ≡ suc n → length (outside scopes) ≡ n
outside_length [] n h = absurd (omega (arith, h))
outside_length (scope ∷ outer) n h = omega (arith, h)

-- after a module: its statements come behind those of the block round it
module_left : (env now : Environment) (done : After Acts) → Declares env → Onward true (module_env env) now → Does ActsFit now done → now.begun ≡ []
    → Onward false env (leave_module env done)
module_left env now done d o does none =
    let s = d.sits in
    let r = d.ready in
    let inner : Environment = module_env env in
    let no : AllBegun inner = no_begun (BegunFits (entered true env.scopes) env.blocks (here env)) in
    let st = does.steps in
    let p : Onward false now done.env = steps_onward false now done.env o.sits st in
    let n : ℕ = here env in
    let at : here now ≡ n = ap (λ a. get_or a 0 0) o.around in
    let l = o.later in
    let q = p.later in
    let longer = l.longer in
    let wider = q.longer in
    let there : n < length env.blocks = here_inside env s r.inside in
    let after : Environment = add_statements n done.what done.env in
    let c : Changes n done.env after =
    more_change n done.what done.env p.sits (omega (arith, there, longer, wider))
    (subst (λ b. ActsFit done.env.types done.env.blocks (headings_of done.env.headings) b done.what) at does.fits) in
    let all_later : Later env after =
    later_then inner now after l (later_then now done.env after q c.later) in
    let final : Environment = leave_module env done in
    let final_later : Later env final = all_later in
    let around : done.env.around ≡ env.around = p.around ∙ o.around in
    let scopes : outside (outside done.env.scopes) ≡ outside env.scopes = ap (λ ss. outside (outside ss)) st.scopes ∙ o.farther in
    let kept : (x : List ℕ) (y : Entity) → declared env.scopes x ≡ Some y → declared (outside done.env.scopes) x ≡ Some y =
    λ x y i. ap (λ ss. declared (outside ss) x) st.scopes ∙ o.kept_outside x y i in
    let u = c.sits in
    record {
      sits =
          placed_sits (outside done.env.scopes) env.around env.begun after u (nested_later env after s all_later)
          (subst (λ a. ScopesFit (Names after.types after.blocks after.headings after.shapes a) (outside done.env.scopes)) around
          (outside_fit (EntitySits after) done.env.scopes u.names));
      later = final_later;
      around = refl;
      outer = λ m. scopes;
      farther = ap outside scopes;
      kept = kept;
      kept_outside = λ x y i. ap (λ ss. declared ss x) scopes ∙ i;
      begun = λ all. begun_later env final final_later refl kept env.begun all;
      tidy = λ all further t m h f.
          let a = apart (further m) (is_round m env.around) (is_begun m env.begun) f in
          let other : m ≢ n = λ is. false≢true (sym a.1 ∙ ap (λ k. is_round k env.around) is ∙ here_round env.around r.inside) in
          let many = c.many in
          let before : m < length done.env.blocks = omega (arith, h, many) in
          let may_stay : ℕ → Bool = λ k. further k || is_begun k env.begun in
          closed_later done.env after p.sits c.later m before (c.others m other)
          (p.tidy (o.begun no) may_stay (o.tidy no may_stay (inner_tidy further t)) m before
          (together (further m || is_begun m env.begun) (is_round m done.env.around) (is_begun m done.env.begun)
          (ap (λ x. x || is_begun m env.begun) a.0 ∙ a.2) (ap (is_round m) around ∙ a.1) (ap (is_begun m) (st.begun ∙ none))));
      scopes = outside_length done.env.scopes (length env.scopes) (p.scopes ∙ o.scopes);
    }
  where
    inner_tidy : (further : ℕ → Bool) → Tidy (is_open further env) env → Tidy (is_open (λ k. further k || is_begun k env.begun) (module_env env))
        (module_env env)
    inner_tidy further t m h f =
        let a = apart (further m || is_begun m env.begun) (is_round m env.around) false f in
        let b = two_apart (further m) (is_begun m env.begun) a.0 in
        t m h (together (further m) (is_round m env.around) (is_begun m env.begun) b.0 a.1 b.1)

name_same : (p : text.Procedure) → own_name (heading_of p) ≡ procedure_name p
name_same (text.procedure h ds s end) = refl

-- one declaration behind another
go_declaring : (m : Bool) (env : Environment) (j : Judged Environment) (f : Environment → Judged Environment) (depth : ℕ) → Declares env
    → length env.around + depth ≤ greatest_levels → Gives (Onward m env) j →
    ((e : Environment) → Declares e → length e.around + depth ≤ greatest_levels → Gives (Onward m e) (f e)) → Gives (Onward m env) (j >>= f)
go_declaring m env j f depth d deep h k =
    go_on m env j f h (λ e o. k e (declares_later m env e d o) (subst (λ a. length a + depth ≤ greatest_levels) (sym o.around) deep))

mutual
  rest_onward : (p : text.Procedure) (n : ℕ) (m : Bool) (name : Name) (env next : Environment) → Sits env → (r : Ready env) → (e : Entered n m name env next) →
      length env.around + procedure_depth p ≤ greatest_levels → ProcedureInRange p → (begun : List Begun)
      → ((scopes : List Scope) (blocks : List Block) (k : ℕ) → All (BegunFits scopes blocks k) env.begun → All (BegunFits scopes blocks k) begun) →
      (AllBegun env → (k : ℕ) → k ≢ n → is_begun k begun ≡ false → is_begun k env.begun ≡ false) →
      Gives (λ after. Onward m env (leave_to env begun after)) (procedure_rest n p next)
  rest_onward (text.procedure h ds s end) n m name env next t r e deep i begun fewer shut =
      let Q : Environment → Type 0 = λ after. Onward m env (leave_to env begun after) in
      let inner : Environment = inside_of e.outer e.scope n in
      let all : AllBegun inner = no_begun (BegunFits inner.scopes inner.blocks (here inner)) in
      let d : Declares inner = record {
        sits = inner_sits n m name env next r e (omega (arith, deep));
        ready = inner_ready n m name env next r e;
        all = all;
      } in
      let near : length inner.around ≡ suc (length env.around) = ap (λ a. suc (length a)) e.around in
      subst (λ x. Gives (λ after. Onward m env (leave_to env begun after)) (procedure_rest n (text.procedure h ds s end) x)) (sym e.is)
      (bind (Onward false inner) (λ after. Onward m env (leave_to env begun after)) (declarations ds inner) _
      (declarations_onward ds inner d (omega (arith, deep, near)) i.0) (λ now o.
      bind (λ u. now.begun ≡ []) (λ after. Onward m env (leave_to env begun after)) (all_completed now.begun) _ (completed now.begun) (λ u none.
      bind (Does ActsFit now) (λ after. Onward m env (leave_to env begun after)) (statement_list s now) _
      (list_does s now (onward_deep false inner now o (omega arith) (list_depth s) (omega (arith, deep, near))) i.1)
      (λ done does.
      weaker (Ends n inner) (λ after. Onward m env (leave_to env begun after)) (close_block n done.what end done.env)
      (λ after k. left_onward n m name env next t r e begun fewer shut after k)
      (ends n end inner now done e.outer.around refl o d.sits all none e.there does)))))

  item_onward : (i : text.Item) (m : Bool) (env : Environment) → Declares env → length env.around + item_depth i ≤ greatest_levels → ItemInRange i
      → Gives (Onward m env) (item m i env)
  item_onward (text.const_item cs) m env d deep h = const_list_onward m cs env d.sits h
  item_onward (text.type_item t) m env d deep h = type_decl_onward m t env d.sits h
  item_onward (text.var_item vs) m env d deep h = var_onward m vs env d.sits d.ready
  item_onward (text.procedure_item p) m env d deep h =
      let n : ℕ = length env.blocks in
      bind (λ after. Onward m env (leave_to env env.begun after)) (Onward m env) (begin_procedure m (heading_of p) env >>= procedure_rest n p) _
      (bind (Entered n m (own_name (heading_of p)) env) (λ after. Onward m env (leave_to env env.begun after)) (begin_procedure m (heading_of p) env)
      (procedure_rest n p) (begin_entered m (heading_of p) env d.sits d.ready) (λ next e.
      rest_onward p n m (own_name (heading_of p)) env next d.sits d.ready e deep h env.begun (λ scopes blocks k all. all) (λ all k other is. is)))
      (λ after k. k)
  item_onward (text.pre_item p) m env d deep h =
      bind (Entered (length env.blocks) m (own_name p) env) (Onward m env) (begin_procedure m p env) _ (begin_entered m p env d.sits d.ready)
      (λ next e. pre_onward m (own_name p) env next e)
  item_onward (text.post_item p) m env d deep h =
      let name : Name = procedure_name p in
      let n : ℕ = block_of env (begun_named env.begun name.text) in
      bind (λ after. Onward m env (leave_to env (without_begun name.text env.begun) after)) (Onward m env)
      (begin_post m (heading_of p) env >>= procedure_rest n p) _
      (bind (Entered n m name env) (λ after. Onward m env (leave_to env (without_begun name.text env.begun) after)) (begin_post m (heading_of p) env)
      (procedure_rest n p)
      (subst (λ x. Gives (Entered (block_of env (begun_named env.begun x.text)) m x env) (begin_post m (heading_of p) env)) (name_same p)
      (post_entered m (heading_of p) env d.sits d.ready d.all))
      (λ next e.
      rest_onward p n m name env next d.sits d.ready e deep h (without_begun name.text env.begun)
      (λ scopes blocks k all. All-filter (λ b. not (bytes_eq b.name.text name.text)) (BegunFits scopes blocks k) env.begun all)
      (post_shut n m name env next e)))
      (λ after k. k)

  module_onward : (mm : text.Module) (env : Environment) → Declares env → length env.around + module_depth mm ≤ greatest_levels → ModuleInRange mm
      → Gives (Onward false env) (module_decl mm env)
  module_onward (text.module_with ms s) env d deep h =
      let inner : Environment = module_env env in
      bind (Onward true inner) (Onward false env) (members ms inner) _ (members_onward ms inner (module_declares env d) (omega (arith, deep)) h.0) (λ now o.
      bind (λ u. now.begun ≡ []) (Onward false env) (all_completed now.begun) _ (completed now.begun) (λ u none.
      bind (Does ActsFit now) (Onward false env) (statement_list s now) _
      (let r = d.ready in
      list_does s now (onward_deep true inner now o r.inside (list_depth s) (omega (arith, deep))) h.1)
      (λ done does. module_left env now done d o does none)))

  members_onward : (ms : text.Members) (env : Environment) → Declares env → length env.around + members_depth ms ≤ greatest_levels → MembersInRange ms
      → Gives (Onward true env) (members ms env)
  members_onward text.no_member env d deep h = onward_same true env d.sits
  members_onward (text.next_member m ms) env d deep h =
      go_declaring true env _ _ (members_depth ms) d (omega (arith, deep)) (member_onward m env d (omega (arith, deep)) h.0)
      (λ e k near. members_onward ms e k near h.1)

  member_onward : (m : text.Member) (env : Environment) → Declares env → length env.around + member_depth m ≤ greatest_levels → MemberInRange m
      → Gives (Onward true env) (member m env)
  member_onward (text.item_member i) env d deep h = weaker (Onward false env) (Onward true env) (item false i env) (λ e o. onward_any true env e o)
      (item_onward i false env d deep h)
  member_onward (text.exported_member i) env d deep h = item_onward i true env d deep h
  member_onward (text.module_member m) env d deep h = weaker (Onward false env) (Onward true env) (module_decl m env) (λ e o. onward_any true env e o)
      (module_onward m env d deep h)

  pub declarations_onward : (ds : text.Declarations) (env : Environment) → Declares env → length env.around + declarations_depth ds ≤ greatest_levels
      → DeclarationsInRange ds → Gives (Onward false env) (declarations ds env)
  declarations_onward text.no_declaration env d deep h = onward_same false env d.sits
  declarations_onward (text.next_declaration x ds) env d deep h =
      go_declaring false env _ _ (declarations_depth ds) d (omega (arith, deep)) (declaration_onward x env d (omega (arith, deep)) h.0)
      (λ e k near. declarations_onward ds e k near h.1)

  declaration_onward : (x : text.Declaration) (env : Environment) → Declares env → length env.around + declaration_depth x ≤ greatest_levels
      → DeclarationInRange x → Gives (Onward false env) (declaration x env)
  declaration_onward (text.item_declaration i) env d deep h = item_onward i false env d deep h
  declaration_onward (text.module_declaration m) env d deep h = module_onward m env d deep h
