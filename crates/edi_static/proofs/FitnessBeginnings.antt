-- Procedures that begin: their parameters are names in their own scope, and the block is open.
use Rattle.std.proofs.Common.{◌≡◌, ◌≢◌, ℕ, suc, ◌+◌, ◌<◌, Bool, true, false, ◌||◌, if◌then◌else◌, List, [], ◌∷◌, ◌++◌, length, get_or, map, All, Option, Some}
use Rattle.std.proofs.Common.{None, IsTrue, IsSome, IfSome, is_some, refl, sym, ap, ◌∙◌, subst, arith, inl, inr, length-append}
use Rattle.std.specs.Prelude.{slice_get, option_to_list}
use Rattle.std.specs.Str.{bytes_eq}
use Rattle.std.proofs.lemmas.Bool.{false≢true, cases_eq}
use Rattle.std.proofs.lemmas.List.{append-nil}
use Rattle.std.proofs.lemmas.Slice.Eq.{bytes_eq-Decides}
use Rattle.std.proofs.Math.ListN.{get_or-append}
use Rattle.edi_scope.specs.declared.entity.Entity.{Entity}
use Rattle.edi_scope.specs.declared.entity.Entity.TheVariants as entity
use Rattle.edi_scope.specs.Scope.{Scope, declared, outside, exported}
use Rattle.edi_tree.specs.declared.names.Name.{Name}
use Rattle.edi_tree.specs.Tree as text
use Rattle.edi_unit.specs.declared.units.Parameter.{Parameter}
use Rattle.edi_unit.specs.declared.units.Parameter.TheVariants as slot
use Rattle.edi_unit.specs.Types.{Shape}
use Rattle.edi_unit.specs.Tree.{Block}
use Rattle.edi_unit.specs.Need.{no_block, block_at, slot_type, slot_result}
use Rattle.edi_unit.specs.Fits.{first_parameter, is_variable, is_procedure, is_called, KindFits}
use Rattle.edi_unit.specs.Headings.{Heading, heading, heading_result, heading_formals}
use Rattle.edi_unit.specs.Fits.{SlotIsKnown}
use Rattle.edi_static.specs.declared.faults.StaticKind.TheVariants as kind
use Rattle.edi_static.specs.Judged.{Judged, gives, faults, ◌>>=◌}
use Rattle.edi_static.specs.Environment.{Begun, Environment, here, declare, give_outside, begun_block, with_block, heading_at, same_heading, parameters_of}
use Rattle.edi_static.specs.Headings.{Headed, round, own_name, heading_parts}
use Rattle.edi_static.specs.Declarations.{kind_of, with_heading, begun_named, completes, post_export, block_of, begin_procedure, begin_post}
use Rattle.edi_static.specs.Proper.{NamesFit}
use Rattle.edi_static.proofs.Judging.{Gives, bind, behind, ruled, also}
use Rattle.edi_static.proofs.Proper.{names_fit, scopes_fit}
use Rattle.edi_static.proofs.Fitness.{asked_at, variable_heading, is_round, slot_of, Names, EntitySits, IsChain, Sits}
use Rattle.edi_static.proofs.FitnessCalls.{same_heading_is}
use Rattle.edi_static.proofs.FitnessGrowth.{get_more, some_variable, some_procedure}
use Rattle.edi_static.proofs.FitnessLater.{Later, later_then, names_later}
use Rattle.edi_static.proofs.FitnessOnward.{BegunFits, AllBegun, begun_later, Tidy, is_open, is_begun, closed_later, Onward, declare_onward, declare_means}
use Rattle.edi_static.proofs.FitnessOnward.{exported_fits, with_name_keeps, exported_length}
use Rattle.edi_static.proofs.FitnessChanges.{scopes_sit}
use Rattle.edi_static.proofs.FitnessVariables.{Ready, here_inside, here_round}
use Rattle.edi_static.proofs.FitnessHeadings.{Given, TypeKnown, TypesKnown, headed_env, Heads, heading_heads}
use Rattle.edi_static.proofs.FitnessBlocks.{shapes_later, shapes_sit, BlockBegins, block_later, block_sits, new_block, new_heading}
use Rattle.edi_static.proofs.FitnessStatements.{stands_here}

-- ---- parameters as variables of their block

parameter_slot : (r : Option ℕ) (ps more : List Parameter) (index : ℕ) → IsSome (slice_get ps index)
    → slice_get (map slot.Value (option_to_list r) ++ (ps ++ more)) (first_parameter r + index) ≡ slice_get ps index
parameter_slot None ps more index h = let e : 0 + index ≡ index = omega arith in ap (slice_get (ps ++ more)) e ∙ get_more ps more index h
parameter_slot (Some t) ps more index h = let e : 1 + index ≡ suc index = omega arith in
    ap (slice_get (slot.Value t ∷ (ps ++ more))) e ∙ get_more ps more index h

parameter_heading : (asks : Heading) (index : ℕ) → variable_heading asks (first_parameter (heading_result asks) + index) ≡ asked_at (heading_formals asks) index
parameter_heading (heading fs None) index = let e : 0 + index ≡ index = omega arith in ap (asked_at fs) e
parameter_heading (heading fs (Some t)) index = let e : 1 + index ≡ suc index = omega arith in ap (variable_heading (heading fs (Some t))) e

module _ (types : List Shape) (blocks : List Block) (headings shapes : List Heading) (n : ℕ) (asks : Heading) (around : List ℕ)
    (round : IsTrue (is_round n around)) (same : heading_at headings n ≡ asks)
    (parameters : (block_at blocks n).parameters ≡ parameters_of (heading_formals asks)) (result : (block_at blocks n).result ≡ heading_result asks) where
  slot_given : (b v index : ℕ) → b ≡ n → v ≡ first_parameter (heading_result asks) + index → IsSome (slice_get (parameters_of (heading_formals asks)) index) →
      slot_of blocks b v ≡ slice_get (parameters_of (heading_formals asks)) index
  slot_given b v index e at is =
      let block : Block = block_at blocks n in
      ap (λ k. slot_of blocks k v) e
      ∙ ap (λ r. slice_get (map slot.Value (option_to_list r) ++ (block.parameters ++ map slot.Value block.variables)) v) result
      ∙ ap (λ ps. slice_get (map slot.Value (option_to_list (heading_result asks)) ++ (ps ++ map slot.Value block.variables)) v) parameters
      ∙ ap (slice_get (map slot.Value (option_to_list (heading_result asks)) ++ (parameters_of (heading_formals asks) ++ map slot.Value block.variables))) at
      ∙ parameter_slot (heading_result asks) (parameters_of (heading_formals asks)) (map slot.Value block.variables) index is

  given_names : (e : Entity) → Given n (first_parameter (heading_result asks)) (heading_formals asks) shapes e → Names types blocks headings shapes around e
  given_names (entity.Variable b v of) h =
      let at = slot_given b v h.index h.same h.at (some_variable _ h.variable) in
      (subst (λ k. IsTrue (is_round k around)) (sym h.same) round, ap is_variable at ∙ h.variable, ap slot_type at ∙ h.type)
  given_names (entity.Formal b v shape) h =
      let at = slot_given b v h.index h.same h.at (some_procedure _ h.procedure) in (
        subst (λ k. IsTrue (is_round k around)) (sym h.same) round,
        ap is_procedure at ∙ h.procedure,
        ap slot_result at ∙ h.result,
        h.there,
        ap (λ k. variable_heading (heading_at headings k) v) h.same ∙ ap (λ x. variable_heading x v) same ∙ ap (variable_heading asks) h.at
            ∙ parameter_heading asks h.index ∙ h.asks,
      )
  given_names (entity.Constant of k) h = absurd h
  given_names (entity.Types t) h = absurd h
  given_names (entity.Procedure b) h = absurd h
  given_names entity.Halt h = absurd h

  pub scope_given : (names : List (List ℕ × Entity)) → NamesFit (Given n (first_parameter (heading_result asks)) (heading_formals asks) shapes) names
      → NamesFit (Names types blocks headings shapes around) names
  scope_given names h = names_fit (Given n (first_parameter (heading_result asks)) (heading_formals asks) shapes) (Names types blocks headings shapes around)
      given_names names h

-- ---- what a beginning gives

-- the scope of a heading stands before those of an environment, in which its block is there
pub record Entered (n : ℕ) (export : Bool) (name : Name) (env next : Environment) : Type 0 where
  pub outer : Environment
  pub scope : Scope
  pub is : next ≡ record outer { scopes = scope ∷ outer.scopes }
  pub names : NamesFit (Names outer.types outer.blocks outer.headings outer.shapes (n ∷ outer.around)) scope.names
  pub sits : Sits outer
  pub later : Later env outer
  pub around : outer.around ≡ env.around
  pub begun : outer.begun ≡ env.begun
  pub outermost : export ≡ false → outside outer.scopes ≡ outside env.scopes
  pub farther : outside (outside outer.scopes) ≡ outside (outside env.scopes)
  pub kept : (x : List ℕ) (e : Entity) → declared env.scopes x ≡ Some e → declared outer.scopes x ≡ Some e
  pub kept_outside : (x : List ℕ) (e : Entity) → declared (outside env.scopes) x ≡ Some e → declared (outside outer.scopes) x ≡ Some e
  pub scopes : length outer.scopes ≡ length env.scopes
  pub tidy : AllBegun env → (further : ℕ → Bool) → further n ≡ true → Tidy (is_open further env) env → Tidy (is_open further outer) outer
  pub there : n < length outer.blocks
  pub inside : (block_at outer.blocks n).up ≡ here env
  pub no_program : 0 < n
  pub called : IsTrue (is_called (block_at outer.blocks n).kind)
  pub means : declared outer.scopes name.text ≡ Some (entity.Procedure n)

entity_type : (env : Environment) (e : Entity) → EntitySits env e → TypeKnown env.types e
entity_type env (entity.Types t) h = h
entity_type env e h = tt

pub types_known : (env : Environment) → Sits env → TypesKnown env
types_known env s = scopes_fit (EntitySits env) (TypeKnown env.types) (entity_type env) env.scopes s.names

kind_called : (r : Option ℕ) → is_called (kind_of r) ≡ true
kind_called None = refl
kind_called (Some t) = refl

-- ---- a new block

abbrev procedure_block : Environment → Heading → Block
procedure_block env asks = begun_block (kind_of (heading_result asks)) (here env) (heading_result asks) (parameters_of (heading_formals asks))

procedure_begins : (env : Environment) (asks : Heading) → here env < length env.blocks
    → All (SlotIsKnown env.types) (map slot.Value (option_to_list (heading_result asks)) ++ parameters_of (heading_formals asks)) →
    BlockBegins env.types (length env.blocks) (procedure_block env asks) asks
procedure_begins env asks at known = record {
  fits_kind = kind_fits (heading_result asks);
  outermost = λ e. absurd (omega (arith, at, e));
  inner = λ h. at;
  known = subst (λ ps. All (SlotIsKnown env.types) (map slot.Value (option_to_list (heading_result asks)) ++ ps))
      (sym (append-nil (parameters_of (heading_formals asks)))) known;
  parameters = refl;
  result = refl;
  nothing = refl;
}
  where
    kind_fits : (r : Option ℕ) → KindFits (kind_of r) (length env.blocks) (begun_block (kind_of r) (here env) r (parameters_of (heading_formals asks)))
    kind_fits None = (omega (arith, at), refl)
    kind_fits (Some t) = (omega (arith, at), refl)

-- the environment with the block, in the scope round the heading
abbrev put_block : Environment → (more : List Heading) → Heading → Environment
put_block env more asks = with_block (procedure_block env asks) asks (record env { shapes = env.shapes ++ more })

first_open : (a b : Bool) → a ≡ true → (a || b) ≡ false → ⊥
first_open true b e h = false≢true (sym h)
first_open false b e h = false≢true e

put_tidy : (env : Environment) (more : List Heading) (asks : Heading) → Sits env → Later env (put_block env more asks) → (further : ℕ → Bool)
    → further (length env.blocks) ≡ true →
    Tidy (is_open further env) env → Tidy (is_open further env) (put_block env more asks)
put_tidy env more asks s l further opened k n h o =
    elim (cases_eq n (length env.blocks)) [
      | inl e ↦ absurd (first_open (further n) (is_round n env.around || is_begun n env.begun) (ap further e ∙ opened) o)
      | inr other ↦
          let block : Block = procedure_block env asks in
          let before : n < length env.blocks = omega (arith, h, other, length-append env.blocks (block ∷ [])) in
          closed_later env (put_block env more asks) s l n before (get_or-append env.blocks (block ∷ []) no_block n before) (k n before o)
    ]

entered_at : (export : Bool) (name : Name) (env : Environment) (scope : Scope) (more : List Heading) (asks : Heading) → Sits env → Ready env →
    NamesFit (Given (length env.blocks) (first_parameter (heading_result asks)) (heading_formals asks) (env.shapes ++ more)) scope.names →
    All (SlotIsKnown env.types) (map slot.Value (option_to_list (heading_result asks)) ++ parameters_of (heading_formals asks)) →
    Gives (Entered (length env.blocks) export name env)
    (round (declare export name (entity.Procedure (length env.blocks)))
    (with_heading (kind_of (heading_result asks)) (record { env = headed_env env scope more; asks = asks })))
entered_at export name env scope more asks s r names known =
    let n : ℕ = length env.blocks in
    let at : here env < n = here_inside env s r.inside in
    let shaped : Environment = record env { shapes = env.shapes ++ more } in
    let block : Block = procedure_block env asks in
    let next : Environment = put_block env more asks in
    let t : Sits shaped = shapes_sit more env s in
    let u : Sits next = block_sits block asks shaped t (procedure_begins env asks at known) in
    let l : Later env next = later_then env shaped next (shapes_later more env) (block_later block asks shaped t) in
    let new : block_at next.blocks n ≡ block = new_block block asks shaped t in
    let up : (block_at next.blocks n).up ≡ here env = ap (λ b. b.up) new in
    let called : is_called (block_at next.blocks n).kind ≡ true = ap (λ b. is_called b.kind) new ∙ kind_called (heading_result asks) in
    let there : n < length next.blocks = omega (arith, length-append env.blocks (block ∷ [])) in
    let round_it : IsTrue (is_round (block_at next.blocks n).up env.around) = ap (λ k. is_round k env.around) up ∙ here_round env.around r.inside in
    bind (λ e. Onward export next e × ((declared e.scopes name.text ≡ Some (entity.Procedure n)) × (e.begun ≡ env.begun))) (Entered n export name env)
    (declare export name (entity.Procedure n) next) _
    (also (Onward export next) (λ e. (declared e.scopes name.text ≡ Some (entity.Procedure n)) × (e.begun ≡ env.begun))
    (declare export name (entity.Procedure n) next)
    (declare_onward export name (entity.Procedure n) next u (there, called, round_it))
    (declare_means export name (entity.Procedure n) next r.scoped))
    (λ outer both.
    let o : Onward export next outer = both.0 in
    let m = o.later in
    let longer = m.longer in
    let g = m.each n there in
    let chain : IsChain next.blocks (n ∷ env.around) = stands_here next.blocks n env.around r.inside up there u.nested.chain in
    let inner : NamesFit (Names next.types next.blocks next.headings next.shapes (n ∷ env.around)) scope.names =
    scope_given next.types next.blocks next.headings next.shapes n asks (n ∷ env.around) (here_round (n ∷ env.around) (omega arith))
    (new_heading block asks shaped t) (ap (λ b. b.parameters) new) (ap (λ b. b.result) new) scope.names names in
    record {
      outer = outer;
      scope = scope;
      is = refl;
      names =
          subst (λ a. NamesFit (Names outer.types outer.blocks outer.headings outer.shapes (n ∷ a)) scope.names) (sym o.around)
          (names_fit (Names next.types next.blocks next.headings next.shapes (n ∷ env.around))
          (Names outer.types outer.blocks outer.headings outer.shapes (n ∷ env.around))
          (names_later next outer u m (n ∷ env.around) chain) scope.names inner);
      sits = o.sits;
      later = later_then env next outer l m;
      around = o.around;
      begun = both.1.1;
      outermost = o.outer;
      farther = o.farther;
      kept = o.kept;
      kept_outside = o.kept_outside;
      scopes = o.scopes;
      tidy = λ b further opened k. o.tidy (begun_later env next l refl (λ x e i. i) env.begun b) further (put_tidy env more asks s l further opened k);
      there = omega (arith, there, longer);
      inside = g.up ∙ up;
      no_program = omega (arith, at);
      called = ap is_called g.kind ∙ called;
      means = both.1.0;
    })

pub begin_entered : (export : Bool) (h : text.Heading) (env : Environment) → Sits env → Ready env
    → Gives (Entered (length env.blocks) export (own_name h) env) (begin_procedure export h env)
begin_entered export h env s r =
    let n : ℕ = length env.blocks in
    let end : Headed → Judged Environment = λ headed. round (declare export (own_name h) (entity.Procedure n))
    (with_heading (kind_of (heading_result headed.asks)) headed) in
    bind (Heads env n) (Entered n export (own_name h) env) (heading_parts n h env) end
    (heading_heads n h env (types_known env s))
    (λ headed k. subst (λ x. Gives (Entered n export (own_name h) env) (end x)) (sym k.is)
    (entered_at export (own_name h) env k.scope k.more headed.asks s r k.names k.known))

-- ---- a procedure that was begun

farther_exported : (name : List ℕ) (e : Entity) (scopes : List Scope) → outside (outside (exported name e scopes)) ≡ outside (outside scopes)
farther_exported name e [] = refl
farther_exported name e (scope ∷ []) = refl
farther_exported name e (scope ∷ (next ∷ outer)) = refl

declared_exported : (name : List ℕ) (e : Entity) (scopes : List Scope) (x : List ℕ) → declared (exported name e scopes) x ≡ declared scopes x
declared_exported name e [] x = refl
declared_exported name e (scope ∷ outer) x = refl

kept_exported : (name : List ℕ) (new : Entity) (scopes : List Scope) → is_some (declared (outside scopes) name) ≡ false →
    (x : List ℕ) (e : Entity) → declared (outside scopes) x ≡ Some e → declared (outside (exported name new scopes)) x ≡ Some e
kept_exported name new [] fresh x e k = k
kept_exported name new (scope ∷ outer) fresh x e k = with_name_keeps name new outer fresh x e k

-- what gives a name to the scope round the innermost
abbrev given_out : Name → Entity → Environment → Environment
given_out name means env = record env { scopes = exported name.text means env.scopes }

abbrev with_scope : Scope → Environment → Environment
with_scope scope env = record env { scopes = scope ∷ env.scopes }

outside_gives : (name : Name) (means : Entity) (env : Environment)
    → Gives (λ e. (e ≡ given_out name means env) × (is_some (declared (outside env.scopes) name.text) ≡ false)) (give_outside name means env)
outside_gives name means env = stated (is_some (declared (outside env.scopes) name.text)) refl
  where
    stated : (b : Bool) → is_some (declared (outside env.scopes) name.text) ≡ b →
        Gives (λ e. (e ≡ given_out name means env) × (is_some (declared (outside env.scopes) name.text) ≡ false))
        (if b then faults kind.Ambiguous name.line else gives (given_out name means env))
    stated true e = tt
    stated false e = (refl, e)

module _ (env : Environment) (scope : Scope) (more : List Heading) (asks : Heading) (name : Name) (b : Begun) (s : Sits env) (r : Ready env)
    (f : BegunFits env.scopes env.blocks (here env) b) (same : heading_at env.headings b.block ≡ asks) (named : b.name.text ≡ name.text)
    (names : NamesFit (Given b.block (first_parameter (heading_result asks)) (heading_formals asks) (env.shapes ++ more)) scope.names) where
  shaped : Environment
  shaped = record env { shapes = env.shapes ++ more }

  means_it : declared env.scopes name.text ≡ Some (entity.Procedure b.block)
  means_it = ap (declared env.scopes) (sym named) ∙ f.means

  inner_names : NamesFit (Names env.types env.blocks env.headings (env.shapes ++ more) (b.block ∷ env.around)) scope.names
  inner_names =
      let stands = s.stand b.block f.there in
      scope_given env.types env.blocks env.headings (env.shapes ++ more) b.block asks (b.block ∷ env.around) (here_round (b.block ∷ env.around) (omega arith))
      same
      (stands.parameters ∙ ap (λ x. parameters_of (heading_formals x)) same) (stands.result ∙ ap heading_result same) scope.names names

  post_at : (export : Bool) → Gives (Entered b.block export name env) (post_export export name b.block (headed_env env scope more))
  unfolding shaped
  post_at false = record {
    outer = shaped;
    scope = scope;
    is = refl;
    names = inner_names;
    sits = shapes_sit more env s;
    later = shapes_later more env;
    around = refl;
    begun = refl;
    outermost = λ e. refl;
    farther = refl;
    kept = λ x e k. k;
    kept_outside = λ x e k. k;
    scopes = refl;
    tidy = λ a further opened k. k;
    there = f.there;
    inside = f.inside;
    no_program = f.no_program;
    called = f.called;
    means = means_it;
  }
  post_at true =
      let means : Entity = entity.Procedure b.block in
      let t : Sits shaped = shapes_sit more env s in
      let round_it : IsTrue (is_round (block_at env.blocks b.block).up env.around) = ap (λ k. is_round k env.around) f.inside
      ∙ here_round env.around r.inside in
      bind (λ e. (e ≡ given_out name means shaped) × (is_some (declared (outside env.scopes) name.text) ≡ false)) (Entered b.block true name env)
      (give_outside name means shaped) _
      (outside_gives name means shaped)
      (λ e is.
      record {
        outer = given_out name means shaped;
        scope = scope;
        is = ap (with_scope scope) is.0;
        names = inner_names;
        sits = scopes_sit (exported name.text means env.scopes) shaped t
            (exported_fits (EntitySits shaped) name.text means env.scopes (f.there, f.called, round_it) t.names);
        later = shapes_later more env;
        around = refl;
        begun = refl;
        outermost = λ e. absurd (false≢true (sym e));
        farther = farther_exported name.text means env.scopes;
        kept = λ x e k. declared_exported name.text means env.scopes x ∙ k;
        kept_outside = kept_exported name.text means env.scopes is.1;
        scopes = exported_length name.text means env.scopes;
        tidy = λ a further opened k. k;
        there = f.there;
        inside = f.inside;
        no_program = f.no_program;
        called = f.called;
        means = declared_exported name.text means env.scopes name.text ∙ means_it;
      })

-- a procedure of a name that is begun
pub found_begun : (P : Begun → Type 0) (begun : List Begun) (name : List ℕ) → All P begun → IfSome (begun_named begun name) (λ b. P b × (b.name.text ≡ name))
found_begun P [] name all = tt
found_begun P (b ∷ bs) name all = stated (found_begun P bs name (λ k d h. all (suc k) d (omega (arith, h)))) (bytes_eq b.name.text name) refl
  where
    stated : IfSome (begun_named bs name) (λ b. P b × (b.name.text ≡ name)) → (same : Bool) → bytes_eq b.name.text name ≡ same
        → IfSome (if same then Some b else begun_named bs name) (λ b. P b × (b.name.text ≡ name))
    stated rest true e = (all 0 b (omega arith), (bytes_eq-Decides b.name.text name).0 e)
    stated rest false e = rest

post_found : (export : Bool) (h : text.Heading) (env : Environment) → Sits env → Ready env → (found : Option Begun) →
    IfSome found (λ b. BegunFits env.scopes env.blocks (here env) b × (b.name.text ≡ (own_name h).text)) →
    Gives (Entered (block_of env found) export (own_name h) env)
    (heading_parts (block_of env found) h env >>= λ headed. completes found (own_name h) headed >>= λ _. post_export export (own_name h) (block_of env found)
    headed.env)
post_found export h env s r None f = behind (Entered (length env.blocks) export (own_name h) env) (heading_parts (length env.blocks) h env) _ (λ headed. tt)
post_found export h env s r (Some b) f =
    bind (Heads env b.block) (Entered b.block export (own_name h) env) (heading_parts b.block h env) _ (heading_heads b.block h env (types_known env s))
    (λ headed k.
    ruled (Entered b.block export (own_name h) env) (same_heading (heading_at headed.env.headings b.block) headed.asks) kind.Split (own_name h).line _ (λ same.
    subst (λ x. Gives (Entered b.block export (own_name h) env) (post_export export (own_name h) b.block x.env)) (sym k.is)
    (post_at env k.scope k.more headed.asks (own_name h) b s r f.0
    (ap (λ x. heading_at x.env.headings b.block) (sym k.is) ∙ same_heading_is (heading_at headed.env.headings b.block) headed.asks same)
    f.1 k.names export)))

pub post_entered : (export : Bool) (h : text.Heading) (env : Environment) → Sits env → Ready env → AllBegun env →
    Gives (Entered (block_of env (begun_named env.begun (own_name h).text)) export (own_name h) env) (begin_post export h env)
post_entered export h env s r all =
    post_found export h env s r (begun_named env.begun (own_name h).text)
    (found_begun (BegunFits env.scopes env.blocks (here env)) env.begun (own_name h).text all)
