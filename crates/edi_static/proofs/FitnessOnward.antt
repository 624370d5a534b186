-- What declarations keep, from one place of a block to a later one.
use Rattle.std.proofs.Common.{◌≡◌, ℕ, zero, suc, ◌<◌, ◌≤◌, Bool, true, false, cond, ◌||◌, ◌&&◌, ◌==◌, if◌then◌else◌, List, [], ◌∷◌, length, get_or, set, inl}
use Rattle.std.proofs.Common.{inr, Option, Some, None, IsTrue, is_some, All, refl, sym, ap, ◌∙◌, subst, arith}
use Rattle.std.specs.Str.{bytes_eq}
use Rattle.std.specs.List.{list_any}
use Rattle.std.proofs.lemmas.Bool.{false≢true, cases_eq}
use Rattle.std.proofs.lemmas.Slice.Eq.{bytes_eq-Decides}
use Rattle.std.proofs.lemmas.List.{get_or-set_other, length-set}
use Rattle.edi_scope.specs.declared.entity.Entity.{Entity}
use Rattle.edi_scope.specs.declared.entity.Entity.TheVariants as entity
use Rattle.edi_scope.specs.Scope.{Scope, meaning, declared, outside, with_name, exported}
use Rattle.edi_tree.specs.declared.names.Name.{Name}
use Rattle.edi_unit.specs.Types.{Shape, greatest_size, fields_of}
use Rattle.edi_unit.specs.TypeTables.{IsDeclarable}
use Rattle.edi_unit.specs.Tree.{Block}
use Rattle.edi_unit.specs.Need.{no_block, block_at, slots, need}
use Rattle.edi_unit.specs.Fits.{is_called, ShapeFits, KindFits, ActsFit, SlotIsKnown}
use Rattle.edi_static.specs.declared.faults.StaticKind.{StaticKind}
use Rattle.edi_static.specs.Judged.{Judged, gives, faults}
use Rattle.edi_static.specs.Environment.{Begun, Environment, here, declare, with_type, set_block}
use Rattle.edi_static.specs.Proper.{ScopesFit}
use Rattle.edi_static.proofs.Judging.{Gives}
use Rattle.edi_static.proofs.Fitness.{headings_of, EntitySits, is_round, Sits}
use Rattle.edi_static.proofs.FitnessGrowth.{BlockGrows}
use Rattle.edi_static.proofs.FitnessLater.{Later, later_same, later_then, need_later}
use Rattle.edi_static.proofs.FitnessChanges.{scopes_sit, set_later, set_sits, type_later, type_sits}

-- ---- blocks whose need is told

-- what a block says that it needs is its need, at most 65,535 words
pub record Closed (types : List Shape) (blocks : List Block) (n : ℕ) : Type 0 where
  pub needs : (block_at blocks n).need ≡ need types blocks n
  pub small : (block_at blocks n).need ≤ greatest_size

abbrev pub is_begun : ℕ → List Begun → Bool
is_begun n begun = list_any (λ b. b.block == n) begun

-- the blocks whose end is still to come: those further out, those round the place, and those of procedures that are begun
abbrev pub is_open : (further : ℕ → Bool) → Environment → ℕ → Bool
is_open further env n = further n || (is_round n env.around || is_begun n env.begun)

abbrev pub Tidy : (ℕ → Bool) → Environment → Type 0
Tidy some env = (n : ℕ) → n < length env.blocks → some n ≡ false → Closed env.types env.blocks n

pub closed_later : (env next : Environment) → Sits env → Later env next → (n : ℕ) → n < length env.blocks → block_at next.blocks n ≡ block_at env.blocks n
    → Closed env.types env.blocks n → Closed next.types next.blocks n
closed_later env next s l n h same c = record {
  needs = ap (λ b. b.need) same ∙ c.needs ∙ sym (need_later env next s l n h (ap slots same) (ap (λ b. b.body) same));
  small = subst (λ b. b.need ≤ greatest_size) (sym same) c.small;
}

-- ---- procedures that are begun

pub record BegunFits (scopes : List Scope) (blocks : List Block) (here : ℕ) (b : Begun) : Type 0 where
  pub means : declared scopes b.name.text ≡ Some (entity.Procedure b.block)
  pub there : b.block < length blocks
  pub inside : (block_at blocks b.block).up ≡ here
  pub no_program : 0 < b.block
  pub called : IsTrue (is_called (block_at blocks b.block).kind)

abbrev pub AllBegun : Environment → Type 0
AllBegun env = All (BegunFits env.scopes env.blocks (here env)) env.begun

pub begun_later : (env next : Environment) → Later env next → next.around ≡ env.around
    → ((name : List ℕ) (e : Entity) → declared env.scopes name ≡ Some e → declared next.scopes name ≡ Some e) →
    (begun : List Begun) → All (BegunFits env.scopes env.blocks (here env)) begun → All (BegunFits next.scopes next.blocks (here next)) begun
begun_later env next l around kept begun all i d h =
    let b = all i d h in
    let longer = l.longer in
    let there = b.there in
    record {
      means = kept _ _ b.means;
      there = omega (arith, there, longer);
      inside = (l.each _ b.there).up ∙ b.inside ∙ ap (λ a. get_or a 0 0) (sym around);
      no_program = b.no_program;
      called = ap is_called (l.each _ b.there).kind ∙ b.called;
    }

-- ---- from one place to another

pub record Onward (export : Bool) (env next : Environment) : Type 0 where
  pub sits : Sits next
  pub later : Later env next
  pub around : next.around ≡ env.around
  -- the scopes round the innermost are as they were, or where the names are exported those round the next
  pub outer : export ≡ false → outside next.scopes ≡ outside env.scopes
  pub farther : outside (outside next.scopes) ≡ outside (outside env.scopes)
  pub kept : (name : List ℕ) (e : Entity) → declared env.scopes name ≡ Some e → declared next.scopes name ≡ Some e
  pub kept_outside : (name : List ℕ) (e : Entity) → declared (outside env.scopes) name ≡ Some e → declared (outside next.scopes) name ≡ Some e
  pub begun : AllBegun env → AllBegun next
  pub tidy : AllBegun env → (further : ℕ → Bool) → Tidy (is_open further env) env → Tidy (is_open further next) next
  pub scopes : length next.scopes ≡ length env.scopes

pub onward_then : (export : Bool) (a b c : Environment) → Onward export a b → Onward export b c → Onward export a c
onward_then export a b c g h = record {
  sits = h.sits;
  later = later_then a b c g.later h.later;
  around = h.around ∙ g.around;
  outer = λ e. h.outer e ∙ g.outer e;
  farther = h.farther ∙ g.farther;
  kept = λ name e k. h.kept name e (g.kept name e k);
  kept_outside = λ name e k. h.kept_outside name e (g.kept_outside name e k);
  begun = λ k. h.begun (g.begun k);
  tidy = λ b further k. h.tidy (g.begun b) further (g.tidy b further k);
  scopes = h.scopes ∙ g.scopes;
}

-- where no name is declared
pub scopes_stay : (export : Bool) (env next : Environment) → Sits next → Later env next → next.around ≡ env.around → next.scopes ≡ env.scopes →
    (AllBegun env → AllBegun next) → (AllBegun env → (further : ℕ → Bool) → Tidy (is_open further env) env → Tidy (is_open further next) next) →
    Onward export env next
scopes_stay export env next sits later around same begun tidy = record {
  sits = sits;
  later = later;
  around = around;
  outer = λ e. ap outside same;
  farther = ap (λ ss. outside (outside ss)) same;
  kept = λ name e k. ap (λ ss. declared ss name) same ∙ k;
  kept_outside = λ name e k. ap (λ ss. declared (outside ss) name) same ∙ k;
  begun = begun;
  tidy = tidy;
  scopes = ap length same;
}

pub onward_same : (export : Bool) (env : Environment) → Sits env → Onward export env env
onward_same export env s = scopes_stay export env env s (later_same env) refl refl (λ k. k) (λ b further k. k)

pub onward_any : (export : Bool) (a b : Environment) → Onward false a b → Onward export a b
onward_any export a b g = record {
  sits = g.sits;
  later = g.later;
  around = g.around;
  outer = λ e. g.outer refl;
  farther = g.farther;
  kept = g.kept;
  kept_outside = g.kept_outside;
  begun = g.begun;
  tidy = g.tidy;
  scopes = g.scopes;
}

-- ---- a name is declared

-- behind the test that a name is new
pub new_gives : {A : Type 0} (P : A → Type 0) (a m b : Bool) (why : StaticKind) (line : ℕ) (x : A) → (a ≡ false → (m ≡ true → b ≡ false) → P x)
    → Gives P (if a || (m && b) then faults why line else gives x)
new_gives P true m b why line x h = tt
new_gives P false true true why line x h = tt
new_gives P false true false why line x h = h refl (λ e. refl)
new_gives P false false b why line x h = h refl (λ e. absurd (false≢true e))

pub with_name_fits : (P : Entity → Type 0) (name : List ℕ) (e : Entity) (scopes : List Scope) → P e → ScopesFit P scopes → ScopesFit P (with_name name e scopes)
with_name_fits P name e [] p h = tt
with_name_fits P name e (scope ∷ outer) p h = ((p, h.0), h.1)

pub exported_fits : (P : Entity → Type 0) (name : List ℕ) (e : Entity) (scopes : List Scope) → P e → ScopesFit P scopes → ScopesFit P (exported name e scopes)
exported_fits P name e [] p h = tt
exported_fits P name e (scope ∷ outer) p h = (h.0, with_name_fits P name e outer p h.1)

-- the scopes after a declaration
abbrev pub scopes_with : Bool → List ℕ → Entity → List Scope → List Scope
scopes_with export name e scopes = if export then exported name e (with_name name e scopes) else with_name name e scopes

scopes_with_fit : (export : Bool) (P : Entity → Type 0) (name : List ℕ) (e : Entity) (scopes : List Scope) → P e → ScopesFit P scopes
    → ScopesFit P (scopes_with export name e scopes)
scopes_with_fit true P name e scopes p h = exported_fits P name e (with_name name e scopes) p (with_name_fits P name e scopes p h)
scopes_with_fit false P name e scopes p h = with_name_fits P name e scopes p h

-- a name that is new hides no other
bytes_same : (x y : List ℕ) → bytes_eq x y ≡ true → x ≡ y
bytes_same x y e = (bytes_eq-Decides x y).0 e

one_more : (same : Bool) (x name : List ℕ) (names : List (List ℕ × Entity)) (e new : Entity) → bytes_eq x name ≡ same → is_some (meaning names name) ≡ false →
    meaning names x ≡ Some e → cond same (Some new) (meaning names x) ≡ Some e
one_more true x name names e new is fresh k =
    let same : x ≡ name = bytes_same x name is in
    absurd (false≢true (sym fresh ∙ ap (λ n. is_some (meaning names n)) (sym same) ∙ ap is_some k))
one_more false x name names e new is fresh k = k

pub with_name_keeps : (name : List ℕ) (new : Entity) (scopes : List Scope) → is_some (declared scopes name) ≡ false →
    (x : List ℕ) (e : Entity) → declared scopes x ≡ Some e → declared (with_name name new scopes) x ≡ Some e
with_name_keeps name new [] fresh x e k = k
with_name_keeps name new (scope ∷ outer) fresh x e k = one_more (bytes_eq x name) x name scope.names e new refl fresh k

outer_with : (export : Bool) (name : List ℕ) (new : Entity) (scopes : List Scope) → export ≡ false → outside (scopes_with export name new scopes) ≡ outside
    scopes
outer_with true name new scopes e = absurd (false≢true (sym e))
outer_with false name new [] e = refl
outer_with false name new (scope ∷ outer) e = refl

farther_with : (export : Bool) (name : List ℕ) (new : Entity) (scopes : List Scope) → outside (outside (scopes_with export name new scopes)) ≡ outside
    (outside scopes)
farther_with true name new [] = refl
farther_with true name new (scope ∷ []) = refl
farther_with true name new (scope ∷ (next ∷ outer)) = refl
farther_with false name new [] = refl
farther_with false name new (scope ∷ outer) = refl

kept_with : (export : Bool) (name : List ℕ) (new : Entity) (scopes : List Scope) → is_some (declared scopes name) ≡ false →
    (x : List ℕ) (e : Entity) → declared scopes x ≡ Some e → declared (scopes_with export name new scopes) x ≡ Some e
kept_with true name new [] fresh x e k = k
kept_with true name new (scope ∷ outer) fresh x e k = with_name_keeps name new (scope ∷ outer) fresh x e k
kept_with false name new scopes fresh x e k = with_name_keeps name new scopes fresh x e k

kept_outside_with : (export : Bool) (name : List ℕ) (new : Entity) (scopes : List Scope) → (export ≡ true → is_some (declared (outside scopes) name) ≡ false) →
    (x : List ℕ) (e : Entity) → declared (outside scopes) x ≡ Some e → declared (outside (scopes_with export name new scopes)) x ≡ Some e
kept_outside_with true name new [] fresh x e k = k
kept_outside_with true name new (scope ∷ outer) fresh x e k = with_name_keeps name new outer (fresh refl) x e k
kept_outside_with false name new [] fresh x e k = k
kept_outside_with false name new (scope ∷ outer) fresh x e k = k

with_name_length : (name : List ℕ) (new : Entity) (scopes : List Scope) → length (with_name name new scopes) ≡ length scopes
with_name_length name new [] = refl
with_name_length name new (scope ∷ outer) = refl

pub exported_length : (name : List ℕ) (new : Entity) (scopes : List Scope) → length (exported name new scopes) ≡ length scopes
exported_length name new [] = refl
exported_length name new (scope ∷ outer) = ap suc (with_name_length name new outer)

same_length : (export : Bool) (name : List ℕ) (new : Entity) (scopes : List Scope) → length (scopes_with export name new scopes) ≡ length scopes
same_length true name new scopes = exported_length name new (with_name name new scopes) ∙ with_name_length name new scopes
same_length false name new scopes = with_name_length name new scopes

-- the name means it there
means_with : (export : Bool) (name : List ℕ) (new : Entity) (scopes : List Scope) → 0 < length scopes → declared (scopes_with export name new scopes) name
    ≡ Some new
means_with export name new [] h = absurd (omega (arith, h))
means_with true name new (scope ∷ outer) h = ap (λ b. cond b (Some new) (meaning scope.names name)) ((bytes_eq-Decides name name).1 refl)
means_with false name new (scope ∷ outer) h = ap (λ b. cond b (Some new) (meaning scope.names name)) ((bytes_eq-Decides name name).1 refl)

pub declare_means : (export : Bool) (name : Name) (means : Entity) (env : Environment) → 0 < length env.scopes
    → Gives (λ e. (declared e.scopes name.text ≡ Some means) × (e.begun ≡ env.begun)) (declare export name means env)
declare_means export name means env h =
    new_gives (λ e. (declared e.scopes name.text ≡ Some means) × (e.begun ≡ env.begun)) (is_some (declared env.scopes name.text)) export
    (is_some (declared (outside env.scopes) name.text)) _ _ _
    (λ fresh outer. (means_with export name.text means env.scopes h, refl))

pub declare_onward : (export : Bool) (name : Name) (means : Entity) (env : Environment) → Sits env → EntitySits env means
    → Gives (Onward export env) (declare export name means env)
declare_onward export name means env s h =
    new_gives (Onward export env) (is_some (declared env.scopes name.text)) export (is_some (declared (outside env.scopes) name.text)) _ _ _
    (λ fresh fresh_outside.
    let scopes : List Scope = scopes_with export name.text means env.scopes in
    let kept : (x : List ℕ) (e : Entity) → declared env.scopes x ≡ Some e → declared (scopes_with export name.text means env.scopes) x ≡ Some e =
    kept_with export name.text means env.scopes fresh in
    record {
      sits = scopes_sit scopes env s (scopes_with_fit export (EntitySits env) name.text means env.scopes h s.names);
      later = later_same env;
      around = refl;
      outer = outer_with export name.text means env.scopes;
      farther = farther_with export name.text means env.scopes;
      kept = kept;
      kept_outside = kept_outside_with export name.text means env.scopes fresh_outside;
      begun = λ k. begun_later env (record env { scopes = scopes }) (later_same env) refl kept env.begun k;
      tidy = λ b further k. k;
      scopes = same_length export name.text means env.scopes;
    })

-- ---- a type more, and a block that is changed

pub type_onward : (export : Bool) (shape : Shape) (names : List (List ℕ)) (env : Environment) → Sits env → IsDeclarable env.types shape
    → ShapeFits env.types shape →
    length names ≤ length (fields_of shape) → Onward export env (with_type shape names env)
type_onward export shape names env s new fits fields =
    let next : Environment = with_type shape names env in
    let l : Later env next = type_later shape names env in
    scopes_stay export env next (type_sits shape names env s new fits fields) l refl refl (λ k. k)
    (λ b further k n h o. closed_later env next s l n h refl (k n h o))

-- a block round the place is open
opened : (further : Bool) (n : ℕ) (r b : Bool) → r ≡ true → (further || (r || b)) ≡ false → ⊥
opened true n r b e h = false≢true (sym h)
opened false n true b e h = false≢true (sym h)
opened false n false b e h = false≢true e

pub set_onward : (export : Bool) (at : ℕ) (b : Block) (env : Environment) → Sits env → at < length env.blocks → IsTrue (is_round at env.around)
    → BlockGrows (block_at env.blocks at) b →
    KindFits b.kind at b → All (SlotIsKnown env.types) (slots b) → ActsFit env.types env.blocks (headings_of env.headings) at b.body
    → Onward export env (set_block at b env)
set_onward export at b env s inside round g kind known body =
    let next : Environment = set_block at b env in
    let l : Later env next = set_later at b env inside g in
    scopes_stay export env next (set_sits at b env s inside g kind known body) l refl refl
    (λ k. begun_later env next l refl (λ x e i. i) env.begun k) (λ begun further k. tidy l further k)
  where
    tidy : Later env (set_block at b env) → (further : ℕ → Bool) → Tidy (is_open further env) env → Tidy (is_open further env) (set_block at b env)
    tidy l further k n h o =
        let before : n < length env.blocks = let same = length-set env.blocks at b in omega (arith, h, same) in
        elim (cases_eq n at) [
          | inl e ↦ absurd (opened (further n) n (is_round n env.around) (is_begun n env.begun) (ap (λ m. is_round m env.around) e ∙ round) o)
          | inr other ↦ closed_later env (set_block at b env) s l n before (get_or-set_other env.blocks at n b no_block other) (k n before o)
        ]
