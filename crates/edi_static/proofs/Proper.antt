-- Whatever a name means stays known.
use Rattle.std.proofs.Common.{◌≡◌, ℕ, ◌<◌, ◌+◌, Bool, true, false, cond, List, [], ◌∷◌, ◌++◌, length, set, get_or, map, Option, Some, None, IsTrue, IfSome}
use Rattle.std.proofs.Common.{sym, ap, subst, ◌∙◌, arith}
use Rattle.std.proofs.lemmas.List.{length-append, get_or_append_left, length-set, map-append, map-set, get_or-map}
use Rattle.std.specs.Option.{option_or}
use Rattle.std.specs.Str.{bytes_eq}
use Rattle.edi_scope.specs.declared.entity.Entity.{Entity}
use Rattle.edi_scope.specs.declared.entity.Entity.TheVariants as entity
use Rattle.edi_scope.specs.Scope.{Scope, meaning, visible, outside}
use Rattle.edi_unit.specs.Types.{Shape, int, is_elementary_shape}
use Rattle.edi_unit.specs.TypeTables.{IsTypeTable}
use Rattle.edi_unit.specs.Tree.{Block}
use Rattle.edi_unit.specs.Headings.{Heading}
use Rattle.edi_static.specs.Environment.{Begun, Environment, enter, with_type, with_block, with_shape, set_block}
use Rattle.edi_static.specs.Headings.{leave}
use Rattle.edi_static.specs.Proper.{Proper, EntityFits, NumbersFit, NamesFit, ScopesFit}

-- ---- lists of names

pub names_fit : (P Q : Entity → Type 0) → ((e : Entity) → P e → Q e) → (names : List (List ℕ × Entity)) → NamesFit P names → NamesFit Q names
names_fit P Q f [] h = tt
names_fit P Q f (named ∷ names) h = (f named.1 h.0, names_fit P Q f names h.1)

pub scopes_fit : (P Q : Entity → Type 0) → ((e : Entity) → P e → Q e) → (scopes : List Scope) → ScopesFit P scopes → ScopesFit Q scopes
scopes_fit P Q f [] h = tt
scopes_fit P Q f (scope ∷ outer) h = (names_fit P Q f scope.names h.0, scopes_fit P Q f outer h.1)

pub outside_fit : (P : Entity → Type 0) (scopes : List Scope) → ScopesFit P scopes → ScopesFit P (outside scopes)
outside_fit P [] h = h
outside_fit P (scope ∷ outer) h = h.1

pick : (P : Entity → Type 0) (b : Bool) (e : Entity) (o : Option Entity) → P e → IfSome o P → IfSome (cond b (Some e) o) P
pick P true e o p h = p
pick P false e o p h = h

meaning_fits : (P : Entity → Type 0) (names : List (List ℕ × Entity)) (name : List ℕ) → NamesFit P names → IfSome (meaning names name) P
meaning_fits P [] name h = tt
meaning_fits P (named ∷ names) name h = pick P (bytes_eq name named.0) named.1 (meaning names name) h.0 (meaning_fits P names name h.1)

either : (P : Entity → Type 0) (o p : Option Entity) → IfSome o P → IfSome p P → IfSome (option_or o p) P
either P (Some e) p h k = h
either P None p h k = k

pub visible_fits : (P : Entity → Type 0) (scopes : List Scope) (name : List ℕ) → ScopesFit P scopes → IfSome (visible scopes name) P
visible_fits P [] name h = tt
visible_fits P (scope ∷ outer) name h =
    either P (meaning scope.names name) (visible outer name) (meaning_fits P scope.names name h.0) (visible_fits P outer name h.1)

-- ---- more types, blocks and headings

more_types : (types more : List Shape) (blocks shapes : ℕ) (e : Entity) → NumbersFit types blocks shapes e → NumbersFit (types ++ more) blocks shapes e
more_types types more blocks shapes (entity.Constant of n) h =
    (omega (arith, h.0, length-append types more), subst (λ s. IsTrue (is_elementary_shape s)) (sym (get_or_append_left types more int of h.0)) h.1)
more_types types more blocks shapes (entity.Types t) h = omega (arith, h, length-append types more)
more_types types more blocks shapes (entity.Variable block variable of) h = omega (arith, h, length-append types more)
more_types types more blocks shapes (entity.Procedure block) h = h
more_types types more blocks shapes (entity.Formal block variable shape) h = h
more_types types more blocks shapes entity.Halt h = tt

more_blocks : (types : List Shape) (blocks more shapes : ℕ) (e : Entity) → blocks < more → NumbersFit types blocks shapes e → NumbersFit types more shapes e
more_blocks types blocks more shapes (entity.Constant of n) lt h = h
more_blocks types blocks more shapes (entity.Types t) lt h = h
more_blocks types blocks more shapes (entity.Variable block variable of) lt h = h
more_blocks types blocks more shapes (entity.Procedure block) lt h = omega (arith, h, lt)
more_blocks types blocks more shapes (entity.Formal block variable shape) lt h = h
more_blocks types blocks more shapes entity.Halt lt h = tt

more_shapes : (types : List Shape) (blocks shapes more : ℕ) (e : Entity) → shapes < more → NumbersFit types blocks shapes e → NumbersFit types blocks more e
more_shapes types blocks shapes more (entity.Constant of n) lt h = h
more_shapes types blocks shapes more (entity.Types t) lt h = h
more_shapes types blocks shapes more (entity.Variable block variable of) lt h = h
more_shapes types blocks shapes more (entity.Procedure block) lt h = h
more_shapes types blocks shapes more (entity.Formal block variable shape) lt h = omega (arith, h, lt)
more_shapes types blocks shapes more entity.Halt lt h = tt

one_longer : {A : Type 0} (xs : List A) (x : A) → length xs < length (xs ++ x ∷ [])
one_longer xs x = omega (arith, length-append xs (x ∷ []))

pub with_type_proper : (shape : Shape) (names : List (List ℕ)) (env : Environment) → IsTypeTable (env.types ++ shape ∷ []) → Proper env
    → Proper (with_type shape names env)
with_type_proper shape names env table h = record {
  table = table;
  entities =
      scopes_fit (EntityFits env) (EntityFits (with_type shape names env)) (more_types env.types (shape ∷ []) (length env.headings) (length env.shapes))
      env.scopes h.entities;
  headings = h.headings;
}

pub with_block_proper : (block : Block) (asks : Heading) (env : Environment) → Proper env → Proper (with_block block asks env)
with_block_proper block asks env h = record {
  table = h.table;
  entities =
      scopes_fit (EntityFits env) (EntityFits (with_block block asks env))
      (λ e. more_blocks env.types (length env.headings) (length (env.headings ++ asks ∷ [])) (length env.shapes) e (one_longer env.headings asks))
      env.scopes h.entities;
  headings = length-append env.headings (asks ∷ []) ∙ ap (λ n. n + 1) h.headings ∙ sym (length-append env.blocks (block ∷ []));
}

pub with_shape_proper : (asks : Heading) (env : Environment) → Proper env → Proper (with_shape asks env)
with_shape_proper asks env h = record {
  table = h.table;
  entities =
      scopes_fit (EntityFits env) (EntityFits (with_shape asks env))
      (λ e. more_shapes env.types (length env.headings) (length env.shapes) (length (env.shapes ++ asks ∷ [])) e (one_longer env.shapes asks))
      env.scopes h.entities;
  headings = h.headings;
}

pub set_block_proper : (n : ℕ) (block : Block) (env : Environment) → Proper env → Proper (set_block n block env)
set_block_proper n block env h = record {
  table = h.table;
  entities = h.entities;
  headings = h.headings ∙ sym (length-set env.blocks n block);
}

pub around_proper : (around : List ℕ) (begun : List Begun) (env : Environment) → Proper env → Proper (record env { around = around; begun = begun })
around_proper around begun env h = record { table = h.table; entities = h.entities; headings = h.headings }

-- ---- scopes

pub enter_proper : (m : Bool) (env : Environment) → Proper env → Proper (enter m env)
enter_proper m env h = record { table = h.table; entities = (tt, h.entities); headings = h.headings }

pub leave_proper : (env : Environment) → Proper env → Proper (leave env)
leave_proper env h = record { table = h.table; entities = outside_fit (EntityFits env) env.scopes h.entities; headings = h.headings }

-- ---- used names

-- what a name means is known
pub means_known : (env : Environment) (name : List ℕ) (e : Entity) → Some e ≡ visible env.scopes name → Proper env → EntityFits env e
means_known env name e is h = subst (λ o. IfSome o (EntityFits env)) (sym is) (visible_fits (EntityFits env) env.scopes name h.entities)

-- ---- at first

-- ---- tables of the code

pub pushed : {A B : Type 0} (f : A → B) (new old : List A) (x : A) → new ≡ old ++ x ∷ [] → map f new ≡ map f old ++ f x ∷ []
pushed f new old x e = ap (map f) e ∙ map-append f old (x ∷ [])

pub types_proper : (types : List Shape) (fields : List (List (List ℕ))) (shape : Shape) (env : Environment) → types ≡ env.types ++ shape ∷ []
    → IsTypeTable types → Proper env → Proper (record env { types = types; fields = fields })
types_proper types fields shape env e table h =
    let one : Proper (with_type shape [] env) = with_type_proper shape [] env (subst IsTypeTable e table) h in
    subst (λ ts. Proper (record env { types = ts; fields = fields })) (sym e) (record { table = one.table; entities = one.entities; headings = one.headings })

pub blocks_proper : (blocks : List Block) (headings : List Heading) (block : Block) (asks : Heading) (env : Environment) → blocks ≡ env.blocks ++ block ∷ []
    → headings ≡ env.headings ++ asks ∷ [] → Proper env → Proper (record env { blocks = blocks; headings = headings })
blocks_proper blocks headings block asks env b a h =
    subst (λ bs. Proper (record env { blocks = bs; headings = headings })) (sym b)
    (subst (λ hs. Proper (record env { blocks = env.blocks ++ block ∷ []; headings = hs })) (sym a) (with_block_proper block asks env h))

pub shapes_proper : (shapes : List Heading) (asks : Heading) (env : Environment) → shapes ≡ env.shapes ++ asks ∷ [] → Proper env
    → Proper (record env { shapes = shapes })
shapes_proper shapes asks env e h = subst (λ ss. Proper (record env { shapes = ss })) (sym e) (with_shape_proper asks env h)

-- a block of the code is changed
pub set_seen : {A B : Type 0} (f : A → B) (g : B → B) (xs : List A) (at : ℕ) (x y : A) (d : B) → at < length xs → x ≡ get_or xs at x → f y ≡ g (f x)
    → set (map f xs) at (g (get_or (map f xs) at d)) ≡ map f (set xs at y)
set_seen f g xs at x y d lt read e =
    ap (λ b. set (map f xs) at (g b)) (get_or-map f xs at x d lt ∙ ap f (sym read)) ∙ ap (set (map f xs) at) (sym e) ∙ sym (map-set f xs at y)
