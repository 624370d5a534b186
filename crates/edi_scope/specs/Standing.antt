-- Helper. How the scopes are kept, and the declarations of each name beside them.
use Rattle.std.specs.Prelude.{◌≡◌, ℕ, false, Option, Some, None, List, [], ◌∷◌, ◌++◌, length, map, reverse, drop, Vec}
use Rattle.std.specs.Global.{Global}
use Rattle.edi_scope.specs.declared.entity.Entity.{Entity}
use Rattle.edi_scope.specs.declared.declarations.Declaration.{Declaration}
use Rattle.edi_scope.specs.declared.declarations.Declarations.{Declarations}
use Rattle.edi_scope.specs.declared.scopes.Named.{Named}
use Rattle.edi_scope.specs.declared.scopes.OpenScope.{OpenScope}
use Rattle.edi_scope.specs.Scope.{Scope, meaning}
use Rattle.edi_scope.specs.Listed.{listed}

-- a kept name with its entity
abbrev pub name_of : Named → List ℕ × Entity
name_of named = (named.name.items, named.entity)

-- a kept scope
abbrev pub scope_of : OpenScope → Scope
scope_of scope = record { is_module = scope.is_module; names = reverse (map name_of scope.names.items) }

-- the kept scopes, the outermost first
abbrev pub kept : Vec OpenScope Global → List Scope
kept scopes = map scope_of scopes.items

-- the kept scopes, the innermost first
abbrev pub scopes_of : Vec OpenScope Global → List Scope
scopes_of scopes = reverse (kept scopes)

-- the names of the innermost scope, the newest first
abbrev pub innermost_names : List Scope → List (List ℕ × Entity)
innermost_names [] = []
innermost_names (scope ∷ outer) = scope.names

-- the newest of these
abbrev pub newest : List (List ℕ × Entity) → Option (List ℕ × Entity)
newest [] = None
newest (named ∷ names) = Some named

-- the scope without its newest name
abbrev pub without_one : Scope → Scope
without_one scope = record { is_module = scope.is_module; names = drop 1 scope.names }

-- the innermost scope without its newest name
abbrev pub without_newest : List Scope → List Scope
without_newest [] = []
without_newest (scope ∷ outer) = without_one scope ∷ outer

-- the declaration in one scope, which so many scopes stand round
abbrev pub here : ℕ → Option Entity → List Declaration
here depth None = []
here depth (Some entity) = record { depth = depth; entity = entity } ∷ []

-- the declarations of the name in these scopes, the innermost last
abbrev pub standing : List Scope → List ℕ → List Declaration
standing [] name = []
standing (scope ∷ outer) name = standing outer name ++ here (length outer) (meaning scope.names name)

-- no name stands twice among these
abbrev pub NoneTwice : List (List ℕ × Entity) → Type 0
NoneTwice [] = Unit {0}
NoneTwice (named ∷ names) = (meaning names named.0 ≡ None) × NoneTwice names

-- no scope declares a name twice
abbrev pub EachOnce : List Scope → Type 0
EachOnce [] = Unit {0}
EachOnce (scope ∷ outer) = NoneTwice scope.names × EachOnce outer

-- there is an outermost scope, and it is not that of a module
abbrev pub HasOutermost : List Scope → Type 0
HasOutermost [] = ⊥
HasOutermost (scope ∷ []) = scope.is_module ≡ false
HasOutermost (scope ∷ around ∷ outer) = HasOutermost (around ∷ outer)

-- for each name its declarations in the scopes are kept
pub record ScopesAreKept (declarations : Declarations) (scopes : List Scope) : Type 0 where
  pub stands : (name : List ℕ) → listed declarations name ≡ standing scopes name
  pub once : EachOnce scopes
  pub outermost : HasOutermost scopes
