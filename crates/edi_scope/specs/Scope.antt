-- Definition. Scopes as callers see them, and what a name means in them.
use Rattle.std.specs.Prelude.{ℕ, zero, suc, Bool, false, Option, None, List, [], ◌∷◌, codes, drop, pos}
use Rattle.std.specs.Option.{option_or}
use Rattle.std.specs.Map.{lookup}
use Rattle.std.specs.Str.{bytes_eq}
use Rattle.edi_scope.specs.declared.entity.Entity.{Entity}
use Rattle.edi_scope.specs.declared.entity.Entity.TheVariants.{Constant, Types, Halt}

-- a scope: whether it is that of a module, and each name declared in it with its entity, the newest first
pub record Scope : Type 0 where
  pub is_module : Bool
  pub names : List (List ℕ × Entity)

-- what the name means among these, if it is one of them
abbrev pub meaning : List (List ℕ × Entity) → List ℕ → Option Entity
meaning names name = lookup (bytes_eq name) names

-- Scopes are listed with the innermost first.

-- what the name means in the innermost scope
abbrev pub declared : List Scope → List ℕ → Option Entity
declared [] name = None
declared (scope ∷ outer) name = meaning scope.names name

-- what the name means: its entity in the innermost scope that has it
abbrev pub visible : List Scope → List ℕ → Option Entity
visible [] name = None
visible (scope ∷ outer) name = option_or (meaning scope.names name) (visible outer name)

-- the scopes round the innermost
abbrev pub outside : List Scope → List Scope
outside scopes = drop 1 scopes

-- whether the innermost scope is that of a module
abbrev pub in_module : List Scope → Bool
in_module [] = false
in_module (scope ∷ outer) = scope.is_module

-- a new innermost scope with no names
abbrev pub entered : Bool → List Scope → List Scope
entered module_scope scopes = record { is_module = module_scope; names = [] } ∷ scopes

-- the scope with one more name
abbrev pub with_one : List ℕ → Entity → Scope → Scope
with_one name entity scope = record { is_module = scope.is_module; names = (name, entity) ∷ scope.names }

-- the name with its entity in the innermost scope
abbrev pub with_name : List ℕ → Entity → List Scope → List Scope
with_name name entity [] = []
with_name name entity (scope ∷ outer) = with_one name entity scope ∷ outer

-- the name with its entity in the scope round the innermost
abbrev pub exported : List ℕ → Entity → List Scope → List Scope
exported name entity [] = []
exported name entity (scope ∷ outer) = scope ∷ with_name name entity outer

-- the name with its entity in the scope that is so many steps out of the innermost
abbrev pub with_name_at : (steps : ℕ) → List ℕ → Entity → List Scope → List Scope
with_name_at steps name entity [] = []
with_name_at zero name entity (scope ∷ outer) = with_one name entity scope ∷ outer
with_name_at (suc steps) name entity (scope ∷ outer) = scope ∷ with_name_at steps name entity outer

-- the scope of the standard names: the types `int`, `char` and `bool` have the numbers 0, 1 and 2
abbrev pub standard : Scope
standard = record {
  is_module = false;
  names = (codes "int", Types 0) ∷ (codes "char", Types 1) ∷ (codes "bool", Types 2)
      ∷ (codes "false", Constant 2 (pos 0)) ∷ (codes "true", Constant 2 (pos 1)) ∷ (codes "halt", Halt) ∷ [];
}
