-- The scopes, which are kept with the outermost first, after a change of one of them.
use Rattle.std.proofs.Common.{◌≡◌, ℕ, ◌+◌, ◌-◌, ◌<◌, List, [], ◌∷◌, ◌++◌, Option, Some, None, length, get_or, set, map, reverse, drop, refl, sym, ap, ◌∙◌}
use Rattle.std.proofs.Common.{arith, Vec, Bool}
use Rattle.std.proofs.lemmas.List.{reverse-append, reverse-reverse, length-reverse, length-map, map-append, append-nil, get_or_at, set_at, get_or-set_same}
use Rattle.std.proofs.lemmas.List.{set-set, set-get_or, map-set, get_or-map}
use Rattle.std.specs.Option.{option_to_list}
use Rattle.edi_scope.specs.declared.entity.Entity.{Entity}
use Rattle.edi_scope.specs.declared.scopes.Named.{Named}
use Rattle.edi_scope.specs.Scope.{Scope, standard, with_one}
use Rattle.std.specs.Global.{Global}
use Rattle.edi_scope.specs.declared.scopes.OpenScope.{OpenScope}
use Rattle.edi_scope.specs.Standing.{scopes_of, scope_of, kept, name_of, newest, innermost_names, without_one, without_newest, HasOutermost}
use Rattle.edi_scope.proofs.Standings.{some_scope}

pub reverse-cons : {A : Type 0} (x : A) (xs : List A) → reverse (x ∷ xs) ≡ reverse xs ++ x ∷ []
reverse-cons x xs = reverse-append (x ∷ []) xs

module _ (f : Scope → Scope) where
  -- a change of the last element of a reversed list is one of the first
  pub first : (scope : Scope) (outer : List Scope) (at : ℕ) → at ≡ length outer → set (reverse (scope ∷ outer)) at
      (f (get_or (reverse (scope ∷ outer)) at standard)) ≡ reverse (f scope ∷ outer)
  first scope outer at e =
      let len : length (reverse outer) ≡ at = length-reverse outer ∙ sym e in
      ap (λ xs. set xs at (f (get_or xs at standard))) (reverse-cons scope outer)
      ∙ ap (λ x. set (reverse outer ++ scope ∷ []) at (f x)) (get_or_at (reverse outer) scope [] standard at len)
      ∙ set_at (reverse outer) scope [] (f scope) at len
      ∙ sym (reverse-cons (f scope) outer)

-- a change that is stated of kept scopes, from what holds of them in reverse
pub turned : (f : Scope → Scope) (g : List Scope → List Scope) (old new : List Scope) (at : ℕ) → new ≡ set old at (f (get_or old at standard))
    → set (reverse (reverse old)) at (f (get_or (reverse (reverse old)) at standard)) ≡ reverse (g (reverse old)) → reverse new ≡ g (reverse old)
turned f g old new at e h =
    ap reverse (e ∙ ap (λ xs. set xs at (f (get_or xs at standard))) (sym (reverse-reverse old)) ∙ h) ∙ reverse-reverse (g (reverse old))

without_newest-kept : (scopes : List Scope) (at : ℕ) → at + 1 ≡ length scopes → set (reverse scopes) at (without_one (get_or (reverse scopes) at standard))
    ≡ reverse (without_newest scopes)
without_newest-kept [] at e = absurd (omega arith)
without_newest-kept (scope ∷ outer) at e = first without_one scope outer at (omega arith)

-- the innermost scope has lost its newest name
pub view-without_newest : (old new : List Scope) (at : ℕ) → new ≡ set old at (without_one (get_or old at standard)) → at + 1 ≡ length old
    → reverse new ≡ without_newest (reverse old)
view-without_newest old new at h e =
    turned without_one without_newest old new at h (without_newest-kept (reverse old) at (e ∙ sym (length-reverse old)))

innermost-first : (scopes : List Scope) (at : ℕ) → at + 1 ≡ length scopes → (get_or (reverse scopes) at standard).names ≡ innermost_names scopes
innermost-first [] at e = absurd (omega arith)
innermost-first (scope ∷ outer) at e =
    let len : length (reverse outer) ≡ at = length-reverse outer ∙ omega arith in
    ap (λ xs. (get_or xs at standard).names) (reverse-cons scope outer) ∙ ap (λ s. s.names) (get_or_at (reverse outer) scope [] standard at len)

-- the last kept scope is the innermost
innermost-kept : (old : List Scope) (at : ℕ) → at + 1 ≡ length old → (get_or old at standard).names ≡ innermost_names (reverse old)
innermost-kept old at e =
    ap (λ xs. (get_or xs at standard).names) (sym (reverse-reverse old)) ∙ innermost-first (reverse old) at (e ∙ sym (length-reverse old))

-- a name that is put and taken away again leaves the scopes as they were
pub put_and_taken : (n : List ℕ) (x : Entity) (old put new : List Scope) (at : ℕ) → at < length old → put ≡ set old at (with_one n x (get_or old at standard))
    → new ≡ set put at (without_one (get_or put at standard)) → new ≡ old
put_and_taken n x old put new at lt e h =
    h ∙ ap (λ xs. set xs at (without_one (get_or xs at standard))) e
    ∙ ap (λ y. set (set old at (with_one n x (get_or old at standard))) at (without_one y))
    (get_or-set_same old at (with_one n x (get_or old at standard)) standard lt)
    ∙ set-set old at (with_one n x (get_or old at standard)) (get_or old at standard)
    ∙ set-get_or old at standard

-- what is seen of a list, the last element first, after the last has been taken
pub view-taken : {A B : Type 0} (f : A → B) (old new : List A) (taken : Option A) → old ≡ new ++ option_to_list taken → (taken ≡ None → old ≡ [])
    → reverse (map f new) ≡ drop 1 (reverse (map f old))
view-taken f old new None e empty =
    ap (λ xs. reverse (map f xs)) (sym (append-nil new) ∙ sym e ∙ empty refl) ∙ ap (λ xs. drop 1 (reverse (map f xs))) (sym (empty refl))
view-taken f old new (Some x) e empty =
    sym (ap (λ xs. drop 1 (reverse (map f xs))) e ∙ ap (λ xs. drop 1 (reverse xs)) (map-append f new (x ∷ []))
    ∙ ap (drop 1) (reverse-append (map f new) (f x ∷ [])))

-- the names of a kept scope after one has been put
pub names-put : (old : List Named) (named : Named) → reverse (map name_of (old ++ named ∷ [])) ≡ name_of named ∷ reverse (map name_of old)
names-put old named = ap reverse (map-append name_of old (named ∷ [])) ∙ reverse-append (map name_of old) (name_of named ∷ [])

-- as many scopes as are kept
pub length-kept : (scopes : Vec OpenScope Global) → length (kept scopes) ≡ scopes.len
length-kept scopes = length-map scopes.items scope_of ∙ sym scopes.ok.0

pub length-scopes_of : (scopes : Vec OpenScope Global) → length (scopes_of scopes) ≡ scopes.len
length-scopes_of scopes = length-reverse (kept scopes) ∙ length-kept scopes

-- a kept scope is replaced
pub kept-set : (scopes : Vec OpenScope Global) (at : ℕ) (x y : OpenScope) (f : Scope → Scope) → at < scopes.len → x ≡ get_or scopes.items at x
    → scope_of y ≡ f (scope_of x) → map scope_of (set scopes.items at y) ≡ set (kept scopes) at (f (get_or (kept scopes) at standard))
kept-set scopes at x y f lt read e =
    let within : at < length scopes.items = omega (arith, scopes.ok.0) in
    map-set scope_of scopes.items at y
    ∙ ap (set (kept scopes) at) (e ∙ ap f (ap scope_of read ∙ sym (get_or-map scope_of scopes.items at x standard within)))

-- and by one that is seen as it was
pub kept-set_same : (scopes : Vec OpenScope Global) (at : ℕ) (x y : OpenScope) → at < scopes.len → x ≡ get_or scopes.items at x → scope_of y ≡ scope_of x
    → map scope_of (set scopes.items at y) ≡ kept scopes
kept-set_same scopes at x y lt read e =
    kept-set scopes at x y (λ s. s) lt read e ∙ set-get_or (kept scopes) at standard

-- a scope of these names
abbrev pub scope_with : Bool → List (List ℕ × Entity) → Scope
scope_with is_module names = record { is_module = is_module; names = names }

pub empty-from_length : {A : Type 0} (xs : List A) → length xs ≡ 0 → xs ≡ []
empty-from_length [] e = refl
empty-from_length (x ∷ xs) e = absurd (omega arith)

-- there is an innermost scope, which is the last that is kept
pub innermost_last : (scopes : Vec OpenScope Global) → HasOutermost (scopes_of scopes) → (n : ℕ) → n ≡ scopes.len → n - 1 + 1 ≡ length (kept scopes)
innermost_last scopes h n e = omega (arith, e, some_scope (scopes_of scopes) h, length-scopes_of scopes, length-kept scopes)

pub innermost_newest : (scopes : Vec OpenScope Global) (at : ℕ) (named : List ℕ × Entity) → at + 1 ≡ length (kept scopes)
    → Some named ≡ newest (get_or (kept scopes) at standard).names → Some named ≡ newest (innermost_names (scopes_of scopes))
innermost_newest scopes at named e h = h ∙ ap newest (innermost-kept (kept scopes) at e)
