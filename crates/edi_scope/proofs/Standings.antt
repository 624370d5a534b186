-- The declarations of each name, after a change of the scopes.
use Rattle.std.proofs.Common.{◌≡◌, ℕ, ◌+◌, ◌-◌, ◌<◌, ◌≤◌, zero, suc, Bool, true, false, cond, eqb, List, [], ◌∷◌, ◌++◌, Option, Some, None, length, drop}
use Rattle.std.proofs.Common.{insert, remove, refl, sym, ap, subst, inl, inr, ◌⊎◌, ◌∙◌, ⊎_elim, arith, ◌||◌, is_some, IsTrue}
use Rattle.std.proofs.lemmas.List.{append-nil, length-append}
use Rattle.std.proofs.lemmas.List.Edits.{insert_end, remove-append_right}
use Rattle.std.proofs.lemmas.List.Folds.{list_any-append}
use Rattle.std.proofs.lemmas.Bool.{cases_Bool}
use Rattle.std.proofs.lemmas.Option.{same_Some}
use Rattle.std.specs.List.{list_any, slice_get}
use Rattle.std.specs.Option.{option_map, option_or}
use Rattle.std.specs.Str.{bytes_eq}
use Rattle.std.specs.Cmp.Lexicographic.{bytes_decides, nat_list_eq_equiv}
use Rattle.edi_scope.specs.declared.entity.Entity.{Entity}
use Rattle.edi_scope.specs.declared.declarations.Declaration.{Declaration}
use Rattle.edi_scope.specs.declared.declarations.Declarations.{Declarations}
use Rattle.edi_scope.specs.Scope.{Scope, meaning, declared, visible, with_name, in_module}
use Rattle.edi_scope.specs.Listed.{listed}
use Rattle.edi_scope.specs.Standing.{here, standing, ScopesAreKept, without_newest, newest, innermost_names, NoneTwice, EachOnce, HasOutermost}

-- the entity of the last of these declarations
abbrev pub last_entity : List Declaration → Option Entity
last_entity xs = option_map (λ d. d.entity) (slice_get xs (length xs - 1))

slice_get-end : {A : Type 0} (xs : List A) (x : A) (k : ℕ) → k ≡ length xs → slice_get (xs ++ x ∷ []) k ≡ Some x
slice_get-end [] x zero e = refl
slice_get-end [] x (suc k) e = absurd (omega arith)
slice_get-end (y ∷ xs) x zero e = absurd (omega arith)
slice_get-end (y ∷ xs) x (suc k) e = slice_get-end xs x k (omega arith)

last_entity-here : (xs : List Declaration) (depth : ℕ) (entity : Option Entity) → last_entity (xs ++ here depth entity) ≡ option_or entity (last_entity xs)
last_entity-here xs depth None = ap last_entity (append-nil xs)
last_entity-here xs depth (Some entity) =
    ap (λ o. option_map (λ d. d.entity) o) (slice_get-end xs (record { depth = depth; entity = entity })
    (length (xs ++ record { depth = depth; entity = entity } ∷ []) - 1) (omega (arith, length-append xs (record { depth = depth; entity = entity } ∷ []))))

-- what a name means is what its last declaration says
pub last_entity-standing : (scopes : List Scope) (name : List ℕ) → last_entity (standing scopes name) ≡ visible scopes name
last_entity-standing [] name = refl
last_entity-standing (scope ∷ outer) name =
    last_entity-here (standing outer name) (length outer) (meaning scope.names name) ∙ ap (option_or (meaning scope.names name))
    (last_entity-standing outer name)

-- whether a declaration has this depth
abbrev is_at : ℕ → Declaration → Bool
is_at depth d = eqb d.depth depth

not_here : (depth other : ℕ) (entity : Option Entity) → eqb other depth ≡ false → list_any (is_at depth) (here other entity) ≡ false
not_here depth other None e = refl
not_here depth other (Some entity) e = grind arith

none_above : (scopes : List Scope) (name : List ℕ) (depth : ℕ) → length scopes ≤ depth → list_any (is_at depth) (standing scopes name) ≡ false
none_above [] name depth le = refl
none_above (scope ∷ outer) name depth le =
    let apart : eqb (length outer) depth ≡ false = grind arith in
    list_any-append (is_at depth) (standing outer name) (here (length outer) (meaning scope.names name))
    ∙ ap (λ b. b || list_any (is_at depth) (here (length outer) (meaning scope.names name))) (none_above outer name depth (omega arith))
    ∙ not_here depth (length outer) (meaning scope.names name) apart

is_here : (depth : ℕ) (entity : Option Entity) → list_any (is_at depth) (here depth entity) ≡ is_some entity
is_here depth None = refl
is_here depth (Some entity) = grind arith

-- a scope has a name exactly where one of the name's declarations has its depth
has_depth : (scopes : List Scope) (name : List ℕ) (outward depth : ℕ) → depth + outward + 1 ≡ length scopes
    → list_any (is_at depth) (standing scopes name) ≡ is_some (declared (drop outward scopes) name)
has_depth [] name outward depth e = absurd (omega arith)
has_depth (scope ∷ outer) name zero depth e =
    let same : depth ≡ length outer = omega arith in
    list_any-append (is_at depth) (standing outer name) (here (length outer) (meaning scope.names name))
    ∙ ap (λ b. b || list_any (is_at depth) (here (length outer) (meaning scope.names name))) (none_above outer name depth (omega arith))
    ∙ subst (λ n. list_any (is_at depth) (here n (meaning scope.names name)) ≡ is_some (meaning scope.names name)) same
    (is_here depth (meaning scope.names name))
has_depth (scope ∷ outer) name (suc outward) depth e =
    let apart : eqb (length outer) depth ≡ false = grind arith in
    list_any-append (is_at depth) (standing outer name) (here (length outer) (meaning scope.names name))
    ∙ ap (λ b. list_any (is_at depth) (standing outer name) || b) (not_here depth (length outer) (meaning scope.names name) apart)
    ∙ grind (arith, has_depth outer name outward depth (omega arith))

-- so that is seen of the lists that are kept
pub has_at : (old : Declarations) (scopes : List Scope) (name : List ℕ) (outward depth : ℕ) → ScopesAreKept old scopes → depth + outward + 1 ≡ length scopes
    → list_any (is_at depth) (listed old name) ≡ is_some (declared (drop outward scopes) name)
has_at old scopes name outward depth k e = ap (list_any (is_at depth)) (k.stands name) ∙ has_depth scopes name outward depth e

-- a name is this one, or it is told apart from it
known_apart : (name q : List ℕ) → (name ≡ q) ⊎ ((bytes_eq name q ≡ false) × (bytes_eq q name ≡ false))
known_apart name q =
    ⊎_elim (λ y. inl ((bytes_decides name q).0 y)) (λ n. inr (n, nat_list_eq_equiv.symm q name ∙ n)) (cases_Bool (bytes_eq name q))

itself : (name : List ℕ) → bytes_eq name name ≡ true
itself name = (bytes_decides name name).1 refl

meaning-same : (name : List ℕ) (entity : Entity) (names : List (List ℕ × Entity)) → meaning ((name, entity) ∷ names) name ≡ Some entity
meaning-same name entity names = ap (λ b. cond b (Some entity) (meaning names name)) (itself name)

meaning-other : (name q : List ℕ) (entity : Entity) (names : List (List ℕ × Entity)) → bytes_eq q name ≡ false → meaning ((name, entity) ∷ names) q ≡ meaning
    names q
meaning-other name q entity names e = ap (λ b. cond b (Some entity) (meaning names q)) e

-- the lists after a change of one name's list
abbrev pub Changed : (List ℕ → List Declaration) → (List ℕ → List Declaration) → List ℕ → (List Declaration → List Declaration) → Type 0
Changed old new name f = (q : List ℕ) → new q ≡ cond (bytes_eq name q) (f (old q)) (old q)

-- the lists are those of other scopes, where the one that changed is, and the others are the same
pub changed : (old new a b : List ℕ → List Declaration) (name : List ℕ) (f : List Declaration → List Declaration) → Changed old new name f
    → ((q : List ℕ) → old q ≡ a q) → f (a name) ≡ b name → ((q : List ℕ) → bytes_eq q name ≡ false → a q ≡ b q) → (q : List ℕ) → new q ≡ b q
changed old new a b name f h was here others q =
    ⊎_elim
    (λ e. subst (λ l. new l ≡ b l) e (h name ∙ ap (λ v. cond v (f (old name)) (old name)) (itself name) ∙ ap f (was name) ∙ here))
    (λ n. h q ∙ ap (λ v. cond v (f (old q)) (old q)) n.0 ∙ was q ∙ others q n.1)
    (known_apart name q)

outermost-without_newest : (scopes : List Scope) → HasOutermost scopes → HasOutermost (without_newest scopes)
outermost-without_newest [] h = h
outermost-without_newest (scope ∷ []) h = h
outermost-without_newest (scope ∷ around ∷ outer) h = h

pub once-with_name : (scopes : List Scope) (name : List ℕ) (entity : Entity) → declared scopes name ≡ None → EachOnce scopes
    → EachOnce (with_name name entity scopes)
once-with_name [] name entity free h = h
once-with_name (scope ∷ outer) name entity free h = ((free, h.0), h.1)

once-shorter : (names : List (List ℕ × Entity)) → NoneTwice names → NoneTwice (drop 1 names)
once-shorter [] h = h
once-shorter (named ∷ names) h = h.1

once-without_newest : (scopes : List Scope) → EachOnce scopes → EachOnce (without_newest scopes)
once-without_newest [] h = h
once-without_newest (scope ∷ outer) h = (once-shorter scope.names h.0, h.1)

-- the innermost scope has got a name
pub standing-with_name : (scopes : List Scope) (name : List ℕ) (entity : Entity) (depth at : ℕ) → declared scopes name ≡ None → depth + 1 ≡ length scopes
    → at ≡ length (standing scopes name) → insert (standing scopes name) at (record { depth = depth; entity = entity }) ≡ standing
    (with_name name entity scopes) name
standing-with_name [] name entity depth at free e f = absurd (omega arith)
standing-with_name (scope ∷ outer) name entity depth at free e f =
    let here_none : standing (scope ∷ outer) name ≡ standing outer name = ap (λ o. standing outer name ++ here (length outer) o) free
    ∙ append-nil (standing outer name) in
    let end : at ≡ length (standing outer name) = f ∙ ap length here_none in
    let deep : depth ≡ length outer = omega arith in
    ap (λ xs. insert xs at (record { depth = depth; entity = entity })) here_none
    ∙ ap (λ n. insert (standing outer name) n (record { depth = depth; entity = entity })) end
    ∙ insert_end (standing outer name) (record { depth = depth; entity = entity })
    ∙ ap (λ n. standing outer name ++ record { depth = n; entity = entity } ∷ []) deep
    ∙ ap (λ o. standing outer name ++ here (length outer) o) (sym (meaning-same name entity scope.names))

pub standing-with_name_other : (scopes : List Scope) (name q : List ℕ) (entity : Entity) → bytes_eq q name ≡ false → standing scopes q ≡ standing
    (with_name name entity scopes) q
standing-with_name_other [] name q entity n = refl
standing-with_name_other (scope ∷ outer) name q entity n =
    ap (λ o. standing outer q ++ here (length outer) o) (sym (meaning-other name q entity scope.names n))

remove_last : {A : Type 0} (xs : List A) (x : A) (at : ℕ) → at ≡ length xs → remove (xs ++ x ∷ []) at ≡ xs
remove_last xs x at e =
    remove-append_right xs (x ∷ []) at at (sym e) (omega arith) ∙ ap (λ n. xs ++ remove (x ∷ []) n) (let none : at - at ≡ 0 = omega arith in
    none) ∙ append-nil xs

-- the innermost scope has lost its newest name
standing-without_newest : (scope : Scope) (outer : List Scope) (name : List ℕ) (entity : Entity) (names : List (List ℕ × Entity)) (at : ℕ)
    → scope.names ≡ (name, entity) ∷ names → NoneTwice scope.names → at + 1 ≡ length (standing (scope ∷ outer) name) → remove (standing (scope ∷ outer) name) at
    ≡ standing (without_newest (scope ∷ outer)) name
standing-without_newest scope outer name entity names at is once f =
    let x : Declaration = record { depth = length outer; entity = entity } in
    let lists : standing (scope ∷ outer) name ≡ standing outer name ++ x ∷ [] = ap (λ l. standing outer name ++ here (length outer) (meaning l name)) is
    ∙ ap (λ o. standing outer name ++ here (length outer) o) (meaning-same name entity names) in
    let end : at ≡ length (standing outer name) = omega (arith, ap length lists, length-append (standing outer name) (x ∷ [])) in
    let free : NoneTwice ((name, entity) ∷ names) = subst NoneTwice is once in
    ap (λ l. remove l at) lists
    ∙ remove_last (standing outer name) x at end
    ∙ sym (append-nil (standing outer name))
    ∙ ap (λ o. standing outer name ++ here (length outer) o) (sym free.0)
    ∙ ap (λ l. standing outer name ++ here (length outer) (meaning (drop 1 l) name)) (sym is)

standing-without_newest_other : (scope : Scope) (outer : List Scope) (name q : List ℕ) (entity : Entity) (names : List (List ℕ × Entity))
    → scope.names ≡ (name, entity) ∷ names → bytes_eq q name ≡ false → standing (scope ∷ outer) q ≡ standing (without_newest (scope ∷ outer)) q
standing-without_newest_other scope outer name q entity names is n =
    ap (λ o. standing outer q ++ here (length outer) o)
    (ap (λ l. meaning l q) is ∙ meaning-other name q entity names n ∙ ap (λ l. meaning (drop 1 l) q) (sym is))

newest-is : (names : List (List ℕ × Entity)) (named : List ℕ × Entity) → Some named ≡ newest names → (rest : List (List ℕ × Entity)) × (names ≡ named ∷ rest)
newest-is [] named e = cc
newest-is (other ∷ names) named e = (names, ap (λ x. x ∷ names) (sym (same_Some named other e)))

-- so its lists have a last declaration
pub listed-newest : (old : Declarations) (scopes : List Scope) (name : List ℕ) (entity : Entity) → ScopesAreKept old scopes → Some (name, entity) ≡ newest
    (innermost_names scopes) → 0 < length (listed old name)
listed-newest old [] name entity k e = cc
listed-newest old (scope ∷ outer) name entity k e =
    let is = newest-is scope.names (name, entity) e in
    let lists : listed old name ≡ standing outer name ++ record { depth = length outer; entity = entity } ∷ [] = k.stands name
    ∙ ap (λ l. standing outer name ++ here (length outer) (meaning l name)) is.1 ∙ ap (λ o. standing outer name ++ here (length outer) o)
    (meaning-same name entity is.0) in
    omega (arith, ap length lists, length-append (standing outer name) (record { depth = length outer; entity = entity } ∷ []))

pub kept-without_newest : (old new : Declarations) (scopes : List Scope) (name : List ℕ) (entity : Entity) (at : ℕ) → ScopesAreKept old scopes
    → Changed (listed old) (listed new) name (λ l. remove l at) → Some (name, entity) ≡ newest (innermost_names scopes) → at + 1 ≡ length (listed old name)
    → ScopesAreKept new (without_newest scopes)
kept-without_newest old new [] name entity at k h e f = cc
kept-without_newest old new (scope ∷ outer) name entity at k h e f =
    let is = newest-is scope.names (name, entity) e in
    let scopes : List Scope = scope ∷ outer in
    record {
      stands = changed (listed old) (listed new) (standing scopes) (standing (without_newest scopes)) name (λ l. remove l at) h k.stands
          (standing-without_newest scope outer name entity is.0 at is.1 k.once.0 (f ∙ ap length (k.stands name)))
          (λ q n. standing-without_newest_other scope outer name q entity is.0 is.1 n);
      once = once-without_newest scopes k.once;
      outermost = outermost-without_newest scopes k.outermost;
    }

-- there is a scope
pub some_scope : (scopes : List Scope) → HasOutermost scopes → 0 < length scopes
some_scope [] h = absurd h
some_scope (scope ∷ outer) h = omega arith

-- round a module's scope there is another
pub round_module : (scopes : List Scope) → HasOutermost scopes → IsTrue (in_module scopes) → 1 < length scopes
round_module [] h m = absurd h
round_module (scope ∷ []) h m = cc
round_module (scope ∷ around ∷ outer) h m = omega arith

-- without the innermost scope, which has no names, the declarations are the same
pub kept-outside : (old : Declarations) (scopes : List Scope) → ScopesAreKept old scopes → innermost_names scopes ≡ [] → 1 < length scopes
    → ScopesAreKept old (drop 1 scopes)
kept-outside old [] k e lt = absurd (omega arith)
kept-outside old (scope ∷ []) k e lt = absurd (omega arith)
kept-outside old (scope ∷ around ∷ outer) k e lt = record {
  stands = λ q. k.stands q ∙ ap (λ l. standing (around ∷ outer) q ++ here (length (around ∷ outer)) (meaning l q)) e ∙ append-nil (standing (around ∷ outer) q);
  once = k.once.1;
  outermost = k.outermost;
}

-- the same lists serve the same scopes
pub kept-same : (old new : Declarations) (scopes : List Scope) → ScopesAreKept old scopes → ((q : List ℕ) → listed new q ≡ listed old q)
    → ScopesAreKept new scopes
kept-same old new scopes k same = record {
  stands = λ q. same q ∙ k.stands q;
  once = k.once;
  outermost = k.outermost;
}
