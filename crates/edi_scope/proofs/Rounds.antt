-- The declarations of each name, after one of the outer scopes has got it.
use Rattle.std.proofs.Common.{◌≡◌, ℕ, ◌+◌, ◌<◌, ◌≤◌, zero, suc, Bool, false, cond, eqb, nat_lt, List, [], ◌∷◌, ◌++◌, Option, Some, None, length, drop, take}
use Rattle.std.proofs.Common.{insert, refl, sym, ap, ◌∙◌, arith, IsTrue, set, get_or, reverse}
use Rattle.std.proofs.lemmas.List.{append-nil, length-append, length-reverse, get_or_append_left, set-append_left}
use Rattle.std.proofs.lemmas.List.Edits.{insert-append_left}
use Rattle.std.proofs.lemmas.List.Folds.{prefix_len-append}
use Rattle.std.proofs.lemmas.List.Sums.{prefix_len-le-length}
use Rattle.std.specs.List.{prefix_len}
use Rattle.std.specs.Str.{bytes_eq}
use Rattle.edi_scope.specs.declared.entity.Entity.{Entity}
use Rattle.edi_scope.specs.declared.declarations.Declaration.{Declaration}
use Rattle.edi_scope.specs.declared.declarations.Declarations.{Declarations}
use Rattle.edi_scope.specs.Scope.{Scope, standard, meaning, declared, with_one, with_name, with_name_at, exported, outside, in_module}
use Rattle.edi_scope.specs.Listed.{listed}
use Rattle.edi_scope.specs.Standing.{here, standing, ScopesAreKept, EachOnce, HasOutermost, without_newest}
use Rattle.edi_scope.proofs.Standings.{Changed, changed, standing-with_name, standing-with_name_other, once-with_name}
use Rattle.edi_scope.proofs.Views.{first, reverse-cons, turned}

-- ---- what the changed scopes are

pub none_out : (name : List ℕ) (entity : Entity) (scopes : List Scope) → with_name_at 0 name entity scopes ≡ with_name name entity scopes
none_out name entity [] = refl
none_out name entity (scope ∷ outer) = refl

pub one_more_out : (name : List ℕ) (entity : Entity) (scopes : List Scope) → with_name_at 1 name entity scopes ≡ exported name entity scopes
one_more_out name entity [] = refl
one_more_out name entity (scope ∷ []) = refl
one_more_out name entity (scope ∷ around ∷ outer) = refl

pub in_both : (name : List ℕ) (entity : Entity) (scopes : List Scope) → with_name_at 1 name entity (with_name_at 0 name entity scopes) ≡ exported name entity
    (with_name name entity scopes)
in_both name entity [] = refl
in_both name entity (scope ∷ []) = refl
in_both name entity (scope ∷ around ∷ outer) = refl

pub forgotten : (name : List ℕ) (entity : Entity) (scopes : List Scope) → without_newest (with_name_at 0 name entity scopes) ≡ scopes
forgotten name entity [] = refl
forgotten name entity (scope ∷ outer) = refl

pub outside_same : (name : List ℕ) (entity : Entity) (scopes : List Scope) → declared (drop 1 (with_name_at 0 name entity scopes)) name ≡ declared
    (drop 1 scopes) name
outside_same name entity [] = refl
outside_same name entity (scope ∷ outer) = refl

pub one_out : (name : List ℕ) (entity : Entity) (scopes : List Scope) → with_name_at 1 name entity scopes ≡ take 1 scopes
    ++ with_name name entity (outside scopes)
one_out name entity [] = refl
one_out name entity (scope ∷ []) = refl
one_out name entity (scope ∷ around ∷ outer) = refl

pub two_out : (name : List ℕ) (entity : Entity) (scopes : List Scope) → with_name_at 2 name entity scopes ≡ take 1 scopes
    ++ exported name entity (outside scopes)
two_out name entity [] = refl
two_out name entity (scope ∷ []) = refl
two_out name entity (scope ∷ around ∷ []) = refl
two_out name entity (scope ∷ around ∷ beyond ∷ outer) = refl

pub both_out : (name : List ℕ) (entity : Entity) (scopes : List Scope) → with_name_at 2 name entity (with_name_at 1 name entity scopes) ≡ take 1 scopes
    ++ exported name entity (with_name name entity (outside scopes))
both_out name entity [] = refl
both_out name entity (scope ∷ []) = refl
both_out name entity (scope ∷ around ∷ []) = refl
both_out name entity (scope ∷ around ∷ beyond ∷ outer) = refl

-- the scope round the changed one is as it was
pub beyond_same : (name : List ℕ) (entity : Entity) (scopes : List Scope) → declared (drop 2 (with_name_at 1 name entity scopes)) name ≡ declared
    (drop 2 scopes) name
beyond_same name entity [] = refl
beyond_same name entity (scope ∷ []) = refl
beyond_same name entity (scope ∷ around ∷ outer) = refl

-- round the scope of a module round the innermost there is another
pub beyond_module : (scopes : List Scope) → HasOutermost scopes → IsTrue (in_module (drop 1 scopes)) → 2 < length scopes
beyond_module [] h m = absurd h
beyond_module (scope ∷ []) h m = cc
beyond_module (scope ∷ around ∷ []) h m = cc
beyond_module (scope ∷ around ∷ beyond ∷ outer) h m = omega arith

pub length-with_name_at : (steps : ℕ) (name : List ℕ) (entity : Entity) (scopes : List Scope) → length (with_name_at steps name entity scopes) ≡ length scopes
length-with_name_at steps name entity [] = refl
length-with_name_at zero name entity (scope ∷ outer) = refl
length-with_name_at (suc steps) name entity (scope ∷ outer) = ap suc (length-with_name_at steps name entity outer)

-- ---- the kept scopes, the outermost first

at_kept : (n : List ℕ) (x : Entity) (steps : ℕ) (scopes : List Scope) (at : ℕ) → at + steps + 1 ≡ length scopes
    → set (reverse scopes) at (with_one n x (get_or (reverse scopes) at standard)) ≡ reverse (with_name_at steps n x scopes)
at_kept n x steps [] at e = absurd (omega arith)
at_kept n x zero (scope ∷ outer) at e = first (with_one n x) scope outer at (omega arith)
at_kept n x (suc steps) (scope ∷ outer) at e =
    let within : at < length (reverse outer) = rw length-reverse (omega arith) in
    ap (λ xs. set xs at (with_one n x (get_or xs at standard))) (reverse-cons scope outer)
    ∙ ap (λ y. set (reverse outer ++ scope ∷ []) at (with_one n x y)) (get_or_append_left (reverse outer) (scope ∷ []) standard at within)
    ∙ set-append_left (reverse outer) (scope ∷ []) at (with_one n x (get_or (reverse outer) at standard)) within
    ∙ ap (λ xs. xs ++ scope ∷ []) (at_kept n x steps outer at (omega arith))
    ∙ sym (reverse-cons scope (with_name_at steps n x outer))

pub view-with_name_at : (n : List ℕ) (x : Entity) (steps : ℕ) (old new : List Scope) (at : ℕ) → new ≡ set old at (with_one n x (get_or old at standard))
    → at + steps + 1 ≡ length old → reverse new ≡ with_name_at steps n x (reverse old)
view-with_name_at n x steps old new at h e =
    turned (with_one n x) (with_name_at steps n x) old new at h (at_kept n x steps (reverse old) at (e ∙ sym (length-reverse old)))

-- ---- the place in the list of a name

-- those that are less deep
abbrev pub less_deep : ℕ → Declaration → Bool
less_deep depth d = nat_lt d.depth depth

not_less : (depth other : ℕ) (entity : Option Entity) → depth ≤ other → prefix_len (less_deep depth) (here other entity) ≡ 0
not_less depth other None le = refl
not_less depth other (Some entity) le = grind arith

all_less : (depth other : ℕ) (entity : Option Entity) → other < depth → prefix_len (less_deep depth) (here other entity) ≡ length (here other entity)
all_less depth other None lt = refl
all_less depth other (Some entity) lt = grind arith

all_further : (scopes : List Scope) (name : List ℕ) (depth : ℕ) → length scopes ≤ depth → prefix_len (less_deep depth) (standing scopes name) ≡ length
    (standing scopes name)
all_further [] name depth le = refl
all_further (scope ∷ outer) name depth le =
    grind (
      arith,
      prefix_len-append (less_deep depth) (standing outer name) (here (length outer) (meaning scope.names name)),
      all_further outer name depth (omega arith),
      all_less depth (length outer) (meaning scope.names name) (omega arith),
      length-append (standing outer name) (here (length outer) (meaning scope.names name)),
    )

none_more : {n m k : ℕ} → k ≡ 0 → m ≤ n → cond (eqb m n) (n + k) m ≡ m
none_more e le = grind arith

further : (scopes : List Scope) (name : List ℕ) (steps depth : ℕ) → depth + steps ≡ length scopes → prefix_len (less_deep depth) (standing scopes name)
    ≡ length (standing (drop steps scopes) name)
further scopes name zero depth e = all_further scopes name depth (omega arith)
further [] name (suc steps) depth e = absurd (omega arith)
further (scope ∷ outer) name (suc steps) depth e =
    grind (
      arith,
      prefix_len-append (less_deep depth) (standing outer name) (here (length outer) (meaning scope.names name)),
      further outer name steps depth (omega arith),
      not_less depth (length outer) (meaning scope.names name) (omega arith),
    )

-- ---- the lists

length-standing : (scopes : List Scope) (name : List ℕ) (steps : ℕ) → declared (drop steps scopes) name ≡ None
    → length (standing (drop (suc steps) scopes) name) ≡ length (standing (drop steps scopes) name)
length-standing [] name zero e = refl
length-standing [] name (suc steps) e = refl
length-standing (scope ∷ outer) name zero e =
    ap length (sym (ap (λ o. standing outer name ++ here (length outer) o) e ∙ append-nil (standing outer name)))
length-standing (scope ∷ outer) name (suc steps) e = length-standing outer name steps e

standing-le : (scopes : List Scope) (name : List ℕ) (steps : ℕ) → length (standing (drop steps scopes) name) ≤ length (standing scopes name)
standing-le scopes name zero = omega arith
standing-le [] name (suc steps) = omega arith
standing-le (scope ∷ outer) name (suc steps) =
    omega (arith, standing-le outer name steps, length-append (standing outer name) (here (length outer) (meaning scope.names name)))

standing-at : (scopes : List Scope) (name : List ℕ) (entity : Entity) (steps depth at : ℕ) → declared (drop steps scopes) name ≡ None
    → depth + steps + 1 ≡ length scopes → at ≡ length (standing (drop steps scopes) name) → insert (standing scopes name) at
    (record { depth = depth; entity = entity }) ≡ standing (with_name_at steps name entity scopes) name
standing-at [] name entity steps depth at free e f = absurd (omega arith)
standing-at (scope ∷ outer) name entity zero depth at free e f = standing-with_name (scope ∷ outer) name entity depth at free (omega arith) f
standing-at (scope ∷ outer) name entity (suc steps) depth at free e f =
    let D : Declaration = record { depth = depth; entity = entity } in
    insert-append_left (standing outer name) (here (length outer) (meaning scope.names name)) at D (omega (arith, standing-le outer name steps, f))
    ∙ ap (λ l. l ++ here (length outer) (meaning scope.names name)) (standing-at outer name entity steps depth at free (omega arith) f)
    ∙ ap (λ n. standing (with_name_at steps name entity outer) name ++ here n (meaning scope.names name)) (sym (length-with_name_at steps name entity outer))

standing-at_other : (scopes : List Scope) (name q : List ℕ) (entity : Entity) (steps : ℕ) → bytes_eq q name ≡ false → standing scopes q ≡ standing
    (with_name_at steps name entity scopes) q
standing-at_other [] name q entity steps n = refl
standing-at_other (scope ∷ outer) name q entity zero n = standing-with_name_other (scope ∷ outer) name q entity n
standing-at_other (scope ∷ outer) name q entity (suc steps) n =
    ap (λ l. l ++ here (length outer) (meaning scope.names q)) (standing-at_other outer name q entity steps n)
    ∙ ap (λ k. standing (with_name_at steps name entity outer) q ++ here k (meaning scope.names q)) (sym (length-with_name_at steps name entity outer))

once-at : (scopes : List Scope) (name : List ℕ) (entity : Entity) (steps : ℕ) → declared (drop steps scopes) name ≡ None → EachOnce scopes
    → EachOnce (with_name_at steps name entity scopes)
once-at [] name entity steps free h = h
once-at (scope ∷ outer) name entity zero free h = once-with_name (scope ∷ outer) name entity free h
once-at (scope ∷ outer) name entity (suc steps) free h = (h.0, once-at outer name entity steps free h.1)

outermost-at : (scopes : List Scope) (name : List ℕ) (entity : Entity) (steps : ℕ) → HasOutermost scopes → HasOutermost (with_name_at steps name entity scopes)
outermost-at [] name entity steps h = h
outermost-at (scope ∷ []) name entity zero h = h
outermost-at (scope ∷ []) name entity (suc steps) h = h
outermost-at (scope ∷ around ∷ outer) name entity zero h = h
outermost-at (scope ∷ around ∷ outer) name entity (suc zero) h = outermost-at (around ∷ outer) name entity zero h
outermost-at (scope ∷ around ∷ outer) name entity (suc (suc steps)) h = outermost-at (around ∷ outer) name entity (suc steps) h

-- the scope that is so many steps out has got a name
pub kept-at : (old new : Declarations) (scopes : List Scope) (name : List ℕ) (entity : Entity) (steps depth at : ℕ) → ScopesAreKept old scopes
    → Changed (listed old) (listed new) name (λ l. insert l at (record { depth = depth; entity = entity })) → declared (drop steps scopes) name ≡ None
    → depth + steps + 1 ≡ length scopes → at ≡ prefix_len (less_deep depth) (listed old name) → ScopesAreKept new (with_name_at steps name entity scopes)
kept-at old new scopes name entity steps depth at k h free e f =
    let place : at ≡ length (standing (drop steps scopes) name) =
    f ∙ ap (prefix_len (less_deep depth)) (k.stands name) ∙ further scopes name (suc steps) depth (omega arith) ∙ length-standing scopes name steps free in
    record {
      stands = changed (listed old) (listed new) (standing scopes) (standing (with_name_at steps name entity scopes)) name
          (λ l. insert l at (record { depth = depth; entity = entity })) h k.stands (standing-at scopes name entity steps depth at free e place)
          (λ q n. standing-at_other scopes name q entity steps n);
      once = once-at scopes name entity steps free k.once;
      outermost = outermost-at scopes name entity steps k.outermost;
    }

-- there is such a place
pub place_within : (old : Declarations) (scopes : List Scope) (name : List ℕ) (depth at : ℕ) → ScopesAreKept old scopes → at ≡ prefix_len (less_deep depth)
    (listed old name) → at ≤ length (listed old name)
place_within old scopes name depth at k f = omega (arith, f, prefix_len-le-length (less_deep depth) (listed old name))

pub drop_twice : {A : Type 0} (xs : List A) → drop 2 xs ≡ drop 1 (drop 1 xs)
drop_twice [] = refl
drop_twice (x ∷ []) = refl
drop_twice (x ∷ y ∷ xs) = refl
