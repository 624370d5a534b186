-- Which names a construct adds to the innermost scope, and to the one round it.
use Rattle.std.specs.Prelude.{if◌then◌else◌}
use Rattle.std.proofs.Common.{◌≡◌, ℕ, Bool, true, false, cond, is_some, ◌||◌, List, [], ◌∷◌, ◌++◌, length, map, take, ◌⊎◌, inl, inr, Option, Some, None}
use Rattle.std.proofs.Common.{refl, sym, ap, ◌∙◌, subst, arith}
use Rattle.std.specs.Map.{lookup}
use Rattle.std.specs.Option.{option_or}
use Rattle.std.specs.Str.{bytes_eq}
use Rattle.edi_scope.specs.declared.entity.Entity.{Entity}
use Rattle.edi_scope.specs.Scope.{Scope, meaning, declared, visible, outside, entered, with_one, with_name, exported}
use Rattle.edi_static.specs.names.Uses.{is_among}

-- ---- tests

never : {A : Type 0} → false ≡ true → A
never h = absurd (cc)

either : (a b : Bool) → (a || b) ≡ true → (a ≡ true) ⊎ (b ≡ true)
either true b h = inl refl
either false b h = inr h

left_or : (a b : Bool) → a ≡ true → (a || b) ≡ true
left_or true b h = refl
left_or false b h = never h

right_or : (a b : Bool) → b ≡ true → (a || b) ≡ true
right_or true b h = refl
right_or false b h = h

-- ---- lists of names

or_in : (t a b c : Bool) → a ≡ (b || c) → (t || a) ≡ ((t || b) || c)
or_in true a b c h = refl
or_in false a b c h = h

among_append : (xs ys : List (List ℕ)) (n : List ℕ) → is_among (xs ++ ys) n ≡ (is_among xs n || is_among ys n)
among_append [] ys n = refl
among_append (x ∷ xs) ys n = or_in (bytes_eq n x) (is_among (xs ++ ys) n) (is_among xs n) (is_among ys n) (among_append xs ys n)

pub in_left : (xs ys : List (List ℕ)) (n : List ℕ) → is_among xs n ≡ true → is_among (xs ++ ys) n ≡ true
in_left xs ys n h = among_append xs ys n ∙ left_or (is_among xs n) (is_among ys n) h

pub in_right : (xs ys : List (List ℕ)) (n : List ℕ) → is_among ys n ≡ true → is_among (xs ++ ys) n ≡ true
in_right xs ys n h = among_append xs ys n ∙ right_or (is_among xs n) (is_among ys n) h

-- the names of a declaration that its export gives to the scope round the module
abbrev pub exports : Bool → List (List ℕ) → List (List ℕ)
exports true names = names
exports false names = []

pub exports_append : (m : Bool) (xs ys : List (List ℕ)) → exports m xs ++ exports m ys ≡ exports m (xs ++ ys)
exports_append true xs ys = refl
exports_append false xs ys = refl

-- ---- scopes

-- the innermost scope has the name
abbrev pub has : List Scope → List ℕ → Bool
has scopes name = is_some (declared scopes name)

-- every visible name is among these
abbrev pub Sees : List (List ℕ) → List Scope → Type 0
Sees names scopes = (name : List ℕ) → is_some (visible scopes name) ≡ true → is_among names name ≡ true

or_some : (a b : Option Entity) → is_some (option_or a b) ≡ (is_some a || is_some b)
or_some None b = refl
or_some (Some e) b = refl

visible_split : (scopes : List Scope) (n : List ℕ) → is_some (visible scopes n) ≡ (has scopes n || is_some (visible (outside scopes) n))
visible_split [] n = refl
visible_split (s ∷ o) n = or_some (meaning s.names n) (visible o n)

seen_here : (scopes : List Scope) (n : List ℕ) → has scopes n ≡ true → is_some (visible scopes n) ≡ true
seen_here scopes n h = visible_split scopes n ∙ left_or (has scopes n) (is_some (visible (outside scopes) n)) h

seen_outside : (scopes : List Scope) (n : List ℕ) → is_some (visible (outside scopes) n) ≡ true → is_some (visible scopes n) ≡ true
seen_outside scopes n h = visible_split scopes n ∙ right_or (has scopes n) (is_some (visible (outside scopes) n)) h

-- from scopes to later ones: the names that the innermost scope and the one round it may have got; those further out are
-- the same
pub record Adds (ns xs : List (List ℕ)) (a b : List Scope) : Type 0 where
  pub inner : (n : List ℕ) → has b n ≡ true → (has a n || is_among ns n) ≡ true
  pub round : (n : List ℕ) → has (outside b) n ≡ true → (has (outside a) n || is_among xs n) ≡ true
  pub farther : outside (outside b) ≡ outside (outside a)
  pub within : (n : List ℕ) → is_among xs n ≡ true → is_among ns n ≡ true
  pub long : length b ≡ length a

no_exports : (m : Bool) → exports m [] ≡ []
no_exports true = refl
no_exports false = refl

pub none : (m : Bool) (a : List Scope) → Adds [] (exports m []) a a
none m a = subst (λ xs. Adds [] xs a a) (sym (no_exports m)) (record {
  inner = λ n h. left_or (has a n) false h;
  round = λ n h. left_or (has (outside a) n) false h;
  farther = refl;
  within = λ n h. h;
  long = refl;
})

step : (a b x y z : Bool) → (b || y) ≡ true → (b ≡ true → (a || x) ≡ true) → (x ≡ true → z ≡ true) → (y ≡ true → z ≡ true) → (a || z) ≡ true
step a b x y z h k l r = by (either b y h)
  where
    inward : (a x z : Bool) → (x ≡ true → z ≡ true) → (a || x) ≡ true → (a || z) ≡ true
    inward true x z l h = refl
    inward false x z l h = l h

    by : ((b ≡ true) ⊎ (y ≡ true)) → (a || z) ≡ true
    by (inl e) = inward a x z l (k e)
    by (inr e) = right_or a z (r e)

pub behind : {ns ms xs ys : List (List ℕ)} {a b c : List Scope} → Adds ns xs a b → Adds ms ys b c → Adds (ns ++ ms) (xs ++ ys) a c
behind {ns = ns} {ms = ms} {xs = xs} {ys = ys} {a = a} {b = b} {c = c} x y = record {
  inner = λ n h. step (has a n) (has b n) (is_among ns n) (is_among ms n) (is_among (ns ++ ms) n) (y.inner n h) (x.inner n) (in_left ns ms n)
      (in_right ns ms n);
  round = λ n h.
      step (has (outside a) n) (has (outside b) n) (is_among xs n) (is_among ys n) (is_among (xs ++ ys) n) (y.round n h) (x.round n) (in_left xs ys n)
      (in_right xs ys n);
  farther = y.farther ∙ x.farther;
  within = λ n h. both n (either (is_among xs n) (is_among ys n) (sym (among_append xs ys n) ∙ h));
  long = y.long ∙ x.long;
}
  where
    both : (n : List ℕ) → ((is_among xs n ≡ true) ⊎ (is_among ys n ≡ true)) → is_among (ns ++ ms) n ≡ true
    both n (inl e) = in_left ns ms n (x.within n e)
    both n (inr e) = in_right ns ms n (y.within n e)

-- nothing more is added
pub behind_same : {ns xs : List (List ℕ)} {a b c : List Scope} → Adds ns xs a b → Adds [] [] b c → Adds ns xs a c
behind_same {ns = ns} {xs = xs} {a = a} {b = b} {c = c} x y = record {
  inner = λ n h. step (has a n) (has b n) (is_among ns n) false (is_among ns n) (y.inner n h) (x.inner n) (λ e. e) (λ e. never e);
  round = λ n h. step (has (outside a) n) (has (outside b) n) (is_among xs n) false (is_among xs n) (y.round n h) (x.round n) (λ e. e) (λ e. never e);
  farther = y.farther ∙ x.farther;
  within = x.within;
  long = y.long ∙ x.long;
}

-- perhaps this name too
pub wider : (name : List ℕ) {a b : List Scope} → Adds [] [] a b → Adds (name ∷ []) [] a b
wider name {a = a} {b = b} x = record {
  inner = λ n h. step (has a n) (has b n) false false (is_among (name ∷ []) n) (left_or (has b n) false h) (λ e. x.inner n e) (λ e. never e) (λ e. never e);
  round = x.round;
  farther = x.farther;
  within = λ n h. never h;
  long = x.long;
}

-- what is visible behind
pub sees_behind : (names : List (List ℕ)) {ns xs : List (List ℕ)} {a b : List Scope} → Sees names a → Adds ns xs a b → Sees (ns ++ names) b
sees_behind names {ns = ns} {xs = xs} {a = a} {b = b} w x =
    λ n h. inside n (either (has b n) (is_some (visible (outside b) n)) (sym (visible_split b n) ∙ h))
  where
    old : (n : List ℕ) → is_some (visible a n) ≡ true → is_among (ns ++ names) n ≡ true
    old n h = in_right ns names n (w n h)

    here : (n : List ℕ) → ((has a n ≡ true) ⊎ (is_among ns n ≡ true)) → is_among (ns ++ names) n ≡ true
    here n (inl e) = old n (seen_here a n e)
    here n (inr e) = in_left ns names n e

    round_it : (n : List ℕ) → ((has (outside a) n ≡ true) ⊎ (is_among xs n ≡ true)) → is_among (ns ++ names) n ≡ true
    round_it n (inl e) = old n (seen_outside a n (seen_here (outside a) n e))
    round_it n (inr e) = in_left ns names n (x.within n e)

    further : (n : List ℕ) → ((has (outside b) n ≡ true) ⊎ (is_some (visible (outside (outside b)) n) ≡ true)) → is_among (ns ++ names) n ≡ true
    further n (inl e) = round_it n (either (has (outside a) n) (is_among xs n) (x.round n e))
    further n (inr e) =
        old n (seen_outside a n (seen_outside (outside a) n (subst (λ (s : List Scope). is_some (visible s n) ≡ true) x.farther e)))

    inside : (n : List ℕ) → ((has b n ≡ true) ⊎ (is_some (visible (outside b) n) ≡ true)) → is_among (ns ++ names) n ≡ true
    inside n (inl e) = here n (either (has a n) (is_among ns n) (x.inner n e))
    inside n (inr e) = further n (either (has (outside b) n) (is_some (visible (outside (outside b)) n)) (sym (visible_split (outside b) n) ∙ e))

outside_long : (a b : List Scope) → length b ≡ length a → length (outside b) ≡ length (outside a)
outside_long [] [] h = refl
outside_long [] (y ∷ b) h = absurd (omega (arith, h))
outside_long (x ∷ a) [] h = absurd (omega (arith, h))
outside_long (x ∷ a) (y ∷ b) h = omega (arith, h)

-- the innermost scope is left
pub leaving : {ns xs : List (List ℕ)} {a b : List Scope} → Adds ns xs a b → Adds xs [] (outside a) (outside b)
leaving {ns = ns} {xs = xs} {a = a} {b = b} x = record {
  inner = x.round;
  round = λ n h. left_or (has (outside (outside a)) n) false (subst (λ (s : List Scope). has s n ≡ true) x.farther h);
  farther = ap (λ (s : List Scope). outside s) x.farther;
  within = λ n h. never h;
  long = outside_long a b x.long;
}

-- ---- declared names

new_in : (t p : Bool) → (t || p) ≡ true → (p || (t || false)) ≡ true
new_in true true h = refl
new_in true false h = refl
new_in false true h = refl
new_in false false h = h

cond_some : (t : Bool) (e : Entity) (o : Option Entity) → is_some (cond t (Some e) o) ≡ (t || is_some o)
cond_some true e o = refl
cond_some false e o = refl

one_more : (name : List ℕ) (e : Entity) (s : Scope) (n : List ℕ) → is_some (meaning (with_one name e s).names n) ≡ true
    → (is_some (meaning s.names n) || is_among (name ∷ []) n) ≡ true
one_more name e s n h =
    new_in (bytes_eq n name) (is_some (meaning s.names n)) (sym (cond_some (bytes_eq n name) e (meaning s.names n)) ∙ h)

pub with_adds : (m : Bool) (name : List ℕ) (e : Entity) (scopes : List Scope) →
    Adds (name ∷ []) (exports m (name ∷ [])) scopes (if m then exported name e (with_name name e scopes) else with_name name e scopes)
with_adds true name e [] = record { inner = λ n h. never h; round = λ n h. never h; farther = refl; within = λ n h. h; long = refl }
with_adds true name e (s ∷ []) = record { inner = one_more name e s; round = λ n h. never h; farther = refl; within = λ n h. h; long = refl }
with_adds true name e (s ∷ t ∷ o) = record { inner = one_more name e s; round = one_more name e t; farther = refl; within = λ n h. h; long = refl }
with_adds false name e [] = record { inner = λ n h. never h; round = λ n h. never h; farther = refl; within = λ n h. never h; long = refl }
with_adds false name e (s ∷ o) = record {
  inner = one_more name e s;
  round = λ n h. left_or (has o n) false h;
  farther = refl;
  within = λ n h. never h;
  long = refl;
}

pub exported_adds : (name : List ℕ) (e : Entity) (scopes : List Scope) → Adds (name ∷ []) (name ∷ []) scopes (exported name e scopes)
exported_adds name e [] = record { inner = λ n h. never h; round = λ n h. never h; farther = refl; within = λ n h. h; long = refl }
exported_adds name e (s ∷ []) = record {
  inner = λ n h. left_or (has (s ∷ []) n) (is_among (name ∷ []) n) h;
  round = λ n h. never h;
  farther = refl;
  within = λ n h. h;
  long = refl;
}
exported_adds name e (s ∷ t ∷ o) = record {
  inner = λ n h. left_or (has (s ∷ t ∷ o) n) (is_among (name ∷ []) n) h;
  round = one_more name e t;
  farther = refl;
  within = λ n h. h;
  long = refl;
}

-- ---- inside a heading

-- from the scopes round a heading to those inside it: its own name is in the scope round it, and these are its parameters
pub record Opens (ns xs parameters : List (List ℕ)) (a b : List Scope) : Type 0 where
  pub outer : Adds ns xs a (outside b)
  pub own : (n : List ℕ) → has b n ≡ true → is_among parameters n ≡ true

pub sees_inside : (names : List (List ℕ)) {ns xs ps : List (List ℕ)} {a b : List Scope} → Sees names a → Opens ns xs ps a b → Sees (ps ++ (ns ++ names)) b
sees_inside names {ns = ns} {ps = ps} {a = a} {b = b} w x =
    λ n h. by n (either (has b n) (is_some (visible (outside b) n)) (sym (visible_split b n) ∙ h))
  where
    by : (n : List ℕ) → ((has b n ≡ true) ⊎ (is_some (visible (outside b) n) ≡ true)) → is_among (ps ++ (ns ++ names)) n ≡ true
    by n (inl e) = in_left ps (ns ++ names) n (x.own n e)
    by n (inr e) = in_right ps (ns ++ names) n (sees_behind names w x.outer n e)

pub opened : (module' : Bool) {ns xs ps : List (List ℕ)} (a b o : List Scope) → Adds ps [] (entered module' a) b → Adds ns xs (outside b) o
    → Opens ns xs ps a (take 1 b ++ o)
opened module' a [] o x y = absurd (omega (arith, x.long))
opened module' a (s ∷ b) o x y = record { outer = behind (leaving x) y; own = λ n h. x.inner n h }

pub opened_same : (module' : Bool) (name : List ℕ) {ps : List (List ℕ)} (a b : List Scope) → Adds ps [] (entered module' a) b → Opens (name ∷ []) [] ps a b
opened_same module' name a b x = record { outer = wider name (leaving x); own = λ n h. x.inner n h }

-- ---- the names of a scope

pub lookup_among : (es : List (List ℕ × Entity)) (n : List ℕ) → is_some (lookup (bytes_eq n) es) ≡ is_among (map (λ e. e.0) es) n
lookup_among [] n = refl
lookup_among (e ∷ es) n = cond_some (bytes_eq n e.0) e.1 (lookup (bytes_eq n) es) ∙ ap (λ b. bytes_eq n e.0 || b) (lookup_among es n)
