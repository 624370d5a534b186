-- One declaration behind another: what is true of the names that they use, and which names they add.
use Rattle.std.proofs.Common.{◌≡◌, ℕ, Bool, List, [], ◌++◌, subst, sym}
use Rattle.edi_scope.specs.Scope.{Scope, outside}
use Rattle.edi_static.specs.Judged.{Judged, gives, faults, ◌>>=◌}
use Rattle.edi_static.specs.Environment.{Environment}
use Rattle.edi_static.specs.Headings.{Listed, Headed}
use Rattle.edi_static.proofs.Judging.{Gives}
use Rattle.edi_static.proofs.names.Shows.{Holds, Shows}
use Rattle.edi_static.proofs.names.Scoping.{Adds, exports, exports_append, behind, leaving}

abbrev pub in_env : Environment → List Scope
in_env env = env.scopes

abbrev pub in_listed : Listed → List Scope
in_listed l = l.env.scopes

abbrev pub in_headed : Headed → List Scope
in_headed h = h.env.scopes

abbrev pub Growing : {A : Type 0} → (A → List Scope) → Type 0 → (ns xs : List (List ℕ)) → List Scope → Judged A → Type 0
Growing at X ns xs a m = Gives (λ e. X × Adds ns xs a (at e)) m

pub record Grows {A : Type 0} (at : A → List Scope) (X : Type 0) (ns xs : List (List ℕ)) (a : List Scope) (m : Judged A) : Type 0 where
  pub grows : Growing at X ns xs a m

module _ {A B : Type 0} (at : A → List Scope) (at' : B → List Scope) where
  joins : (X Y : Type 0) (ns xs ms ys : List (List ℕ)) (a b : List Scope) (m : Judged B) → X → Adds ns xs a b → Growing at' Y ms ys b m
      → Growing at' (X × Y) (ns ++ ms) (xs ++ ys) a m
  joins X Y ns xs ms ys a b (gives e) x k h = ((x, h.0), behind k h.1)
  joins X Y ns xs ms ys a b (faults why line) x k h = tt

  chains : (X Y : Type 0) (ns xs ms ys : List (List ℕ)) (a : List Scope) (m : Judged A) (f : A → Judged B) → Growing at X ns xs a m
      → ((e : A) → Adds ns xs a (at e) → Grows at' Y ms ys (at e) (f e)) →
      Growing at' (X × Y) (ns ++ ms) (xs ++ ys) a (m >>= f)
  chains X Y ns xs ms ys a (gives e) f h k = joins X Y ns xs ms ys a (at e) (f e) h.0 h.1 (k e h.1).grows
  chains X Y ns xs ms ys a (faults why line) f h k = tt

  outers : (X Y : Type 0) (ns xs ms ys : List (List ℕ)) (a : List Scope) (m : Judged A) (f : A → Judged B) → Growing at X ns xs a m
      → ((e : A) → Grows at' Y ms ys (outside (at e)) (f e)) →
      Growing at' (X × Y) (xs ++ ms) ([] ++ ys) (outside a) (m >>= f)
  outers X Y ns xs ms ys a (gives e) f h k = joins X Y xs [] ms ys (outside a) (outside (at e)) (f e) h.0 (leaving h.1) (k e).grows
  outers X Y ns xs ms ys a (faults why line) f h k = tt

  keeping : (X : Type 0) (ns xs : List (List ℕ)) (a b : List Scope) (m : Judged B) → X → Adds ns xs a b → Gives (λ e. at' e ≡ b) m → Growing at' X ns xs a m
  keeping X ns xs a b (gives e) x k h = (x, subst (λ (s : List Scope). Adds ns xs a s) (sym h) k)
  keeping X ns xs a b (faults why line) x k h = tt

  keeps : (X : Type 0) (ns xs : List (List ℕ)) (a : List Scope) (m : Judged A) (f : A → Judged B) → Growing at X ns xs a m
      → ((e : A) → Gives (λ b. at' b ≡ at e) (f e)) → Growing at' X ns xs a (m >>= f)
  keeps X ns xs a (gives e) f h k = keeping X ns xs a (at e) (f e) h.0 h.1 (k e)
  keeps X ns xs a (faults why line) f h k = tt

  ending : (X Y : Type 0) (ns xs : List (List ℕ)) (a b : List Scope) (m : Judged B) → X → Adds ns xs a b → Gives (λ e. Y × (at' e ≡ b)) m
      → Growing at' (X × Y) ns xs a m
  ending X Y ns xs a b (gives e) x k h = ((x, h.0), subst (λ (s : List Scope). Adds ns xs a s) (sym h.1) k)
  ending X Y ns xs a b (faults why line) x k h = tt

  ends : (X Y : Type 0) (ns xs : List (List ℕ)) (a : List Scope) (m : Judged A) (f : A → Judged B) → Growing at X ns xs a m
      → ((e : A) → Adds ns xs a (at e) → Gives (λ b. Y × (at' b ≡ at e)) (f e)) →
      Growing at' (X × Y) ns xs a (m >>= f)
  ends X Y ns xs a (gives e) f h k = ending X Y ns xs a (at e) (f e) h.0 h.1 (k e h.1)
  ends X Y ns xs a (faults why line) f h k = tt

  -- one behind another
  pub chain : {X Y : Type 0} {ns xs ms ys : List (List ℕ)} {a : List Scope} {m : Judged A} {f : A → Judged B} → Grows at X ns xs a m
      → ((e : A) → Adds ns xs a (at e) → Grows at' Y ms ys (at e) (f e)) →
      Grows at' (X × Y) (ns ++ ms) (xs ++ ys) a (m >>= f)
  chain {X = X} {Y = Y} {ns = ns} {xs = xs} {ms = ms} {ys = ys} {a = a} {m = m} {f = f} h k = record { grows = chains X Y ns xs ms ys a m f h.grows k }

  -- one in the scope round another
  pub outer : {X Y : Type 0} {ns xs ms ys : List (List ℕ)} {a : List Scope} {m : Judged A} {f : A → Judged B} → Grows at X ns xs a m
      → ((e : A) → Grows at' Y ms ys (outside (at e)) (f e)) →
      Grows at' (X × Y) (xs ++ ms) ys (outside a) (m >>= f)
  outer {X = X} {Y = Y} {ns = ns} {xs = xs} {ms = ms} {ys = ys} {a = a} {m = m} {f = f} h k = record { grows = outers X Y ns xs ms ys a m f h.grows k }

  -- what stands behind leaves the scopes as they are
  pub keep : {X : Type 0} {ns xs : List (List ℕ)} {a : List Scope} {m : Judged A} (f : A → Judged B) → Grows at X ns xs a m
      → ((e : A) → Gives (λ b. at' b ≡ at e) (f e)) → Grows at' X ns xs a (m >>= f)
  keep {X = X} {ns = ns} {xs = xs} {a = a} {m = m} f h k = record { grows = keeps X ns xs a m f h.grows k }

  pub end : {X Y : Type 0} {ns xs : List (List ℕ)} {a : List Scope} {m : Judged A} (f : A → Judged B) → Grows at X ns xs a m
      → ((e : A) → Adds ns xs a (at e) → Gives (λ b. Y × (at' b ≡ at e)) (f e)) → Grows at' (X × Y) ns xs a (m >>= f)
  end {X = X} {Y = Y} {ns = ns} {xs = xs} {a = a} {m = m} f h k = record { grows = ends X Y ns xs a m f h.grows k }

-- of a declaration with an export, or without one
pub chain_export : (m : Bool) {X Y : Type 0} {ns ms : List (List ℕ)} {a : List Scope} {j : Judged Environment} {f : Environment → Judged Environment}
    → Grows in_env X ns (exports m ns) a j →
    ((e : Environment) → Adds ns (exports m ns) a e.scopes → Grows in_env Y ms (exports m ms) e.scopes (f e)) → Grows in_env (X × Y) (ns ++ ms)
    (exports m (ns ++ ms)) a (j >>= f)
chain_export m {X = X} {Y = Y} {ns = ns} {ms = ms} {a = a} {j = j} {f = f} h k =
    subst (λ (xs : List (List ℕ)). Grows in_env (X × Y) (ns ++ ms) xs a (j >>= f)) (exports_append m ns ms) (chain in_env in_env h k)

adding : {B : Type 0} (at : B → List Scope) (X Y : Type 0) (ns xs : List (List ℕ)) (a : List Scope) (m : Judged B) → X → Growing at Y ns xs a m
    → Growing at (X × Y) ns xs a m
adding at X Y ns xs a (gives e) x h = ((x, h.0), h.1)
adding at X Y ns xs a (faults why line) x h = tt

module _ {A B : Type 0} (at : B → List Scope) where
  shows : (X Y : Type 0) (ns xs : List (List ℕ)) (a : List Scope) (m : Judged A) (f : A → Judged B) → Holds X m → ((e : A) → Grows at Y ns xs a (f e))
      → Growing at (X × Y) ns xs a (m >>= f)
  shows X Y ns xs a (gives e) f h k = adding at X Y ns xs a (f e) h (k e).grows
  shows X Y ns xs a (faults why line) f h k = tt

  passes : (Y : Type 0) (ns xs : List (List ℕ)) (a : List Scope) (m : Judged A) (f : A → Judged B) → ((e : A) → Grows at Y ns xs a (f e))
      → Growing at Y ns xs a (m >>= f)
  passes Y ns xs a (gives e) f k = (k e).grows
  passes Y ns xs a (faults why line) f k = tt

  -- a declaration behind a part that declares nothing
  pub shown : {X Y : Type 0} {ns xs : List (List ℕ)} {a : List Scope} {m : Judged A} {f : A → Judged B} → Shows X m → ((e : A) → Grows at Y ns xs a (f e))
      → Grows at (X × Y) ns xs a (m >>= f)
  shown {X = X} {Y = Y} {ns = ns} {xs = xs} {a = a} {m = m} {f = f} h k = record { grows = shows X Y ns xs a m f h.shown k }

  pub pass : {Y : Type 0} {ns xs : List (List ℕ)} {a : List Scope} (m : Judged A) {f : A → Judged B} → ((e : A) → Grows at Y ns xs a (f e))
      → Grows at Y ns xs a (m >>= f)
  pass {Y = Y} {ns = ns} {xs = xs} {a = a} m {f = f} k = record { grows = passes Y ns xs a m f k }

mapped : {A : Type 0} (at : A → List Scope) (X Y : Type 0) (ns xs : List (List ℕ)) (a : List Scope) (m : Judged A) → Growing at X ns xs a m → (X → Y)
    → Growing at Y ns xs a m
mapped at X Y ns xs a (gives e) h k = (k h.0, h.1)
mapped at X Y ns xs a (faults why line) h k = tt

pub so : {A X Y : Type 0} {at : A → List Scope} {ns xs : List (List ℕ)} {a : List Scope} {m : Judged A} → Grows at X ns xs a m → (X → Y) → Grows at Y ns xs a m
so {X = X} {Y = Y} {at = at} {ns = ns} {xs = xs} {a = a} {m = m} h k = record { grows = mapped at X Y ns xs a m h.grows k }
