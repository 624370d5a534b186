-- The entries of the code's variables, against the store of the definitions.
use Rattle.std.proofs.Common.{◌≡◌, ℕ, zero, suc, ◌+◌, ◌<◌, Bool, true, false, if◌then◌else◌, List, [], ◌∷◌, length, Some, None, refl, sym, subst, ap, ◌∙◌, take, drop}
use Rattle.std.proofs.Common.{◌++◌, get_or, arith}
use Rattle.std.specs.Prelude.{IfOk, Result, Ok, Err, map, slice_get, slice_set, slice_index_or, unwrap_or, ◌&&◌, nat_eq}
use Rattle.std.specs.Cmp.Lexicographic.{pointwise}
use Rattle.std.proofs.lemmas.List.{map-append}
use Rattle.edi_unit.proofs.Limits.{drop_item}
use Rattle.edi_unit.specs.Values.{Value}
use Rattle.edi_calls.specs.Names.{Name, Table, same, find, with_at, without}
use Rattle.edi_meaning.specs.Parts.{with_part}
use Rattle.edi_meaning.specs.Store.{value, value_in, no_cell, cells_in, with_cell_in, Location, Instance, Store, instances, frames, used, grown, no_frame, frame_at, Shape, Spot, reached}
use Rattle.edi_walk.specs.declared.data.Held as code_cell
use Rattle.edi_walk.specs.declared.memory.Activation as code_activation
use Rattle.edi_walk.specs.declared.entry.Entry as code_entry
use Rattle.edi_walk.specs.Counted.{words_needed}
use Rattle.edi_walk.specs.Data.{cell_of}
use Rattle.edi_walk.specs.Memory.{instance_of, entry_of, StandsAt, cells_put, instances_put}

-- ---- names

pub same_seen : (p q : Name) → pointwise nat_eq p q ≡ same p q
same_seen [] [] = refl
same_seen [] (y ∷ ys) = refl
same_seen (x ∷ xs) [] = refl
same_seen (x ∷ xs) (y ∷ ys) = ap (λ b. nat_eq x y && b) (same_seen xs ys)

-- ---- the search of an entry

-- what has been found so far: none of this name before this place
abbrev pub Passed : Name → ℕ → List code_entry.Entry → Type 0
Passed name k es = record {
  place : (i : ℕ) → StandsAt name i (drop k es) → StandsAt name (k + i) es;
  rest : find (map entry_of (drop k es)) name ≡ find (map entry_of es) name;
}

pub passed_one : (name : Name) (k : ℕ) (es : List code_entry.Entry) (e : code_entry.Entry) → k < length es → e ≡ get_or es k e →
    same name e.name.items ≡ false → Passed name k es → Passed name (k + 1) es
passed_one name k es e h is other p = record {
  place = λ i s. subst (λ n. StandsAt name n es) (omega arith) (p.place (suc i) (subst (StandsAt name (suc i)) (sym (drop_item es k e h is)) (other, s)));
  rest =
      sym (ap (λ b. if b then Some (map instance_of e.instances.items) else find (map entry_of (drop (k + 1) es)) name) other)
      ∙ ap (λ xs. find (map entry_of xs) name) (sym (drop_item es k e h is))
      ∙ p.rest;
}

pub stands_there : (name : Name) (k : ℕ) (es : List code_entry.Entry) (e : code_entry.Entry) → k < length es → e ≡ get_or es k e →
    same name e.name.items ≡ true → Passed name k es → StandsAt name k es
stands_there name k es e h is s p =
    subst (λ n. StandsAt name n es) (omega arith) (p.place 0 (subst (StandsAt name 0) (sym (drop_item es k e h is)) s))

-- ---- an entry that stands there

pub stands_within : (name : Name) (i : ℕ) (es : List code_entry.Entry) → StandsAt name i es → i < length es
stands_within name i [] s = absurd s
stands_within name zero (e ∷ es) s = omega arith
stands_within name (suc i) (e ∷ es) s = omega (arith, stands_within name i es s.1)

pub stands_found : (name : Name) (i : ℕ) (es : List code_entry.Entry) (e : code_entry.Entry) → StandsAt name i es → e ≡ get_or es i e →
    instances (map entry_of es) name ≡ map instance_of e.instances.items
stands_found name i [] e s is = absurd s
stands_found name zero (x ∷ es) e s is =
    ap (λ b. unwrap_or (if b then Some (map instance_of x.instances.items) else find (map entry_of es) name) []) s
    ∙ ap (λ (y : code_entry.Entry). map instance_of y.instances.items) (sym is)
stands_found name (suc i) (x ∷ es) e s is =
    ap (λ b. unwrap_or (if b then Some (map instance_of x.instances.items) else find (map entry_of es) name) []) s.0
    ∙ stands_found name i es e s.1 is

-- the entries without it
pub stands_removed : (name : Name) (i : ℕ) (es : List code_entry.Entry) → StandsAt name i es →
    without (map entry_of (take i es ++ drop (suc i) es)) name ≡ without (map entry_of es) name
stands_removed name i [] s = absurd s
stands_removed name zero (x ∷ es) s = sym (ap (λ b. if b then without (map entry_of es) name else entry_of x ∷ without (map entry_of es) name) s)
stands_removed name (suc i) (x ∷ es) s =
    ap (λ b. if b then without (map entry_of (take i es ++ drop (suc i) es)) name else entry_of x ∷ without (map entry_of (take i es ++ drop (suc i) es)) name) s.0
    ∙ ap (λ t. entry_of x ∷ t) (stands_removed name i es s.1)
    ∙ sym (ap (λ b. if b then without (map entry_of es) name else entry_of x ∷ without (map entry_of es) name) s.0)

-- a name that is nowhere is not taken out
pub nowhere : {A : Type 0} (t : Table A) (name : Name) → find t name ≡ None → without t name ≡ t
nowhere [] name e = refl
nowhere (entry ∷ t) name e = go (same name entry.0) e (nowhere t name)
  where
    go : (b : Bool) → (if b then Some entry.1 else find t name) ≡ None → (find t name ≡ None → without t name ≡ t) →
        (if b then without t name else entry ∷ without t name) ≡ entry ∷ t
    go true f more = absurd (cc)
    go false f more = ap (λ r. entry ∷ r) (more f)

-- it comes at the end
pub put_new : {A : Type 0} (t : Table A) (name : Name) (a : A) → find t name ≡ None → with_at t name a ≡ t ++ (name, a) ∷ []
put_new [] name a e = refl
put_new (entry ∷ t) name a e = go (same name entry.0) e (put_new t name a)
  where
    go : (b : Bool) → (if b then Some entry.1 else find t name) ≡ None → (find t name ≡ None → with_at t name a ≡ t ++ (name, a) ∷ []) →
        (if b then (entry.0, a) ∷ t else entry ∷ with_at t name a) ≡ entry ∷ (t ++ (name, a) ∷ [])
    go true f more = absurd (cc)
    go false f more = ap (λ r. entry ∷ r) (more f)

pub begun_new : {T : Type 0} (result : Result (Unit {0}) T) (old new : Store) (name : Name) (i : code_activation.Activation) → find old name ≡ None →
    IfOk result (λ _. new ≡ old ++ (name, instance_of i ∷ []) ∷ []) → IfOk result (λ _. new ≡ with_at old name (instance_of i ∷ []))
begun_new (Ok x) old new name i none h = h ∙ sym (put_new old name (instance_of i ∷ []) none)
begun_new (Err x) old new name i none h = tt

-- the entry with other instances
pub stands_with : (name : Name) (i : ℕ) (es : List code_entry.Entry) (e f : code_entry.Entry) → StandsAt name i es → e ≡ get_or es i e →
    f.name ≡ e.name → map entry_of (slice_set es i f) ≡ with_at (map entry_of es) name (map instance_of f.instances.items)
stands_with name i [] e f s is n = absurd s
stands_with name zero (x ∷ es) e f s is n =
    ap (λ p. (p.items, map instance_of f.instances.items) ∷ map entry_of es) (n ∙ ap (λ (y : code_entry.Entry). y.name) is)
    ∙ sym (ap (λ b. if b then (x.name.items, map instance_of f.instances.items) ∷ map entry_of es else
    entry_of x ∷ with_at (map entry_of es) name (map instance_of f.instances.items)) s)
stands_with name (suc i) (x ∷ es) e f s is n =
    ap (λ t. entry_of x ∷ t) (stands_with name i es e f s.1 is n)
    ∙ sym (ap (λ b. if b then (x.name.items, map instance_of f.instances.items) ∷ map entry_of es else
    entry_of x ∷ with_at (map entry_of es) name (map instance_of f.instances.items)) s.0)

-- the entry with this instance alone, or with this one more
pub begun_entry : {T : Type 0} (name : Name) (i : ℕ) (es : List code_entry.Entry) (e f : code_entry.Entry) (a : code_activation.Activation)
    (result : Result (Unit {0}) T) → StandsAt name i es → e ≡ get_or es i e → f.name ≡ e.name → IfOk result (λ _. f.instances.items ≡ a ∷ []) →
    IfOk result (λ _. map entry_of (slice_set es i f) ≡ with_at (map entry_of es) name (instance_of a ∷ []))
begun_entry name i es e f a (Ok x) s is n h = stands_with name i es e f s is n ∙ ap (λ l. with_at (map entry_of es) name (map instance_of l)) h
begun_entry name i es e f a (Err x) s is n h = tt

pub grown_entry : {T : Type 0} (name : Name) (i : ℕ) (es : List code_entry.Entry) (e f : code_entry.Entry) (a : code_activation.Activation)
    (result : Result (Unit {0}) T) → StandsAt name i es → e ≡ get_or es i e → f.name ≡ e.name →
    IfOk result (λ _. f.instances.items ≡ e.instances.items ++ a ∷ []) →
    IfOk result (λ _. map entry_of (slice_set es i f) ≡ grown name (instance_of a) (map entry_of es))
grown_entry name i es e f a (Ok x) s is n h =
    stands_with name i es e f s is n
    ∙ ap (with_at (map entry_of es) name)
    (ap (map instance_of) h ∙ map-append instance_of e.instances.items (a ∷ []) ∙ ap (λ l. l ++ instance_of a ∷ []) (sym (stands_found name i es e s is)))
grown_entry name i es e f a (Err x) s is n h = tt

-- ---- variables of an instance

some_is : {A : Type 0} (a b : A) → Some a ≡ Some b → a ≡ b
some_is a b e = cc

pub cell_at : (cells : List code_cell.Held) (i : ℕ) (x : code_cell.Held) → slice_get cells i ≡ Some x → slice_index_or (map cell_of cells) i no_cell ≡ cell_of x
cell_at [] i x e = absurd (cc)
cell_at (y ∷ cells) zero x e = ap cell_of (some_is y x e)
cell_at (y ∷ cells) (suc i) x e = cell_at cells i x e

cell_replaced : (cells : List code_cell.Held) (i : ℕ) (x y : code_cell.Held) → map cell_of (slice_set (slice_set cells i y) i x)
    ≡ slice_set (map cell_of cells) i (cell_of x)
cell_replaced [] i x y = refl
cell_replaced (z ∷ cells) zero x y = refl
cell_replaced (z ∷ cells) (suc i) x y = ap (λ l. cell_of z ∷ l) (cell_replaced cells i x y)

pub cell_put : (old mid new : List code_cell.Held) (i : ℕ) (x y : code_cell.Held) → mid ≡ slice_set old i y → new ≡ slice_set mid i x →
    map cell_of new ≡ slice_set (map cell_of old) i (cell_of x)
cell_put old mid new i x y e f = ap (map cell_of) (f ∙ ap (λ xs. slice_set xs i x) e) ∙ cell_replaced old i x y

-- what an instance that is there has
pub cells_there : (is : List Instance) (d : ℕ) (i : Instance) → slice_get is d ≡ Some i → cells_in is d ≡ i.cells
cells_there [] d i e = absurd (cc)
cells_there (x ∷ is) zero i e = ap (λ (y : Instance). y.cells) (some_is x i e)
cells_there (x ∷ is) (suc d) i e = cells_there is d i e

pub frame_there : (is : List Instance) (d : ℕ) (i : Instance) → slice_get is d ≡ Some i → unwrap_or (slice_get (frames is) d) no_frame ≡ i.frame
frame_there [] d i e = absurd (cc)
frame_there (x ∷ is) zero i e = ap (λ (y : Instance). y.frame) (some_is x i e)
frame_there (x ∷ is) (suc d) i e = frame_there is d i e

pub instance_there : (is : List code_activation.Activation) (d : ℕ) (i : code_activation.Activation) → slice_get is d ≡ Some i →
    slice_get (map instance_of is) d ≡ Some (instance_of i)
instance_there [] d i e = absurd (cc)
instance_there (x ∷ is) zero i e = ap (λ y. Some (instance_of y)) (some_is x i e)
instance_there (x ∷ is) (suc d) i e = instance_there is d i e

pub frames_counted : (is : List code_activation.Activation) → length (frames (map instance_of is)) ≡ length is
frames_counted [] = refl
frames_counted (i ∷ is) = ap suc (frames_counted is)

-- as many static parents further
pub reached_one : (F : Shape) (n k : ℕ) (s t : Spot) → n ≡ suc k → (frame_at F s).parent ≡ t → reached F n s ≡ reached F k t
reached_one F n k s t e f = ap (λ m. reached F m s) e ∙ ap (reached F k) f

pub instance_put : (is : List code_activation.Activation) (d : ℕ) (old new : code_activation.Activation) (l : Location) (v : Value) → d ≡ l.spot.1 →
    d < length is → old ≡ get_or is d old → new.block ≡ old.block → new.need ≡ old.need → new.parent ≡ old.parent →
    map cell_of new.cells.items ≡ cells_put (map cell_of old.cells.items) l v →
    map instance_of (slice_set is d new) ≡ instances_put (map instance_of is) l v
instance_put is d old new l v at within there b n p c =
    go is d within there
    ∙ ap (λ k. with_cell_in (map instance_of is) k l.variable
    (value (with_part (value_in (slice_index_or (cells_in (map instance_of is) k) l.variable no_cell)) l.path v))) at
  where
    go : (is : List code_activation.Activation) (d : ℕ) → d < length is → old ≡ get_or is d old → map instance_of (slice_set is d new)
        ≡ with_cell_in (map instance_of is) d l.variable
        (value (with_part (value_in (slice_index_or (cells_in (map instance_of is) d) l.variable no_cell)) l.path v))
    go [] d within there = absurd (omega (arith, within))
    go (x ∷ is) zero within there =
        let cells : map cell_of new.cells.items ≡ cells_put (map cell_of x.cells.items) l v =
        c ∙ ap (λ (y : code_activation.Activation). cells_put (map cell_of y.cells.items) l v) there in
        let frame : (instance_of new).frame ≡ (instance_of x).frame =
        ap (λ k. record { block = k; need = new.need; parent = Rattle.edi_walk.specs.Data.spot_of new.parent }) b
        ∙ ap (λ k. record { block = old.block; need = k; parent = Rattle.edi_walk.specs.Data.spot_of new.parent }) n
        ∙ ap (λ k. record { block = old.block; need = old.need; parent = Rattle.edi_walk.specs.Data.spot_of k }) p
        ∙ ap (λ (y : code_activation.Activation). (instance_of y).frame) there in
        ap (λ f. record { frame = f; cells = map cell_of new.cells.items } ∷ map instance_of is) frame
        ∙ ap (λ k. record { frame = (instance_of x).frame; cells = k } ∷ map instance_of is) cells
    go (x ∷ is) (suc d) within there = ap (λ t. instance_of x ∷ t) (go is d (omega (arith, within)) there)

-- ---- the words that instances need

pub words_seen : (is : List code_activation.Activation) → used (frames (map instance_of is)) ≡ words_needed is
words_seen [] = refl
words_seen (i ∷ is) = ap (λ n. i.need + n) (words_seen is)

pub words_append : (is : List code_activation.Activation) (i : code_activation.Activation) → words_needed (is ++ i ∷ []) ≡ words_needed is + i.need
words_append [] i = omega arith
words_append (x ∷ is) i = omega (arith, words_append is i)

pub words_set : (is : List code_activation.Activation) (d : ℕ) (old new : code_activation.Activation) → d < length is → old ≡ get_or is d old →
    new.need ≡ old.need → words_needed (slice_set is d new) ≡ words_needed is
words_set [] d old new within there same = absurd (omega (arith, within))
words_set (x ∷ is) zero old new within there same = ap (λ n. n + words_needed is) (same ∙ ap (λ (a : code_activation.Activation). a.need) there)
words_set (x ∷ is) (suc d) old new within there same = ap (λ n. x.need + n) (words_set is d old new (omega (arith, within)) there same)
