-- Where things are: an evaluation to the end leaves every process the frames that it had. A local step changes the
-- frames of its own process alone, and of those no more than the newest.
use Rattle.std.proofs.Common.{◌≡◌, ℕ, zero, suc, ◌-◌, ◌⊎◌, inl, inr, false, List, [], ◌∷◌, ◌++◌, take, length, length-append, refl, sym, ap, ◌∙◌, arith}
use Rattle.std.proofs.lemmas.List.{take_at}
use Rattle.edi_calls.specs.Names.{Name, same, with_at}
use Rattle.edi_calls.proofs.Tables.{same-or-other}
use Rattle.edi_unit.specs.Tree.{ProgramUnit}
use Rattle.edi_unit.specs.Values.{Value}
use Rattle.edi_meaning.specs.Store.{Location, Cell, Frame, Instance, Store, Shape, instances, frames, shape, with_cell_in, put, grown, shrunk}
use Rattle.edi_meaning.specs.Evaluation.{World}
use Rattle.edi_meaning.specs.Whole.{instance_of}
use Rattle.edi_meaning.specs.Step.{Work, Standing, local_step}
use Rattle.edi_meaning.proofs.Lasting.{Lasting, Keeps}
use Rattle.edi_meaning.proofs.Worlds.{lasting}
use Rattle.edi_meaning.proofs.Local.{Moving, local_keeps}
use Rattle.edi_meaning.proofs.Own.{instances-same, instances-other}

-- ---- frames of lists

frames-append : (is js : List Instance) → frames (is ++ js) ≡ frames is ++ frames js
frames-append [] js = refl
frames-append (i ∷ is) js = ap (λ fs. i.frame ∷ fs) (frames-append is js)

pub frames-take : (n : ℕ) (is : List Instance) → frames (take n is) ≡ take n (frames is)
frames-take zero is = refl
frames-take (suc n) [] = refl
frames-take (suc n) (i ∷ is) = ap (λ fs. i.frame ∷ fs) (frames-take n is)

pub length-frames : (is : List Instance) → length (frames is) ≡ length is
length-frames [] = refl
length-frames (i ∷ is) = ap suc (length-frames is)

frames-with_cell : (is : List Instance) (depth variable : ℕ) (c : Cell) → frames (with_cell_in is depth variable c) ≡ frames is
frames-with_cell [] depth variable c = refl
frames-with_cell (i ∷ is) zero variable c = refl
frames-with_cell (i ∷ is) (suc depth) variable c = ap (λ fs. i.frame ∷ fs) (frames-with_cell is depth variable c)

-- ---- changes of a store

-- a value changes no frame
pub shape-put : (store : Store) (l : Location) (v : Value) (r : Name) → shape (put store l v) r ≡ shape store r
shape-put store l v r = go (same-or-other r l.spot.0)
  where
    go : (r ≡ l.spot.0) ⊎ (same r l.spot.0 ≡ false) → shape (put store l v) r ≡ shape store r
    go (inl e) =
        ap (shape (put store l v)) e ∙ ap frames (instances-same store l.spot.0 _)
        ∙ frames-with_cell (instances store l.spot.0) l.spot.1 l.variable _ ∙ sym (ap (shape store) e)
    go (inr n) = ap frames (instances-other store l.spot.0 r _ n)

pub shape-grown : (p : Name) (i : Instance) (store : Store) → shape (grown p i store) p ≡ shape store p ++ i.frame ∷ []
shape-grown p i store = ap frames (instances-same store p _) ∙ frames-append (instances store p) (i ∷ [])

-- the newest frame goes
pub shape-shrunk : (p : Name) (store : Store) (fs : List Frame) (f : Frame) → shape store p ≡ fs ++ f ∷ [] → shape (shrunk p store) p ≡ fs
shape-shrunk p store fs f e =
    let l : length (shape store p) ≡ length (fs ++ f ∷ []) = ap length e in
    ap frames (instances-same store p _) ∙ frames-take (length (instances store p) - 1) (instances store p)
    ∙ ap (take (length (instances store p) - 1)) e
    ∙ take_at fs (f ∷ []) (length (instances store p) - 1) (omega (arith, l, length-frames (instances store p), length-append fs (f ∷ [])))

-- ---- evaluations

-- the frames of each process are these
pub record HasShape (F : Shape) (store : Store) : Type 0 where
  pub each : (r : Name) → shape store r ≡ F r

pub own_shape : (store : Store) → HasShape (shape store) store
own_shape store = record { each = λ r. refl }

-- a call changes the shape, and its end restores it
pub returned : (p : Name) (i : Instance) (F : Shape) (before store : Store) → HasShape F before → HasShape (shape (grown p i before)) store
    → HasShape F (shrunk p store)
returned p i F before store h k = record { each = λ r. go r (same-or-other r p) }
  where
    go : (r : Name) → (r ≡ p) ⊎ (same r p ≡ false) → shape (shrunk p store) r ≡ F r
    go r (inl e) =
        ap (shape (shrunk p store)) e ∙ shape-shrunk p store (shape before p) i.frame (k.each p ∙ shape-grown p i before) ∙ h.each p ∙ sym (ap F e)
    go r (inr n) = ap frames (instances-other store p r _ n) ∙ k.each r ∙ ap frames (instances-other before p r _ n) ∙ h.each r

abbrev pub framing : (unit : ProgramUnit) (p : Name) (size : ℕ) → Lasting unit p size
framing unit p size = lasting (record {
  Level = Shape;
  Holds = λ F w. HasShape F w.store;
  Ends = λ e system turns. Unit {0};
  over = λ F e w o h. tt;
  turned = λ F n w e h. h;
  stored = λ F l v w h. record { each = λ r. shape-put w.store l v r ∙ h.each r };
  replied = λ F number asked words system w e h. h;
  called = λ F number parent cells w h.
      let i : Instance = instance_of unit p size number parent cells in
      (shape (grown p i w.store), own_shape (grown p i w.store), λ v k. returned p i F w.store v.store h k);
})

-- ---- local steps

-- how the frames of a process may differ after a local step of it
pub data Turnover (old new : List Frame) : Type 0 where
  -- they are the same
  unchanged : new ≡ old → Turnover old new
  -- a block was entered
  entered : (f : Frame) → new ≡ old ++ f ∷ [] → Turnover old new
  -- a block was left
  left : (f : Frame) → old ≡ new ++ f ∷ [] → Turnover old new
  -- the program was entered
  begun : (f : Frame) → new ≡ f ∷ [] → Turnover old new

-- after a local step of p the others have their frames, and p has them but for the newest
pub record Steps (p : Name) (before after : Store) : Type 0 where
  pub others : (r : Name) → same r p ≡ false → shape after r ≡ shape before r
  pub own : Turnover (shape before p) (shape after p)

-- a list that is not empty has a last frame
last_frame : (f : Frame) (fs : List Frame) → (before : List Frame) × (g : Frame) × ((f ∷ fs) ≡ before ++ g ∷ [])
last_frame f [] = ([], f, refl)
last_frame f (g ∷ fs) =
    let r : (before : List Frame) × (h : Frame) × ((g ∷ fs) ≡ before ++ h ∷ []) = last_frame g fs in
    (f ∷ r.0, r.1, ap (λ l. f ∷ l) r.2)

take-nil : (n : ℕ) → take n (frames []) ≡ []
take-nil zero = refl
take-nil (suc n) = refl

shrunk_turnover : (p : Name) (store : Store) (fs : List Frame) → shape store p ≡ fs → Turnover fs (shape (shrunk p store) p)
shrunk_turnover p store [] e =
    unchanged (ap frames (instances-same store p _) ∙ frames-take (length (instances store p) - 1) (instances store p)
    ∙ ap (take (length (instances store p) - 1)) e ∙ take-nil (length (instances store p) - 1))
shrunk_turnover p store (f ∷ fs) e =
    let r : (before : List Frame) × (g : Frame) × ((f ∷ fs) ≡ before ++ g ∷ []) = last_frame f fs in
    left r.1 (r.2 ∙ ap (λ l. l ++ r.1 ∷ []) (sym (shape-shrunk p store r.0 r.1 (e ∙ r.2))))

-- the instances of p become these, and the frames of the others stay
others_stay : (p : Name) (before store : Store) (is : List Instance) → HasShape (shape before) store → (r : Name) → same r p ≡ false
    → shape (with_at store p is) r ≡ shape before r
others_stay p before store is h r n = ap frames (instances-other store p r is n) ∙ h.each r

module _ (unit : ProgramUnit) (p : Name) (size : ℕ) (before : Store) where
  abbrev turnovers : Moving (framing unit p size) (shape before) (λ w. Steps p before w.store)
  turnovers = record {
    stays = λ w h. record { others = λ r n. h.each r; own = unchanged (h.each p) };
    grows = λ number parent cells w c f h.
        let i : Instance = instance_of unit p size number parent cells in
        record { others = others_stay p before w.store _ h; own = entered i.frame (shape-grown p i w.store ∙ ap (λ fs. fs ++ i.frame ∷ []) (h.each p)) };
    shrinks = λ w h. record { others = others_stay p before w.store _ h; own = shrunk_turnover p w.store (shape before p) (h.each p) };
    begins = λ w h. record { others = others_stay p before w.store _ h; own = begun _ (ap frames (instances-same w.store p _)) };
  }

pub local_steps : (unit : ProgramUnit) (p : Name) (size : ℕ) (standing : Standing) (work : List Work) (w : World) →
    Keeps (framing unit p size) (λ a v. Steps p w.store v.store) (local_step unit p size standing work w)
local_steps unit p size standing work w =
    local_keeps (framing unit p size) (shape w.store) (λ v. Steps p w.store v.store) (turnovers unit p size w.store) standing work w (λ idle v h. tt)
    (own_shape w.store)
