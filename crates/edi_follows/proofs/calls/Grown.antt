-- One more frame of a process, behind its others: where all spots are with it and without it.
use Rattle.std.proofs.Common.{◌≡◌, ℕ, zero, suc, ◌+◌, ◌-◌, ◌<◌, ◌≤◌, ◌⊎◌, inl, inr, false, List, [], ◌∷◌, ◌++◌, length, length-append, Option, Some, None}
use Rattle.std.proofs.Common.{refl, sym, subst, ap, ◌∙◌, arith}
use Rattle.std.proofs.lemmas.List.{take-append-le}
use Rattle.edi_calls.specs.Names.{Name, same}
use Rattle.edi_calls.proofs.Tables.{same-or-other, same-symmetric}
use Rattle.edi_unit.specs.declared.units.Parameter.{Parameter}
use Rattle.edi_unit.specs.declared.units.Parameter.TheVariants as slot
use Rattle.edi_unit.specs.Need.{slot_type}
use Rattle.edi_unit.specs.Headings.{Heading}
use Rattle.edi_meaning.specs.Store.{Spot, Location, system_procedure, block_procedure, Cell, value, location, procedure, Frame, Shape, frame_at, used, now}
use Rattle.edi_meaning.specs.Store.{Owns, IsLive, Older, within, above}
use Rattle.edi_target.specs.Op.{high_word, low_word}
use Rattle.edi_follows.specs.values.Words.{path_offset}
use Rattle.edi_follows.specs.places.Coded.{Coded, entry, slot_in, offset}
use Rattle.edi_follows.specs.places.Spots.{frame_start, address, frames_end, block_at, location_address, cell_words, Leads, Holds}
use Rattle.edi_follows.specs.places.Located.{frame_of}

-- ---- one list of frames

pub used_append : (fs gs : List Frame) → used (fs ++ gs) ≡ used fs + used gs
used_append [] gs = omega arith
used_append (f ∷ fs) gs = omega (arith, used_append fs gs)

pub start_old : (fs : List Frame) (f : Frame) (d : ℕ) → d ≤ length fs → frame_start (fs ++ f ∷ []) d ≡ frame_start fs d
start_old fs f d h = ap used (take-append-le d fs (f ∷ []) h)

pub frame_old : (fs : List Frame) (f : Frame) (d : ℕ) → d < length fs → frame_of (fs ++ f ∷ []) d ≡ frame_of fs d
frame_old [] f d h = absurd (omega arith)
frame_old (x ∷ fs) f zero h = refl
frame_old (x ∷ fs) f (suc d) h = frame_old fs f d (omega (arith, h))

pub frame_new : (fs : List Frame) (f : Frame) → frame_of (fs ++ f ∷ []) (length fs) ≡ f
frame_new [] f = refl
frame_new (x ∷ fs) f = frame_new fs f

pub start_all : (fs : List Frame) → frame_start fs (length fs) ≡ used fs
start_all [] = refl
start_all (f ∷ fs) = ap (λ n. f.need + n) (start_all fs)

-- ---- all frames

-- G has one more frame of p than F
pub record IsGrown (p : Name) (f : Frame) (F G : Shape) : Type 0 where
  pub mine : G p ≡ F p ++ f ∷ []
  pub theirs : (y : Name) → same y p ≡ false → G y ≡ F y

module _ (p : Name) (f : Frame) (F G : Shape) (e : IsGrown p f F G) where
  -- where the new frame is
  abbrev pub new : Spot
  new = (p, length (F p))

  pub longer : length (G p) ≡ suc (length (F p))
  longer = omega (arith, ap length e.mine, length-append (F p) (f ∷ []))

  pub new_lives : IsLive G new
  new_lives = omega (arith, longer)

  pub old_lives : (z : Spot) → IsLive F z → IsLive G z
  old_lives z l = go (same-or-other z.0 p)
    where
      go : (z.0 ≡ p) ⊎ (same z.0 p ≡ false) → IsLive G z
      go (inl i) = let k : z.1 < length (F p) = subst (λ y. z.1 < length (F y)) i l in subst (λ y. z.1 < length (G y)) (sym i) (omega (arith, k, longer))
      go (inr n) = subst (λ fs. z.1 < length fs) (sym (e.theirs z.0 n)) l

  split : (a n : ℕ) → a < suc n → (a ≡ n) ⊎ (a < n)
  split a n h = grind (arith, h)

  -- what lives is the new one, or lived
  pub which : (z : Spot) → IsLive G z → (z ≡ new) ⊎ IsLive F z
  which z l = go (same-or-other z.0 p)
    where
      mine : (i : z.0 ≡ p) → (z.1 ≡ length (F p)) ⊎ (z.1 < length (F p)) → (z ≡ new) ⊎ IsLive F z
      mine i (inl k) = inl (λ j. (i j, k j))
      mine i (inr k) = inr (subst (λ y. z.1 < length (F y)) (sym i) k)

      go : (z.0 ≡ p) ⊎ (same z.0 p ≡ false) → (z ≡ new) ⊎ IsLive F z
      go (inl i) = mine i (split z.1 (length (F p)) (let k : z.1 < length (G p) = subst (λ y. z.1 < length (G y)) i l in omega (arith, k, longer)))
      go (inr n) = inr (subst (λ fs. z.1 < length fs) (e.theirs z.0 n) l)

  pub now_new : now G p ≡ new
  now_new = λ j. (p, depth j)
    where
      depth : length (G p) - 1 ≡ length (F p)
      depth = omega (arith, longer)

  pub new_frame : frame_at G new ≡ f
  new_frame = ap (λ fs. frame_of fs (length (F p))) e.mine ∙ frame_new (F p) f

  pub old_frame : (z : Spot) → IsLive F z → frame_at G z ≡ frame_at F z
  old_frame z l = go (same-or-other z.0 p)
    where
      go : (z.0 ≡ p) ⊎ (same z.0 p ≡ false) → frame_at G z ≡ frame_at F z
      go (inl i) =
          ap (λ y. frame_of (G y) z.1) i ∙ ap (λ fs. frame_of fs z.1) e.mine
          ∙ frame_old (F p) f z.1 (subst (λ y. z.1 < length (F y)) i l) ∙ ap (λ y. frame_of (F y) z.1) (sym i)
      go (inr n) = ap (λ fs. frame_of fs z.1) (e.theirs z.0 n)

  pub ends_later : used (G p) ≡ used (F p) + f.need
  ends_later = omega (arith, ap used e.mine, used_append (F p) (f ∷ []))

  -- a process that is another has the frames that it had
  pub used_other : (y : Name) → same y p ≡ false → used (G y) ≡ used (F y)
  used_other y n = ap used (e.theirs y n)

  module _ (first : Name → ℕ) where
    pub new_address : address first G new ≡ frames_end first F p
    new_address = ap (λ fs. first p + frame_start fs (length (F p))) e.mine ∙ ap (λ n. first p + n)
        (start_old (F p) f (length (F p)) (omega arith) ∙ start_all (F p))

    pub old_address : (z : Spot) → IsLive F z → address first G z ≡ address first F z
    old_address z l = go (same-or-other z.0 p)
      where
        go : (z.0 ≡ p) ⊎ (same z.0 p ≡ false) → address first G z ≡ address first F z
        go (inl i) =
            ap (λ y. first y + frame_start (G y) z.1) i ∙ ap (λ fs. first p + frame_start fs z.1) e.mine
            ∙ ap (λ n. first p + n) (start_old (F p) f z.1 (let k : z.1 < length (F p) = subst (λ y. z.1 < length (F y)) i l in omega (arith, k)))
            ∙ ap (λ y. first y + frame_start (F y) z.1) (sym i)
        go (inr n) = ap (λ fs. first z.0 + frame_start fs z.1) (e.theirs z.0 n)

    pub ends_at : frames_end first G p ≡ frames_end first F p + f.need
    ends_at = omega (arith, ends_later)

  -- what an instance that lived may mean lived, where no process with instances is below p
  pub older_old : ((z : Spot) → IsLive F z → same z.0 p ≡ false → Owns z.0 p → ⊥) → (y z : Spot) → IsLive F z → IsLive G y → Older y z → IsLive F y
  older_old under y z l m o = go (which y m) o
    where
      go : (y ≡ new) ⊎ IsLive F y → Older y z → IsLive F y
      go (inr k) o = k
      go (inl i) (within a b) =
          let name : z.0 ≡ p = sym a ∙ ap (λ (u : Spot). u.0) i in
          let depth : y.1 ≡ length (F p) = ap (λ (u : Spot). u.1) i in
          let l' : z.1 < length (F p) = subst (λ u. z.1 < length (F u)) name l in
          absurd (omega (arith, l', depth, b))
      go (inl i) (above n o) =
          let name : y.0 ≡ p = ap (λ (u : Spot). u.0) i in
          absurd (under z l (same-symmetric p z.0 (sym (ap (λ u. same u z.0) name) ∙ n)) (subst (Owns z.0) name o))

-- ---- cells, where all that they may mean stays

module _ (g : Coded) (first : Name → ℕ) (F G : Shape) where
  -- a spot lives on, at its address, with its block
  pub record Stays (y : Spot) : Type 0 where
    pub lives : IsLive G y
    pub at : address first G y ≡ address first F y
    pub of : block_at g G y ≡ block_at g F y

  location_stays : (l : Location) → Stays l.spot → location_address g first G l ≡ location_address g first F l
  location_stays l h = λ i. h.at i + offset g (h.of i) l.variable + path_offset g.unit.types (slot_type (slot_in g (h.of i) l.variable)) l.path

  pub leads_stay : (l : Location) (t : ℕ) → Stays l.spot → Leads g F l t → Leads g G l t
  leads_stay l t h k = record { lives = h.lives; of = k.of; holds = ap (λ b. slot_in g b l.variable) h.of ∙ k.holds; path = k.path; type = k.type }

  -- the words of a cell that is one of its variable, and that it is one for an instance that may mean as much
  pub words_stay : (z u : Spot) (h : Heading) (v : Option Parameter) (c : Cell) → ((y : Spot) → IsLive F y → Older y z → Stays y × Older y u) →
      Holds g F z h v c → (cell_words g first G c ≡ cell_words g first F c) × Holds g G u h v c
  words_stay z u h (Some (slot.Value t)) (value x) k fit = (refl, fit)
  words_stay z u h (Some (slot.Var t)) (location l) k fit =
      let e : Stays l.spot × Older l.spot u = k l.spot fit.0.lives fit.1 in (ap (λ a. a ∷ []) (location_stays l e.0), (leads_stay l t e.0 fit.0, e.1))
  words_stay z u h (Some (slot.Formal r)) (procedure (system_procedure number)) k fit = (refl, fit)
  words_stay z u h (Some (slot.Formal r)) (procedure (block_procedure number parent)) k fit =
      let e : Stays parent × Older parent u = k parent fit.3 fit.4 in (
        ap (λ a. high_word (entry g number) ∷ low_word (entry g number) ∷ a ∷ []) e.0.at,
        (fit.0, fit.1, fit.2, e.0.lives, e.1, e.0.of ∙ fit.5),
      )
  words_stay z u h None c k fit = absurd fit
  words_stay z u h (Some (slot.Value t)) (location l) k fit = absurd fit
  words_stay z u h (Some (slot.Value t)) (procedure c) k fit = absurd fit
  words_stay z u h (Some (slot.Var t)) (value x) k fit = absurd fit
  words_stay z u h (Some (slot.Var t)) (procedure c) k fit = absurd fit
  words_stay z u h (Some (slot.Formal r)) (value x) k fit = absurd fit
  words_stay z u h (Some (slot.Formal r)) (location l) k fit = absurd fit
