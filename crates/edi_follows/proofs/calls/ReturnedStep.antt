-- The end of a procedure as a step of its process: its frame goes, and the process is behind the call with the work that was left.
use Rattle.std.proofs.Common.{◌≡◌, ℕ, zero, suc, ◌+◌, ◌-◌, ◌<◌, ◌≤◌, ◌^◌, ◌⊎◌, inl, inr, true, false, ◌||◌, List, [], ◌∷◌, ◌++◌, take, length, refl, sym}
use Rattle.std.proofs.Common.{subst, ap, ◌∙◌, arith}
use Rattle.edi_calls.specs.Names.{Name}
use Rattle.edi_calls.specs.Outcome as outcome
use Rattle.edi_meaning.specs.Store.{Frame, Shape, frames, shape, now, used, shrunk, IsLive}
use Rattle.edi_meaning.specs.Evaluation.{World, gives, turn_from}
use Rattle.edi_meaning.specs.Step.{Work, procedure_end, goes}
use Rattle.edi_meaning.proofs.Frames.{shape-shrunk}
use Rattle.edi_meaning.proofs.Own.{instances-other}
use Rattle.edi_target.specs.Op as op
use Rattle.edi_target.specs.Op.{address_of_words}
use Rattle.edi_target.specs.Memory.{word}
use Rattle.edi_target.specs.Mach.{is_first}
use Rattle.edi_scheme.specs.Stands as code
use Rattle.edi_follows.specs.places.Coded.{Coded, kept}
use Rattle.edi_follows.specs.places.Spots.{frame_start, frames_end}
use Rattle.edi_follows.specs.places.Located.{frame_of, Hops, Links, Matches, Agrees}
use Rattle.edi_follows.specs.places.Walks.{Walker}
use Rattle.edi_follows.specs.places.Scene.{Scene, Outer, alone, base_of, Stands, gets}
use Rattle.edi_follows.specs.places.Follows.{Follows}
use Rattle.edi_follows.specs.places.Steps.{ReturnedClaim}
use Rattle.edi_follows.proofs.places.Places.{start_within, start_later, roomy}
use Rattle.edi_follows.proofs.places.Located.{matches_kept}
use Rattle.edi_follows.proofs.places.Doing.{gets_one, gets_then, stops_then, stands_after}
use Rattle.edi_follows.proofs.places.Free.{now_ends}
use Rattle.edi_follows.proofs.calls.Grown.{IsGrown, longer, start_old, start_all, frame_old}
use Rattle.edi_follows.proofs.calls.Returning as returning
use Rattle.edi_follows.proofs.calls.Returning.{Keeps, stands_less}
use Rattle.edi_follows.proofs.calls.Resting.{hops_lead, goes_on_from}

-- the last of some frames
last_split : (k : ℕ) (fs : List Frame) → length fs ≡ suc k → fs ≡ take k fs ++ frame_of fs k ∷ []
last_split k [] e = absurd (omega (arith, e))
last_split zero (f ∷ []) e = refl
last_split zero (f ∷ x ∷ fs) e = absurd (omega (arith, e))
last_split (suc k) (f ∷ fs) e = ap (λ l. f ∷ l) (last_split k fs (omega (arith, e)))

module _ (g : Coded) (s : Scene) (left : List Work) (F : Shape) (pc : ℕ) (w : World) (m : List ℕ) (h : Stands g s F w m) (d hops q next back : ℕ)
    (depth : suc d ≡ length (F s.name) - 1)
    (lead_there : Hops g hops pc q) (at : code.InstructionStands g.fetched q (op.return 0 0) next) (links : Links g (s.first s.name) (F s.name) m d back)
    (rest : Matches g (is_first s.name) (s.first s.name) (F s.name) m left back d) where
  abbrev p : Name
  p = s.name

  abbrev from : ℕ
  from = s.first p

  abbrev F0 : Shape
  F0 = shape (shrunk p w.store)

  abbrev fr : Frame
  fr = frame_of (F p) (suc d)

  some : 0 < length (F p)
  some = h.layout.some p s.lives

  count : length (F p) ≡ suc (suc d)
  count = omega (arith, depth, some)

  mine : F p ≡ F0 p ++ fr ∷ []
  mine =
      let one : F p ≡ take (suc d) (F p) ++ fr ∷ [] = last_split (suc d) (F p) count in
      one ∙ ap (λ l. l ++ fr ∷ []) (sym (shape-shrunk p w.store (take (suc d) (F p)) fr (h.shaped.each p ∙ one)))

  abbrev gr : IsGrown p fr F0 F
  gr = record { mine = mine; theirs = λ y n. sym (ap frames (instances-other w.store p y _ n) ∙ h.shaped.each y) }

  fewer : length (F0 p) ≡ suc d
  fewer = omega (arith, count, longer p fr F0 F gr)

  some0 : 0 < length (F0 p)
  some0 = omega (arith, fewer)

  starts : (x : ℕ) → x ≤ suc d → frame_start (F p) x ≡ frame_start (F0 p) x
  starts x le = ap (λ fs. frame_start fs x) mine ∙ start_old (F0 p) fr x (omega (arith, le, fewer))

  framed : (x : ℕ) → x ≤ d → frame_of (F p) x ≡ frame_of (F0 p) x
  framed x le = ap (λ fs. frame_of fs x) mine ∙ frame_old (F0 p) fr x (omega (arith, le, fewer))

  newest : length (F0 p) - 1 ≡ d
  newest = omega (arith, fewer)

  abbrev t : ℕ
  t = base_of g s F0

  -- the new frame began where those below end
  began : frame_start (F p) (suc d) ≡ used (F0 p)
  began = starts (suc d) (omega arith) ∙ ap (frame_start (F0 p)) (sym fewer) ∙ start_all (F0 p)

  t_is : t ≡ from + frame_start (F p) d + kept g (frame_of (F p) d).block
  t_is = (λ i. from + frame_start (F0 p) (newest i) + kept g (frame_of (F0 p) (newest i)).block)
      ∙ sym (λ i. from + starts d (omega arith) i + kept g (framed d (omega arith) i).block)

  keeps : Keeps s F0 m back t
  keeps = record {
    base = ap (λ x. word m (from + x + 1)) (sym began) ∙ links.base ∙ ap (λ x. from + x) (starts d (omega arith))
        ∙ ap (λ x. from + frame_start (F0 p) x) (sym newest);
    address = (λ i. address_of_words (word m (from + sym began i + 2)) (word m (from + sym began i + 3))) ∙ links.address;
    top = ap (λ x. word m (from + x + 4)) (sym began) ∙ links.top ∙ sym t_is;
  }

  less : (j : ℕ) → Stands g s F0 (returning.outside g s F0 F fr gr some0 w m h j) m
  less j = stands_less g s F0 F fr gr some0 w m h j

  low : t ≤ t
  low = omega arith

  high : t + 0 ≤ frames_end s.first F0 p
  high = omega (
    arith,
    roomy g F0 (now F0 p) ((less 0).layout.fine (now F0 p) (omega (arith, some0))),
    now_ends g s F0 (returning.outside g s F0 F fr gr some0 w m h 0) m (less 0),
  )

  in_memory : frames_end s.first F0 p + 5 + 0 ≤ 2 ^ 16
  in_memory =
      let lives : IsLive F (p, suc d) = omega (arith, count) in
      omega (
        arith,
        began,
        start_within (F p) (suc d) lives,
        roomy g F (p, suc d) (h.layout.fine (p, suc d) lives),
        h.layout.segments.own p s.lives,
        h.layout.segments.within p s.lives,
      )

  abbrev start : Walker
  start = alone s F m pc (base_of g s F) 0 w

  abbrev there : Walker
  there = alone s F m q (base_of g s F) 0 w

  abbrev mem : List ℕ
  mem = returning.mem g s F0 F fr gr some0 w m h q next (base_of g s F) 0 0 0 t back at keeps low high in_memory

  gets_there : gets g s start there false
  gets_there = hops_lead g s F w m h hops pc q (base_of g s F) 0 lead_there

  upto : (x : ℕ) → (x < d) ⊎ (x ≡ d) → frame_start (F p) x ≤ frame_start (F p) d
  upto x (inl l) = omega (arith, start_later (F p) x d l (omega (arith, count)))
  upto x (inr l) = let same_start : frame_start (F p) x ≡ frame_start (F p) d = ap (frame_start (F p)) l in omega (arith, same_start)

  split : (x y : ℕ) → x ≤ y → (x < y) ⊎ (x ≡ y)
  split x y l = grind (arith, l)

  agrees : Agrees g from (F p) (F0 p) m mem d
  agrees = record {
    starts = λ x le. sym (starts x (omega (arith, le)));
    framed = λ x le. sym (framed x le);
    words = λ x j le k.
        returning.word_apart g s F0 F fr gr some0 w m h q next (base_of g s F) 0 0 0 t back at keeps low high in_memory (from + frame_start (F p) x + j)
        (inl (omega (arith, k, t_is, upto x (split x d le))));
  }

  turned : (k : ℕ) → w.turns ≡ k → Follows g s w.store m start (turn_from k w (λ x. gives (goes left) (record x { store = shrunk p x.store })))
  turned zero i =
      inl (stops_then g.fetched s.count (is_first p) (Outer s) start there false outcome.turns w.system w.turns gets_there
      (returning.ends_here g s F0 F fr gr some0 w m h q next (base_of g s F) 0 0 0 t back at keeps low high in_memory i))
  turned (suc j) i =
      let out : World = returning.outside g s F0 F fr gr some0 w m h j in
      goes_on_from g s F0 out mem
      (stands_after g s F0 out out m mem t false (less j)
      (returning.after_result g s F0 F fr gr some0 w m h q next (base_of g s F) 0 0 0 t back at keeps low high in_memory j))
      w.store m (λ y n. sym (gr.theirs y n) ∙ sym (h.shaped.each y))
      (λ a wi o. returning.word_apart g s F0 F fr gr some0 w m h q next (base_of g s F) 0 0 0 t back at keeps low high in_memory a
      (elim wi [ inl x ↦ inl (omega (arith, x)) | inr x ↦ inr x ]))
      start (false || true) left back
      (subst (λ x. gets g s start (alone s F0 mem back x 0 out) (false || true)) (omega arith)
      (gets_then g.fetched s.count (is_first p) (Outer s) start there (alone s F0 mem back (t + 0) 0 out) false true gets_there
      (gets_one g.fetched s.count (is_first p) (Outer s) there (alone s F0 mem back (t + 0) 0 out) true
      (returning.moves_here g s F0 F fr gr some0 w m h q next (base_of g s F) 0 0 0 t back at keeps low high in_memory j i))))
      (subst (Matches g (is_first p) from (F0 p) mem left back) (sym newest) (matches_kept g (is_first p) from (F p) (F0 p) m mem left back d agrees rest))

pub returned_claim : (g : Coded) (s : Scene) → ReturnedClaim g s
returned_claim g s line left F pc w m h at = go (length (F s.name) - 1) refl at
  where
    go : (d : ℕ) → d ≡ length (F s.name) - 1 → Matches g (is_first s.name) (s.first s.name) (F s.name) m (procedure_end line ∷ left) pc d →
        Follows g s w.store m (alone s F m pc (base_of g s F) 0 w) (turn_from w.turns w (λ x. gives (goes left) (record x { store = shrunk s.name x.store })))
    go zero e x = absurd x.3
    go (suc d) e x = turned g s left F pc w m h d x.0 x.1 x.3.0 x.3.1 e x.2 x.3.2 x.3.3 x.3.5 w.turns refl
