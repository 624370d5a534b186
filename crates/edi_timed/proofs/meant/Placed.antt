-- The place of a process in the machine is that of its work in the meaning.
use Rattle.std.proofs.Common.{◌≡◌, ℕ, zero, suc, ◌+◌, ◌-◌, ◌<◌, ◌≤◌, Bool, true, false, ◌&&◌, if◌then◌else◌, List, [], ◌∷◌, length, take}
use Rattle.std.proofs.Common.{refl, sym, subst, ap, ◌∙◌, arith}
use Rattle.std.specs.Prelude.{nat_le, Some}
use Rattle.std.proofs.lemmas.Bool.{le-leb, leb-true}
use Rattle.edi_calls.specs.Names.{Name, find}
use Rattle.edi_unit.specs.Tree.{Clauses}
use Rattle.edi_meaning.specs.Store.{Frame, Shape, shape, now}
use Rattle.edi_meaning.specs.Step.{Process, Processes, Position, at_when}
use Rattle.edi_meaning.specs.Places as meaning
use Rattle.edi_target.specs.Op as op
use Rattle.edi_target.specs.Op.{address_of_words}
use Rattle.edi_target.specs.Memory.{word}
use Rattle.edi_target.specs.Fetch.{fetch}
use Rattle.edi_target.specs.Reading.{AreWords}
use Rattle.edi_target.specs.Mach.{Activity, Machine, is_first}
use Rattle.edi_kernel.specs.Kept.{leads_down}
use Rattle.edi_follows.specs.places.Coded.{Coded, kept}
use Rattle.edi_follows.specs.places.Spots.{frame_start, address}
use Rattle.edi_follows.specs.places.Located.{frame_of, Links, IsCalledFrom, by_block, by_parameter, IsAt, IsAwaited}
use Rattle.edi_follows.specs.places.Related.{activity, IsPlaced, Related}
use Rattle.edi_follows.proofs.Lined.{AreCalled, at_called}
use Rattle.edi_follows.proofs.places.Places.{start_later, roomy}
use Rattle.edi_timeline.specs.Stints as meant
use Rattle.edi_waits.specs.Places.{line_before, call_lines, place}
use Rattle.edi_timed.proofs.meant.Lines.{line_there}
use Rattle.edi_timed.proofs.meant.Whens.{line_is}

module _ (g : Coded) (words : List ℕ) (is : g.fetched ≡ fetch words) (fine : AreWords words) where
  line_called : (back line : ℕ) → IsCalledFrom g back line → line_before words back ≡ line
  line_called back line (by_block at level target st) =
      line_there words fine at back 4 line (op.call level target line) (sym (ap (λ f. f at) is) ∙ st) refl (λ rest. refl)
  line_called back line (by_parameter at level offset st) =
      line_there words fine at back 3 line (op.call_p level offset line) (sym (ap (λ f. f at) is) ∙ st) refl (λ rest. refl)

  line_awaited : (b : ℕ) (position : Position) (cs : Clauses) (pc : ℕ) → IsAwaited g b position cs pc →
      line_before words pc ≡ meant.when_line g.unit position
  line_awaited b position cs pc h =
      line_there words fine h.at pc 1 h.line (op.when h.line) (sym (ap (λ f. f h.at) is) ∙ h.stands) refl (λ rest. refl)
      ∙ sym (line_is g.unit position cs h.line h.at h.sited.there)

  -- ---- the calls that lead to a frame

  module _ (lead : Bool) (from : ℕ) (fs : List Frame) (m : List ℕ)
      (above : (e : ℕ) → suc e < length fs → frame_start fs e + kept g (frame_of fs e).block ≤ frame_start fs (suc e)) where
    abbrev base : ℕ → ℕ
    base e = from + frame_start fs e

    all_true : (a b c : Bool) → a ≡ true → b ≡ true → c ≡ true → (a && b && c) ≡ true
    all_true true true true x y z = refl
    all_true true true false x y z = z
    all_true true false c x y z = y
    all_true false b c x y z = x

    parts_true : (a b c : Bool) → (a && b && c) ≡ true → (a ≡ true) × (b ≡ true) × (c ≡ true)
    parts_true true true true e = (refl, refl, refl)
    parts_true true true false e = absurd (cc)
    parts_true true false c e = absurd (cc)
    parts_true false b c e = absurd (cc)

    leads : (e : ℕ) → suc e < length fs → leads_down from (base (suc e)) (base e) (base e + kept g (frame_of fs e).block) ≡ true
    leads e l =
        all_true (nat_le from (base e)) (nat_le (base e + 5) (base e + kept g (frame_of fs e).block))
        (nat_le (base e + kept g (frame_of fs e).block) (base (suc e))) (le-leb _ _ (omega arith)) (le-leb _ _ (omega arith))
        (le-leb _ _ (omega (arith, above e l)))

    -- the lowest frame leads nowhere
    lowest : (x t : ℕ) → leads_down from from x t ≡ false
    lowest x t = go (leads_down from from x t) refl
      where
        go : (v : Bool) → leads_down from from x t ≡ v → v ≡ false
        go false e = refl
        go true e =
            let h : (nat_le from x ≡ true) × (nat_le (x + 5) t ≡ true) × (nat_le t from ≡ true) =
            parts_true (nat_le from x) (nat_le (x + 5) t) (nat_le t from) e in
            absurd (omega (arith, leb-true from x h.0, leb-true (x + 5) t h.1, leb-true t from h.2))

    pub lines_are : (n d : ℕ) (lines : List ℕ) → AreCalled g lead from fs m lines d → d < length fs →
        call_lines words n m from (base d) ≡ take n lines
    lines_are zero d lines h l = refl
    lines_are (suc n) d [] h l =
        ap (λ b. if leads_down from b (word m (base d + 1)) (word m (base d + 4)) then more else []) (here h)
        ∙ ap (λ v. if v then more else []) (lowest (word m (base d + 1)) (word m (base d + 4)))
      where
        more : List ℕ
        more =
            line_before words (address_of_words (word m (base d + 2)) (word m (base d + 3))) ∷ call_lines words n m from (word m (base d + 1))

        here : d ≡ 0 → base d ≡ from
        here z = let start : frame_start fs d ≡ 0 = ap (frame_start fs) z in omega (arith, start)
    lines_are (suc n) zero (line ∷ lines) h l = absurd h
    lines_are (suc n) (suc e) (line ∷ lines) h l =
        (λ i. if leads_down from (base (suc e)) (links.base i) (links.top i)
        then line_before words (links.address i) ∷ call_lines words n m from (links.base i) else [])
        ∙ ap (λ v. if v then line_before words h.0 ∷ call_lines words n m from (base e) else []) (leads e l)
        ∙ (λ i. line_called h.0 line h.2 i ∷ lines_are n e lines h.3 (omega (arith, l)) i)
      where
        links : Links g from fs m e h.0
        links = h.1

  -- ---- the place

  module _ (s : Processes) (t : Machine) (r : Related g s t) (p : Name) (q : Process) (found : find s.live p ≡ Some q) where
    abbrev F : Shape
    F = shape s.world.store

    abbrev placed : IsPlaced g r.first F t.memory t.activities p q
    placed = r.words.each p q found

    abbrev a : Activity
    a = activity g r.first F p q placed.pc

    some : 0 < length (F p)
    some = r.words.layout.some p (record { process = q; found = found })

    above : (e : ℕ) → suc e < length (F p) → frame_start (F p) e + kept g (frame_of (F p) e).block ≤ frame_start (F p) (suc e)
    above e l =
        omega (
          arith,
          start_later (F p) e (suc e) (omega arith) (omega (arith, l)),
          roomy g F (p, e) (r.words.layout.fine (p, e) (omega (arith, l))),
        )

    pub place_is : (cs : Clauses) (position : Position) → q.standing ≡ at_when cs position →
        place words t.memory a.first a.base a.pc ≡ meant.place g.unit position q.work
    place_is cs position e = (λ i. line_awaited _ position cs placed.pc awaited i ∷ calls i)
      where
        at : IsAt g (is_first p) (r.first p) (F p) t.memory (at_when cs position) q.work placed.pc (length (F p) - 1)
        at = subst (λ z. IsAt g (is_first p) (r.first p) (F p) t.memory z q.work placed.pc (length (F p) - 1)) e placed.at

        awaited : IsAwaited g (frame_of (F p) (length (F p) - 1)).block position cs placed.pc
        awaited = at.6

        calls : call_lines words 4 t.memory (r.first p) (address r.first F (now F p)) ≡ take 4 (meaning.call_lines q.work)
        calls =
            lines_are (is_first p) (r.first p) (F p) t.memory above 4 (length (F p) - 1) (meaning.call_lines q.work)
            (at_called g (is_first p) (r.first p) (F p) t.memory (at_when cs position) q.work placed.pc (length (F p) - 1) at) (omega (arith, some))
