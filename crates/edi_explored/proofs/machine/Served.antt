-- A memory with the same words that are kept serves as well.
use Rattle.std.proofs.Common.{◌≡◌, ℕ, suc, ◌+◌, ◌-◌, ◌<◌, ◌≤◌, ◌^◌, List, length, Some, arith}
use Rattle.edi_calls.specs.Names.{Name, find}
use Rattle.edi_meaning.specs.Store.{Spot, Shape, shape, IsLive}
use Rattle.edi_meaning.specs.Step.{Process, Processes}
use Rattle.edi_target.specs.Memory.{word}
use Rattle.edi_target.specs.Mach.{Machine, Activity, is_first}
use Rattle.edi_kernel.specs.Kept.{SameKept}
use Rattle.edi_follows.specs.places.Coded.{Coded, kept}
use Rattle.edi_follows.specs.places.Spots.{address, block_at}
use Rattle.edi_follows.specs.places.Related.{Lives, Related, IsPlaced, activity}
use Rattle.edi_follows.proofs.places.Places.{start_later, start_within, roomy}
use Rattle.edi_explored.specs.machine.Machines.{ServesAs}
use Rattle.edi_explored.proofs.machine.Kept.{SameFrames, related_kept}
use Rattle.edi_explored.proofs.machine.Walk.{AreFrames, at_linked, same_word, walk}

module _ (g : Coded) (t : Machine) (m : List ℕ) (long : length m ≡ 2 ^ 16) (same : SameKept t t.memory m) (s : Processes) (r : Related g s t) where
  abbrev F : Shape
  F = shape s.world.store

  -- a frame lies within the memory
  inside : (z : Spot) → IsLive F z → address r.first F z + kept g (block_at g F z) ≤ 2 ^ 16
  inside z l =
      omega (
        arith,
        roomy g F z (r.words.layout.fine z l),
        start_within (F z.0) z.1 l,
        r.words.layout.segments.own z.0 (r.words.layout.owner z l),
        r.words.layout.segments.within z.0 (r.words.layout.owner z l),
      )

  module _ (p : Name) (q : Process) (found : find s.live p ≡ Some q) where
    placed : IsPlaced g r.first F t.memory t.activities p q
    placed = r.words.each p q found

    are_frames : AreFrames g (r.first p) (F p) t.memory m
    are_frames = record {
      long = r.words.long;
      long' = long;
      within = λ e l. inside (p, e) l;
      above = λ e l.
          omega (arith, roomy g F (p, e) (r.words.layout.fine (p, e) (omega (arith, l))), start_later (F p) e (suc e) (omega arith) (omega (arith, l)));
      links = λ e l.
          at_linked g (is_first p) (r.first p) (F p) t.memory q.standing q.work placed.pc (length (F p) - 1) placed.at e (omega (arith, l));
    }

    same_in : (e j : ℕ) → e < length (F p) → j < kept g (block_at g F (p, e)) → word m (address r.first F (p, e) + j) ≡ word t.memory (address r.first F (p, e) + j)
    same_in e j l b =
        let a : Activity = activity g r.first F p q placed.pc in
        same_word g (r.first p) (F p) t.memory m are_frames e j l b
        (walk g (r.first p) (F p) t.memory m are_frames (a.top - a.first) (length (F p) - 1) (omega (arith, l)) (omega arith) (same p a placed.found) e
        (omega (arith, l)))

  same_frames : SameFrames g r.first F t.memory m
  same_frames = record {
    words = λ z j l b. let k : Lives s.live z.0 = r.words.layout.owner z l in same_in z.0 k.process k.found z.1 j l b;
    within = inside;
    long = long;
  }

  pub related_served : Related g s (record t { memory = m })
  related_served = related_kept g s t m r same_frames

pub serves : (g : Coded) (t : Machine) (m : List ℕ) → length m ≡ 2 ^ 16 → SameKept t t.memory m → ServesAs g t m
serves g t m long same s r = related_served g t m long same s r
