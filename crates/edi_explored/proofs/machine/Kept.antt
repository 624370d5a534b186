-- A machine that agrees with a state of the meaning goes on agreeing with it, whatever stands in its memory
-- beside the links and the variables of the live frames.
use Rattle.std.proofs.Common.{◌≡◌, ℕ, ◌+◌, ◌-◌, ◌<◌, ◌≤◌, ◌^◌, List, length, Some, refl, sym, ap, ◌∙◌, arith}
use Rattle.std.proofs.lemmas.Grind.{same_number_lists}
use Rattle.edi_calls.specs.Names.{Name, find}
use Rattle.edi_store.specs.Memory.{words_at}
use Rattle.edi_store.proofs.MemoryLaws.{length-words_at, get_or-words_at}
use Rattle.edi_meaning.specs.Store.{Spot, Shape, shape, IsLive}
use Rattle.edi_meaning.specs.Step.{Process, Processes}
use Rattle.edi_target.specs.Memory.{word}
use Rattle.edi_target.specs.Mach.{Machine, is_first}
use Rattle.edi_follows.specs.places.Coded.{Coded, slot_in, words_in, offset, kept}
use Rattle.edi_follows.specs.places.Spots.{address, block_at, slot_address, Mirrors}
use Rattle.edi_follows.specs.places.Related.{Related, IsPlaced}
use Rattle.edi_follows.proofs.places.Free.{slot_within}
use Rattle.edi_follows.proofs.places.Located.{at_kept}

-- ---- two memories that agree where it counts

module _ (g : Coded) where
  -- the links and the variables of each live frame are the same in both memories
  pub record SameFrames (first : Name → ℕ) (F : Shape) (m m' : List ℕ) : Type 0 where
    pub words : (s : Spot) (j : ℕ) → IsLive F s → j < kept g (block_at g F s) → word m' (address first F s + j) ≡ word m (address first F s + j)
    pub within : (s : Spot) → IsLive F s → address first F s + kept g (block_at g F s) ≤ 2 ^ 16
    pub long : length m' ≡ 2 ^ 16

-- ---- lists of words

same_words : (m m' : List ℕ) (a n : ℕ) → a + n ≤ length m → a + n ≤ length m' → ((j : ℕ) → j < n → word m' (a + j) ≡ word m (a + j)) →
    words_at m' a n ≡ words_at m a n
same_words m m' a n h h' same =
    let count : length (words_at m' a n) ≡ n = length-words_at m' a n h' in
    same_number_lists (words_at m' a n) (words_at m a n) (count ∙ sym (length-words_at m a n h)) (λ k below.
    get_or-words_at m' a n k (omega (arith, count)) ∙ same k (omega (arith, count)) ∙ sym (get_or-words_at m a n k (omega (arith, count))))

module _ (g : Coded) where
  module _ (s : Processes) (t : Machine) (m' : List ℕ) (r : Related g s t) (k : SameFrames g r.first (shape s.world.store) t.memory m') where
    abbrev F : Shape
    F = shape s.world.store

    mirrors_kept : Mirrors g r.first F s.world.store m'
    mirrors_kept = record {
      link = λ z l. ap (λ a. word m' a) (omega arith) ∙ k.words z 0 l (omega arith) ∙ ap (λ a. word t.memory a) (omega arith) ∙ r.words.mirrors.link z l;
      cells = λ z v l h.
          let in_frame : offset g (block_at g F z) v + words_in g (slot_in g (block_at g F z) v) ≤ kept g (block_at g F z) = slot_within g (block_at g F z) v h in
          let room : address r.first F z + kept g (block_at g F z) ≤ 2 ^ 16 = k.within z l in
          same_words t.memory m' (slot_address g r.first F z v) (words_in g (slot_in g (block_at g F z) v))
          (omega (arith, in_frame, room, r.words.long)) (omega (arith, in_frame, room, k.long))
          (λ j b. ap (λ a. word m' a) (omega arith) ∙ k.words z (offset g (block_at g F z) v + j) l (omega (arith, in_frame)) ∙ ap (λ a. word t.memory a) (omega arith))
          ∙ r.words.mirrors.cells z v l h;
    }

    work_kept : (p : Name) (q : Process) → find s.live p ≡ Some q → IsPlaced g r.first F m' t.activities p q
    work_kept p q found =
        let placed : IsPlaced g r.first F t.memory t.activities p q = r.words.each p q found in
        let some : 0 < length (F p) = r.words.layout.some p (record { process = q; found = found }) in
        record {
          pc = placed.pc;
          found = placed.found;
          at = at_kept g (is_first p) (r.first p) (F p) (F p) t.memory m' q.standing q.work placed.pc (length (F p) - 1)
              (record {
                starts = λ e l. refl;
                framed = λ e l. refl;
                words = λ e j l b. k.words (p, e) j (omega (arith, some, l)) (omega (arith, b));
              })
              placed.at;
        }

    pub related_kept : Related g s (record t { memory = m' })
    related_kept = record {
      first = r.first;
      words = record {
        layout = r.words.layout;
        mirrors = mirrors_kept;
        typed = r.words.typed;
        long = k.long;
        each = work_kept;
      };
      same_names = r.same_names;
      system = r.system;
      turns = r.turns;
    }
