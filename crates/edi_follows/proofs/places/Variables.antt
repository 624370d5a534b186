-- Addresses, variables and calls: what ADDRESS, LOAD, STORE, PROC and the calls find.
use Rattle.std.proofs.Common.{◌≡◌, ℕ, zero, suc, ◌+◌, ◌^◌, ◌<◌, ◌≤◌, false, if◌then◌else◌, List, [], ◌∷◌, length, Option, Some, None, refl, sym, subst, ap}
use Rattle.std.proofs.Common.{◌∙◌, arith}
use Rattle.std.specs.Prelude.{IfSome, nat_eq}
use Rattle.std.proofs.lemmas.Bool.{le-leb, ne_eqb}
use Rattle.std.proofs.lemmas.Option.{slice_get-get_or}
use Rattle.edi_store.specs.Memory.{words_at, written}
use Rattle.edi_unit.specs.declared.units.Parameter.{Parameter}
use Rattle.edi_unit.specs.declared.units.Parameter.TheVariants as slot
use Rattle.edi_unit.specs.Types.{size}
use Rattle.edi_unit.specs.Need.{slots, outer}
use Rattle.edi_unit.specs.Fits.{SlotIsKnown}
use Rattle.edi_meaning.specs.Store.{Spot, Closure, system_procedure, block_procedure, Shape, frame_at, reached, now, cell, get, put, IsLive, Older}
use Rattle.edi_meaning.specs.Evaluation.{World}
use Rattle.edi_meaning.proofs.References.{older_self, older_all}
use Rattle.edi_target.specs.Op as op
use Rattle.edi_target.specs.Op.{high_word, low_word, address_of_words}
use Rattle.edi_target.specs.Memory.{word, level}
use Rattle.edi_target.specs.Effect.{goes, bad, push, pop_word, within, enter, to}
use Rattle.edi_target.specs.Perform.{push_address, call_described, system_call}
use Rattle.edi_target.specs.Mach.{is_first}
use Rattle.edi_scheme.proofs.Known.{all_some, size_positive}
use Rattle.edi_follows.specs.values.Words.{value_words, ValuesAreLong, PartsStand}
use Rattle.edi_follows.specs.places.Coded.{Coded, block, entry, slot_in, slots_of, words_in, heading_of}
use Rattle.edi_follows.specs.places.Spots.{address, block_at, slot_address, location_address, cell_words, closure_words, Layout, Holds, IsMeantBy}
use Rattle.edi_follows.specs.places.Scene.{Scene, Stands, local_at}
use Rattle.edi_follows.specs.places.Instructions.{effect, Reaches, LevelsReach, DoesAddress, LoadsCell, IsPart, LoadsPart, Stored, Stores, called_closure}
use Rattle.edi_follows.specs.places.Instructions.{CallsBlock, CallsFormal, DoesProc}
use Rattle.edi_follows.proofs.places.Places.{reached_live, level_is}
use Rattle.edi_follows.proofs.places.Free.{slot_within, in_memory}
use Rattle.edi_follows.proofs.places.Slots.{slot_is_in}
use Rattle.edi_follows.proofs.places.Effects.{word_at, pops, pops_word, pushes_address}
use Rattle.edi_follows.proofs.places.Steps.{pops_pushes_value, goes_gets}
use Rattle.edi_follows.proofs.places.Stores.{parts_are_there, store_does}

-- a variable takes a word at least
slot_positive : (g : Coded) (b v : ℕ) → b < length g.unit.blocks → v < slots_of g b → 1 ≤ words_in g (slot_in g b v)
slot_positive g b v known less = go (slot_in g b v) refl (all_some (SlotIsKnown g.unit.types) (slots (block g b)) v (g.fits.fits_blocks b known).known)
  where
    go : (o : Option Parameter) → slot_in g b v ≡ o → IfSome o (SlotIsKnown g.unit.types) → 1 ≤ words_in g o
    go None e k = absurd (no_none e)
      where
        no_none : slot_in g b v ≡ None → ⊥
        no_none e = let some = slice_get-get_or (slots (block g b)) v (slot.Var 0) less in absurd (cc)
    go (Some (slot.Value t)) e k = size_positive g.unit.types g.fits.table g.parts t k
    go (Some (slot.Var t)) e k = omega arith
    go (Some (slot.Formal r)) e k = omega arith

module _ (g : Coded) (s : Scene) where
  module _ (F : Shape) (w : World) (m : List ℕ) (h : Stands g s F w m) where
    abbrev lay : Layout g s.live s.waits s.first s.size F
    lay = h.layout

    now_lives : IsLive F (now F s.name)
    now_lives = omega (arith, lay.some s.name s.lives)

    older_reached : (k : ℕ) (z : Spot) → IsLive F z → Older (reached F k z) z
    older_reached zero z l = older_self z
    older_reached (suc k) z l =
        older_all (reached F k (frame_at F z).parent) (frame_at F z).parent z (older_reached k (frame_at F z).parent (lay.fine z l).parent) (lay.fine z l).older

    block_reached : (k : ℕ) (z : Spot) → IsLive F z → block_at g F (reached F k z) ≡ outer g.unit.blocks (block_at g F z) k
    block_reached zero z l = refl
    block_reached (suc k) z l =
        block_reached k (frame_at F z).parent (lay.fine z l).parent ∙ ap (λ b. outer g.unit.blocks b k) (lay.fine z l).up

    reached_address : (k : ℕ) → level m k (address s.first F (now F s.name)) ≡ address s.first F (reached F k (now F s.name))
    reached_address k = level_is g s.live s.waits s.first s.size F lay w.store m h.mirrors k (now F s.name) now_lives

    reached_lives : (k : ℕ) → IsLive F (reached F k (now F s.name))
    reached_lives k = reached_live g s.live s.waits s.first s.size F lay k (now F s.name) now_lives

    reaches : (k : ℕ) → Reaches g s F k (reached F k (now F s.name))
    reaches k = record {
      lives = reached_lives k;
      older = older_reached k (now F s.name) now_lives;
      block_is = block_reached k (now F s.name) now_lives;
      known = (lay.fine (reached F k (now F s.name)) (reached_lives k)).known;
    }

    -- the words of a variable are in the memory
    slot_ends : (r : Spot) (v : ℕ) → IsLive F r → v < slots_of g (block_at g F r) →
        slot_address g s.first F r v + words_in g (slot_in g (block_at g F r) v) ≤ 2 ^ 16
    slot_ends r v lives less = omega (arith, slot_within g (block_at g F r) v less, in_memory g s F w m h r lives, h.long)

    slot_starts : (r : Spot) (v : ℕ) → IsLive F r → v < slots_of g (block_at g F r) → slot_address g s.first F r v < 2 ^ 16
    slot_starts r v lives less = omega (arith, slot_ends r v lives less, slot_positive g (block_at g F r) v (lay.fine r lives).known less)

  pub levels_reach : LevelsReach g s
  levels_reach F w m k h = reaches F w m h k

  pub address_is : DoesAddress g s
  address_is F w m k v o next pc top held h less e =
      let r : Spot = reached F k (now F s.name) in
      let there : level m k (address s.first F (now F s.name)) + o ≡ slot_address g s.first F r v = omega (arith, reached_address F w m h k, e) in
      ap (λ a. push_address a next (local_at s F m pc top held)) there
      ∙ pushes_address g s (slot_address g s.first F r v) next (local_at s F m pc top held) (slot_starts F w m h r v (reached_lives F w m h k) less)

  pub loads_cell : LoadsCell g s
  loads_cell F w m r v next pc t top held h lives less low e is =
      let n : ℕ = words_in g (slot_in g (block_at g F r) v) in
      let a : ℕ = slot_address g s.first F r v in
      pops_word g s F m a pc t top held (λ x l. within x n (push (words_at l.memory x n) l (to next))) low e is
      ∙ ap (λ b. if b then push (words_at m a n) (local_at s F m pc t held) (to next) else bad) (le-leb (a + n) (2 ^ 16) (slot_ends F w m h r v lives less))
      ∙ ap (λ ws. push ws (local_at s F m pc t held) (to next)) (h.mirrors.cells r v lives less)

  -- ---- calls

  pub calls_block : CallsBlock g s
  calls_block F w m k n line next pc top held h =
      ap (λ a. enter (g.fetched (entry g n)) a next line (local_at s F m pc top held)) (reached_address F w m h k)

  pub proc_is : DoesProc g s
  proc_is F w m k n next pc top held h =
      ap (λ a. push (high_word (entry g n) ∷ low_word (entry g n) ∷ a ∷ []) (local_at s F m pc top held) (to next)) (reached_address F w m h k)

  high_small : (e : ℕ) → e < 2 ^ 31 → nat_eq (high_word e) 65535 ≡ false
  high_small e less = ne_eqb (high_word e) 65535 (λ k. omega (arith, less, k))

  address_again : (e : ℕ) → address_of_words (high_word e) (low_word e) ≡ e
  address_again e = omega arith

  pub calls_formal : CallsFormal g s
  calls_formal F w m k v o line next pc top held result c h is e holds =
      let r : Spot = reached F k (now F s.name) in
      let lives : IsLive F r = reached_lives F w m h k in
      let less : v < slots_of g (block_at g F r) = slot_is_in g (block_at g F r) v (slot.Formal result) is in
      let a : ℕ = slot_address g s.first F r v in
      let there : level m k (address s.first F (now F s.name)) + o ≡ a = omega (arith, reached_address F w m h k, e) in
      let three : words_in g (slot_in g (block_at g F r) v) ≡ 3 = ap (words_in g) is in
      let words : words_at m a 3 ≡ closure_words g s.first F c =
      ap (words_at m a) (sym three) ∙ h.mirrors.cells r v lives less ∙ ap (cell_words g s.first F) holds in
      let answers : IsMeantBy g F r (heading_of g (block_at g F r) v) c =
      subst (λ x. Holds g F r (heading_of g (block_at g F r) v) (Some (slot.Formal result)) x) holds
      (subst (λ p. Holds g F r (heading_of g (block_at g F r) v) p (cell w.store r v)) is (h.typed.holds r v lives less)) in
      ap (λ z. within z 3 (call_described g.fetched s.count (is_first s.name) (word m z) (word m (z + 1)) (word m (z + 2)) line next
      (local_at s F m pc top held))) there
      ∙ ap (λ b. if b then call_described g.fetched s.count (is_first s.name) (word m a) (word m (a + 1)) (word m (a + 2)) line next
      (local_at s F m pc top held) else bad)
      (le-leb (a + 3) (2 ^ 16) (omega (arith, slot_ends F w m h r v lives less, three)))
      ∙ described c a words (known c r (heading_of g (block_at g F r) v) answers)
    where
      Known : Closure → Type 0
      Known (system_procedure number) = Unit {0}
      Known (block_procedure n parent) = n < length g.unit.blocks

      known : (c : Closure) (r : Spot) (y : _) → IsMeantBy g F r y c → Known c
      known (system_procedure number) r y x = tt
      known (block_procedure n parent) r y x = x.0

      first_of : (ws : List ℕ) (a : ℕ) → words_at m a 3 ≡ ws → word m a ≡ word ws 0
      first_of ws a e = let same : a + 0 ≡ a = omega arith in ap (word m) (sym same) ∙ word_at m ws a 3 0 (omega arith) e

      described : (c : Closure) (a : ℕ) → words_at m a 3 ≡ closure_words g s.first F c → Known c →
          call_described g.fetched s.count (is_first s.name) (word m a) (word m (a + 1)) (word m (a + 2)) line next
          (local_at s F m pc top held) ≡ called_closure g s F c line next (local_at s F m pc top held)
      described c a e k =
          ap (λ x. call_described g.fetched s.count (is_first s.name) x (word m (a + 1)) (word m (a + 2)) line next (local_at s F m pc top held))
          (first_of (closure_words g s.first F c) a e)
          ∙ ap (λ x. call_described g.fetched s.count (is_first s.name) (word (closure_words g s.first F c) 0) x (word m (a + 2)) line next
          (local_at s F m pc top held)) (word_at m (closure_words g s.first F c) a 3 1 (omega arith) e)
          ∙ ap (λ x. call_described g.fetched s.count (is_first s.name) (word (closure_words g s.first F c) 0)
          (word (closure_words g s.first F c) 1) x line next (local_at s F m pc top held)) (word_at m (closure_words g s.first F c) a 3 2 (omega arith) e)
          ∙ by_words c k
        where
          by_words : (c : Closure) → Known c →
              call_described g.fetched s.count (is_first s.name) (word (closure_words g s.first F c) 0) (word (closure_words g s.first F c) 1)
              (word (closure_words g s.first F c) 2) line next (local_at s F m pc top held)
              ≡ called_closure g s F c line next (local_at s F m pc top held)
          by_words (system_procedure number) k = refl
          by_words (block_procedure n parent) k =
              ap (λ b. if b then system_call (low_word (entry g n)) line next (local_at s F m pc top held) else enter
              (g.fetched (address_of_words (high_word (entry g n)) (low_word (entry g n)))) (address s.first F parent) next line
              (local_at s F m pc top held)) (high_small (entry g n) (g.low n k))
              ∙ ap (λ z. enter (g.fetched z) (address s.first F parent) next line (local_at s F m pc top held)) (address_again (entry g n))

  -- ---- loads and stores of parts

  module _ (long : ValuesAreLong) (parts : PartsStand) where
    pub loads_part : LoadsPart g s
    loads_part F w m l of pc next t top held h leads at low e is high =
        let p : IsPart g s F w m l of = parts_are_there g s long parts F w m l of h leads in
        let n : ℕ = size g.unit.types of in
        let a : ℕ = location_address g s.first F l in
        pops_pushes_value g s long F (op.load n) pc next top t held of w m (words_at m a n) (get w.store l) h at
        (pops_word g s F m a pc t top held (λ x y. within x n (push (words_at y.memory x n) y (to next))) low e is
        ∙ ap (λ b. if b then push (words_at m a n) (local_at s F m pc t held) (to next) else bad) (le-leb (a + n) (2 ^ 16) p.within))
        low high p.words p.known p.typed

    pub stores : Stores g s
    stores F w m l x of pc next t top held h leads older typed at low high e is words =
        let n : ℕ = size g.unit.types of in
        let a : ℕ = location_address g s.first F l in
        let d : Stored g s F w (record w { store = put w.store l x }) m l x of t = store_does g s long parts F w m l x of t w.system h leads older typed in
        let does : effect g s (op.store n) next (local_at s F m pc top held) ≡ goes (local_at s F (written m a (value_words x)) next t held) =
        pops g s F m (value_words x) pc (t + 1) n top held
        (λ ws y. pop_word y (λ z y. within z n (goes (record y { memory = written y.memory z ws; pc = next })))) (omega (arith, low)) e words
        ∙ pops_word g s F m a pc t (t + 1) held (λ z y. within z n (goes (record y { memory = written y.memory z (value_words x); pc = next }))) low refl is
        ∙ ap (λ b. if b then goes (local_at s F (written m a (value_words x)) next t held) else bad) (le-leb (a + n) (2 ^ 16) d.within) in
        record {
          is = record {
            memory = written m a (value_words x);
            to = next;
            up = t;
            cleared = false;
            walked = goes_gets g s F F (op.store n) pc next next top t held held w m (written m a (value_words x)) at does d.keeps;
            after = d.after;
            above = omega arith;
            within = high;
            post = record { pc_is = refl; top_is = refl };
          };
        }
