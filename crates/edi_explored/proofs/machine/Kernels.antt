-- Who has followed one stint of each ready process with a kernel has followed what is put back.
use Rattle.std.proofs.Common.{◌≡◌, ◌⊎◌, inl, inr, ℕ, suc, ◌<◌, ◌≤◌, Bool, true, false, ◌||◌, List, [], ◌∷◌, length, map, Contains, Some, None, sym, ap, ◌∙◌, arith}
use Rattle.edi_calls.specs.Names.{Name, same, find}
use Rattle.edi_calls.specs.Ready.{has, name_at}
use Rattle.edi_calls.proofs.Names as calls
use Rattle.edi_calls.proofs.Tables.{same-or-other}
use Rattle.edi_ring.specs.Links.{IsAmong}
use Rattle.edi_target.specs.Mach as mach
use Rattle.edi_target.specs.Mach.{Machine}
use Rattle.edi_target.specs.segments.Nested.{IsInOrder, Lie, apart, inside, around}
use Rattle.edi_target.proofs.segments.Families.{Sound}
use Rattle.edi_target.proofs.segments.Pairs.{pair}
use Rattle.edi_kernel.specs.declared.kept.Kept.{Kept}
use Rattle.edi_kernel.specs.declared.state.KernelState.{KernelState}
use Rattle.edi_kernel.specs.declared.table.Process.{Process}
use Rattle.edi_kernel.specs.Table.{is_live, process_at}
use Rattle.edi_kernel.specs.TableIsMachine as kernel
use Rattle.edi_kernel.specs.TableIsMachine.{entry_of}
use Rattle.edi_kernel.specs.Kernel.{IsKernel, Holds}
use Rattle.edi_kernel.specs.Kept.{SameProcesses, is_ready, activity_of, process_of, words_of}
use Rattle.edi_kernel.proofs.Lists.{ready_live}
use Rattle.edi_kernel.proofs.Sharing.{among_home}
use Rattle.edi_explored.specs.machine.Kernels.{AreApart, IsBack}
use Rattle.edi_kernel.proofs.Again.{both_ways, ready_home}

-- ---- kernels with the same processes

ready_lives : (k : KernelState) → IsKernel k → (i : ℕ) → is_ready k.table i ≡ true → is_live k.table i ≡ true
ready_lives k kernel i e =
    ready_live k.table i kernel.table.sound (among_home k.table.lists i 0 kernel.table.sound.as_many
    (ready_home (Rattle.edi_ring.specs.Lists.home_of k.table.lists i) e))

module _ (processes : List Kept) (k other : KernelState) (b : IsBack processes k) (c : IsBack processes other) where
  lives_there : (k other : KernelState) → IsBack processes k → IsBack processes other → (slot : ℕ) → is_live k.table slot ≡ true →
      is_live other.table slot ≡ true
  lives_there k other b c slot l =
      let a = b.has.all slot l in
      ap (is_live other.table) (sym a.2) ∙ (c.has.each a.0 a.1).lives

  same_lives : (slot : ℕ) → is_live other.table slot ≡ is_live k.table slot
  same_lives slot = both_ways (is_live other.table slot) (is_live k.table slot) (lives_there other k c b slot) (lives_there k other b c slot)

  same_process : (slot : ℕ) → is_live k.table slot ≡ true → process_at other.table slot ≡ process_at k.table slot
  same_process slot l =
      let a = b.has.all slot l in
      ap (process_at other.table) (sym a.2) ∙ (c.has.each a.0 a.1).has.process ∙ sym (b.has.each a.0 a.1).has.process ∙ ap (process_at k.table) a.2

  same_words : (slot : ℕ) → is_live k.table slot ≡ true →
      words_of other.store (process_at k.table slot).activity ≡ words_of k.store (process_at k.table slot).activity
  same_words slot l =
      let a = b.has.all slot l in
      let p : (process_at k.table slot).activity ≡ activity_of a.0 =
      ap (λ (y : Process). y.activity) (ap (process_at k.table) (sym a.2) ∙ (b.has.each a.0 a.1).has.process) in
      ap (words_of other.store) p ∙ (c.has.each a.0 a.1).has.words ∙ sym (b.has.each a.0 a.1).has.words ∙ ap (words_of k.store) (sym p)

  same_ready : (slot : ℕ) → is_ready other.table slot ≡ is_ready k.table slot
  same_ready slot = both_ways (is_ready other.table slot) (is_ready k.table slot)
      (λ e. let l : is_live k.table slot ≡ true = sym (same_lives slot) ∙ ready_lives other c.kernel slot e in sym (equal l) ∙ e)
      (λ e. equal (ready_lives k b.kernel slot e) ∙ e)
    where
      equal : is_live k.table slot ≡ true → is_ready other.table slot ≡ is_ready k.table slot
      equal l =
          let a = b.has.all slot l in
          ap (is_ready other.table) (sym a.2) ∙ sym (c.has.each a.0 a.1).ready ∙ (b.has.each a.0 a.1).ready ∙ ap (is_ready k.table) a.2

  pub same_processes : SameProcesses k other
  same_processes = record {
    lives = same_lives;
    process = same_process;
    words = same_words;
    ready = same_ready;
    unmarked = c.unmarked;
    taken = c.free;
  }

-- ---- frames of processes that are kept

module _ (processes : List Kept) (k : KernelState) (t : Machine) (order : List Name) (b : IsBack processes k) (h : Holds k t None order)
    (nested : Sound t.activities) where
  pub are_apart : AreApart processes
  are_apart x y i j n = lie (pair t.activities nested (h.naming.name x.slot) (h.naming.name y.slot) (at x i) (at y j) names (found x i) (found y j))
    where
      at : (x : Kept) → Contains processes x → mach.Activity
      at x i = entry_of (process_of x) (h.naming.forks x.slot)

      found : (x : Kept) (i : Contains processes x) → find t.activities (h.naming.name x.slot) ≡ Some (at x i)
      found x i = h.stands.found x.slot (b.has.each x i).lives ∙ ap (λ y. Some (entry_of y (h.naming.forks x.slot))) (b.has.each x i).has.process

      order_of : (x : Kept) (i : Contains processes x) → IsInOrder (at x i)
      order_of x i = nested.ordered (h.naming.name x.slot) (at x i) (found x i)

      names : same (h.naming.name x.slot) (h.naming.name y.slot) ≡ false
      names = elim (same-or-other (h.naming.name x.slot) (h.naming.name y.slot)) [
        | inl e ↦ absurd (n (h.stands.apart x.slot y.slot (b.has.each x i).lives (b.has.each y j).lives e))
        | inr e ↦ e
      ]

      lie : Lie (h.naming.name x.slot) (at x i) (h.naming.name y.slot) (at y j) → (x.top ≤ y.first) ⊎ (y.top ≤ x.first)
      lie (apart (inl a)) = inl (omega (arith, a, (order_of x i).uses, (order_of x i).ends))
      lie (apart (inr a)) = inr (omega (arith, a, (order_of y j).uses, (order_of y j).ends))
      lie (inside u a) = inr (omega (arith, a.behind, (order_of y j).uses))
      lie (around u a) = inl (omega (arith, a.behind, (order_of x i).uses))

-- ---- lists of names

pub once_of : (l : List Name) → kernel.Once l → calls.Once l
once_of [] o = tt
once_of (x ∷ l) o = (o.0, once_of l o.1)

pub among_index : (xs : List ℕ) (j : ℕ) → IsAmong j xs → (f : ℕ → Name) → (i : ℕ) × (i < length xs) × (name_at (map f xs) i ≡ f j)
among_index [] j a f = absurd a
among_index (x ∷ xs) j (inl e) f = (0, omega arith, ap f (sym e))
among_index (x ∷ xs) j (inr a) f = let r = among_index xs j a f in (suc r.0, omega (arith, r.1), r.2)

-- the rest of two lists with the same members and the same first
pub same_rest : (p : Name) (a b : List Name) → has a p ≡ false → has b p ≡ false → ((x : Name) → has (p ∷ b) x ≡ has (p ∷ a) x) → (x : Name) → has b x ≡ has a x
same_rest p a b n m h x = go (same-or-other x p)
  where
    skip : (u v w : Bool) → u ≡ false → (u || v) ≡ (u || w) → v ≡ w
    skip true v w e k = absurd (cc)
    skip false v w e k = k

    go : (x ≡ p) ⊎ (same x p ≡ false) → has b x ≡ has a x
    go (inl e) = ap (has b) e ∙ m ∙ sym n ∙ sym (ap (has a) e)
    go (inr e) = skip (same x p) (has b x) (has a x) e (h x)
