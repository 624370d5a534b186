-- Places of processes, and the lists that have them.
use Rattle.std.proofs.Common.{◌≡◌, ℕ, zero, suc, ◌+◌, ◌-◌, ◌<◌, ◌≤◌, Bool, true, false, ◌&&◌, nat_lt, if◌then◌else◌, List, [], ◌∷◌, length, refl, arith}
use Rattle.std.specs.Prelude.{Option, Some, None, IsSome, slice_get}
use Rattle.std.proofs.lemmas.Bool.{le-leb, lt-leb}
use Rattle.edi_ring.specs.Lists.{list_at, has, home_of, IsSound}
use Rattle.edi_ring.proofs.Homes.{has-from_among}
use Rattle.edi_ring.proofs.Calls.{among_at}
use Rattle.edi_kernel.specs.declared.table.Standing.{Standing}
use Rattle.edi_kernel.specs.declared.table.Standing.TheVariants as standing
use Rattle.edi_kernel.specs.declared.table.Table.{Table}
use Rattle.edi_kernel.specs.Table.{PutsProcess, Notifies, process_at, with_process}

-- ---- lists

has_at : (xs : List ℕ) (k x : ℕ) → slice_get xs k ≡ Some x → has xs x ≡ true
has_at xs k x e = has-from_among x xs (among_at xs k x e)

-- the two lists tell where a node is
pub home_in : (ls : List (List ℕ)) (l x : ℕ) → length ls ≡ 2 → l < 2 → has (list_at ls l) x ≡ true
    → (has (list_at ls 0) x ≡ true → has (list_at ls 1) x ≡ true → ⊥) → home_of ls x ≡ Some l
home_in [] l x e lt h none = absurd (omega (arith, e))
home_in (a ∷ []) l x e lt h none = absurd (omega (arith, e))
home_in (a ∷ b ∷ c ∷ ls) l x e lt h none = absurd (omega (arith, e))
home_in (a ∷ b ∷ []) zero x e lt h none = rw h refl
home_in (a ∷ b ∷ []) (suc zero) x e lt h none = go (has a x) refl
  where
    go : (t : Bool) → has a x ≡ t → home_of (a ∷ b ∷ []) x ≡ Some 1
    go true there = absurd (none there h)
    go false there = rw there (rw h refl)
home_in (a ∷ b ∷ []) (suc (suc l)) x e lt h none = absurd (omega arith)

-- a node of a list has it as its home
pub listed : (ls : List (List ℕ)) (l k x : ℕ) → IsSound 32 2 ls → l < 2 → slice_get (list_at ls l) k ≡ Some x → home_of ls x ≡ Some l
listed ls l k x s lt e =
    home_in ls l x s.as_many lt (has_at (list_at ls l) k x e)
    (λ h g. let same : 0 ≡ 1 = s.in_one_list 0 1 x h g in absurd (omega (arith, same)))

pub listed_below : (ls : List (List ℕ)) (l k x : ℕ) → IsSound 32 2 ls → slice_get (list_at ls l) k ≡ Some x → x < 32
listed_below ls l k x s e = s.in_range l x (has_at (list_at ls l) k x e)

pub some_home : (ls : List (List ℕ)) (x l : ℕ) → home_of ls x ≡ Some l → IsSome (home_of ls x)
some_home ls x l e = rw e refl

-- ---- a process is notified that a child has ended

pub notifies_last : (s : Standing) (n slot : ℕ) (old new : Table) → s ≡ standing.Waiting n → n ≤ 1
    → PutsProcess 0 slot (record (process_at old slot) { standing = standing.Ready }) old new → Notifies s slot old new
notifies_last s n slot old new e h put = rw e (rw (le-leb n 1 h) put)

pub notifies_more : (s : Standing) (n slot : ℕ) (old new : Table) → s ≡ standing.Waiting n → 1 < n
    → new ≡ with_process old slot (record (process_at old slot) { standing = standing.Waiting (n - 1) }) → Notifies s slot old new
notifies_more s n slot old new e h is = rw e (rw (lt-leb n 1 h) is)

pub notifies_other : (s : Standing) (slot : ℕ) (t : Table) → ((n : ℕ) → s ≡ standing.Waiting n → ⊥) → Notifies s slot t t
notifies_other standing.Ready slot t h = refl
notifies_other standing.AtWhen slot t h = refl
notifies_other (standing.Waiting n) slot t h = absurd (h n refl)

-- ---- the first lists

-- the slots from 1 on that have been freed so far
abbrev pub freed_home : ℕ → ℕ → Option ℕ
freed_home slot q = if nat_lt 0 q && nat_lt q slot then Some 1 else None

pub record FreedTo (slot : ℕ) (ls : List (List ℕ)) : Type 0 where
  pub homes : (q : ℕ) → home_of ls q ≡ freed_home slot q
  pub ready : list_at ls 0 ≡ []
  pub free : length (list_at ls 1) + 1 ≡ slot
  pub sound : IsSound 32 2 ls
