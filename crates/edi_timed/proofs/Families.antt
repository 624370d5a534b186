-- Names of children: nobody who lives has the name that a later fork of another will give.
use Rattle.std.proofs.Common.{◌≡◌, ◌≤◌, ◌<◌, ℕ, zero, suc, ◌+◌, true, false, Bool, List, [], ◌∷◌, ◌++◌, length, refl, ap, sym, ◌∙◌, arith, length-append}
use Rattle.edi_calls.specs.Names.{Name, same}
use Rattle.edi_calls.specs.Ready.{child, children}
use Rattle.edi_calls.proofs.Tables.{same-equal}
use Rattle.edi_target.specs.Mach.{Machine}
use Rattle.edi_kernel.specs.declared.table.Table.{Table}
use Rattle.edi_kernel.specs.Table.{is_live, process_at}
use Rattle.edi_kernel.specs.TableIsMachine.{Naming, Born, TableIsMachine}
use Rattle.edi_timed.specs.Underway.{below}

pub longer : (p : Name) (f i : ℕ) → length (child p f i) ≡ length p + 2
longer p f i = length-append p (f ∷ i ∷ [])

-- a child has one parent, fork and number
pub child_same : (p q : Name) (f i g j : ℕ) → child p f i ≡ child q g j → (p ≡ q) × (f ≡ g) × (i ≡ j)
child_same [] [] f i g j e = (refl, cc, cc)
child_same [] (y ∷ q) f i g j e =
    let l : length (f ∷ i ∷ []) ≡ length (y ∷ child q g j) = ap length e in absurd (omega (arith, l, longer q g j))
child_same (x ∷ p) [] f i g j e =
    let l : length (x ∷ child p f i) ≡ length (g ∷ j ∷ []) = ap length e in absurd (omega (arith, l, longer p f i))
child_same (x ∷ p) (y ∷ q) f i g j e =
    let head : x ≡ y = (cc) in
    let tail : child p f i ≡ child q g j = (cc) in
    let r : (p ≡ q) × (f ≡ g) × (i ≡ j) = child_same p q f i g j tail in
    ((λ k. head k ∷ r.0 k), r.1, r.2)

-- nobody is below a child of it
pub below_longer : (p : Name) (path : List (ℕ × ℕ)) → length p ≤ length (below p path)
below_longer p [] = omega arith
below_longer p (b ∷ path) = omega (arith, below_longer p path, longer (below p path) b.0 b.1)

pub not_below : (p : Name) (f i : ℕ) (path : List (ℕ × ℕ)) → same p (below (child p f i) path) ≡ false
not_below p f i path = go (same p (below (child p f i) path)) refl
  where
    go : (b : Bool) → same p (below (child p f i) path) ≡ b → b ≡ false
    go false e = refl
    go true e =
        let is : p ≡ below (child p f i) path = same-equal p (below (child p f i) path) e in
        absurd (omega (arith, ap length is, below_longer (child p f i) path, longer p f i))

-- below a child of a child
pub below_again : (p : Name) (f i : ℕ) (path : List (ℕ × ℕ)) → below (child p f i) path ≡ below p (path ++ (f, i) ∷ [])
below_again p f i [] = refl
below_again p f i (b ∷ path) = ap (λ q. child q b.0 b.1) (below_again p f i path)

pub as_many_children : (p : Name) (f i n : ℕ) → length (children p f i n) ≡ n
as_many_children p f i zero = refl
as_many_children p f i (suc n) = ap suc (as_many_children p f (suc i) n)

module _ (t : Table) (n : Naming) (m : Machine) (h : TableIsMachine t n m) where
  -- who lives is below no child of a later fork of one that lives
  pub is_born : (path : List (ℕ × ℕ)) (slot i f j : ℕ) → is_live t slot ≡ true → is_live t i ≡ true → n.forks i < f →
      n.name slot ≡ below (child (n.name i) f j) path → ⊥
  is_born path zero i f j live live_i later is =
      omega (arith, ap length (sym h.root ∙ is), below_longer (child (n.name i) f j) path, longer (n.name i) f j)
  is_born [] (suc slot) i f j live live_i later is =
      let b : Born t n (suc slot) = h.born (suc slot) live (omega arith) in
      let parent : ℕ = (process_at t (suc slot)).parent in
      let r : (n.name parent ≡ n.name i) × (b.fork ≡ f) × (b.number ≡ j) =
      child_same (n.name parent) (n.name i) b.fork b.number f j (sym b.named ∙ is) in
      let one : parent ≡ i = h.apart parent i b.lives live_i r.0 in
      omega (arith, b.earlier, ap n.forks one, r.1, later)
  is_born (c ∷ path) (suc slot) i f j live live_i later is =
      let b : Born t n (suc slot) = h.born (suc slot) live (omega arith) in
      let parent : ℕ = (process_at t (suc slot)).parent in
      let q : Name = below (child (n.name i) f j) path in
      let r : (n.name parent ≡ q) × (b.fork ≡ c.0) × (b.number ≡ c.1) = child_same (n.name parent) q b.fork b.number c.0 c.1 (sym b.named ∙ is) in
      is_born path parent i f j b.lives live_i later r.0
