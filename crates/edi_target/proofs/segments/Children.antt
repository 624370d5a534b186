-- A parent that waits for one child less, and the children of a fork.
use Rattle.std.proofs.Common.{◌≡◌, ℕ, zero, suc, ◌+◌, ◌-◌, ◌*◌, ◌<◌, ◌≤◌, ◌⊎◌, inl, inr, Bool, true, false, ◌||◌, if◌then◌else◌, List, [], ◌∷◌, length, Some}
use Rattle.std.proofs.Common.{refl, sym, subst, ap, ◌∙◌, arith}
use Rattle.edi_calls.proofs.Names.{some_is, parent-child, child_some}
use Rattle.edi_calls.specs.Names.{Name, Table, same, find, with_at, without}
use Rattle.edi_calls.specs.Ready.{child, parent_of, has}
use Rattle.edi_calls.proofs.Tables.{same-refl, same-equal, same-or-other, find-with_at-same, find-with_at-other}
use Rattle.edi_target.specs.Op.{Branch}
use Rattle.edi_target.specs.Mach.{waiting, Activity, Machine, awaits, with_child, with_children}
use Rattle.edi_target.specs.segments.Nested.{InOrder, IsInOrder, IsBehind, IsInParent, AreApart}
use Rattle.edi_target.proofs.segments.Keeping.{HaveRoom}
use Rattle.edi_target.proofs.segments.Families.{parent_apart, IsFree, Few, Sound, Alike, few_stay, behind_alike, apart_alike, apart_swapped}
use Rattle.edi_target.proofs.segments.Families.{left_apart, left_was, left}

-- ---- a list without one of its names

minus : Name → List Name → List Name
minus p [] = []
minus p (q ∷ qs) = if same p q then qs else q ∷ minus p qs

length-minus : (p : Name) (qs : List Name) → has qs p ≡ true → length (minus p qs) + 1 ≡ length qs
unfolding minus
length-minus p [] h = absurd (cc)
length-minus p (q ∷ qs) h = go (same p q) h (length-minus p qs)
  where
    go : (b : Bool) → (b || has qs p) ≡ true → (has qs p ≡ true → length (minus p qs) + 1 ≡ length qs) → length (if b then qs else q ∷ minus p qs) + 1 ≡ suc
        (length qs)
    go true h ih = omega arith
    go false h ih = omega (arith, ih h)

has-minus : (p r : Name) (qs : List Name) → same r p ≡ false → has qs r ≡ true → has (minus p qs) r ≡ true
unfolding minus
has-minus p r [] n h = h
has-minus p r (q ∷ qs) n h = go (same p q) refl (same r q) refl h (has-minus p r qs n)
  where
    go : (b : Bool) → same p q ≡ b → (c : Bool) → same r q ≡ c → (c || has qs r) ≡ true → (has qs r ≡ true → has (minus p qs) r ≡ true)
        → has (if b then qs else q ∷ minus p qs) r ≡ true
    go true e true f h ih =
        let yes : same r p ≡ true = ap (same r) (same-equal p q e) ∙ f in
        let no : true ≡ false = sym yes ∙ n in
        absurd (cc)
    go true e false f h ih = h
    go false e true f h ih = ap (λ b. b || has (minus p qs) r) f
    go false e false f h ih = ap (λ b. b || has (minus p qs) r) f ∙ ih h

some_in : (r : Name) (qs : List Name) → has qs r ≡ true → 0 < length qs
some_in r [] h = absurd (cc)
some_in r (q ∷ qs) h = omega arith

-- ---- one child less

of_awaits : (m k : ℕ) → awaits m ≡ waiting k → m ≡ k
of_awaits zero k h = absurd (cc)
of_awaits (suc m) k h = cc

-- a parent waits for so many children as still live at most
module _ (t : Table Activity) (p : Name) (y y' : Activity) (m : ℕ) (s : Sound t) (found : find t p ≡ Some y) (few : Few t p m)
    (is : y' ≡ record y { standing = awaits m }) where
  same_there : (q : Name) (b : Activity) → find (with_at t p y') q ≡ Some b → (c : Activity) × (find t q ≡ Some c) × Alike c b
  same_there q b e = go (same-or-other q p)
    where
      go : (q ≡ p) ⊎ (same q p ≡ false) → (c : Activity) × (find t q ≡ Some c) × Alike c b
      go (inr n) = (b, sym (find-with_at-other t p q y' n) ∙ e, (refl, refl))
      go (inl k) =
          let one : record y { standing = awaits m } ≡ b = sym is ∙ some_is (sym (find-with_at-same t p y') ∙ sym (ap (find (with_at t p y')) k) ∙ e) in
          (y, ap (find t) k ∙ found, (ap (λ x. x.first) one, ap (λ x. x.last) one))

  in_order : (q : Name) (b : Activity) → find (with_at t p y') q ≡ Some b → (q ≡ p) ⊎ (same q p ≡ false) → IsInOrder b
  in_order q b e (inr n) = s.ordered q b (sym (find-with_at-other t p q y' n) ∙ e)
  in_order q b e (inl k) =
      let o : IsInOrder (record y { standing = awaits m }) = s.ordered p y found in
      subst IsInOrder (sym is ∙ some_is (sym (find-with_at-same t p y') ∙ sym (ap (find (with_at t p y')) k) ∙ e)) o

  still : (k : ℕ) → m ≡ k → 0 < k → (n : ℕ) × (y'.standing ≡ waiting n)
  still zero e h = absurd (omega (arith, h))
  still (suc k) e h = (suc k, ap (λ x. x.standing) is ∙ ap awaits e)

  inside : (q : Name) (b c : Activity) → 0 < length q → find t q ≡ Some c → Alike c b → IsInParent t q c → (parent_of q ≡ p) ⊎ (same (parent_of q) p ≡ false)
      → IsInParent (with_at t p y') q b
  inside q b c some e alike h (inr n) = record {
    parent = h.parent;
    lives = find-with_at-other t p (parent_of q) y' n ∙ h.lives;
    number = h.number;
    waits = h.waits;
    lies = behind_alike c b h.parent alike h.lies;
  }
  inside q b c some e alike h (inl k) =
      let w : (n : ℕ) × (y'.standing ≡ waiting n) = still m refl (omega (arith, some_in q few.list (few.all q c some k e), few.size)) in
      let one : h.parent ≡ y = some_is (sym h.lives ∙ ap (find t) k ∙ found) in
      let lies : IsBehind b y = subst (IsBehind b) one (behind_alike c b h.parent alike h.lies) in
      record {
        parent = y';
        lives = ap (find (with_at t p y')) k ∙ find-with_at-same t p y';
        number = w.0;
        waits = w.1;
        lies = subst (IsBehind b) (sym is) (record { behind = lies.behind; within = lies.within });
      }

  fewer : (q : Name) (b : Activity) (n : ℕ) → find (with_at t p y') q ≡ Some b → b.standing ≡ waiting n → (q ≡ p) ⊎ (same q p ≡ false)
      → Few (with_at t p y') q n
  fewer q b n e w (inr k) = few_stay t (with_at t p y') q n same_there (s.few q b n (sym (find-with_at-other t p q y' k) ∙ e) w)
  fewer q b n e w (inl k) =
      let one : y' ≡ b = some_is (sym (find-with_at-same t p y') ∙ sym (ap (find (with_at t p y')) k) ∙ e) in
      let number : m ≡ n = of_awaits m n (sym (ap (λ x. x.standing) is) ∙ ap (λ x. x.standing) one ∙ w) in
      record {
        list = few.list;
        size = omega (arith, few.size, number);
        all = λ r x some own f. let c : (c : Activity) × (find t r ≡ Some c) × Alike c x = same_there r x f in few.all r c.0 some (own ∙ k) c.1;
      }

  pub lessened : Sound (with_at t p y')
  lessened = record {
    ordered = λ q b e. in_order q b e (same-or-other q p);
    nested = λ q b some e. let c : (c : Activity) × (find t q ≡ Some c) × Alike c b = same_there q b e in
        inside q b c.0 some c.1 c.2 (s.nested q c.0 some c.1) (same-or-other (parent_of q) p);
    siblings = λ q r b d some some' k n e f. let c : (c : Activity) × (find t q ≡ Some c) × Alike c b = same_there q b e in
        let g : (c : Activity) × (find t r ≡ Some c) × Alike c d = same_there r d f in
        apart_alike c.0 g.0 b d c.2 g.2 (s.siblings q r c.0 g.0 some some' k n c.1 g.1);
    few = λ q b n e w. fewer q b n e w (same-or-other q p);
  }

-- a child ends
module _ (t : Table Activity) (p : Name) (a : Activity) (lives : find t p ≡ Some a) (free : IsFree a) (s : Sound t) (y : Activity) (n : ℕ)
    (found : find (without t p) (parent_of p) ≡ Some y) (waits : y.standing ≡ waiting n) where
  some : 0 < length p
  some = go p (left_apart t p a lives free s (parent_of p) y found)
    where
      go : (p : Name) → same (parent_of p) p ≡ false → 0 < length p
      go [] e = absurd (cc)
      go (x ∷ p) e = omega arith

  less : Few (without t p) (parent_of p) (n - 1)
  less =
      let old : Few t (parent_of p) n = s.few (parent_of p) y n (left_was t p a lives free s (parent_of p) y found) waits in
      record {
        list = minus p old.list;
        size = omega (arith, length-minus p old.list (old.all p a some refl lives), old.size);
        all = λ r b more own e. has-minus p r old.list (left_apart t p a lives free s r b e) (old.all r b more own (left_was t p a lives free s r b e));
      }

  pub awaited : Sound (with_at (without t p) (parent_of p) (record y { standing = awaits (n - 1) }))
  awaited = lessened (without t p) (parent_of p) y (record y { standing = awaits (n - 1) }) (n - 1) (left t p a lives free s) found less refl

-- ---- the children of a fork

-- some children of p are there, below this address, and none of them waits; so many are still to come
pub record Stage (t : Table Activity) (p : Name) (a : Activity) (at more : ℕ) : Type 0 where
  pub sound : Sound t
  pub lives : find t p ≡ Some a
  pub begins : a.end ≤ at
  pub below : (r : Name) (b : Activity) → 0 < length r → parent_of r ≡ p → find t r ≡ Some b → b.last ≤ at
  pub idle : (r : Name) (b : Activity) → 0 < length r → parent_of r ≡ p → find t r ≡ Some b → IsFree b
  pub list : List Name
  pub size : (n : ℕ) → a.standing ≡ waiting n → length list + more ≤ n
  pub all : (r : Name) (b : Activity) → 0 < length r → parent_of r ≡ p → find t r ≡ Some b → has list r ≡ true

module _ (t : Table Activity) (p : Name) (a : Activity) (n at more share : ℕ) (waits : a.standing ≡ waiting n) (s : Stage t p a at (suc more)) (c : Name)
    (some : 0 < length c) (own : parent_of c ≡ p) (x : Activity) (from : x.first ≡ at) (upto : x.last ≡ at + share) (fits : at + share ≤ a.last)
    (order : IsInOrder x) (idle : IsFree x) where
  apart_from_parent : same p c ≡ false
  apart_from_parent = ap (λ y. same y c) (sym own) ∙ parent_apart c some

  still_lives : find (with_at t c x) p ≡ Some a
  still_lives = find-with_at-other t c p x apart_from_parent ∙ s.lives

  -- either the new child, or as before
  split : (q : Name) (b : Activity) → find (with_at t c x) q ≡ Some b → ((q ≡ c) × (x ≡ b)) ⊎ ((same q c ≡ false) × (find t q ≡ Some b))
  split q b e = go (same-or-other q c)
    where
      go : (q ≡ c) ⊎ (same q c ≡ false) → ((q ≡ c) × (x ≡ b)) ⊎ ((same q c ≡ false) × (find t q ≡ Some b))
      go (inl k) = inl (k, some_is (sym (find-with_at-same t c x) ∙ sym (ap (find (with_at t c x)) k) ∙ e))
      go (inr m) = inr (m, sym (find-with_at-other t c q x m) ∙ e)

  -- nobody is a child of the new child
  not_parent : (q : Name) (b : Activity) → 0 < length q → find t q ≡ Some b → same (parent_of q) c ≡ false
  not_parent q b more e = go (same-or-other (parent_of q) c) (s.sound.nested q b more e)
    where
      go : (parent_of q ≡ c) ⊎ (same (parent_of q) c ≡ false) → IsInParent t q b → same (parent_of q) c ≡ false
      go (inr m) h = m
      go (inl k) h = absurd (s.idle c h.parent some own (sym (ap (find t) k) ∙ h.lives) h.number h.waits)

  new_child : (q : Name) (b : Activity) → q ≡ c → x ≡ b → IsInParent (with_at t c x) q b
  new_child q b k one = record {
    parent = a;
    lives = ap (find (with_at t c x)) (ap parent_of k ∙ own) ∙ still_lives;
    number = n;
    waits = waits;
    lies = subst (λ b. IsBehind b a) one (record { behind = omega (arith, s.begins, from); within = omega (arith, fits, upto) });
  }

  nested : (q : Name) (b : Activity) → 0 < length q → ((q ≡ c) × (x ≡ b)) ⊎ ((same q c ≡ false) × (find t q ≡ Some b)) → IsInParent (with_at t c x) q b
  nested q b more (inl h) = new_child q b h.0 h.1
  nested q b more (inr h) =
      let old : IsInParent t q b = s.sound.nested q b more h.1 in
      record {
        parent = old.parent;
        lives = find-with_at-other t c (parent_of q) x (not_parent q b more h.1) ∙ old.lives;
        number = old.number;
        waits = old.waits;
        lies = old.lies;
      }

  -- the new child is apart from its siblings
  new_apart : (q : Name) (b : Activity) → 0 < length q → parent_of q ≡ p → find t q ≡ Some b → AreApart b x
  new_apart q b more k e = inl (omega (arith, s.below q b more k e, from))

  siblings : (q r : Name) (b d : Activity) → 0 < length q → 0 < length r → parent_of q ≡ parent_of r → same q r ≡ false →
      ((q ≡ c) × (x ≡ b)) ⊎ ((same q c ≡ false) × (find t q ≡ Some b)) → ((r ≡ c) × (x ≡ d)) ⊎ ((same r c ≡ false) × (find t r ≡ Some d)) → AreApart b d
  siblings q r b d more more' k m (inl h) (inl g) =
      let yes : same q r ≡ true = ap (same q) (g.0 ∙ sym h.0) ∙ same-refl q in
      let no : true ≡ false = sym yes ∙ m in
      absurd (cc)
  siblings q r b d more more' k m (inl h) (inr g) =
      apart_swapped d b (subst (AreApart d) h.1 (new_apart r d more' (sym k ∙ ap parent_of h.0 ∙ own) g.1))
  siblings q r b d more more' k m (inr h) (inl g) =
      subst (AreApart b) g.1 (new_apart q b more (k ∙ ap parent_of g.0 ∙ own) h.1)
  siblings q r b d more more' k m (inr h) (inr g) = s.sound.siblings q r b d more more' k m h.1 g.1

  -- the list of the children, with the new one
  listed : (r : Name) (b : Activity) → 0 < length r → parent_of r ≡ p → ((r ≡ c) × (x ≡ b)) ⊎ ((same r c ≡ false) × (find t r ≡ Some b))
      → has (c ∷ s.list) r ≡ true
  listed r b more k (inl h) = ap (λ y. y || has s.list r) (ap (λ y. same y c) h.0 ∙ same-refl c)
  listed r b more k (inr h) = ap (λ y. y || has s.list r) h.0 ∙ s.all r b more k h.1

  few : (q : Name) (b : Activity) (k : ℕ) → find (with_at t c x) q ≡ Some b → b.standing ≡ waiting k → (q ≡ p) ⊎ (same q p ≡ false) → ((q ≡ c) × (x ≡ b))
      ⊎ ((same q c ≡ false) × (find t q ≡ Some b)) → Few (with_at t c x) q k
  few q b k e w g (inl h) = absurd (idle k (ap (λ y. y.standing) h.1 ∙ w))
  few q b k e w (inl g) (inr h) =
      let one : a ≡ b = some_is (sym still_lives ∙ sym (ap (find (with_at t c x)) g) ∙ e) in
      record {
        list = c ∷ s.list;
        size = omega (arith, s.size k (ap (λ y. y.standing) one ∙ w));
        all = λ r d more l f. listed r d more (l ∙ g) (split r d f);
      }
  few q b k e w (inr g) (inr h) =
      let old : Few t q k = s.sound.few q b k h.1 w in
      record {
        list = old.list;
        size = old.size;
        all = λ r d more l f. elim (split r d f) [
          | inl i ↦
              let yes : same q p ≡ true = ap (λ y. same y p) (sym l ∙ ap parent_of i.0 ∙ own) ∙ same-refl p in
              let no : true ≡ false = sym yes ∙ g in
              absurd (cc)
          | inr i ↦ old.all r d more l i.1
        ];
      }

  next : Stage (with_at t c x) p a (at + share) more
  next = record {
    sound = record {
      ordered = λ q b e. elim (split q b e) [ inl h ↦ subst IsInOrder h.1 order | inr h ↦ s.sound.ordered q b h.1 ];
      nested = λ q b more e. nested q b more (split q b e);
      siblings = λ q r b d more more' k m e f. siblings q r b d more more' k m (split q b e) (split r d f);
      few = λ q b k e w. few q b k e w (same-or-other q p) (split q b e);
    };
    lives = still_lives;
    begins = omega (arith, s.begins);
    below = λ r b more k e. elim (split r b e) [ inl h ↦ omega (arith, upto, ap (λ y. y.last) h.1) | inr h ↦ omega (arith, s.below r b more k h.1) ];
    idle = λ r b more k e. elim (split r b e) [ inl h ↦ subst IsFree h.1 idle | inr h ↦ s.idle r b more k h.1 ];
    list = c ∷ s.list;
    size = λ k w. omega (arith, s.size k w);
    all = λ r b more k e. listed r b more k (split r b e);
  }

module _ (p : Name) (f base share : ℕ) (a : Activity) (n : ℕ) (waits : a.standing ≡ waiting n) where
  -- all children are born in their shares
  pub born : (branches : List Branch) (i at : ℕ) (m : Machine) → Stage m.activities p a at (length branches) → HaveRoom share branches
      → at + share * length branches ≤ a.last →
      Sound (with_children p f i base at share branches m).activities
  born [] i at m s room fits = s.sound
  born (branch ∷ branches) i at m s room fits =
      let order : InOrder a.first a.base a.top a.end a.last = s.sound.ordered p a s.lives in
      born branches (suc i) (at + share) (with_child (child p f i) base at share branch m)
      (next m.activities p a n at (length branches) share waits s (child p f i) (child_some p f i) (parent-child p f i) _ refl refl (omega (arith, fits)) (record {
        begins = omega arith;
        links = omega arith;
        uses = omega (arith, room.0);
        ends = omega (arith, room.1);
        fits = omega (arith, fits, order.fits);
      }) (λ k e. absurd (cc)))
      room.2 (omega (arith, fits))

-- nobody else changes
pub others_stay : (p : Name) (f base share : ℕ) (q : Name) → ((i : ℕ) → same q (child p f i) ≡ false) → (branches : List Branch) (i at : ℕ) (m : Machine)
    → find (with_children p f i base at share branches m).activities q ≡ find m.activities q
others_stay p f base share q other [] i at m = refl
others_stay p f base share q other (branch ∷ branches) i at m =
    others_stay p f base share q other branches (suc i) (at + share) (with_child (child p f i) base at share branch m)
    ∙ find-with_at-other m.activities (child p f i) q _ (other i)
