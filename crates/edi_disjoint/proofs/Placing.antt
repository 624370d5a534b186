-- Open uses that are put into a list, each at its place.
use Rattle.std.proofs.Common.{◌≡◌, ℕ, zero, suc, ◌≤◌, ◌⊎◌, inl, inr, Bool, true, false, ◌==◌, if◌then◌else◌, List, [], ◌∷◌, map, drop, Some, None}
use Rattle.std.proofs.Common.{refl, sym, subst, ap, ◌∙◌, arith, slice_get}
use Rattle.std.specs.Prelude.{Contains, insert, nat_lt, not}
use Rattle.std.specs.Global.{Vec}
use Rattle.std.proofs.lemmas.Bool.{eqb-true, eq-eqb, ltb-false}
use Rattle.edi_unit.specs.declared.expressions.Callee.{Callee}
use Rattle.edi_unit.specs.declared.expressions.Callee.TheVariants as callee
use Rattle.edi_unit.specs.Tree.{Block}
use Rattle.edi_disjoint.specs.declared.mentions.Mention.{Mention}
use Rattle.edi_disjoint.specs.declared.mentions.Mention.TheVariants as mention
use Rattle.edi_disjoint.specs.declared.openly.OpenUse as code_use
use Rattle.edi_disjoint.specs.Footprints.{Variable, variable_at}
use Rattle.edi_disjoint.specs.Apart.{text_at}
use Rattle.edi_disjoint.specs.Open.{OpenUse, comes_before, AreInOrder, parameter_of, handled}
use Rattle.edi_disjoint.specs.Openly.{use_of, index_among, is_past, is_there, put_in, with_variables, with_callee, with_handled, with_text, with_blocks}
use Rattle.edi_disjoint.proofs.Contained.{contains_either, contains_first, contains_later, contains_none}

-- ---- the order

-- of two neither of which comes before the other
pub neither_before : (a b : OpenUse) → comes_before a b ≡ false → comes_before b a ≡ false → a ≡ b
neither_before a b e f = blocks (a.block == b.block) refl
  where
    not_below : (m n : ℕ) → nat_lt m n ≡ false → nat_lt n m ≡ false → m ≡ n
    not_below m n h k =
        let x : n ≤ m = ltb-false m n h in
        let y : m ≤ n = ltb-false n m k in
        omega (arith, x, y)

    other_way : (m n : ℕ) → (m == n) ≡ true → (n == m) ≡ true
    other_way m n h = eq-eqb n m (sym (eqb-true m n h))

    not_other_way : (m n : ℕ) → (m == n) ≡ false → (n == m) ≡ false
    not_other_way m n h = go (n == m) refl
      where
        contradicts : false ≡ true → ⊥
        contradicts q = cc

        go : (t : Bool) → (n == m) ≡ t → (n == m) ≡ false
        go false k = k
        go true k = absurd (contradicts (sym h ∙ other_way n m k))

    no_equal : (m n : ℕ) → (m == n) ≡ false → m ≡ n → ⊥
    no_equal m n h k = contradicts (sym h ∙ eq-eqb m n k)
      where
        contradicts : false ≡ true → ⊥
        contradicts q = cc

    v : OpenUse → Variable
    v x = x.variable

    within : OpenUse → OpenUse → Bool
    within x y = if (v x).home == (v y).home then nat_lt (v x).number (v y).number else nat_lt (v x).home (v y).home

    homes : (t : Bool) → ((v a).home == (v b).home) ≡ t → within a b ≡ false → within b a ≡ false → v a ≡ v b
    homes true h k l =
        ap (λ (n : ℕ). record { home = n; number = (v a).number }) (eqb-true (v a).home (v b).home h)
        ∙ ap (λ (n : ℕ). record { home = (v b).home; number = n })
        (not_below (v a).number (v b).number (sym (ap (λ x. if x then nat_lt (v a).number (v b).number else nat_lt (v a).home (v b).home) h) ∙ k)
        (sym (ap (λ x. if x then nat_lt (v b).number (v a).number else nat_lt (v b).home (v a).home) (other_way (v a).home (v b).home h)) ∙ l))
    homes false h k l =
        absurd (no_equal (v a).home (v b).home h
        (not_below (v a).home (v b).home (sym (ap (λ x. if x then nat_lt (v a).number (v b).number else nat_lt (v a).home (v b).home) h) ∙ k)
        (sym (ap (λ x. if x then nat_lt (v b).number (v a).number else nat_lt (v b).home (v a).home) (not_other_way (v a).home (v b).home h)) ∙ l)))

    blocks : (t : Bool) → (a.block == b.block) ≡ t → a ≡ b
    blocks true h =
        ap (λ (n : ℕ). record { block = n; variable = v a }) (eqb-true a.block b.block h)
        ∙ ap (λ (x : Variable). record { block = b.block; variable = x })
        (homes ((v a).home == (v b).home) refl (sym (ap (λ x. if x then within a b else nat_lt a.block b.block) h) ∙ e)
        (sym (ap (λ x. if x then within b a else nat_lt b.block a.block) (other_way a.block b.block h)) ∙ f))
    blocks false h =
        absurd (no_equal a.block b.block h
        (not_below a.block b.block (sym (ap (λ x. if x then within a b else nat_lt a.block b.block) h) ∙ e)
        (sym (ap (λ x. if x then within b a else nat_lt b.block a.block) (not_other_way a.block b.block h)) ∙ f)))

-- ---- one more

-- what a list with more has: of those with Q all
pub record Put (xs ys : List OpenUse) (Q : OpenUse → Type 0) : Type 0 where
  pub kept : (one : OpenUse) → Contains xs one → Contains ys one
  pub only : (one : OpenUse) → Contains ys one → Contains xs one ⊎ Q one
  pub all : (one : OpenUse) → Q one → Contains ys one
  pub order : AreInOrder xs → AreInOrder ys

pub put_nothing : (xs : List OpenUse) (Q : OpenUse → Type 0) → ((one : OpenUse) → Q one → ⊥) → Put xs xs Q
put_nothing xs Q none = record { kept = λ x h. h; only = λ x h. inl h; all = λ x q. absurd (none x q); order = λ o. o }

pub put_as : (xs ys : List OpenUse) (Q R : OpenUse → Type 0) → ((one : OpenUse) → Q one → R one) → ((one : OpenUse) → R one → Q one) → Put xs ys Q → Put xs ys R
put_as xs ys Q R f g h = record {
  kept = h.kept;
  only = λ x k. elim (h.only x k) [ inl l ↦ inl l | inr q ↦ inr (f x q) ];
  all = λ x r. h.all x (g x r);
  order = h.order;
}

pub put_then : (xs ys zs : List OpenUse) (Q R : OpenUse → Type 0) → Put xs ys Q → Put ys zs R → Put xs zs (λ x. Q x ⊎ R x)
put_then xs ys zs Q R h k = record {
  kept = λ x c. k.kept x (h.kept x c);
  only = λ x c. elim (k.only x c) [
    | inl l ↦ elim (h.only x l) [ inl o ↦ inl o | inr q ↦ inr (inl q) ]
    | inr r ↦ inr (inr r)
  ];
  all = λ x q. elim q [ inl l ↦ k.kept x (h.all x l) | inr r ↦ k.all x r ];
  order = λ o. k.order (h.order o);
}

module _ (one : OpenUse) where
  -- behind one that comes before it
  behind : (y : OpenUse) (xs : List OpenUse) → comes_before y one ≡ true → AreInOrder (y ∷ xs) → AreInOrder (y ∷ put_in one xs)
  behind y [] e o = (e, tt)
  behind y (x ∷ xs) e o = go (comes_before x one) (comes_before one x) refl refl (behind x xs)
    where
      go : (s t : Bool) → comes_before x one ≡ s → comes_before one x ≡ t → (comes_before x one ≡ true → AreInOrder (x ∷ xs) → AreInOrder (x ∷ put_in one xs)) →
          AreInOrder (y ∷ (if s then x ∷ put_in one xs else if t then one ∷ x ∷ xs else x ∷ xs))
      go true t p q more = (o.0, more p o.1)
      go false true p q more = (e, (q, o.1))
      go false false p q more = o

  in_order : (xs : List OpenUse) → AreInOrder xs → AreInOrder (put_in one xs)
  in_order [] o = tt
  in_order (x ∷ xs) o = go (comes_before x one) (comes_before one x) refl refl
    where
      go : (s t : Bool) → comes_before x one ≡ s → comes_before one x ≡ t → AreInOrder (if s then x ∷ put_in one xs else if t then one ∷ x ∷ xs else x ∷ xs)
      go true t p q = behind x xs p o
      go false true p q = (q, o)
      go false false p q = o

  put_keeps : (xs : List OpenUse) (z : OpenUse) → Contains xs z → Contains (put_in one xs) z
  put_keeps [] z h = absurd (contains_none z h)
  put_keeps (x ∷ xs) z h = go (comes_before x one) (comes_before one x) (put_keeps xs z)
    where
      go : (s t : Bool) → (Contains xs z → Contains (put_in one xs) z) → Contains (if s then x ∷ put_in one xs else if t then one ∷ x ∷ xs else x ∷ xs) z
      go true t more = elim (contains_either x z xs h) [ inl e ↦ subst (Contains (x ∷ put_in one xs)) e (contains_first x (put_in one xs)) | inr k ↦ contains_later x z _ (more k) ]
      go false true more = contains_later one z (x ∷ xs) h
      go false false more = h

  put_only : (xs : List OpenUse) (z : OpenUse) → Contains (put_in one xs) z → Contains xs z ⊎ (one ≡ z)
  put_only [] z h = elim (contains_either one z [] h) [ inl e ↦ inr e | inr k ↦ inl k ]
  put_only (x ∷ xs) z h = go (comes_before x one) (comes_before one x) h (put_only xs z)
    where
      go : (s t : Bool) → Contains (if s then x ∷ put_in one xs else if t then one ∷ x ∷ xs else x ∷ xs) z → (Contains (put_in one xs) z → Contains xs z ⊎ (one ≡ z)) →
          Contains (x ∷ xs) z ⊎ (one ≡ z)
      go true t k more = elim (contains_either x z (put_in one xs) k) [
        | inl e ↦ inl (subst (Contains (x ∷ xs)) e (contains_first x xs))
        | inr l ↦ elim (more l) [ inl o ↦ inl (contains_later x z xs o) | inr e ↦ inr e ]
      ]
      go false true k more = elim (contains_either one z (x ∷ xs) k) [ inl e ↦ inr e | inr l ↦ inl l ]
      go false false k more = inl k

  put_there : (xs : List OpenUse) → Contains (put_in one xs) one
  put_there [] = contains_first one []
  put_there (x ∷ xs) = go (comes_before x one) (comes_before one x) refl refl (put_there xs)
    where
      go : (s t : Bool) → comes_before x one ≡ s → comes_before one x ≡ t → Contains (put_in one xs) one →
          Contains (if s then x ∷ put_in one xs else if t then one ∷ x ∷ xs else x ∷ xs) one
      go true t p q more = contains_later x one _ more
      go false true p q more = contains_first one (x ∷ xs)
      go false false p q more = subst (Contains (x ∷ xs)) (neither_before x one p q) (contains_first x xs)

  pub put_one : (xs : List OpenUse) → Put xs (put_in one xs) (λ z. one ≡ z)
  put_one xs = record {
    kept = put_keeps xs;
    only = put_only xs;
    all = λ z e. subst (Contains (put_in one xs)) e (put_there xs);
    order = in_order xs;
  }

-- ---- at its index

insert_is : (one : OpenUse) (xs : List OpenUse) (ps : List code_use.OpenUse) → map use_of ps ≡ xs → is_there one (slice_get ps (index_among one xs)) ≡ false →
    insert xs (index_among one xs) one ≡ put_in one xs
insert_is one xs [] e h = subst (λ ys. insert ys (index_among one ys) one ≡ put_in one ys) e refl
insert_is one xs (p ∷ ps) e h =
    subst (λ ys. insert ys (index_among one ys) one ≡ put_in one ys) e
    (go (comes_before (use_of p) one) refl (subst (λ ys. is_there one (slice_get (p ∷ ps) (index_among one ys)) ≡ false) (sym e) h) (insert_is one (map use_of ps) ps refl))
  where
    rest : List OpenUse
    rest = map use_of ps

    not_false : (b : Bool) → not b ≡ false → b ≡ true
    not_false true k = refl
    not_false false k = absurd (cc)

    go : (s : Bool) → comes_before (use_of p) one ≡ s → is_there one (slice_get (p ∷ ps) (if s then suc (index_among one rest) else 0)) ≡ false →
        (is_there one (slice_get ps (index_among one rest)) ≡ false → insert rest (index_among one rest) one ≡ put_in one rest) →
        insert (use_of p ∷ rest) (if s then suc (index_among one rest) else 0) one
        ≡ (if s then use_of p ∷ put_in one rest else if comes_before one (use_of p) then one ∷ use_of p ∷ rest else use_of p ∷ rest)
    go true q k more = ap (λ (zs : List OpenUse). use_of p ∷ zs) (more k)
    go false q k more = sym (ap (λ b. if b then one ∷ use_of p ∷ rest else use_of p ∷ rest) (not_false (comes_before one (use_of p)) k))

there_is : (one : OpenUse) (ps : List code_use.OpenUse) → is_there one (slice_get ps (index_among one (map use_of ps))) ≡ true → map use_of ps ≡ put_in one (map use_of ps)
there_is one [] h = absurd (cc)
there_is one (p ∷ ps) h = go (comes_before (use_of p) one) refl h (there_is one ps)
  where
    rest : List OpenUse
    rest = map use_of ps

    not_true : (b : Bool) → not b ≡ true → b ≡ false
    not_true false k = refl
    not_true true k = absurd (cc)

    go : (s : Bool) → comes_before (use_of p) one ≡ s → is_there one (slice_get (p ∷ ps) (if s then suc (index_among one rest) else 0)) ≡ true →
        (is_there one (slice_get ps (index_among one rest)) ≡ true → rest ≡ put_in one rest) →
        (use_of p ∷ rest) ≡ (if s then use_of p ∷ put_in one rest else if comes_before one (use_of p) then one ∷ use_of p ∷ rest else use_of p ∷ rest)
    go true q k more = ap (λ (zs : List OpenUse). use_of p ∷ zs) (more k)
    go false q k more = sym (ap (λ b. if b then one ∷ use_of p ∷ rest else use_of p ∷ rest) (not_true (comes_before one (use_of p)) k))

map_insert : (ps : List code_use.OpenUse) (i : ℕ) (p : code_use.OpenUse) → map use_of (insert ps i p) ≡ insert (map use_of ps) i (use_of p)
map_insert [] zero p = refl
map_insert [] (suc i) p = refl
map_insert (q ∷ ps) zero p = refl
map_insert (q ∷ ps) (suc i) p = ap (λ (zs : List OpenUse). use_of q ∷ zs) (map_insert ps i p)

module _ (ps : List code_use.OpenUse) (p : code_use.OpenUse) (i : ℕ) (e : i ≡ index_among (use_of p) (map use_of ps)) where
  pub told_there : is_there (use_of p) (slice_get ps i) ≡ true → map use_of ps ≡ put_in (use_of p) (map use_of ps)
  told_there h = there_is (use_of p) ps (subst (λ j. is_there (use_of p) (slice_get ps j) ≡ true) e h)

  pub told_put : is_there (use_of p) (slice_get ps i) ≡ false → map use_of (insert ps i p) ≡ put_in (use_of p) (map use_of ps)
  told_put h =
      map_insert ps i p ∙ ap (λ n. insert (map use_of ps) n (use_of p)) e
      ∙ insert_is (use_of p) (map use_of ps) ps refl (subst (λ j. is_there (use_of p) (slice_get ps j) ≡ false) e h)

-- index after index
module _ (one : OpenUse) where
  abbrev Among : List code_use.OpenUse → ℕ
  Among ps = index_among one (map use_of ps)

  not_so : (b : Bool) (t : Bool) → not b ≡ not t → b ≡ t
  not_so true true k = refl
  not_so false false k = refl
  not_so true false k = absurd (cc)
  not_so false true k = absurd (cc)

  pub found_at : (ps : List code_use.OpenUse) (i : ℕ) → is_past one (slice_get ps i) ≡ true → Among (drop i ps) ≡ 0
  found_at [] zero e = refl
  found_at [] (suc i) e = refl
  found_at (q ∷ ps) zero e = ap (λ b. if b then suc (Among ps) else 0) (not_so (comes_before (use_of q) one) false e)
  found_at (q ∷ ps) (suc i) e = found_at ps i e

  pub not_at : (ps : List code_use.OpenUse) (i : ℕ) → is_past one (slice_get ps i) ≡ false → Among (drop i ps) ≡ suc (Among (drop (suc i) ps))
  not_at [] i e = absurd (cc)
  not_at (q ∷ ps) zero e = ap (λ b. if b then suc (Among ps) else 0) (not_so (comes_before (use_of q) one) true e)
  not_at (q ∷ ps) (suc i) e = not_at ps i e

-- ---- many

pub variables_put : (branch : ℕ) (vs : List Variable) (xs : List OpenUse) → Put xs (with_variables branch xs vs) (λ x. (branch ≡ x.block) × Contains vs x.variable)
variables_put branch [] xs = put_nothing xs _ (λ x q. contains_none x.variable q.1)
variables_put branch (v ∷ vs) xs =
    let one : OpenUse = record { block = branch; variable = v } in
    put_as xs (with_variables branch (put_in one xs) vs) (λ x. (one ≡ x) ⊎ ((branch ≡ x.block) × Contains vs x.variable)) _
    (λ x q. elim q [
      | inl e ↦ (ap (λ y. y.block) e, subst (λ (y : OpenUse). Contains (v ∷ vs) y.variable) e (contains_first v vs))
      | inr k ↦ (k.0, contains_later v x.variable vs k.1)
    ])
    (λ x q. elim (contains_either v x.variable vs q.1) [
      | inl e ↦ inl (ap (λ (n : ℕ). record { block = n; variable = v }) q.0 ∙ ap (λ (y : Variable). record { block = x.block; variable = y }) e)
      | inr k ↦ inr (q.0, k)
    ])
    (put_then xs (put_in one xs) (with_variables branch (put_in one xs) vs) _ _ (put_one one xs) (variables_put branch vs (put_in one xs)))

module _ (blocks : List Block) (branch : ℕ) where
  -- a mention in block n calls or passes on this procedure parameter
  abbrev pub Handled : ℕ → Mention → Variable → Type 0
  Handled n m v = handled blocks n m ≡ Some v

  abbrev pub HandledIn : ℕ → List Mention → Variable → Type 0
  HandledIn n ms v = (m : Mention) × Contains ms m × Handled n m v

  abbrev Of : (Variable → Type 0) → OpenUse → Type 0
  Of P x = (branch ≡ x.block) × P x.variable

  no_some : (v : Variable) → None ≡ Some v → ⊥
  no_some v e = cc

  some_same : (v x : Variable) → Some v ≡ Some x → v ≡ x
  some_same v x e = cc

  callee_put : (xs : List OpenUse) (n : ℕ) (c : Callee) → Put xs (with_callee blocks branch n xs c) (Of (λ v. parameter_of blocks n c ≡ Some v))
  callee_put xs n (callee.Block levels d) = put_nothing xs _ (λ x h. no_some x.variable h.1)
  callee_put xs n (callee.Formal levels number) =
      let v : Variable = variable_at blocks n levels number in
      let one : OpenUse = record { block = branch; variable = v } in
      put_as xs (put_in one xs) (λ x. one ≡ x) (Of (λ v. parameter_of blocks n (callee.Formal levels number) ≡ Some v))
      (λ x e. (ap (λ y. y.block) e, ap (λ (y : OpenUse). Some y.variable) e))
      (λ x h. ap (λ (k : ℕ). record { block = k; variable = v }) h.0 ∙ ap (λ (y : Variable). record { block = x.block; variable = y }) (some_same v x.variable h.1))
      (put_one one xs)

  handled_put : (xs : List OpenUse) (n : ℕ) (m : Mention) → Put xs (with_handled blocks branch n xs m) (Of (Handled n m))
  handled_put xs n (mention.Reads levels number) = put_nothing xs _ (λ x h. no_some x.variable h.1)
  handled_put xs n (mention.Assigns levels number) = put_nothing xs _ (λ x h. no_some x.variable h.1)
  handled_put xs n (mention.Lends levels number) = put_nothing xs _ (λ x h. no_some x.variable h.1)
  handled_put xs n (mention.Calls c) = callee_put xs n c
  handled_put xs n (mention.Passes c) = callee_put xs n c

  text_put : (n : ℕ) (ms : List Mention) (xs : List OpenUse) → Put xs (with_text blocks branch n xs ms) (Of (HandledIn n ms))
  text_put n [] xs = put_nothing xs _ (λ x h. contains_none h.1.0 h.1.1)
  text_put n (m ∷ ms) xs =
      put_as xs (with_text blocks branch n (with_handled blocks branch n xs m) ms) (λ x. Of (Handled n m) x ⊎ Of (HandledIn n ms) x) _
      (λ x q. elim q [
        | inl h ↦ (h.0, (m, contains_first m ms, h.1))
        | inr h ↦ (h.0, (h.1.0, contains_later m h.1.0 ms h.1.1, h.1.2))
      ])
      (λ x h. elim (contains_either m h.1.0 ms h.1.1) [
        | inl e ↦ inl (h.0, subst (λ k. Handled n k x.variable) (sym e) h.1.2)
        | inr k ↦ inr (h.0, (h.1.0, k, h.1.2))
      ])
      (put_then xs (with_handled blocks branch n xs m) _ _ _ (handled_put xs n m) (text_put n ms (with_handled blocks branch n xs m)))

  -- a text of one of these blocks handles it
  abbrev pub HandledBy : List (Vec Mention) → List ℕ → Variable → Type 0
  HandledBy texts ns v = (n : ℕ) × Contains ns n × HandledIn n (text_at texts n) v

  pub blocks_put : (texts : List (Vec Mention)) (ns : List ℕ) (xs : List OpenUse) → Put xs (with_blocks blocks branch texts xs ns) (Of (HandledBy texts ns))
  blocks_put texts [] xs = put_nothing xs _ (λ x h. contains_none h.1.0 h.1.1)
  blocks_put texts (n ∷ ns) xs =
      put_as xs (with_blocks blocks branch texts (with_text blocks branch n xs (text_at texts n)) ns) (λ x. Of (HandledIn n (text_at texts n)) x ⊎ Of (HandledBy texts ns) x) _
      (λ x q. elim q [
        | inl h ↦ (h.0, (n, contains_first n ns, h.1))
        | inr h ↦ (h.0, (h.1.0, contains_later n h.1.0 ns h.1.1, h.1.2))
      ])
      (λ x h. elim (contains_either n h.1.0 ns h.1.1) [
        | inl e ↦ inl (h.0, subst (λ k. HandledIn k (text_at texts k) x.variable) (sym e) h.1.2)
        | inr k ↦ inr (h.0, (h.1.0, k, h.1.2))
      ])
      (put_then xs (with_text blocks branch n xs (text_at texts n)) _ _ _ (text_put n (text_at texts n) xs) (blocks_put texts ns (with_text blocks branch n xs (text_at texts n))))
