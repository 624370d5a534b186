-- One process more is put back.
use Rattle.std.proofs.Common.{◌≡◌, ◌⊎◌, inl, inr, ℕ, ◌+◌, ◌-◌, ◌<◌, ◌≤◌, false, if◌then◌else◌, List, [], ◌∷◌, ◌++◌, slice_get, take, Some, None}
use Rattle.std.proofs.Common.{refl, sym, ap, ◌∙◌, arith, subst, eq-eqb}
use Rattle.std.proofs.lemmas.Bool.{cases_eq, cases_lt, ne_eqb}
use Rattle.std.proofs.lemmas.List.{take_more}
use Rattle.std.proofs.lemmas.Option.{slice_get_within, get_or_from_slice_get}
use Rattle.edi_ring.specs.Lists.{home_of}
use Rattle.edi_machine.specs.Activities.{IsOrdered}
use Rattle.edi_kernel.specs.declared.kept.Kept.{Kept}
use Rattle.edi_kernel.specs.declared.state.KernelState.{KernelState}
use Rattle.edi_kernel.specs.declared.table.Process.{Process}
use Rattle.edi_kernel.specs.Table.{first_home, is_waiting, process_at}
use Rattle.edi_kernel.specs.Kernel.{IsKernel}
use Rattle.edi_kernel.specs.Kept.{LinesUp, PutsBack, activity_of, process_of, words_of}
use Rattle.edi_kernel.proofs.Keeping.{kept_same}
use Rattle.edi_kernel.proofs.Lists.{put_here, put_home_here, put_home_there, put_list, put_there}
use Rattle.edi_explore.specs.Back.{IsPart, AreApart, AreBack, AreLinedUp, AreProcesses, IsEmpty, MayLineUp}

module _ (kept : List Kept) (numbers : List ℕ) where
  pub none_back : (k : KernelState) → IsEmpty kept numbers k → AreBack kept numbers 0 k
  none_back k e = record {
    here = λ index part l is. absurd (omega (arith, l));
    there = λ q none. e.homes q;
    process = λ index part l is. absurd (omega (arith, l));
    words = λ apart index part l is. absurd (omega (arith, l));
    ready = e.ready;
    marked = e.marked;
    taken = e.taken;
    long = λ l. absurd (omega (arith, l));
  }

  -- the same index, the same process
  pub one_part : (i j : ℕ) (a b : Kept) → i ≡ j → IsPart kept numbers i a → IsPart kept numbers j b → a ≡ b
  one_part i j a b e p q =
      let same : p.number ≡ q.number = some (sym p.at ∙ ap (slice_get numbers) e ∙ q.at) in
      some (sym p.is ∙ ap (slice_get kept) same ∙ q.is)
    where
      some : {X : Type 0} {x y : X} → Some x ≡ Some y → x ≡ y
      some e = cc

  module _ (n : ℕ) (k : KernelState) (part : Kept) (good : AreProcesses kept numbers) (is : IsPart kept numbers n part) (b : AreBack kept numbers n k) where
    -- who was put back before has another slot
    other : (index : ℕ) (a : Kept) → index < n → IsPart kept numbers index a → a.slot ≡ part.slot → ⊥
    other index a l at e = omega (arith, l, good.distinct index n a part at is e)

    pub is_absent : home_of k.table.lists part.slot ≡ first_home part.slot
    is_absent = b.there part.slot other

  module _ (n : ℕ) (k new : KernelState) (part : Kept) (good : AreProcesses kept numbers) (is : IsPart kept numbers n part) (b : AreBack kept numbers n k)
      (p : PutsBack part k new) where
    before : (index : ℕ) (a : Kept) → index < n → IsPart kept numbers index a → a.slot ≡ part.slot → ⊥
    before index a l at e = other n k part good is b index a l at e

    home_here : home_of new.table.lists part.slot ≡ None
    home_here = p.homes part.slot ∙ ap (λ t. if t then None else home_of k.table.lists part.slot) (eq-eqb part.slot part.slot refl)

    home_there : (q : ℕ) → (q ≡ part.slot → ⊥) → home_of new.table.lists q ≡ home_of k.table.lists q
    home_there q ne = p.homes q ∙ ap (λ t. if t then None else home_of k.table.lists q) (ne_eqb q part.slot ne)

    -- an index below n + 1 is one below n, or n
    cases : (index : ℕ) → index < n + 1 → (index < n) ⊎ (index ≡ n)
    cases index l = elim (cases_lt index n) [
      | inl h ↦ inl h
      | inr h ↦ inr (omega (arith, l, h))
    ]

    same_words : AreApart kept numbers → (index : ℕ) (a : Kept) → index < n → IsPart kept numbers index a →
        words_of new.store (activity_of a) ≡ words_of k.store (activity_of a)
    same_words apart index a l at =
        let o : IsOrdered (activity_of a) = (good.whole index a at).ordered in
        kept_same (a.top - a.first) k.store new.store a.first a.base a.top o.first o.base
        (omega (arith, o.top, o.end, o.last, p.was_long)) (omega (arith, o.top, o.end, o.last, p.long)) (λ x from to.
        p.outside x (outside x from to (apart index n a part at is (λ e. omega (arith, l, e)))))
      where
        outside : (x : ℕ) → a.first ≤ x → x < a.top → (a.top ≤ part.first) ⊎ (part.top ≤ a.first) → (x < part.first) ⊎ (part.top ≤ x)
        outside x from to (inl h) = inl (omega (arith, to, h))
        outside x from to (inr h) = inr (omega (arith, from, h))

    pub one_back : AreBack kept numbers (n + 1) new
    one_back = record {
      here = λ index a l at. here index a at (cases index l);
      there = λ q none.
          home_there q (λ e. none n part (omega arith) is (sym e))
          ∙ b.there q (λ index a l at e. none index a (omega (arith, l)) at e);
      process = λ index a l at. process index a at (cases index l);
      words = λ apart index a l at. words apart index a at (cases index l);
      ready = p.ready ∙ b.ready;
      marked = p.marked ∙ b.marked;
      taken = ap (λ (x : KernelState). x.taken) p.rest ∙ b.taken;
      long = λ l. p.long;
    }
      where
        here : (index : ℕ) (a : Kept) → IsPart kept numbers index a → (index < n) ⊎ (index ≡ n) → home_of new.table.lists a.slot ≡ None
        here index a at (inl l) = home_there a.slot (before index a l at) ∙ b.here index a l at
        here index a at (inr e) = ap (λ (x : Kept). home_of new.table.lists x.slot) (one_part index n a part e at is) ∙ home_here

        process : (index : ℕ) (a : Kept) → IsPart kept numbers index a → (index < n) ⊎ (index ≡ n) → process_at new.table a.slot ≡ process_of a
        process index a at (inl l) = p.others a.slot (before index a l at) ∙ b.process index a l at
        process index a at (inr e) = subst (λ (x : Kept). process_at new.table x.slot ≡ process_of x) (sym (one_part index n a part e at is)) p.has.process

        words : AreApart kept numbers → (index : ℕ) (a : Kept) → IsPart kept numbers index a → (index < n) ⊎ (index ≡ n) →
            words_of new.store (activity_of a) ≡ a.words.items
        words apart index a at (inl l) = same_words apart index a l at ∙ b.words apart index a l at
        words apart index a at (inr e) =
            subst (λ (x : Kept). words_of new.store (activity_of x) ≡ x.words.items) (sym (one_part index n a part e at is)) p.has.words

-- ---- one more lines up

pub none_lined : (slots : List ℕ) (k : KernelState) → IsKernel k → MayLineUp slots k → AreLinedUp slots 0 k k
none_lined slots k kernel m = record {
  kernel = kernel;
  ready = m.ready;
  process = λ q. refl;
  here = λ index slot l at. absurd (omega (arith, l));
  there = λ q none. refl;
  marked = refl;
  rest = refl;
}

module _ (slots : List ℕ) (n slot : ℕ) (old k : KernelState) (m : MayLineUp slots old) (at : slice_get slots n ≡ Some slot) (l : AreLinedUp slots n old k) where
  not_before : (index : ℕ) → index < n → slice_get slots index ≡ Some slot → ⊥
  not_before index less is = omega (arith, less, m.distinct index n slot is at)

  pub still_homeless : home_of k.table.lists slot ≡ None
  still_homeless = l.there slot not_before ∙ m.homeless n slot at

  pub still_going : is_waiting (process_at k.table slot).standing ≡ false
  still_going = ap (λ (x : Process). is_waiting x.standing) (l.process slot) ∙ m.going n slot at

module _ (slots : List ℕ) (n slot : ℕ) (old k new : KernelState) (m : MayLineUp slots old) (at : slice_get slots n ≡ Some slot) (l : AreLinedUp slots n old k)
    (p : LinesUp slot k new) (kernel : IsKernel new) where
  process_same : (q : ℕ) → process_at new.table q ≡ process_at k.table q
  process_same q = elim (cases_eq q slot) [
    | inl e ↦
        ap (process_at new.table) e
        ∙ put_here k.table new.table 0 slot (process_at k.table slot) p.puts (omega (arith, l.kernel.table.wide, m.inside n slot at))
        ∙ sym (ap (process_at k.table) e)
    | inr ne ↦ put_there k.table new.table 0 slot (process_at k.table slot) p.puts q ne
  ]

  pub one_lined : AreLinedUp slots (n + 1) old new
  one_lined = record {
    kernel = kernel;
    ready =
        put_list k.table new.table 0 slot (process_at k.table slot) p.puts l.kernel.table.sound (omega arith)
        ∙ ap (λ (xs : List ℕ). xs ++ slot ∷ []) l.ready
        ∙ sym (take_more slots n slot (slice_get_within slots n slot at) ∙ ap (λ x. take n slots ++ x ∷ []) (get_or_from_slice_get slots n slot slot at));
    process = λ q. process_same q ∙ l.process q;
    here = λ index s less is. here index s is (cases_lt index n) less;
    there = λ q none.
        put_home_there k.table new.table 0 slot (process_at k.table slot) p.puts q (λ e. none n (omega arith) (at ∙ ap Some (sym e)))
        ∙ l.there q (λ index less is. none index (omega (arith, less)) is);
    marked = p.puts.marked ∙ l.marked;
    rest = p.rest ∙ ap (λ (x : KernelState). record x { table = new.table }) l.rest;
  }
    where
      here : (index s : ℕ) → slice_get slots index ≡ Some s → (index < n) ⊎ (n ≤ index) → index < n + 1 → home_of new.table.lists s ≡ Some 0
      here index s is (inl less) more = elim (cases_eq s slot) [
        | inl e ↦ ap (home_of new.table.lists) e ∙ put_home_here k.table new.table 0 slot (process_at k.table slot) p.puts
        | inr ne ↦ put_home_there k.table new.table 0 slot (process_at k.table slot) p.puts s ne ∙ l.here index s less is
      ]
      here index s is (inr past) more =
          let same : index ≡ n = omega (arith, past, more) in
          let it : s ≡ slot = some (sym is ∙ ap (slice_get slots) same ∙ at) in
          ap (home_of new.table.lists) it ∙ put_home_here k.table new.table 0 slot (process_at k.table slot) p.puts
        where
          some : {x y : ℕ} → Some x ≡ Some y → x ≡ y
          some e = cc
