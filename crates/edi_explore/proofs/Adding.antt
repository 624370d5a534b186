-- A state that is added, and those that were there before.
use Rattle.std.proofs.Common.{◌≡◌, ◌⊎◌, inl, inr, ℕ, zero, suc, ◌+◌, ◌-◌, ◌<◌, ◌≤◌, Bool, true, List, [], ◌∷◌, ◌++◌, length, Contains, take, drop, slice_get, slice_index_or}
use Rattle.std.proofs.Common.{Option, Some, None, refl, sym, ap, ◌∙◌, arith, subst, length-append}
use Rattle.std.proofs.lemmas.Bool.{cases_lt, eqb-true}
use Rattle.std.proofs.lemmas.List.{get_or_append_left}
use Rattle.std.proofs.lemmas.Option.{slice_get_within}
use Rattle.edi_ring.specs.Lists.{home_of}
use Rattle.edi_ring.specs.Links.{IsAmong, NoneTwice}
use Rattle.edi_ring.proofs.Calls.{among_at}
use Rattle.edi_ring.proofs.Homes.{length-le-nodes}
use Rattle.edi_kernel.specs.declared.kept.Kept.{Kept}
use Rattle.edi_kernel.specs.declared.state.KernelState.{KernelState}
use Rattle.edi_kernel.specs.Table.{is_live, ready_slots}
use Rattle.edi_kernel.specs.Kernel.{IsKernel}
use Rattle.edi_kernel.specs.Kept.{IsKeptOf, is_ready, is_ready_home}
use Rattle.edi_kernel.proofs.Lists.{home_among, live_of_home, ready_live}
use Rattle.edi_kernel.proofs.Sharing.{among_home, none_twice}
use Rattle.edi_explore.specs.declared.offline.Offline.{Offline}
use Rattle.edi_explore.specs.declared.states.Key.{Key}
use Rattle.edi_explore.specs.declared.states.Link.{Link}
use Rattle.edi_explore.specs.declared.states.Origin.{Origin}
use Rattle.edi_explore.specs.declared.states.States.{States}
use Rattle.edi_explore.specs.Back.{AreProcesses, IsPart}
use Rattle.edi_explore.specs.Links.{AddsLink, targets_of}
use Rattle.edi_explore.specs.States.{AddsParts, AreStates, Follows, IsAdded, IsAddedFrom, IsKeyOf, IsSameKey, IsState, MayComeFrom, end_of, slots_of, start_of}
use Rattle.edi_explore.proofs.Growing.{follows_same, stays_at}
use Rattle.edi_explore.proofs.Keying.{last_at, lookup, some_is, split_at}
use Rattle.edi_explore.proofs.Links.{target_last}

follows_long : {X : Type 0} (xs ys : List X) → Follows xs ys → length xs ≤ length ys
follows_long xs ys f = omega (arith, ap length f.1, length-append xs f.0)

-- ---- parts while the list of those that are kept grows

module _ (kept more : List Kept) (f : Follows kept more) (numbers : List ℕ) where
  forth : (i : ℕ) (a : Kept) → IsPart kept numbers i a → IsPart more numbers i a
  forth i a p = record { number = p.number; at = p.at; is = stays_at kept more p.number a f p.is }

  back : ((i n : ℕ) → slice_get numbers i ≡ Some n → n < length kept) → (i : ℕ) (a : Kept) → IsPart more numbers i a → IsPart kept numbers i a
  back there i a p =
      let x : (x : Kept) × (slice_get kept p.number ≡ Some x) = lookup kept p.number (there i p.number p.at) in
      record { number = p.number; at = p.at; is = x.1 ∙ ap Some (some_is (sym (stays_at kept more p.number x.0 f x.1) ∙ p.is)) }

  grown : AreProcesses kept numbers → AreProcesses more numbers
  grown g = record {
    there = λ i n e. omega (arith, g.there i n e, follows_long kept more f);
    whole = λ i a p. g.whole i a (back g.there i a p);
    distinct = λ i j a b p q e. g.distinct i j a b (back g.there i a p) (back g.there j b q) e;
  }

grown_state : (s t : States) (key : Key) (slots : List ℕ) → Follows s.processes.keys t.processes.keys → Follows s.places.keys t.places.keys → IsState s key slots →
    IsState t key slots
grown_state s t key slots f g is = record {
  place = omega (arith, is.place, follows_long s.places.keys t.places.keys g);
  processes = grown s.processes.keys t.processes.keys f key.parts.items is.processes;
  first = let r = is.first in (r.0, r.1, forth s.processes.keys t.processes.keys f key.parts.items r.0 r.1 r.2, r.3);
  lined = λ i slot at. let r = is.lined i slot at in (r.0, r.1, forth s.processes.keys t.processes.keys f key.parts.items r.0 r.1 r.2, r.3, r.4);
  distinct = is.distinct;
  ready = λ i a p e. is.ready i a (back s.processes.keys t.processes.keys f key.parts.items is.processes.there i a p) e;
  few = is.few;
}

-- only parts were added
parts_added : (old mid : States) → AreStates old → AddsParts old mid → AreStates mid
parts_added old mid a d = subst AreStates (sym d.rest) (record {
  ends = a.ends;
  origins = a.origins;
  from = a.from;
  closes = a.closes;
  within = a.within;
  states = λ v key e. grown_state old (record old { processes = mid.processes; places = mid.places }) key (slots_of old v) d.processes d.places (a.states v key e);
})

same_slots : (old mid : States) → AddsParts old mid → (v : ℕ) → slots_of mid v ≡ slots_of old v
same_slots old mid d v = ap (λ (x : States). slots_of x v) d.rest

same_key : (asks : Bool) (s : States) (key other : Key) (k : KernelState) (o : Offline) → IsKeyOf asks s key k o → IsSameKey key other → IsKeyOf asks s other k o
same_key asks s key other k o h e = record {
  place = h.place;
  at = ap (slice_get s.places.keys) e.0 ∙ h.at;
  system = h.system;
  processes = subst (AreProcesses s.processes.keys) (sym e.1) h.processes;
  each = subst (λ (xs : List ℕ). (i : ℕ) (a : Kept) → IsPart s.processes.keys xs i a → IsKeptOf k a) (sym e.1) h.each;
  all = subst (λ (xs : List ℕ). (slot : ℕ) → is_live k.table slot ≡ true → (i : ℕ) × (a : Kept) × IsPart s.processes.keys xs i a × (a.slot ≡ slot)) (sym e.1) h.all;
}

-- only the set of keys was touched, and has the same keys
keys_same : (mid new : States) → AreStates mid → new ≡ record mid { keys = new.keys } → new.keys.keys ≡ mid.keys.keys → AreStates new
keys_same mid new m is same = subst AreStates (sym is) (record {
  ends = m.ends ∙ sym (ap length same);
  origins = m.origins ∙ sym (ap length same);
  from = m.from;
  closes = ap (λ n. start_of mid n) (ap length same) ∙ m.closes;
  within = λ v l. m.within v (subst (λ n. v < n) (ap length same) l);
  states = λ v key e.
      grown_state mid (record mid { keys = new.keys }) key (slots_of mid v) (follows_same mid.processes.keys) (follows_same mid.places.keys)
      (m.states v key (ap (λ ks. slice_get ks v) (sym same) ∙ e));
})

-- the state was kept already
pub added_again : (asks : Bool) (old mid new : States) (key other : Key) (n : ℕ) (k : KernelState) (o : Offline) → AreStates old → AddsParts old mid → IsKeyOf asks mid key k o →
    new ≡ record mid { keys = new.keys } → new.keys.keys ≡ mid.keys.keys → slice_get new.keys.keys n ≡ Some other → IsSameKey key other →
    (h : IsAdded asks old new k o) × (h.number ≡ n)
added_again asks old mid new key other n k o a d h is same at e =
    let kept : old.keys.keys ≡ mid.keys.keys = sym (ap (λ (x : States). x.keys.keys) d.rest) in
    let p : new.processes.keys ≡ mid.processes.keys = ap (λ (x : States). x.processes.keys) is in
    let q : new.places.keys ≡ mid.places.keys = ap (λ (x : States). x.places.keys) is in
    let added : IsAdded asks old new k o = record {
      number = n;
      key = other;
      is = at;
      of = subst (λ (x : States). IsKeyOf asks x other k o) (sym is) (same_key asks (record mid { keys = new.keys }) key other k o
          (record { place = h.place; at = h.at; system = h.system; processes = h.processes; each = h.each; all = h.all }) e);
      states = keys_same mid new (parts_added old mid a d) is same;
      processes = subst (Follows old.processes.keys) (sym p) d.processes;
      places = subst (Follows old.places.keys) (sym q) d.places;
      keys = subst (Follows old.keys.keys) (sym kept ∙ kept ∙ sym same) (subst (Follows old.keys.keys) kept (follows_same old.keys.keys));
      slots = λ v l. ap (λ (x : States). slots_of x v) is ∙ same_slots old mid d v;
      fresh = λ v l. inl (subst (λ (ks : List Key). v < length ks) (same ∙ sym kept) l);
    } in
    (added, refl)

-- ---- lists

last_of : (xs : List ℕ) (y : ℕ) → slice_index_or (xs ++ y ∷ []) (length xs) 0 ≡ y
last_of [] y = refl
last_of (x ∷ xs) y = last_of xs y

take_front : (n : ℕ) (xs ys : List ℕ) → n ≤ length xs → take n (xs ++ ys) ≡ take n xs
take_front zero xs ys l = refl
take_front (suc n) [] ys l = absurd (omega (arith, l))
take_front (suc n) (x ∷ xs) ys l = ap (λ zs. x ∷ zs) (take_front n xs ys (omega (arith, l)))

cut_front : (s n : ℕ) (xs ys : List ℕ) → s + n ≤ length xs → take n (drop s (xs ++ ys)) ≡ take n (drop s xs)
cut_front zero n xs ys l = take_front n xs ys (omega (arith, l))
cut_front (suc s) n [] ys l = absurd (omega (arith, l))
cut_front (suc s) n (x ∷ xs) ys l = cut_front s n xs ys (omega (arith, l))

drop_front : (xs ys : List ℕ) → drop (length xs) (xs ++ ys) ≡ ys
drop_front [] ys = refl
drop_front (x ∷ xs) ys = drop_front xs ys

take_whole : (xs : List ℕ) → take (length xs) xs ≡ xs
take_whole [] = refl
take_whole (x ∷ xs) = ap (λ ys. x ∷ ys) (take_whole xs)

among_at_index : (xs : List ℕ) (x : ℕ) → IsAmong x xs → (i : ℕ) × (slice_get xs i ≡ Some x)
among_at_index [] x h = absurd h
among_at_index (y ∷ xs) x (inl e) = (0, ap Some (sym e))
among_at_index (y ∷ xs) x (inr h) = let r = among_at_index xs x h in (suc r.0, r.1)

once_at : (xs : List ℕ) → NoneTwice xs → (i j x : ℕ) → slice_get xs i ≡ Some x → slice_get xs j ≡ Some x → i ≡ j
once_at [] n i j x p q = absurd (cc)
once_at (y ∷ xs) n zero zero x p q = refl
once_at (y ∷ xs) n zero (suc j) x p q = absurd (n.0 (subst (λ z. IsAmong z xs) (sym (some_is p)) (among_at xs j x q)))
once_at (y ∷ xs) n (suc i) zero x p q = absurd (n.0 (subst (λ z. IsAmong z xs) (sym (some_is q)) (among_at xs i x p)))
once_at (y ∷ xs) n (suc i) (suc j) x p q = ap suc (once_at xs n.1 i j x p q)

ready_home : (o : Option ℕ) → is_ready_home o ≡ true → o ≡ Some 0
ready_home None e = absurd (cc)
ready_home (Some list) e = ap Some (eqb-true list 0 e)

-- ---- a new state

new_state : (asks : Bool) (s : States) (key : Key) (k : KernelState) (o : Offline) → IsKernel k → IsKeyOf asks s key k o → IsState s key (ready_slots k.table)
new_state asks s key k o kernel h = record {
  place = slice_get_within s.places.keys key.place h.place h.at;
  processes = h.processes;
  first = h.all 0 (live_of_home k.table 0 (omega arith) kernel.table.root);
  lined = λ i slot at.
      let among : IsAmong slot (ready_slots k.table) = among_at (ready_slots k.table) i slot at in
      let r = h.all slot (ready_live k.table slot kernel.table.sound among) in
      (r.0, r.1, r.2, r.3, (h.each r.0 r.1 r.2).ready ∙ ap (is_ready k.table) r.3 ∙ ap is_ready_home (home_among k.table 0 slot kernel.table.sound (omega arith) among));
  distinct = λ i j slot p q. once_at (ready_slots k.table) (none_twice (ready_slots k.table) (kernel.table.sound.once 0)) i j slot p q;
  ready = λ i a p e.
      among_at_index (ready_slots k.table) a.slot
      (among_home k.table.lists a.slot 0 kernel.table.sound.as_many (ready_home (home_of k.table.lists a.slot) (sym (h.each i a p).ready ∙ e)));
  few = length-le-nodes 32 2 k.table.lists 0 kernel.table.sound;
}

module _ (asks : Bool) (mid new : States) (key : Key) (k : KernelState) (o : Offline) (m : AreStates mid) (kernel : IsKernel k) (h : IsKeyOf asks mid key k o)
    (p : new.processes ≡ mid.processes) (q : new.places ≡ mid.places) (keys : new.keys.keys ≡ mid.keys.keys ++ key ∷ [])
    (orders : new.orders.items ≡ mid.orders.items ++ ready_slots k.table) (origin : Origin) (may : MayComeFrom mid origin)
    (origins : new.origins.items ≡ mid.origins.items ++ origin ∷ []) (ends : new.ends.items ≡ mid.ends.items ++ length new.orders.items ∷ []) where
  abbrev count : ℕ
  count = length mid.keys.keys

  pub counted : length new.keys.keys ≡ suc count
  counted = omega (arith, ap length keys, length-append mid.keys.keys (key ∷ []))

  longer : length new.orders.items ≡ length mid.orders.items + length (ready_slots k.table)
  longer = ap length orders ∙ length-append mid.orders.items (ready_slots k.table)

  end_old : (v : ℕ) → v < count → end_of new v ≡ end_of mid v
  end_old v l = ap (λ xs. slice_index_or xs v 0) ends ∙ get_or_append_left mid.ends.items (length new.orders.items ∷ []) 0 v (omega (arith, l, m.ends))

  end_last : end_of new count ≡ length new.orders.items
  end_last = ap (λ xs. slice_index_or xs count 0) ends ∙ ap (λ n. slice_index_or (mid.ends.items ++ length new.orders.items ∷ []) n 0) (sym m.ends)
      ∙ last_of mid.ends.items (length new.orders.items)

  start_old : (v : ℕ) → v ≤ count → start_of new v ≡ start_of mid v
  start_old zero l = refl
  start_old (suc v) l = end_old v (omega (arith, l))

  start_last : start_of new count ≡ length mid.orders.items
  start_last = start_old count (omega arith) ∙ m.closes

  pub slots_old : (v : ℕ) → v < count → slots_of new v ≡ slots_of mid v
  slots_old v l =
      let w = m.within v l in
      (λ i. take (end_old v l i - start_old v (omega (arith, l)) i) (drop (start_old v (omega (arith, l)) i) (orders i)))
      ∙ cut_front (start_of mid v) (end_of mid v - start_of mid v) mid.orders.items (ready_slots k.table) (omega (arith, w.0, w.1))

  pub slots_last : slots_of new count ≡ ready_slots k.table
  slots_last =
      let long : length new.orders.items - length mid.orders.items ≡ length (ready_slots k.table) = omega (arith, longer) in
      (λ i. take (end_last i - start_last i) (drop (start_last i) (orders i)))
      ∙ ap (λ n. take n (drop (length mid.orders.items) (mid.orders.items ++ ready_slots k.table))) long
      ∙ ap (take (length (ready_slots k.table))) (drop_front mid.orders.items (ready_slots k.table)) ∙ take_whole (ready_slots k.table)

  came_from : (v : ℕ) (x : Origin) → (slice_get mid.origins.items (suc v) ≡ Some x) ⊎ ((suc v ≡ length mid.origins.items) × (x ≡ origin)) →
      (x.state ≤ v) × (x.index < length (slots_of new x.state))
  came_from v x (inl at) =
      let w = m.from v x at in
      let l : x.state < count = omega (arith, w.0, m.origins, slice_get_within mid.origins.items (suc v) x at) in
      (w.0, subst (λ xs. x.index < length xs) (sym (slots_old x.state l)) w.1)
  came_from v x (inr e) =
      subst (λ (y : Origin). (y.state ≤ v) × (y.index < length (slots_of new y.state))) (sym e.1)
      (let w = may (omega (arith, e.0, m.origins)) in
      (omega (arith, w.0, e.0, m.origins), subst (λ xs. origin.index < length xs) (sym (slots_old origin.state w.0)) w.1))

  of_new : IsKeyOf asks new key k o
  of_new = record {
    place = h.place;
    at = ap (λ x. slice_get x.keys key.place) q ∙ h.at;
    system = h.system;
    processes = subst (λ x. AreProcesses x.keys key.parts.items) (sym p) h.processes;
    each = subst (λ x. (i : ℕ) (a : Kept) → IsPart x.keys key.parts.items i a → IsKeptOf k a) (sym p) h.each;
    all = subst (λ x. (slot : ℕ) → is_live k.table slot ≡ true → (i : ℕ) × (a : Kept) × IsPart x.keys key.parts.items i a × (a.slot ≡ slot)) (sym p) h.all;
  }

  pub are_states : AreStates new
  are_states = record {
    ends = omega (arith, ap length ends, length-append mid.ends.items (length new.orders.items ∷ []), m.ends, counted);
    origins = omega (arith, ap length origins, length-append mid.origins.items (origin ∷ []), m.origins, counted);
    from = λ v x e. came_from v x (split_at mid.origins.items origin x (suc v) (ap (λ xs. slice_get xs (suc v)) (sym origins) ∙ e));
    closes = ap (λ n. start_of new n) counted ∙ end_last;
    within = λ v l. elim (cases_lt v count) [
      | inl less ↦
          let w = m.within v less in
          (omega (arith, w.0, end_old v less, start_old v (omega (arith, less))), omega (arith, w.1, end_old v less, longer))
      | inr past ↦
          let e : v ≡ count = omega (arith, l, past, counted) in
          subst (λ n. (start_of new n ≤ end_of new n) × (end_of new n ≤ length new.orders.items)) (sym e)
          (omega (arith, start_last, end_last, longer), omega (arith, end_last))
    ];
    states = λ v other e. states v other (split_at mid.keys.keys key other v (ap (λ ks. slice_get ks v) (sym keys) ∙ e));
  }
    where
      states : (v : ℕ) (other : Key) → (slice_get mid.keys.keys v ≡ Some other) ⊎ ((v ≡ length mid.keys.keys) × (other ≡ key)) → IsState new other (slots_of new v)
      states v other (inl at) =
          subst (IsState new other) (sym (slots_old v (slice_get_within mid.keys.keys v other at)))
          (grown_state mid new other (slots_of mid v) (subst (λ x. Follows mid.processes.keys x.keys) (sym p) (follows_same mid.processes.keys))
          (subst (λ x. Follows mid.places.keys x.keys) (sym q) (follows_same mid.places.keys)) (m.states v other at))
      states v other (inr e) =
          subst (λ (x : Key). IsState new x (slots_of new v)) (sym e.1)
          (subst (λ n. IsState new key (slots_of new n)) (sym e.0) (subst (IsState new key) (sym slots_last) (new_state asks new key k o kernel of_new)))

-- the state is new
pub added_new : (asks : Bool) (old mid new : States) (key : Key) (k : KernelState) (o : Offline) → AreStates old → AddsParts old mid → IsKernel k → IsKeyOf asks mid key k o →
    new.processes ≡ mid.processes → new.places ≡ mid.places → new.keys.keys ≡ mid.keys.keys ++ key ∷ [] →
    new.orders.items ≡ mid.orders.items ++ ready_slots k.table → (origin : Origin) → MayComeFrom old origin →
    new.origins.items ≡ mid.origins.items ++ origin ∷ [] → new.ends.items ≡ mid.ends.items ++ length new.orders.items ∷ [] →
    (h : IsAdded asks old new k o) × (h.number ≡ length mid.keys.keys)
added_new asks old mid new key k o a d kernel h p q keys orders origin may origins ends =
    let m : AreStates mid = parts_added old mid a d in
    let kept : mid.keys.keys ≡ old.keys.keys = ap (λ (x : States). x.keys.keys) d.rest in
    let came : MayComeFrom mid origin = subst (λ (x : States). MayComeFrom x origin) (sym d.rest) may in
    let added : IsAdded asks old new k o = record {
      number = length mid.keys.keys;
      key = key;
      is = ap (λ ks. slice_get ks (length mid.keys.keys)) keys ∙ last_at mid.keys.keys key;
      of = of_new asks mid new key k o m kernel h p q keys orders origin came origins ends;
      states = are_states asks mid new key k o m kernel h p q keys orders origin came origins ends;
      processes = subst (λ x. Follows old.processes.keys x.keys) (sym p) d.processes;
      places = subst (λ x. Follows old.places.keys x.keys) (sym q) d.places;
      keys = (key ∷ [], keys ∙ ap (λ ks. ks ++ key ∷ []) kept);
      slots = λ v l.
          slots_old asks mid new key k o m kernel h p q keys orders origin came origins ends v (subst (λ ks. v < length ks) (sym kept) l) ∙ same_slots old mid d v;
      fresh = λ v l. elim (cases_lt v (length mid.keys.keys)) [
        | inl less ↦ inl (subst (λ ks. v < length ks) kept less)
        | inr past ↦
            let e : v ≡ length mid.keys.keys = omega (arith, l, past, counted asks mid new key k o m kernel h p q keys orders origin came origins ends) in
            inr (e, ap (slots_of new) e ∙ slots_last asks mid new key k o m kernel h p q keys orders origin came origins ends)
      ];
    } in
    (added, refl)

-- ---- a link to it

linked_states : (s new : States) → AreStates s → new ≡ record s { links = new.links } → AreStates new
linked_states s new a is = subst AreStates (sym is) (record {
  ends = a.ends;
  origins = a.origins;
  from = a.from;
  closes = a.closes;
  within = a.within;
  states = λ v key e.
      grown_state s (record s { links = new.links }) key (slots_of s v) (follows_same s.processes.keys) (follows_same s.places.keys) (a.states v key e);
})

pub added_from : (from number : ℕ) (asks : Bool) (old put new : States) (k : KernelState) (o : Offline) → (h : IsAdded asks old put k o) × (h.number ≡ number) →
    put.links ≡ old.links → new ≡ record put { links = new.links } →
    AddsLink from number put.links.items new.links.items → IsAddedFrom from asks old new k o
added_from from number asks old put new k o (h, is) same rest (l, begins, ends, links) =
    let keys : new.keys.keys ≡ put.keys.keys = ap (λ (x : States). x.keys.keys) rest in
    let added : IsAdded asks old new k o = record {
      number = h.number;
      key = h.key;
      is = ap (λ ks. slice_get ks h.number) keys ∙ h.is;
      of = subst (λ (x : States). IsKeyOf asks x h.key k o) (sym rest)
          (record { place = h.of.place; at = h.of.at; system = h.of.system; processes = h.of.processes; each = h.of.each; all = h.of.all });
      states = linked_states put new h.states rest;
      processes = subst (Follows old.processes.keys) (sym (ap (λ (x : States). x.processes.keys) rest)) h.processes;
      places = subst (Follows old.places.keys) (sym (ap (λ (x : States). x.places.keys) rest)) h.places;
      keys = subst (Follows old.keys.keys) (sym keys) h.keys;
      slots = λ v l. ap (λ (x : States). slots_of x v) rest ∙ h.slots v l;
      fresh = λ v l. elim (h.fresh v (subst (λ (ks : List Key). v < length ks) keys l)) [
        | inl less ↦ inl less
        | inr e ↦ inr (e.0, ap (λ (x : States). slots_of x v) rest ∙ e.1)
      ];
    } in (
      added,
      record {
        links = (l ∷ [], links ∙ ap (λ x. x.items ++ l ∷ []) same);
        there = subst (λ n. Contains (targets_of new.links.items from) n) (ends ∙ sym is)
            (subst (λ v. Contains (targets_of new.links.items v) l.to) begins
            (subst (λ (ls : List Link). Contains (targets_of ls l.from) l.to) (sym links) (target_last put.links.items l)));
      },
    )
