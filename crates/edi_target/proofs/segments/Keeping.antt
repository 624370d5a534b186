-- An instruction keeps its activity in order and in its segment.
use Rattle.std.proofs.Common.{◌≡◌, ℕ, zero, suc, ◌+◌, ◌-◌, ◌^◌, ◌≤◌, Bool, true, false, ◌&&◌, ◌||◌, nat_lt, if◌then◌else◌, List, [], ◌∷◌, Option, Some, None}
use Rattle.std.proofs.Common.{length, refl, arith}
use Rattle.std.specs.Prelude.{nat_le, ⊤}
use Rattle.std.specs.List.{list_any, list_all}
use Rattle.std.proofs.lemmas.Bool.{cond_both, leb-true, ltb-false, and_parts}
use Rattle.edi_calls.specs.Forks.{most_processes}
use Rattle.edi_calls.specs.declared.kinds.Cause.{Cause}
use Rattle.edi_calls.specs.declared.kinds.Cause.TheVariants as cause
use Rattle.edi_calls.specs.Calls.{answer_words}
use Rattle.edi_target.specs.Op as op
use Rattle.edi_target.specs.Op.{Instruction, Branch, is_allowed, is_count, has_frame}
use Rattle.edi_target.specs.Effect.{Local, entering, leaving, looping, arriving, again, forking, exiting, finishing, Effect, goes, released, asks, due}
use Rattle.edi_target.specs.Effect.{fails, bad, in_range, push, pop, pop_word, look, within, to, enter}
use Rattle.edi_target.specs.Perform.{short_cut, with_answer_address, system_call, leave, perform, exceeds, share_of}
use Rattle.edi_target.specs.segments.Nested.{InOrder}

-- each branch has room for a frame, and its share has room for what it needs
abbrev pub HaveRoom : ℕ → List Branch → Type 0
HaveRoom share [] = ⊤
HaveRoom share (branch ∷ branches) = (5 ≤ branch.need) × (branch.need ≤ share) × HaveRoom share branches

module _ (first last : ℕ) where
  -- a frame in order in the segment
  pub record Kept (from base top end upto : ℕ) : Type 0 where
    pub from_is : from ≡ first
    pub upto_is : upto ≡ last
    pub order : InOrder from base top end upto

  abbrev pub Is : Local → Type 0
  Is l = Kept l.first l.base l.top l.end l.last

  abbrev pub Keeping : Effect → Type 0
  Keeping (goes l) = Is l
  Keeping (released l) = Is l
  Keeping (asks number arguments address line l) = Is l
  Keeping (due (forking branches) l) = Is l × HaveRoom (share_of l (length branches)) branches
  Keeping (due turn l) = Is l
  Keeping _ = ⊤

  -- the fact as a record, so that its effect is found where it is used
  pub record Keeps (effect : Effect) : Type 0 where
    pub keeping : Keeping effect

  either : {effect other : Effect} (b : Bool) → Keeps effect → Keeps other → Keeps (if b then effect else other)
  either true h k = h
  either false h k = k

  test : {effect : Effect} (b : Bool) → (b ≡ true → Keeps effect) → Keeps (if b then effect else bad)
  test true h = h refl
  test false h = record { keeping = tt }

  ranged : {go : ℕ → Effect} (line : ℕ) (x : Option ℕ) → ((z : ℕ) → Keeps (go z)) → Keeps (in_range line x go)
  ranged line None h = record { keeping = tt }
  ranged line (Some z) h = h z

  -- the program fails where less is there than is needed
  roomy : {effect failure : Effect} (there need : ℕ) → Keeps failure → (need ≤ there → Keeps effect) → Keeps (if nat_lt there need then failure else effect)
  roomy {effect} {failure} there need k h = cond_both (nat_lt there need) failure effect Keeps (λ e. k) (λ e. h (ltb-false there need e))

  -- ---- the ends of an instruction

  goes_keeps : {l : Local} → Is l → Keeps (goes l)
  goes_keeps h = record { keeping = h }

  released_keeps : {l : Local} → Is l → Keeps (released l)
  released_keeps h = record { keeping = h }

  asks_keeps : {number : ℕ} {arguments : List ℕ} {address : Option ℕ} {line : ℕ} {l : Local} → Is l → Keeps (asks number arguments address line l)
  asks_keeps h = record { keeping = h }

  entering_keeps : {l : Local} → Is l → Keeps (due entering l)
  entering_keeps h = record { keeping = h }

  leaving_keeps : {l : Local} → Is l → Keeps (due leaving l)
  leaving_keeps h = record { keeping = h }

  looping_keeps : {l : Local} → Is l → Keeps (due looping l)
  looping_keeps h = record { keeping = h }

  arriving_keeps : {l : Local} → Is l → Keeps (due arriving l)
  arriving_keeps h = record { keeping = h }

  again_keeps : {marks : Bool} {l : Local} → Is l → Keeps (due (again marks) l)
  again_keeps h = record { keeping = h }

  exiting_keeps : {l : Local} → Is l → Keeps (due exiting l)
  exiting_keeps h = record { keeping = h }

  finishing_keeps : {l : Local} → Is l → Keeps (due finishing l)
  finishing_keeps h = record { keeping = h }

  fails_keeps : {c : Cause} {line : ℕ} → Keeps (fails c line)
  fails_keeps = record { keeping = tt }

  bad_keeps : Keeps bad
  bad_keeps = record { keeping = tt }

  -- ---- the frame

  topped : {from base top end upto : ℕ} (high : ℕ) → Kept from base top end upto → base + 5 ≤ high → high ≤ end → Kept from base high end upto
  topped high h low up = record {
    from_is = h.from_is;
    upto_is = h.upto_is;
    order = record { begins = h.order.begins; links = low; uses = up; ends = h.order.ends; fits = h.order.fits };
  }

  pushed : {go : Local → Effect} (words : List ℕ) (l : Local) → Is l → ((m : Local) → Is m → Keeps (go m)) → Keeps (push words l go)
  pushed words l h go =
      test (nat_le (l.top + length words) l.end) (λ e. go _ (topped (l.top + length words) h (omega (arith, h.order.links)) (leb-true _ _ e)))

  popped : {go : List ℕ → Local → Effect} (n : ℕ) (l : Local) → Is l → ((words : List ℕ) (m : Local) → Is m → Keeps (go words m)) → Keeps (pop n l go)
  popped n l h go =
      test (nat_le (l.base + 5 + n) l.top) (λ e. go _ _ (topped (l.top - n) h (omega (arith, leb-true (l.base + 5 + n) l.top e)) (omega (arith, h.order.uses))))

  popped_one : {go : ℕ → Local → Effect} (l : Local) → Is l → ((x : ℕ) (m : Local) → Is m → Keeps (go x m)) → Keeps (pop_word l go)
  popped_one l h go =
      test (nat_le (l.base + 6) l.top) (λ e. go _ _ (topped (l.top - 1) h (omega (arith, leb-true (l.base + 6) l.top e)) (omega (arith, h.order.uses))))

  looked : {go : ℕ → Effect} (l : Local) → (l.base + 6 ≤ l.top → (x : ℕ) → Keeps (go x)) → Keeps (look l go)
  looked l go = test (nat_le (l.base + 6) l.top) (λ e. go (leb-true _ _ e) _)

  inside : {effect : Effect} (address n : ℕ) → Keeps effect → Keeps (within address n effect)
  inside address n h = test (nat_le (address + n) (2 ^ 16)) (λ e. h)

  to_next : (a : ℕ) (l : Local) → Is l → Keeps (to a l)
  to_next a l h = record { keeping = h }

  cut : (b : Bool) (target next : ℕ) (l : Local) → Is l → l.base + 6 ≤ l.top → Keeps (short_cut b target next l)
  cut true target next l h some = record { keeping = h }
  cut false target next l h some = record { keeping = topped (l.top - 1) h (omega (arith, some)) (omega (arith, h.order.uses)) }

  -- ---- procedures

  -- what an entry tells of its frame
  abbrev pub Allows : Option (Instruction × ℕ) → Type 0
  Allows None = ⊤
  Allows (Some x) = is_allowed x.0 ≡ true

  new_frame : (need r p v f : ℕ) (l : Local) → is_allowed (op.entry need r p v f) ≡ true → Is l → need ≤ l.last - l.end
      → Kept l.first l.end (l.end + (5 + r + p + v)) (l.end + need) l.last
  new_frame need r p v f l allowed h room =
      let enough : 5 + r + p + v ≤ need = leb-true (5 + r + p + v) need (and_parts (nat_le (5 + r + p + v) need) _ allowed).0 in
      record {
        from_is = h.from_is;
        upto_is = h.upto_is;
        order = record {
          begins = omega (arith, h.order.begins, h.order.links, h.order.uses);
          links = omega arith;
          uses = omega (arith, enough);
          ends = omega (arith, h.order.ends, room);
          fits = h.order.fits;
        };
      }

  opened : (m : Local) (need r p v f : ℕ) → is_allowed (op.entry need r p v f) ≡ true → Is m → need ≤ m.last - m.end → {memory : List ℕ} {pc held : ℕ} →
      Keeps (due entering (record {
        memory = memory;
        base = m.end;
        end = m.end + need;
        top = m.end + (5 + r + p + v);
        pc = pc;
        first = m.first;
        last = m.last;
        held = held;
      }))
  opened m need r p v f allowed h room = record { keeping = new_frame need r p v f m allowed h room }

  entered : (found : Option (Instruction × ℕ)) (link back line : ℕ) (l : Local) → Is l → Allows found → Keeps (enter found link back line l)
  entered (Some (op.entry need r p v f, body)) link back line l h allowed =
      search (test, popped, roomy, fails_keeps, opened) depth 12
  entered None link back line l h allowed = bad_keeps
  entered (Some x) link back line l h allowed = bad_keeps

  addressed : {go : Option ℕ → Local → Effect} (n : ℕ) (l : Local) → Is l → ((address : Option ℕ) (m : Local) → Is m → Keeps (go address m))
      → Keeps (with_answer_address n l go)
  addressed zero l h go = go None l h
  addressed (suc n) l h go = popped_one l h (λ x m k. go (Some x) m k)

  asked : (number line next : ℕ) (l : Local) → Is l → Keeps (system_call number line next l)
  asked number line next l h =
      test (nat_le 1 number && nat_le number 10) (λ e. addressed (answer_words number) l h (λ address m k. search (popped, asks_keeps) depth 9))

  left : (results function base top : ℕ) (l : Local) → Is l → Keeps (leave results function base top l)
  left results function base top l h =
      test (nat_le l.first base && nat_le (base + 5) top && nat_le (top + results) l.base && nat_le function l.held) (λ e.
      inside (l.base + 5) results (leaving_keeps (old_frame (and_parts (nat_le l.first base && nat_le (base + 5) top && nat_le (top + results) l.base) _ e).0)))
    where
      old_frame : (nat_le l.first base && nat_le (base + 5) top && nat_le (top + results) l.base) ≡ true → Kept l.first base (top + results) l.base l.last
      old_frame e =
          let both : ((nat_le l.first base && nat_le (base + 5) top) ≡ true) × (nat_le (top + results) l.base ≡ true) = and_parts
          (nat_le l.first base && nat_le (base + 5) top) (nat_le (top + results) l.base) e in
          let parts : (nat_le l.first base ≡ true) × (nat_le (base + 5) top ≡ true) = and_parts (nat_le l.first base) (nat_le (base + 5) top) both.0 in
          record {
            from_is = h.from_is;
            upto_is = h.upto_is;
            order = record {
              begins = leb-true l.first base parts.0;
              links = omega (arith, leb-true (base + 5) top parts.1);
              uses = leb-true (top + results) l.base both.1;
              ends = omega (arith, h.order.links, h.order.uses, h.order.ends);
              fits = h.order.fits;
            };
          }

  -- ---- forks

  rooms : (share : ℕ) (branches : List Branch) → list_all has_frame branches ≡ true → list_any (exceeds share) branches ≡ false → HaveRoom share branches
  rooms share [] frames fit = tt
  rooms share (branch ∷ branches) frames fit =
      let here : (nat_le 5 branch.need ≡ true) × (list_all has_frame branches ≡ true) = and_parts (nat_le 5 branch.need) (list_all has_frame branches) frames in
      let neither : (nat_lt share branch.need ≡ false) × (list_any (exceeds share) branches ≡ false) = or_parts (nat_lt share branch.need)
      (list_any (exceeds share) branches) fit in
      (leb-true 5 branch.need here.0, ltb-false share branch.need neither.0, rooms share branches here.1 neither.1)
    where
      or_parts : (x y : Bool) → (x || y) ≡ false → (x ≡ false) × (y ≡ false)
      or_parts true y e = absurd (cc)
      or_parts false y e = (refl, e)

  forked : (fetch : ℕ → Option (Instruction × ℕ)) (live : ℕ) (is_first : Bool) (line next : ℕ) (branches : List Branch) (l : Local) → Is l
      → is_allowed (op.cobegin line branches) ≡ true →
      Keeps (perform fetch live is_first (op.cobegin line branches) next l)
  forked fetch live is_first line next branches l h allowed =
      either (nat_lt 0 l.held) (fails_keeps {c = cause.Held} {line = line})
      (either (nat_lt most_processes (live + length branches)) (fails_keeps {c = cause.ProcessLimit} {line = line})
      (fitting (list_any (exceeds (share_of l (length branches))) branches) refl))
    where
      fitting : (b : Bool) → list_any (exceeds (share_of l (length branches))) branches ≡ b
          → Keeps (if b then fails cause.VariableLimit line else due (forking branches) (record l { pc = next }))
      fitting true e = record { keeping = tt }
      fitting false e = record { keeping = (h, rooms (share_of l (length branches)) branches (and_parts (is_count (length branches)) _ allowed).1 e) }

  -- ---- the instructions

  module _ (fetch : ℕ → Option (Instruction × ℕ)) (allows : (at : ℕ) → Allows (fetch at)) (live : ℕ) (is_first : Bool) (l : Local) where
    at_entry : (target link back line : ℕ) (m : Local) → Is m → Keeps (enter (fetch target) link back line m)
    at_entry target link back line m h = entered (fetch target) link back line m h (allows target)

    returned : (results function next : ℕ) → Is l → Keeps (perform fetch live is_first (op.return results function) next l)
    returned results function next h = either _ (test is_first (λ e. finishing_keeps h)) (left results function _ _ l h)

    pub each : (i : Instruction) (next : ℕ) → Is l → is_allowed i ≡ true → Keeps (perform fetch live is_first i next l)
    each (op.const value) next h allowed = search (test, either, ranged, popped, popped_one, looked, inside, pushed, to_next, goes_keeps, fails_keeps) depth 12
    each (op.text words) next h allowed = search (test, either, ranged, popped, popped_one, looked, inside, pushed, to_next, goes_keeps, fails_keeps) depth 12
    each (op.zeros count) next h allowed = search (test, either, ranged, popped, popped_one, looked, inside, pushed, to_next, goes_keeps, fails_keeps) depth 12
    each (op.address k offset) next h allowed = search (test, either, ranged, popped, popped_one, looked, inside, pushed, to_next, goes_keeps, fails_keeps)
        depth 12
    each (op.field offset) next h allowed = search (test, either, ranged, popped, popped_one, looked, inside, pushed, to_next, goes_keeps, fails_keeps) depth 12
    each (op.index low high size line) next h allowed =
        search (test, either, ranged, popped, popped_one, looked, inside, pushed, to_next, goes_keeps, fails_keeps) depth 12
    each (op.load count) next h allowed = search (test, either, ranged, popped, popped_one, looked, inside, pushed, to_next, goes_keeps, fails_keeps) depth 12
    each (op.store count) next h allowed = search (test, either, ranged, popped, popped_one, looked, inside, pushed, to_next, goes_keeps, fails_keeps) depth 12
    each (op.add line) next h allowed = search (test, either, ranged, popped, popped_one, looked, inside, pushed, to_next, goes_keeps, fails_keeps) depth 12
    each (op.sub line) next h allowed = search (test, either, ranged, popped, popped_one, looked, inside, pushed, to_next, goes_keeps, fails_keeps) depth 12
    each (op.mul line) next h allowed = search (test, either, ranged, popped, popped_one, looked, inside, pushed, to_next, goes_keeps, fails_keeps) depth 12
    each (op.div line) next h allowed = search (test, either, ranged, popped, popped_one, looked, inside, pushed, to_next, goes_keeps, fails_keeps) depth 12
    each (op.mod_ line) next h allowed = search (test, either, ranged, popped, popped_one, looked, inside, pushed, to_next, goes_keeps, fails_keeps) depth 12
    each (op.neg line) next h allowed = search (test, either, ranged, popped, popped_one, looked, inside, pushed, to_next, goes_keeps, fails_keeps) depth 12
    each op.not_ next h allowed = search (test, either, ranged, popped, popped_one, looked, inside, pushed, to_next, goes_keeps, fails_keeps) depth 12
    each (op.eq count) next h allowed = search (test, either, ranged, popped, popped_one, looked, inside, pushed, to_next, goes_keeps, fails_keeps) depth 12
    each (op.ne count) next h allowed = search (test, either, ranged, popped, popped_one, looked, inside, pushed, to_next, goes_keeps, fails_keeps) depth 12
    each op.lt next h allowed = search (test, either, ranged, popped, popped_one, looked, inside, pushed, to_next, goes_keeps, fails_keeps) depth 12
    each op.le next h allowed = search (test, either, ranged, popped, popped_one, looked, inside, pushed, to_next, goes_keeps, fails_keeps) depth 12
    each op.gt next h allowed = search (test, either, ranged, popped, popped_one, looked, inside, pushed, to_next, goes_keeps, fails_keeps) depth 12
    each op.ge next h allowed = search (test, either, ranged, popped, popped_one, looked, inside, pushed, to_next, goes_keeps, fails_keeps) depth 12
    each op.union next h allowed = search (test, either, ranged, popped, popped_one, looked, inside, pushed, to_next, goes_keeps, fails_keeps) depth 12
    each op.minus next h allowed = search (test, either, ranged, popped, popped_one, looked, inside, pushed, to_next, goes_keeps, fails_keeps) depth 12
    each op.meet next h allowed = search (test, either, ranged, popped, popped_one, looked, inside, pushed, to_next, goes_keeps, fails_keeps) depth 12
    each op.in_ next h allowed = search (test, either, ranged, popped, popped_one, looked, inside, pushed, to_next, goes_keeps, fails_keeps) depth 12
    each (op.member line) next h allowed = search (test, either, ranged, popped, popped_one, looked, inside, pushed, to_next, goes_keeps, fails_keeps) depth 12
    each (op.check low high line) next h allowed = search (test, either, ranged, popped, popped_one, looked, inside, pushed, to_next, goes_keeps, fails_keeps)
        depth 12
    each (op.jump target) next h allowed = search (test, either, ranged, popped, popped_one, looked, inside, pushed, to_next, goes_keeps, fails_keeps) depth 12
    each (op.false_ target) next h allowed = search (test, either, ranged, popped, popped_one, looked, inside, pushed, to_next, goes_keeps, fails_keeps) depth
        12
    each (op.and target) next h allowed = search (test, looked, cut) depth 12
    each (op.or target) next h allowed = search (test, looked, cut) depth 12
    each (op.loop target) next h allowed = looping_keeps h
    each (op.entry need r p v f) next h allowed = bad_keeps
    each (op.call k target line) next h allowed = at_entry target _ _ line l h
    each (op.call_p k offset line) next h allowed = search (inside, either, asked, at_entry) depth 12
    each (op.proc k target) next h allowed = search (test, either, ranged, popped, popped_one, looked, inside, pushed, to_next, goes_keeps, fails_keeps) depth
        12
    each (op.return results function) next h allowed = returned results function next h
    each (op.halt line) next h allowed = fails_keeps
    each (op.when line) next h allowed = either _ fails_keeps (arriving_keeps h)
    each (op.retry target) next h allowed = test _ (λ e. again_keeps h)
    each op.done next h allowed = test _ (λ e. released_keeps h)
    each (op.cobegin line branches) next h allowed = forked fetch live is_first line next branches l h allowed
    each op.exit next h allowed = test _ (λ e. exiting_keeps h)
    each (op.quiet target) next h allowed = test _ (λ e. again_keeps h)
