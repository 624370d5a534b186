-- With more turns left each step does the same.
use Rattle.std.proofs.Common.{◌≡◌, ℕ, zero, suc, ◌+◌, Bool, true, false, if◌then◌else◌, List, [], ◌∷◌, length, Option, Some, None, refl, sym, ap, subst, ◌∙◌, arith}
use Rattle.std.specs.Prelude.{⊤, nat_lt}
use Rattle.std.specs.List.{list_any}
use Rattle.edi_calls.specs.Forks.{most_processes, equal_share}
use Rattle.edi_calls.specs.Names.{Name, find, with_at}
use Rattle.edi_calls.specs.Ready.{joins, child, children, parent_of}
use Rattle.edi_calls.specs.State.{after_call}
use Rattle.edi_unit.specs.declared.expressions.Callee.{Callee}
use Rattle.edi_unit.specs.declared.expressions.Callee.TheVariants as callee
use Rattle.edi_unit.specs.Need.{block_at}
use Rattle.edi_unit.specs.Tree.{ProgramUnit}
use Rattle.edi_meaning.specs.Store.{Spot, block_procedure, formal, reached, shape, now, room, get, put, grown, shrunk}
use Rattle.edi_meaning.specs.Evaluation.{World, Evaluation, gives, ends}
use Rattle.edi_meaning.specs.Whole.{meant, instance_of, named, result_of}
use Rattle.edi_meaning.specs.Step.{Standing, ready, at_when, waiting, Work, Asks, goes, arrives, again, forks, leaves, Process, Processes, Stepped, went, ended, back}
use Rattle.edi_meaning.specs.Step.{exceeds, with_children, with_child, fork_taken, one_less, notified, local_step, kernel, step_of, step}
use Rattle.edi_meaning.specs.Permitted.{may_step, nowhere, onward, permitted}
use Rattle.edi_meaning.proofs.Kernel.{rest_of}
use Rattle.edi_disjoint.specs.Open.{open_acts}
use Rattle.edi_disjoint.specs.steps.Turns.{richer, with_more, StepsSo, LeadsSo, MoreTurnsDoTheSame}
use Rattle.edi_disjoint.proofs.steps.Following.{Following, Follows, Pairs}
use Rattle.edi_disjoint.proofs.steps.Stepping.{Moving, first_instance, local_pairs}
use Rattle.edi_disjoint.proofs.steps.Anything.{anything, acts_may, standing_may}

module _ (unit : ProgramUnit) (more : ℕ) where
  -- ---- one process

  module _ (p : Name) (size : ℕ) where
    same_meant : (c : Callee) (w u : World) → u ≡ richer more w → meant unit p size c w ≡ meant unit p size c u
    same_meant (callee.Block levels number) w u h =
        sym (ap (λ (z : World). block_procedure number (reached (shape z.store) levels (now (shape z.store) p))) h)
    same_meant (callee.Formal levels variable) w u h = sym (ap (λ (z : World). formal z.store p levels variable) h)

    abbrev enriching : Following unit p size
    enriching = record {
      more = more;
      other = λ z. z;
      Level = Unit {0};
      Holds = λ x w u. u ≡ richer more w;
      text = λ x. anything;
      Comes = λ x way l. ⊤;
      Enters = λ x es c. ⊤;
      Fits = λ x a c. ⊤;
      other_system = λ x w u h. ap (λ (z : World). z.system) h;
      same_turns = λ x w u h. ap (λ (z : World). z.turns) h;
      turned = λ x m n w u d e h.
          ap (λ (z : World). record z { turns = n }) h
          ∙ ap (λ (k : ℕ). record w { turns = k }) (turns_of m n w u d e h);
      stored = λ x l v w u c h. ap (λ (z : World). record z { store = put z.store l v }) h;
      asked = λ x es number w u c h. (
        sym (ap (λ (z : World). z.system.now) h),
        λ system. ap (λ (z : World). record z { system = after_call system z.system }) h,
      );
      called = λ x es number parent cells w u c f h. (
        tt,
        ap (λ (z : World). record z { store = grown p (instance_of unit p size number parent cells) z.store }) h,
        λ v z k. ap (λ (y : World). record y { store = shrunk p y.store }) k,
        acts_may (open_acts (block_at unit.blocks number).body),
      );
      space = λ x w u h. sym (ap (λ (z : World). shape z.store p) h);
      result = λ x w u h. sym (ap (λ (z : World). result_of unit p size z) h);
      of_slot = λ x way levels variable w u may h. (sym (ap (λ (z : World). named unit p size levels variable z.store) h), tt);
      of_part = λ x way l n c. tt;
      got = λ x l w u c h. sym (ap (λ (z : World). get z.store l) h);
      to_call = λ x c es w u may h. (same_meant c w u h, tt);
      to_pass = λ x c w u may h. (same_meant c w u h, tt);
      by_value = λ x e v. tt;
      by_location = λ x v l c. tt;
      to_location = λ x es number a l e f. tt;
    }
      where
        turns_of : (m n : ℕ) (w u : World) → w.turns ≡ suc m → u.turns ≡ suc n → u ≡ richer more w → n ≡ m + more
        turns_of m n w u d e h = let t : u.turns ≡ w.turns + more = ap (λ (z : World). z.turns) h in omega (arith, d, e, t)

    enriching_moves : Moving enriching tt (λ w u. u ≡ richer more w) ⊤
    enriching_moves = record {
      stays = λ w u h. h;
      grows = λ es number parent cells w u c f h. ap (λ (z : World). record z { store = grown p (instance_of unit p size number parent cells) z.store }) h;
      shrinks = λ w u h. ap (λ (z : World). record z { store = shrunk p z.store }) h;
      begins = λ first w u h. ap (λ (z : World). record z { store = with_at z.store p (first_instance unit p size ∷ []) }) h;
    }

    local_so : (standing : Standing) (work : List Work) (w : World) →
        Pairs enriching (λ a w u. u ≡ richer more w) (local_step unit p size standing work w) (local_step unit p size standing work (richer more w))
    local_so standing work w =
        local_pairs enriching tt (λ w u. u ≡ richer more w) ⊤ enriching_moves standing work w (richer more w) (standing_may standing work) refl

  -- ---- the kernel

  if_so : (b : Bool) (k l m n : Stepped) → StepsSo more k m → StepsSo more l n → StepsSo more (if b then k else l) (if b then m else n)
  if_so true k l m n h i = h
  if_so false k l m n h i = i

  children_so : (q : Name) (f k share : ℕ) (parent : Spot) (bs : List ℕ) (a : Processes) →
      with_children unit q f k share parent bs (with_more more a) ≡ with_more more (with_children unit q f k share parent bs a)
  children_so q f k share parent [] a = refl
  children_so q f k share parent (b ∷ bs) a = children_so q f (suc k) share parent bs (with_child unit (child q f k) share parent b a)

  module _ (s : Processes) (q : Name) (y : Process) where
    taken_so : (bs : List ℕ) (work : List Work) (share m n : ℕ) (w : World) → w.turns ≡ m → w.turns + more ≡ n →
        StepsSo more (fork_taken unit s q y bs work w m share) (fork_taken unit (with_more more s) q y bs work (richer more w) n share)
    taken_so bs work share zero n w d e = λ some. absurd (some refl)
    taken_so bs work share (suc m) zero w d e = absurd (omega (arith, d, e))
    taken_so bs work share (suc m) (suc n) w d e =
        let few : n ≡ m + more = omega (arith, d, e) in
        ap (λ (k : ℕ). went (with_children unit q (suc y.forks) 0 share (now (shape w.store) q) bs
        (back s q (record y { forks = suc y.forks; work = work; standing = waiting (length bs) }) (record w { turns = k })))
        (joins (children q (suc y.forks) 0 (length bs))) false) few
        ∙ ap (λ (z : Processes). went z (joins (children q (suc y.forks) 0 (length bs))) false)
        (children_so q (suc y.forks) 0 share (now (shape w.store) q) bs
        (back s q (record y { forks = suc y.forks; work = work; standing = waiting (length bs) }) (record w { turns = m })))

    less_so : (a : Processes) (z : Process) (standing : Standing) →
        StepsSo more (one_less a (parent_of q) z standing) (one_less (with_more more a) (parent_of q) z standing)
    less_so a z ready = refl
    less_so a z (at_when cs position) = refl
    less_so a z (waiting n) = refl

    told_so : (a : Processes) (o : Option Process) → StepsSo more (notified a (parent_of q) o) (notified (with_more more a) (parent_of q) o)
    told_so a None = refl
    told_so a (Some z) = less_so a z z.standing

    asks_so : (a : Asks) (w : World) → StepsSo more (kernel unit s q y (gives a w)) (kernel unit (with_more more s) q y (gives a (richer more w)))
    asks_so (goes work) w = refl
    asks_so (arrives cs position work) w = refl
    asks_so (again cs position quiet work) w = refl
    asks_so (forks bs line work) w =
        if_so (nat_lt most_processes (length s.live + length bs)) _ _ _ _ (λ some. refl)
        (if_so (list_any (exceeds unit (equal_share (room y.size (shape w.store q)) (length bs))) bs) _ _ _ _ (λ some. refl)
        (taken_so bs work (equal_share (room y.size (shape w.store q)) (length bs)) w.turns (w.turns + more) w refl refl))
    asks_so leaves w = told_so (rest_of s q w) (find (rest_of s q w).live (parent_of q))

    kernel_so : (r v : Evaluation Asks) → Follows (λ z. z) more (λ a w u. u ≡ richer more w) r v → StepsSo more (kernel unit s q y r) (kernel unit (with_more more s) q y v)
    kernel_so (gives a w) (gives b u) h =
        subst (λ (c : Asks). StepsSo more (kernel unit s q y (gives a w)) (kernel unit (with_more more s) q y (gives c u))) h.0
        (subst (λ (z : World). StepsSo more (kernel unit s q y (gives a w)) (kernel unit (with_more more s) q y (gives a z))) (sym h.1) (asks_so a w))
    kernel_so (gives a w) (ends e system turns) h = absurd h
    kernel_so (ends e system turns) v h = λ some. ap (kernel unit (with_more more s) q y) (h some)

  one_so : (s : Processes) (p : Name) → StepsSo more (step unit s p) (step unit (with_more more s) p)
  one_so s p = go (find s.live p)
    where
      go : (o : Option Process) → StepsSo more (step_of unit s p o) (step_of unit (with_more more s) p o)
      go None = λ some. absurd (some refl)
      go (Some q) =
          kernel_so s p q (local_step unit p q.size q.standing q.work s.world) (local_step unit p q.size q.standing q.work (richer more s.world))
          (local_so p q.size q.standing q.work s.world).is

  -- ---- orders

  each_so : (names : List Name) (s : Processes) → LeadsSo more (permitted unit names s) (permitted unit names (with_more more s))
  each_so [] s = refl
  each_so (q ∷ qs) s = go qs (each_so qs) (may_step s q) (step unit s q) (step unit (with_more more s) q) (one_so s q)
    where
      go : (qs : List Name) → ((t : Processes) → LeadsSo more (permitted unit qs t) (permitted unit qs (with_more more t))) → (b : Bool) (x y : Stepped) → StepsSo more x y →
          LeadsSo more (if b then onward x qs (permitted unit qs) else nowhere) (if b then onward y qs (permitted unit qs) else nowhere)
      go qs rest false x y h = tt
      go qs rest true (went a n quiet) y h = subst (λ (z : Stepped). LeadsSo more (permitted unit qs a) (onward z qs (permitted unit qs))) (sym h) (rest a)
      go [] rest true (ended e system turns) y h = λ some. ap (λ (z : Stepped). onward z [] (permitted unit [])) (h some)
      go (r ∷ rs) rest true (ended e system turns) y h = tt

pub more_turns_do_the_same : (unit : ProgramUnit) (more : ℕ) (s : Processes) → MoreTurnsDoTheSame unit more s
more_turns_do_the_same unit more s = record { one = one_so unit more s; each = λ names. each_so unit more names s }
