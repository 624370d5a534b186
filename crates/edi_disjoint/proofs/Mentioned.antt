-- What the code has found of a branch after it has looked at some mentions: the variables round the branch, `var` parameters, calls.
use Rattle.std.proofs.Common.{◌≡◌, ℕ, ◌<◌, ◌⊎◌, inl, inr, Bool, true, false, ◌&&◌, ◌||◌, ◌==◌, if◌then◌else◌, List, [], ◌∷◌, length, Option, Some, None}
use Rattle.std.proofs.Common.{refl, sym, subst, ap, ◌∙◌}
use Rattle.std.specs.Prelude.{Contains}
use Rattle.std.specs.Bool.{Decides}
use Rattle.std.specs.Global.{Vec}
use Rattle.std.proofs.lemmas.Bool.{eqb-true, eq-eqb}
use Rattle.edi_unit.specs.declared.expressions.Callee.TheVariants as callee
use Rattle.edi_unit.specs.Need.{outer, slot_at}
use Rattle.edi_unit.specs.Tree.{Block, ProgramUnit}
use Rattle.edi_disjoint.specs.declared.mentions.Mention.{Mention}
use Rattle.edi_disjoint.specs.declared.mentions.Mention.TheVariants as mention
use Rattle.edi_disjoint.specs.Footprints.{Variable, variable_at, Encloses, IsVarParameter, seen, written}
use Rattle.edi_disjoint.specs.Found.{Lists}
use Rattle.edi_disjoint.specs.Apart.{View, nothing_in, blocks_in, take_all_in, take_in, see_in, call_in, text_at}
use Rattle.edi_disjoint.specs.Apart.{with_view, is_var_slot, encloses_by}
use Rattle.edi_disjoint.proofs.Contained.{contains_either, contains_first, contains_later, contains_none}
use Rattle.edi_disjoint.proofs.Enclosing.{GoInwards, encloses_decides}
use Rattle.edi_disjoint.proofs.Variables.{lists_as, lists_if, decides_or, decides_and, decides_as, var_decides}

module _ (unit : ProgramUnit) (b : ℕ) where
  -- a mention m in block n, of those that V tells, speaks of a variable so
  pub record Found (of : List Block → ℕ → Mention → Option Variable) (V : ℕ → Mention → Type 0) (x : Variable) : Type 0 where
    pub block : ℕ
    pub mention : Mention
    pub there : V block mention
    pub is : of unit.blocks block mention ≡ Some x

  abbrev pub Outside : (List Block → ℕ → Mention → Option Variable) → (ℕ → Mention → Type 0) → Variable → Type 0
  Outside of V x = Found of V x × Encloses unit.blocks x.home b

  -- one of a `var` parameter
  pub record VarFound (of : List Block → ℕ → Mention → Option Variable) (V : ℕ → Mention → Type 0) : Type 0 where
    pub variable : Variable
    pub found : Found of V variable
    pub var : IsVarParameter unit variable

  pub record Called (V : ℕ → Mention → Type 0) (P : ℕ → Type 0) : Type 0 where
    pub block : ℕ
    pub levels : ℕ
    pub number : ℕ
    pub there : V block (mention.Calls (callee.Formal levels number))
    pub of : P (outer unit.blocks block levels)

  pub record Holds (V : ℕ → Mention → Type 0) (view : View) : Type 0 where
    pub seen_all : Lists view.seen (Outside seen V)
    pub written_all : Lists view.written (Outside written V)
    pub sees : Decides view.sees_var (VarFound seen V)
    pub writes : Decides view.writes_var (VarFound written V)
    pub system : Decides view.system (Called V (λ n. n ≡ unit.program))
    pub parameter : Decides view.parameter (Called V (λ n. n ≡ unit.program → ⊥))

  pub holds_as : (V W : ℕ → Mention → Type 0) (view : View) → ((n : ℕ) (m : Mention) → V n m → W n m) → ((n : ℕ) (m : Mention) → W n m → V n m) → Holds V view → Holds W view
  holds_as V W view f g h = record {
    seen_all = lists_as view.seen (λ x k. (to seen x k.0, k.1)) (λ x k. (from seen x k.0, k.1)) h.seen_all;
    written_all = lists_as view.written (λ x k. (to written x k.0, k.1)) (λ x k. (from written x k.0, k.1)) h.written_all;
    sees = decides_as view.sees_var _ _ (λ k. record { variable = k.variable; found = to seen k.variable k.found; var = k.var })
        (λ k. record { variable = k.variable; found = from seen k.variable k.found; var = k.var }) h.sees;
    writes = decides_as view.writes_var _ _ (λ k. record { variable = k.variable; found = to written k.variable k.found; var = k.var })
        (λ k. record { variable = k.variable; found = from written k.variable k.found; var = k.var }) h.writes;
    system = decides_as view.system _ _ (λ k. record { block = k.block; levels = k.levels; number = k.number; there = f k.block _ k.there; of = k.of })
        (λ k. record { block = k.block; levels = k.levels; number = k.number; there = g k.block _ k.there; of = k.of }) h.system;
    parameter = decides_as view.parameter _ _ (λ k. record { block = k.block; levels = k.levels; number = k.number; there = f k.block _ k.there; of = k.of })
        (λ k. record { block = k.block; levels = k.levels; number = k.number; there = g k.block _ k.there; of = k.of }) h.parameter;
  }
    where
      to : (of : List Block → ℕ → Mention → Option Variable) (x : Variable) → Found of V x → Found of W x
      to of x k = record { block = k.block; mention = k.mention; there = f k.block k.mention k.there; is = k.is }

      from : (of : List Block → ℕ → Mention → Option Variable) (x : Variable) → Found of W x → Found of V x
      from of x k = record { block = k.block; mention = k.mention; there = g k.block k.mention k.there; is = k.is }

  pub nothing_holds : Holds (λ n m. ⊥) nothing_in
  nothing_holds = record {
    seen_all = (λ x h. absurd (contains_none x h), λ x h. absurd h.0.there);
    written_all = (λ x h. absurd (contains_none x h), λ x h. absurd h.0.there);
    sees = (λ e. absurd (not_so e), λ h. absurd h.found.there);
    writes = (λ e. absurd (not_so e), λ h. absurd h.found.there);
    system = (λ e. absurd (not_so e), λ h. absurd h.there);
    parameter = (λ e. absurd (not_so e), λ h. absurd h.there);
  }
    where
      not_so : false ≡ true → ⊥
      not_so e = cc

  -- ---- one mention more

  module _ (inwards : GoInwards unit.blocks) (low : b < length unit.blocks) where
    abbrev OneMore : (ℕ → Mention → Type 0) → ℕ → Mention → ℕ → Mention → Type 0
    OneMore V n m k l = V k l ⊎ ((n ≡ k) × (m ≡ l))

    -- what a mention more makes of each part
    lift_found : (of : List Block → ℕ → Mention → Option Variable) (V : ℕ → Mention → Type 0) (n : ℕ) (m : Mention) (x : Variable) → Found of V x → Found of (OneMore V n m) x
    lift_found of V n m x k = record { block = k.block; mention = k.mention; there = inl k.there; is = k.is }

    here_found : (of : List Block → ℕ → Mention → Option Variable) (V : ℕ → Mention → Type 0) (n : ℕ) (m : Mention) (x : Variable) → of unit.blocks n m ≡ Some x → Found of (OneMore V n m) x
    here_found of V n m x e = record { block = n; mention = m; there = inr (refl, refl); is = e }

    old_found : (of : List Block → ℕ → Mention → Option Variable) (V : ℕ → Mention → Type 0) (n : ℕ) (m : Mention) (x : Variable) → Found of (OneMore V n m) x
        → Found of V x ⊎ (of unit.blocks n m ≡ Some x)
    old_found of V n m x k = go k.there
      where
        go : V k.block k.mention ⊎ ((n ≡ k.block) × (m ≡ k.mention)) → Found of V x ⊎ (of unit.blocks n m ≡ Some x)
        go (inl v) = inl (record { block = k.block; mention = k.mention; there = v; is = k.is })
        go (inr e) = inr (ap (λ j. of unit.blocks j m) e.0 ∙ ap (of unit.blocks k.block) e.1 ∙ k.is)

    some_same : (x y : Variable) → Some x ≡ Some y → x ≡ y
    some_same x y e = cc

    no_some_here : (x : Variable) → None ≡ Some x → ⊥
    no_some_here x e = cc

    lift_called : (V : ℕ → Mention → Type 0) (P : ℕ → Type 0) (n : ℕ) (m : Mention) → Called V P → Called (OneMore V n m) P
    lift_called V P n m k = record { block = k.block; levels = k.levels; number = k.number; there = inl k.there; of = k.of }

    old_called : (V : ℕ → Mention → Type 0) (P : ℕ → Type 0) (n : ℕ) (m : Mention) → Called (OneMore V n m) P →
        Called V P ⊎ ((levels number : ℕ) × (m ≡ mention.Calls (callee.Formal levels number)) × P (outer unit.blocks n levels))
    old_called V P n m k = go k.there
      where
        go : V k.block (mention.Calls (callee.Formal k.levels k.number)) ⊎ ((n ≡ k.block) × (m ≡ mention.Calls (callee.Formal k.levels k.number))) →
            Called V P ⊎ ((levels number : ℕ) × (m ≡ mention.Calls (callee.Formal levels number)) × P (outer unit.blocks n levels))
        go (inl v) = inl (record { block = k.block; levels = k.levels; number = k.number; there = v; of = k.of })
        go (inr e) = inr (k.levels, k.number, e.1, subst (λ j. P (outer unit.blocks j k.levels)) (sym e.0) k.of)

    module _ (V : ℕ → Mention → Type 0) (n : ℕ) (m : Mention) (view : View) (h : Holds V view) where
      abbrev W : ℕ → Mention → Type 0
      W = OneMore V n m

      -- no call of a parameter
      abbrev NoCall : Type 0
      NoCall = (levels number : ℕ) → m ≡ mention.Calls (callee.Formal levels number) → ⊥

      called_stays : (P : ℕ → Type 0) (x : Bool) → NoCall → Decides x (Called V P) → Decides x (Called W P)
      called_stays P x none d = decides_as x _ _ (lift_called V P n m) (λ k. elim (old_called V P n m k) [ inl o ↦ o | inr c ↦ absurd (none c.0 c.1 c.2) ]) d

      -- no variable
      outside_stays : (of : List Block → ℕ → Mention → Option Variable) (xs : List Variable) → of unit.blocks n m ≡ None → Lists xs (Outside of V) → Lists xs (Outside of W)
      outside_stays of xs none l =
          lists_as xs (λ x k. (lift_found of V n m x k.0, k.1))
          (λ x k. elim (old_found of V n m x k.0) [ inl o ↦ (o, k.1) | inr e ↦ absurd (no_some_here x (sym none ∙ e)) ]) l

      var_stays : (of : List Block → ℕ → Mention → Option Variable) (x : Bool) → of unit.blocks n m ≡ None → Decides x (VarFound of V) → Decides x (VarFound of W)
      var_stays of x none d =
          decides_as x _ _ (λ k. record { variable = k.variable; found = lift_found of V n m k.variable k.found; var = k.var })
          (λ k. elim (old_found of V n m k.variable k.found) [
            | inl o ↦ record { variable = k.variable; found = o; var = k.var }
            | inr e ↦ absurd (no_some_here k.variable (sym none ∙ e))
          ]) d

      no_slot : seen unit.blocks n m ≡ None → written unit.blocks n m ≡ None → NoCall → Holds W view
      no_slot a c none = record {
        seen_all = outside_stays seen view.seen a h.seen_all;
        written_all = outside_stays written view.written c h.written_all;
        sees = var_stays seen view.sees_var a h.sees;
        writes = var_stays written view.writes_var c h.writes;
        system = called_stays (λ j. j ≡ unit.program) view.system none h.system;
        parameter = called_stays (λ j. j ≡ unit.program → ⊥) view.parameter none h.parameter;
      }

      -- a variable
      module _ (levels number : ℕ) (w : Bool) (sm : seen unit.blocks n m ≡ Some (variable_at unit.blocks n levels number))
          (wm : (x : Variable) → written unit.blocks n m ≡ Some x → w ≡ true) (mw : w ≡ true → written unit.blocks n m ≡ Some (variable_at unit.blocks n levels number))
          (none : NoCall) where
        abbrev v : Variable
        v = variable_at unit.blocks n levels number

        abbrev round : Bool
        round = encloses_by unit.blocks v.home b unit.blocks

        abbrev var : Bool
        var = is_var_slot (slot_at unit.blocks n levels number)

        round_is : Decides round (Encloses unit.blocks v.home b)
        round_is = encloses_decides unit.blocks inwards v.home b unit.blocks refl low

        var_is : Decides var (IsVarParameter unit v)
        var_is = var_decides (slot_at unit.blocks n levels number)

        both_is : Decides (round && w) (Encloses unit.blocks v.home b × (w ≡ true))
        both_is = decides_and round w _ _ round_is (λ e. e, λ e. e)

        is_v : (of : List Block → ℕ → Mention → Option Variable) (x : Variable) → of unit.blocks n m ≡ Some v → of unit.blocks n m ≡ Some x → v ≡ x
        is_v of x e f = some_same v x (sym e ∙ f)

        slot_seen : Lists (if round then with_view view.seen v else view.seen) (Outside seen W)
        slot_seen =
            lists_as (if round then with_view view.seen v else view.seen)
            (λ x k. elim k [
              | inl o ↦ (lift_found seen V n m x o.0, o.1)
              | inr e ↦ (here_found seen V n m x (sm ∙ ap (λ y. Some y) e.1), subst (λ y. Encloses unit.blocks y.home b) e.1 e.0)
            ])
            (λ x k. elim (old_found seen V n m x k.0) [
              | inl o ↦ inl (o, k.1)
              | inr e ↦ inr (subst (λ y. Encloses unit.blocks y.home b) (sym (is_v seen x sm e)) k.1, is_v seen x sm e)
            ])
            (lists_if view.seen v (Outside seen V) round (Encloses unit.blocks v.home b) round_is h.seen_all)

        slot_written : Lists (if round && w then with_view view.written v else view.written) (Outside written W)
        slot_written =
            lists_as (if round && w then with_view view.written v else view.written)
            (λ x k. elim k [
              | inl o ↦ (lift_found written V n m x o.0, o.1)
              | inr e ↦ (here_found written V n m x (mw e.0.1 ∙ ap (λ y. Some y) e.1), subst (λ y. Encloses unit.blocks y.home b) e.1 e.0.0)
            ])
            (λ x k. elim (old_found written V n m x k.0) [
              | inl o ↦ inl (o, k.1)
              | inr e ↦ inr ((subst (λ y. Encloses unit.blocks y.home b) (sym (is_v written x (mw (wm x e)) e)) k.1, wm x e), is_v written x (mw (wm x e)) e)
            ])
            (lists_if view.written v (Outside written V) (round && w) (Encloses unit.blocks v.home b × (w ≡ true)) both_is h.written_all)

        slot_sees : Decides (view.sees_var || var) (VarFound seen W)
        slot_sees =
            decides_as (view.sees_var || var) (VarFound seen V ⊎ IsVarParameter unit v) (VarFound seen W)
            (λ k. elim k [
              | inl o ↦ record { variable = o.variable; found = lift_found seen V n m o.variable o.found; var = o.var }
              | inr e ↦ record { variable = v; found = here_found seen V n m v sm; var = e }
            ])
            (λ k. elim (old_found seen V n m k.variable k.found) [
              | inl o ↦ inl (record { variable = k.variable; found = o; var = k.var })
              | inr e ↦ inr (subst (IsVarParameter unit) (sym (is_v seen k.variable sm e)) k.var)
            ])
            (decides_or view.sees_var var _ _ h.sees var_is)

        slot_writes : Decides (view.writes_var || (var && w)) (VarFound written W)
        slot_writes =
            decides_as (view.writes_var || (var && w)) (VarFound written V ⊎ (IsVarParameter unit v × (w ≡ true))) (VarFound written W)
            (λ k. elim k [
              | inl o ↦ record { variable = o.variable; found = lift_found written V n m o.variable o.found; var = o.var }
              | inr e ↦ record { variable = v; found = here_found written V n m v (mw e.1); var = e.0 }
            ])
            (λ k. elim (old_found written V n m k.variable k.found) [
              | inl o ↦ inl (record { variable = k.variable; found = o; var = k.var })
              | inr e ↦ inr (subst (IsVarParameter unit) (sym (is_v written k.variable (mw (wm k.variable e)) e)) k.var, wm k.variable e)
            ])
            (decides_or view.writes_var (var && w) _ _ h.writes (decides_and var w _ _ var_is (λ e. e, λ e. e)))

        slot_holds : Holds W (see_in unit.blocks b n levels number w view)
        slot_holds = record {
          seen_all = slot_seen;
          written_all = slot_written;
          sees = slot_sees;
          writes = slot_writes;
          system = called_stays (λ j. j ≡ unit.program) view.system none h.system;
          parameter = called_stays (λ j. j ≡ unit.program → ⊥) view.parameter none h.parameter;
        }

    -- a call of a parameter
    call_holds : (V : ℕ → Mention → Type 0) (n levels number : ℕ) (view : View) → Holds V view →
        Holds (OneMore V n (mention.Calls (callee.Formal levels number))) (call_in unit.blocks unit.program n (callee.Formal levels number) view)
    call_holds V n levels number view h = go (outer unit.blocks n levels == unit.program) refl
      where
        m : Mention
        m = mention.Calls (callee.Formal levels number)

        not_so : false ≡ true → ⊥
        not_so e = cc

        same_levels : (l k : ℕ) → mention.Calls (callee.Formal levels number) ≡ mention.Calls (callee.Formal l k) → levels ≡ l
        same_levels l k e = cc

        go : (x : Bool) → (outer unit.blocks n levels == unit.program) ≡ x →
            Holds (OneMore V n (mention.Calls (callee.Formal levels number))) (if x then record view { system = true } else record view { parameter = true })
        go true e = record {
          seen_all = outside_stays V n (mention.Calls (callee.Formal levels number)) view h seen view.seen refl h.seen_all;
          written_all = outside_stays V n (mention.Calls (callee.Formal levels number)) view h written view.written refl h.written_all;
          sees = var_stays V n (mention.Calls (callee.Formal levels number)) view h seen view.sees_var refl h.sees;
          writes = var_stays V n (mention.Calls (callee.Formal levels number)) view h written view.writes_var refl h.writes;
          system = (λ x. record { block = n; levels = levels; number = number; there = inr (refl, refl); of = eqb-true (outer unit.blocks n levels) unit.program e }, λ x. refl);
          parameter = decides_as view.parameter _ _ (lift_called V (λ j. j ≡ unit.program → ⊥) n (mention.Calls (callee.Formal levels number)))
              (λ k. elim (old_called V (λ j. j ≡ unit.program → ⊥) n (mention.Calls (callee.Formal levels number)) k) [
                | inl o ↦ o
                | inr c ↦ absurd (c.3 (ap (outer unit.blocks n) (sym (same_levels c.0 c.1 c.2)) ∙ eqb-true (outer unit.blocks n levels) unit.program e))
              ]) h.parameter;
        }
        go false e = record {
          seen_all = outside_stays V n (mention.Calls (callee.Formal levels number)) view h seen view.seen refl h.seen_all;
          written_all = outside_stays V n (mention.Calls (callee.Formal levels number)) view h written view.written refl h.written_all;
          sees = var_stays V n (mention.Calls (callee.Formal levels number)) view h seen view.sees_var refl h.sees;
          writes = var_stays V n (mention.Calls (callee.Formal levels number)) view h written view.writes_var refl h.writes;
          system = decides_as view.system _ _ (lift_called V (λ j. j ≡ unit.program) n (mention.Calls (callee.Formal levels number)))
              (λ k. elim (old_called V (λ j. j ≡ unit.program) n (mention.Calls (callee.Formal levels number)) k) [
                | inl o ↦ o
                | inr c ↦ absurd (not_so (sym e ∙ eq-eqb (outer unit.blocks n levels) unit.program (ap (outer unit.blocks n) (same_levels c.0 c.1 c.2) ∙ c.3)))
              ]) h.system;
          parameter = (
            λ x. record {
              block = n;
              levels = levels;
              number = number;
              there = inr (refl, refl);
              of = λ q. not_so (sym e ∙ eq-eqb (outer unit.blocks n levels) unit.program q);
            },
            λ x. refl,
          );
        }

    pub take_holds : (V : ℕ → Mention → Type 0) (n : ℕ) (m : Mention) (view : View) → Holds V view → Holds (OneMore V n m) (take_in unit.blocks unit.program b n m view)
    take_holds V n (mention.Reads levels number) view h =
        slot_holds V n (mention.Reads levels number) view h levels number false refl (λ x e. absurd (no_some_here x e)) (λ e. absurd (not_so e)) (λ l k e. no_call l k e)
      where
        not_so : false ≡ true → ⊥
        not_so e = cc

        no_call : (l k : ℕ) → mention.Reads levels number ≡ mention.Calls (callee.Formal l k) → ⊥
        no_call l k e = cc
    take_holds V n (mention.Assigns levels number) view h =
        slot_holds V n (mention.Assigns levels number) view h levels number true refl (λ x e. refl) (λ e. refl) (λ l k e. no_call l k e)
      where
        no_call : (l k : ℕ) → mention.Assigns levels number ≡ mention.Calls (callee.Formal l k) → ⊥
        no_call l k e = cc
    take_holds V n (mention.Lends levels number) view h =
        slot_holds V n (mention.Lends levels number) view h levels number true refl (λ x e. refl) (λ e. refl) (λ l k e. no_call l k e)
      where
        no_call : (l k : ℕ) → mention.Lends levels number ≡ mention.Calls (callee.Formal l k) → ⊥
        no_call l k e = cc
    take_holds V n (mention.Calls (callee.Block levels c)) view h = no_slot V n (mention.Calls (callee.Block levels c)) view h refl refl (λ l k e. no_call l k e)
      where
        no_call : (l k : ℕ) → mention.Calls (callee.Block levels c) ≡ mention.Calls (callee.Formal l k) → ⊥
        no_call l k e = cc
    take_holds V n (mention.Calls (callee.Formal levels number)) view h = call_holds V n levels number view h
    take_holds V n (mention.Passes c) view h = no_slot V n (mention.Passes c) view h refl refl (λ l k e. no_call l k e)
      where
        no_call : (l k : ℕ) → mention.Passes c ≡ mention.Calls (callee.Formal l k) → ⊥
        no_call l k e = cc

    take_all_holds : (V : ℕ → Mention → Type 0) (n : ℕ) (ms : List Mention) (view : View) → Holds V view →
        Holds (λ k l. V k l ⊎ ((n ≡ k) × Contains ms l)) (take_all_in unit.blocks unit.program b n ms view)
    take_all_holds V n [] view h = holds_as V _ view (λ k l v. inl v) (λ k l v. elim v [ inl o ↦ o | inr e ↦ absurd (contains_none l e.1) ]) h
    take_all_holds V n (m ∷ ms) view h =
        holds_as (λ k l. OneMore V n m k l ⊎ ((n ≡ k) × Contains ms l)) (λ k l. V k l ⊎ ((n ≡ k) × Contains (m ∷ ms) l)) _
        (λ k l v. elim v [
          | inl o ↦ elim o [ inl x ↦ inl x | inr e ↦ inr (e.0, subst (Contains (m ∷ ms)) e.1 (contains_first m ms)) ]
          | inr e ↦ inr (e.0, contains_later m l ms e.1)
        ])
        (λ k l v. elim v [
          | inl x ↦ inl (inl x)
          | inr e ↦ elim (contains_either m l ms e.1) [ inl q ↦ inl (inr (e.0, q)) | inr c ↦ inr (e.0, c) ]
        ])
        (take_all_holds (OneMore V n m) n ms (take_in unit.blocks unit.program b n m view) (take_holds V n m view h))

    pub blocks_hold : (texts : List (Vec Mention)) (V : ℕ → Mention → Type 0) (ns : List ℕ) (view : View) → Holds V view →
        Holds (λ k l. V k l ⊎ (Contains ns k × Contains (text_at texts k) l)) (blocks_in unit.blocks unit.program b texts ns view)
    blocks_hold texts V [] view h = holds_as V _ view (λ k l v. inl v) (λ k l v. elim v [ inl o ↦ o | inr e ↦ absurd (contains_none k e.0) ]) h
    blocks_hold texts V (n ∷ ns) view h =
        holds_as (λ k l. (V k l ⊎ ((n ≡ k) × Contains (text_at texts n) l)) ⊎ (Contains ns k × Contains (text_at texts k) l))
        (λ k l. V k l ⊎ (Contains (n ∷ ns) k × Contains (text_at texts k) l)) _
        (λ k l v. elim v [
          | inl o ↦ elim o [
            | inl x ↦ inl x
            | inr e ↦ inr (subst (Contains (n ∷ ns)) e.0 (contains_first n ns), subst (λ j. Contains (text_at texts j) l) e.0 e.1)
          ]
          | inr e ↦ inr (contains_later n k ns e.0, e.1)
        ])
        (λ k l v. elim v [
          | inl x ↦ inl (inl x)
          | inr e ↦ elim (contains_either n k ns e.0) [
            | inl q ↦ inl (inr (q, subst (λ j. Contains (text_at texts j) l) (sym q) e.1))
            | inr c ↦ inr (c, e.1)
          ]
        ])
        (blocks_hold texts _ ns (take_all_in unit.blocks unit.program b n (text_at texts n) view) (take_all_holds V n (text_at texts n) view h))
