-- Equal parts have equal fields.
use Rattle.std.proofs.Common.{◌≡◌, ℕ, Bool, true, false, ◌&&◌, List, Some, None, Option, refl, sym, ap, ◌∙◌}
use Rattle.std.specs.Prelude.{nat_eq}
use Rattle.std.specs.Option.{option_map, option_eq}
use Rattle.std.proofs.Common.{◌<◌, subst}
use Rattle.std.proofs.lemmas.Bool.{eqb-true}
use Rattle.std.proofs.lemmas.Bool.Decides.{Decides-eqb}
use Rattle.std.proofs.lemmas.Slice.Eq.{slice_eq-Decides}
use lib.Pointwise.{pointwise}
use mathlib.Core.Bool.{beq}
use Rattle.edi_kernel.specs.declared.kept.Kept.{Kept}
use Rattle.edi_kernel.specs.declared.table.Standing.{Standing}
use Rattle.edi_kernel.specs.declared.table.Standing.TheVariants as standing
use Rattle.edi_kernel.specs.contracts.kept.KeptPartialEq.TheImpl as kept
use Rattle.edi_kernel.specs.contracts.table.StandingPartialEq.TheImpl as stands
use Rattle.edi_machine.specs.Activities.{IsOrdered}
use Rattle.edi_kernel.specs.declared.state.KernelState.{KernelState}
use Rattle.edi_kernel.specs.Table.{is_live, is_waiting, process_at}
use Rattle.edi_kernel.specs.Kept.{IsKeptOf, IsWhole, activity_of, is_ready, process_of, words_of}
use Rattle.edi_explore.specs.declared.offline.Place.{Place}
use Rattle.edi_explore.specs.contracts.offline.PlacePartialEq.TheImpl as place
use Rattle.edi_explore.specs.declared.states.Key.{Key}
use Rattle.edi_explore.specs.contracts.states.KeyPartialEq.TheImpl as key
use Rattle.edi_explore.specs.States.{IsSameKept, IsSameKey, IsSamePlace}

pub both_one : (x y : Bool) → (x && y) ≡ true → x ≡ true
both_one true y e = refl
both_one false y e = absurd (cc)

pub both_two : (x y : Bool) → (x && y) ≡ true → y ≡ true
both_two true y e = e
both_two false y e = absurd (cc)

standing_same : (a b : Standing) → (stands.ghosts).eq a b ≡ true → b ≡ a
standing_same standing.Ready standing.Ready e = refl
standing_same standing.AtWhen standing.AtWhen e = refl
standing_same (standing.Waiting n) (standing.Waiting m) e = ap standing.Waiting (sym (eqb-true n m e))
standing_same standing.Ready standing.AtWhen e = let x : false ≡ true = e in absurd (cc)
standing_same standing.Ready (standing.Waiting m) e = let x : false ≡ true = e in absurd (cc)
standing_same standing.AtWhen standing.Ready e = let x : false ≡ true = e in absurd (cc)
standing_same standing.AtWhen (standing.Waiting m) e = let x : false ≡ true = e in absurd (cc)
standing_same (standing.Waiting n) standing.Ready e = let x : false ≡ true = e in absurd (cc)
standing_same (standing.Waiting n) standing.AtWhen e = let x : false ≡ true = e in absurd (cc)

-- what the fields say one by one
split : (slot parent standing base end top pc first last held ready words : Bool) →
    (slot && (parent && (standing && (base && (end && (top && (pc && (first && (last && (held && (ready && words))))))))))) ≡ true →
    (slot ≡ true) × (parent ≡ true) × (standing ≡ true) × (base ≡ true) × (end ≡ true) × (top ≡ true) × (pc ≡ true) × (first ≡ true) × (last ≡ true)
    × (held ≡ true) × (ready ≡ true) × (words ≡ true)
split a b c d e f g h i j k l e0 =
    let e1 = both_two a _ e0 in
    let e2 = both_two b _ e1 in
    let e3 = both_two c _ e2 in
    let e4 = both_two d _ e3 in
    let e5 = both_two e _ e4 in
    let e6 = both_two f _ e5 in
    let e7 = both_two g _ e6 in
    let e8 = both_two h _ e7 in
    let e9 = both_two i _ e8 in
    let e10 = both_two j _ e9 in (
      both_one a _ e0,
      both_one b _ e1,
      both_one c _ e2,
      both_one d _ e3,
      both_one e _ e4,
      both_one f _ e5,
      both_one g _ e6,
      both_one h _ e7,
      both_one i _ e8,
      both_one j _ e9,
      both_one k l e10,
      both_two k l e10,
    )

same_bool : (x y : Bool) → beq x y ≡ true → y ≡ x
same_bool true true e = refl
same_bool true false e = absurd (cc)
same_bool false true e = absurd (cc)
same_bool false false e = refl

pub kept_same : (a b : Kept) → (kept.ghosts).eq a b ≡ true → IsSameKept a b
kept_same a b e =
    let p = split (nat_eq a.slot b.slot) (nat_eq a.parent b.parent) ((stands.ghosts).eq a.standing b.standing) (nat_eq a.base b.base) (nat_eq a.end b.end)
    (nat_eq a.top b.top) (nat_eq a.pc b.pc) (nat_eq a.first b.first) (nat_eq a.last b.last) (nat_eq a.held b.held) (beq a.ready b.ready)
    (pointwise nat_eq a.words.items b.words.items) e in (
      sym (eqb-true a.slot b.slot p.0),
      sym (eqb-true a.parent b.parent p.1),
      standing_same a.standing b.standing p.2,
      sym (eqb-true a.base b.base p.3),
      sym (eqb-true a.end b.end p.4),
      sym (eqb-true a.top b.top p.5),
      sym (eqb-true a.pc b.pc p.6),
      sym (eqb-true a.first b.first p.7),
      sym (eqb-true a.last b.last p.8),
      sym (eqb-true a.held b.held p.9),
      same_bool a.ready b.ready p.10,
      sym ((slice_eq-Decides Decides-eqb a.words.items b.words.items (pointwise nat_eq a.words.items b.words.items) refl).0 p.11),
    )

pub bytes_same : (a b : List ℕ) → pointwise nat_eq a b ≡ true → a ≡ b
bytes_same a b e = (slice_eq-Decides Decides-eqb a b (pointwise nat_eq a b) refl).0 e

option_same : {V : Type 0} (items : V → List ℕ) (x y : Option V) → option_eq (λ a b. pointwise nat_eq (items a) (items b)) x y ≡ true →
    option_map items y ≡ option_map items x
option_same items None None e = refl
option_same items None (Some b) e = absurd (cc)
option_same items (Some a) None e = absurd (cc)
option_same items (Some a) (Some b) e = ap Some (sym ((slice_eq-Decides Decides-eqb (items a) (items b) (pointwise nat_eq (items a) (items b)) refl).0 e))

pub place_same : (a b : Place) → (place.ghosts).eq a b ≡ true → IsSamePlace a b
place_same a b e =
    let buffers = option_eq (λ x y. pointwise nat_eq x.items y.items) a.buffer b.buffer in
    let shown = pointwise nat_eq a.shown.items b.shown.items in
    let rest = both_two (nat_eq a.taken b.taken) (buffers && shown) e in (
      sym (eqb-true a.taken b.taken (both_one (nat_eq a.taken b.taken) (buffers && shown) e)),
      option_same (λ x. x.items) a.buffer b.buffer (both_one buffers shown rest),
      sym (bytes_same a.shown.items b.shown.items (both_two buffers shown rest)),
    )

-- ---- what is said of a part is said of an equal one

module _ (a b : Kept) (s : IsSameKept a b) where
  same_activity : activity_of b ≡ activity_of a
  same_activity = λ i. record {
    base = s.3 i;
    end = s.4 i;
    top = s.5 i;
    pc = s.6 i;
    segment = record { first = s.7 i; last = s.8 i };
    held = s.9 i;
  }

  same_process : process_of b ≡ process_of a
  same_process = λ i. record { parent = s.1 i; standing = s.2 i; activity = same_activity i }

  pub same_kept_of : (k : KernelState) → IsKeptOf k a → IsKeptOf k b
  same_kept_of k h = record {
    lives = ap (is_live k.table) s.0 ∙ h.lives;
    has = record {
      process = ap (process_at k.table) s.0 ∙ h.has.process ∙ sym same_process;
      words = ap (words_of k.store) same_activity ∙ h.has.words ∙ sym s.11;
    };
    ready = s.10 ∙ h.ready ∙ sym (ap (is_ready k.table) s.0);
  }

  pub same_whole : IsWhole a → IsWhole b
  same_whole w = record {
    inside = subst (λ n. n < 32) (sym s.0) w.inside;
    parent = subst (λ n. n < 32) (sym s.1) w.parent;
    ordered = subst IsOrdered (sym same_activity) w.ordered;
    going = λ e. ap is_waiting s.2 ∙ w.going (sym s.10 ∙ e);
    memory = w.memory;
    long = w.long;
    words = s.11 ∙ w.words ∙ sym (ap (words_of w.memory) same_activity);
  }

pub key_same : (a b : Key) → (key.ghosts).eq a b ≡ true → IsSameKey a b
key_same a b e =
    let rest = pointwise nat_eq a.parts.items b.parts.items in (
      sym (eqb-true a.place b.place (both_one (nat_eq a.place b.place) rest e)),
      sym ((slice_eq-Decides Decides-eqb a.parts.items b.parts.items rest refl).0 (both_two (nat_eq a.place b.place) rest e)),
    )
