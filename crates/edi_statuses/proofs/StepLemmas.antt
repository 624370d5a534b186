-- Each step comes to one thing, where the contents that it looks at are told; so does a chain of such steps, and a command that
-- is made of it.
use Rattle.std.proofs.Common.{◌≡◌, ◌∙◌, ℕ, Bool, true≢false, true, List, Option, Some, None, IsSome, IfSome}
use Rattle.std.proofs.Common.{unwrap_or, option_map, refl, sym, ap, subst, inl, inr, Result, Ok, Err}
use Rattle.std.specs.Prelude.{⊤}
use Rattle.edi_image.specs.migrate.OldImage.{old_fault_of}
use Rattle.edi_words.specs.Words.{ChoicesFrom, nowhere, file, seed}
use Rattle.edi_trace.specs.Lines.{Reading, values, bad_line, read_of}
use Rattle.edi_lex.specs.declared.symbol.Mark.{Mark}
use Rattle.edi_lex.specs.declared.fault.LexFault.{LexFault}
use Rattle.edi_lex.specs.Symbols.{symbols_of}
use Rattle.edi_tree.specs.Tree.{Program}
use Rattle.edi_debug.specs.Points as points
use Rattle.edi_runs.specs.watch.Logs.{AreOfTree}
use Rattle.edi_unit.specs.Fits.{Fits}
use Rattle.edi_unit.specs.Tree.{ProgramUnit}
use Rattle.edi_texts.specs.declared.kind.RefusalKind.{RefusalKind}
use Rattle.edi_texts.specs.declared.refusal.Pass.{Pass}
use Rattle.edi_texts.specs.Texts.{IsFault, IsUnit}
use Rattle.edi_statuses.specs.declared.status.Status.{Status}
use Rattle.edi_statuses.specs.declared.status.Status.TheVariants as status
use Rattle.edi_statuses.specs.Outside.{Outside, Lent}
use Rattle.edi_statuses.specs.Steps.{AfterStep, goes, stops, ◌>>=◌, Ready, Fetches, GivesChoices, ReadsChoices, Accepts, Mounts}
use Rattle.edi_statuses.specs.Steps.{Loads, ChecksOld, FindsPoints, GivesPoints, Tests}
use Rattle.edi_statuses.specs.Commands.{CommandEffect, Does, HasPlace, ReadsTitle}
use Rattle.edi_statuses.specs.Decided.{is_refusal}

abbrev pub IsOne : {A : Type 0} → (AfterStep A → Type 0) → Type 0
IsOne {A = A} step = (r q : AfterStep A) → step r → step q → r ≡ q

abbrev status_or : {A : Type 0} → Status → AfterStep A → Status
status_or s (goes a) = s
status_or s (stops t) = t

abbrev pub value_or : {A : Type 0} → A → AfterStep A → A
value_or a (goes b) = b
value_or a (stops t) = a

abbrev pub Goes : {A : Type 0} → AfterStep A → Type 0
Goes (goes a) = ⊤
Goes (stops s) = ⊥

pub not_both : {A : Type 0} (a : A) (s : Status) → goes a ≡ stops s → ⊥
not_both a s same = subst (λ r. Goes r) same tt

-- ---- chains

pub ready_one : {A : Type 0} (a : A) → IsOne (Ready a)
ready_one a (goes b) (goes c) h k = ap (λ x. goes x) (h ∙ sym k)
ready_one a (goes b) (stops t) h k = absurd k
ready_one a (stops s) q h k = absurd h

pub then_one : {A B : Type 0} (step : AfterStep A → Type 0) (more : A → AfterStep B → Type 0) → IsOne step → ((a : A) → IsOne (more a))
    → IsOne (step >>= more)
then_one step more one ones (stops s) (stops t) (inl h) (inl k) = ap (λ r. stops (status_or s r)) (one (stops s) (stops t) h k)
then_one step more one ones (goes b) q (inl h) k = absurd h
then_one step more one ones r (goes c) h (inl k) = absurd k
then_one step more one ones (stops s) q (inl h) (inr k) = absurd (not_both k.0 s (one (goes k.0) (stops s) k.1 h))
then_one step more one ones r (stops t) (inr h) (inl k) = absurd (not_both h.0 t (one (goes h.0) (stops t) h.1 k))
then_one step more one ones r q (inr h) (inr k) =
    let same = ap (λ x. value_or h.0 x) (one (goes h.0) (goes k.0) h.1 k.1) in
    ones k.0 r q (subst (λ a. more a r) same h.2) k.2

-- ---- tests

some_same : {A : Type 0} (o : Option A) (a b : A) → o ≡ Some a → o ≡ Some b → a ≡ b
some_same o a b h k = ap (λ x. unwrap_or x a) (sym h ∙ k)

not_some : {A : Type 0} (o : Option A) (a : A) → o ≡ None → o ≡ Some a → ⊥
not_some o a h k = let e : None ≡ Some a = sym h ∙ k in absurd (cc)

-- what is told of one thing at two places is told of the same
record Seen {A : Type 0} (P Q : A → Type 0) : Type 0 where
  what : A
  first : P what
  second : Q what

nothing_there : {A B : Type 0} (f : A → B) (o : Option A) (b : B) → o ≡ None → option_map f o ≡ Some b → ⊥
nothing_there f o b h k = not_some (option_map f o) b (ap (option_map f) h) k

told_of : {A : Type 0} (P Q : A → Type 0) (o : Option A) → IsSome o → IfSome o P → IfSome o Q → Seen P Q
told_of P Q None told p q = absurd (cc)
told_of P Q (Some a) told p q = record { what = a; first = p; second = q }

pub tests_one : (passes : Bool) (refusal : Status) → IsOne (Tests passes refusal)
tests_one passes refusal (goes a) (goes b) h k = refl
tests_one passes refusal (goes a) (stops t) h k = absurd (true≢false (sym h ∙ k.0))
tests_one passes refusal (stops s) (goes b) h k = absurd (true≢false (sym k ∙ h.0))
tests_one passes refusal (stops s) (stops t) h k = ap (λ x. stops x) (h.1 ∙ sym k.1)

-- no text has two first faults, or one beside a unit, or two units; and a unit that it has fits
pub record TextsAreOne : Type 0 where
  pub one_fault : (text : List ℕ) (p q : Pass) (k l : RefusalKind) (m n : ℕ) → IsFault text p k m → IsFault text q l n
      → (p ≡ q) × (k ≡ l) × (m ≡ n)
  pub not_both : (text : List ℕ) (p : Pass) (k : RefusalKind) (m : ℕ) (unit : ProgramUnit) → IsFault text p k m → IsUnit text unit → ⊥
  pub one_unit : (text : List ℕ) (one other : ProgramUnit) → IsUnit text one → IsUnit text other → one ≡ other
  pub fits : (text : List ℕ) (unit : ProgramUnit) → IsUnit text unit → Fits unit

-- ---- the steps

pub fetches_one : (o : Outside) → IsSome o.files → (name : List ℕ) → IsOne (Fetches o name)
fetches_one o told name (goes a) (goes b) h k =
    let s = told_of _ _ o.files told h k in ap (λ x. goes x) (some_same _ a b s.first s.second)
fetches_one o told name (goes a) (stops t) h k =
    let s = told_of _ _ o.files told h k.1 in absurd (not_some _ a s.second s.first)
fetches_one o told name (stops s) (goes b) h k =
    let t = told_of _ _ o.files told h.1 k in absurd (not_some _ b t.first t.second)
fetches_one o told name (stops s) (stops t) h k = ap (λ x. stops x) (h.0 ∙ sym k.0)

gives_one : (reading : Reading) → IsOne (GivesChoices reading)
gives_one (values list) (goes a) (goes b) h k = ap (λ x. goes x) (h ∙ sym k)
gives_one (values list) (goes a) (stops t) h k = absurd k
gives_one (values list) (stops s) q h k = absurd h
gives_one (bad_line n) (goes a) q h k = absurd h
gives_one (bad_line n) (stops s) (goes b) h k = absurd k
gives_one (bad_line n) (stops s) (stops t) h k = ap (λ x. stops x) (h ∙ sym k)

pub choices_one : (o : Outside) → IsSome o.files → (from : ChoicesFrom) → IsOne (ReadsChoices o from)
choices_one o told nowhere = ready_one _
choices_one o told (file name) = then_one _ _ (fetches_one o told name) (λ bytes. gives_one (read_of bytes))
choices_one o told (seed n) = ready_one _

pub accepts_one : TextsAreOne → (text : List ℕ) → IsOne (Accepts text)
accepts_one one text (goes a) (goes b) h k = ap (λ x. goes x) (one.one_unit text a b h k)
accepts_one one text (goes a) (stops t) h k = absurd (one.not_both text k.3.0 k.0 k.1 a k.3.1 h)
accepts_one one text (stops s) (goes b) h k = absurd (one.not_both text h.3.0 h.0 h.1 b h.3.1 k)
accepts_one one text (stops s) (stops t) h k =
    let same = one.one_fault text h.3.0 k.3.0 h.0 k.0 h.1 k.1 h.3.1 k.3.1 in
    ap (λ x. stops x) (h.2 ∙ (λ i. status.Refused (same.1 i) (same.2 i)) ∙ sym k.2)

points_one : (reading : points.Reading) → IsOne (GivesPoints reading)
points_one (points.read found) (goes a) (goes b) h k = ap (λ x. goes x) (h ∙ sym k)
points_one (points.read found) (goes a) (stops t) h k = absurd k
points_one (points.read found) (stops s) q h k = absurd h
points_one (points.bad_line n) (goes a) q h k = absurd h
points_one (points.bad_line n) (stops s) (goes b) h k = absurd k
points_one (points.bad_line n) (stops s) (stops t) h k = ap (λ x. stops x) (h ∙ sym k)

-- a text is that of one program
one_tree : (known : Result (List Mark × ℕ) LexFault) (one other : Program) → AreOfTree known one → AreOfTree known other → one ≡ other
one_tree (Err fault) one other h k = absurd h
one_tree (Ok known) one other h k = k.one one h.spells

pub finds_one : (bytes lines : List ℕ) → IsOne (FindsPoints bytes lines)
finds_one bytes lines r q h k =
    let same = one_tree (symbols_of bytes) h.0 k.0 h.1 k.1 in
    points_one (points.read_of k.0 lines) r q (subst (λ x. GivesPoints (points.read_of x lines) r) same h.2) k.2

pub mounts_one : (o : Outside) → IsSome o.blocks → IsOne (Mounts o)
mounts_one o told (goes a) (goes b) h k = refl
mounts_one o told (goes a) (stops t) h k =
    let s = told_of _ _ o.blocks told h k.2 in absurd (not_some _ k.0 s.first s.second)
mounts_one o told (stops s) (goes b) h k =
    let t = told_of _ _ o.blocks told h.2 k in absurd (not_some _ h.0 t.second t.first)
mounts_one o told (stops s) (stops t) h k =
    let u = told_of _ _ o.blocks told h.2 k.2 in
    ap (λ x. stops x) (h.1 ∙ ap (λ broken. status.BadImage broken) (some_same _ h.0 k.0 u.first u.second) ∙ sym k.1)

pub loads_one : (bytes : List ℕ) → IsOne (Loads bytes)
loads_one bytes (goes a) (goes b) h k = ap (λ x. goes x) (h.1 ∙ sym k.1)
loads_one bytes (goes a) (stops t) h k = absurd (not_some _ k.0 h.0 k.2)
loads_one bytes (stops s) (goes b) h k = absurd (not_some _ h.0 k.0 h.2)
loads_one bytes (stops s) (stops t) h k =
    ap (λ x. stops x) (h.1 ∙ ap (λ broken. status.BadCode broken) (some_same _ h.0 k.0 h.2 k.2) ∙ sym k.1)

pub old_one : (bytes : List ℕ) → IsOne (ChecksOld bytes)
old_one bytes (goes a) (goes b) h k = ap (λ x. goes x) (h.0 ∙ sym k.0)
old_one bytes (goes a) (stops t) h k = absurd (not_some _ k.0 (ap old_fault_of (sym h.0) ∙ h.1) k.2)
old_one bytes (stops s) (goes b) h k = absurd (not_some _ h.0 (ap old_fault_of (sym k.0) ∙ k.1) h.2)
old_one bytes (stops s) (stops t) h k =
    ap (λ x. stops x) (h.1 ∙ ap (λ broken. status.BadImage broken) (some_same _ h.0 k.0 h.2 k.2) ∙ sym k.1)

pub has_place_one : (o : Outside) → IsSome o.blocks → (title : List ℕ) (size : ℕ) → IsOne (HasPlace o title size)
has_place_one o told title size (goes a) (goes b) h k = refl
has_place_one o told title size (goes a) (stops t) h k =
    let s = told_of _ _ o.blocks told h k.1 in absurd (true≢false (sym s.second ∙ s.first))
has_place_one o told title size (stops s) (goes b) h k =
    let t = told_of _ _ o.blocks told h.1 k in absurd (true≢false (sym t.first ∙ t.second))
has_place_one o told title size (stops s) (stops t) h k = ap (λ x. stops x) (h.0 ∙ sym k.0)

pub reads_one : (o : Outside) → IsSome o.blocks → (title : List ℕ) → IsOne (ReadsTitle o title)
reads_one o told title (goes a) (goes b) h k =
    let s = told_of _ _ o.blocks told h k in ap (λ x. goes x) (some_same _ a b s.first s.second)
reads_one o told title (goes a) (stops t) h k =
    let s = told_of _ _ o.blocks told h k.1 in absurd (nothing_there _ _ a s.second s.first)
reads_one o told title (stops s) (goes b) h k =
    let t = told_of _ _ o.blocks told h.1 k in absurd (nothing_there _ _ b t.first t.second)
reads_one o told title (stops s) (stops t) h k = ap (λ x. stops x) (h.0 ∙ sym k.0)

-- ---- a command made of steps

module _ (before after behind : Outside) where
  -- an effect that gives one status and shows one thing, whatever stands behind it
  abbrev pub IsOneEffect : CommandEffect → Type 0
  IsOneEffect effect =
      (s t : Status) (shown bytes : List ℕ) (kernel other : Lent)
      → effect s before after shown kernel → effect t before behind bytes other → (s ≡ t) × (shown ≡ bytes)

  pub does_one : {A : Type 0} (steps : AfterStep A → Type 0) (effect : A → CommandEffect) → IsOne steps → ((a : A) → steps (goes a) → IsOneEffect (effect a))
      → IsOneEffect (Does steps effect)
  does_one steps effect one ones s t shown bytes kernel other (inl h) (inl k) =
      (ap (λ r. status_or s r) (one (stops s) (stops t) h.0 k.0), h.1.shown_ ∙ sym k.1.shown_)
  does_one steps effect one ones s t shown bytes kernel other (inl h) (inr k) =
      absurd (not_both k.0 s (one (goes k.0) (stops s) k.1 h.0))
  does_one steps effect one ones s t shown bytes kernel other (inr h) (inl k) =
      absurd (not_both h.0 t (one (goes h.0) (stops t) h.1 k.0))
  does_one steps effect one ones s t shown bytes kernel other (inr h) (inr k) =
      let same = ap (λ x. value_or h.0 x) (one (goes h.0) (goes k.0) h.1 k.1) in
      ones k.0 k.1 s t shown bytes kernel other (subst (λ a. effect a s before after shown kernel) same h.2) k.2

  -- of a refusal, which the effect gives once as well
  pub does_refused : {A : Type 0} (steps : AfterStep A → Type 0) (effect : A → CommandEffect) → IsOne steps
      → ((a : A) (s t : Status) (shown bytes : List ℕ) (kernel other : Lent) → is_refusal s ≡ true → effect a s before after shown kernel
      → effect a t before behind bytes other → (s ≡ t) × (shown ≡ bytes))
      → (s t : Status) (shown bytes : List ℕ) (kernel other : Lent) → is_refusal s ≡ true
      → Does steps effect s before after shown kernel → Does steps effect t before behind bytes other → (s ≡ t) × (shown ≡ bytes)
  does_refused steps effect one ones s t shown bytes kernel other refusal (inl h) (inl k) =
      (ap (λ r. status_or s r) (one (stops s) (stops t) h.0 k.0), h.1.shown_ ∙ sym k.1.shown_)
  does_refused steps effect one ones s t shown bytes kernel other refusal (inl h) (inr k) =
      absurd (not_both k.0 s (one (goes k.0) (stops s) k.1 h.0))
  does_refused steps effect one ones s t shown bytes kernel other refusal (inr h) (inl k) =
      absurd (not_both h.0 t (one (goes h.0) (stops t) h.1 k.0))
  does_refused steps effect one ones s t shown bytes kernel other refusal (inr h) (inr k) =
      let same = ap (λ x. value_or h.0 x) (one (goes h.0) (goes k.0) h.1 k.1) in
      ones k.0 s t shown bytes kernel other refusal (subst (λ a. effect a s before after shown kernel) same h.2) k.2
