-- `check` and `explain`: it is false that neither of them can end so. What they show tells of each two branches whether they are disjoint, and of each
-- kind of symbol whether it may stand; that one of the two answers is right is known here in that it is not false.
use Rattle.std.proofs.Common.{◌≡◌, ◌<◌, ◌≤◌, ℕ, zero, suc, Bool, true, false, List, [], ◌∷◌, length, take, Result, Ok, Err, refl, sym, ap, subst, inl, inr}
use Rattle.std.proofs.Common.{arith}
use Rattle.std.specs.Prelude.{◌==◌, nat_lt, if◌then◌else◌}
use Rattle.std.specs.Bool.{Decides}
use Rattle.std.proofs.lemmas.Bool.{cases_lt, cases_eq, eq-eqb, le-ltb, lt-ltb}
use Rattle.std.proofs.Common.{ne_eqb}
use Rattle.edi_disjoint.specs.Footprints.{Disjoint}
use Rattle.edi_disjoint.specs.Report.{IsReport, forks_in_order, report_of}
use Rattle.edi_explain.specs.expected.Reaches.{May}
use Rattle.edi_explain.specs.expected.MayStand.{MayStand}
use Rattle.edi_explain.specs.told.Explained.{IsExplainedBy, accepted_text, index_of, lexical_text, static_text}
use Rattle.edi_grammar.specs.Kind.{kind_of}
use Rattle.edi_lex.specs.declared.symbol.Mark.{Mark}
use Rattle.edi_lex.specs.declared.symbol.Symbol.{Symbol}
use Rattle.edi_lex.specs.declared.symbol.Symbol.TheVariants as is
use Rattle.edi_lex.specs.declared.fault.LexFault.{LexFault}
use Rattle.edi_lex.specs.Symbols.{symbols_of}
use Rattle.edi_host.specs.Contents.{Contents}
use Rattle.edi_texts.specs.declared.kind.RefusalKind.{RefusalKind}
use Rattle.edi_texts.specs.declared.refusal.Pass.{Pass}
use Rattle.edi_texts.specs.Texts.{AreRefused, IsFault, IsUnit}
use Rattle.edi_texts.proofs.Thing.{one_thing}
use Rattle.edi_unit.specs.Tree.{ProgramUnit}
use Rattle.edi_words.specs.Words as words
use Rattle.edi_words.specs.Words.{Command}
use Rattle.edi_statuses.specs.declared.status.Status.TheVariants as status
use Rattle.edi_statuses.specs.Outside.{Devices, KernelLeft}
use Rattle.edi_statuses.specs.Steps.{AfterStep, goes, stops, Fetches}
use Rattle.edi_statuses.specs.Commands.{CommandEffect, Does, Explains, IsDone, ShowsReport, TextSteps}
use Rattle.edi_statuses.specs.Always.{IsNotNone, MayCome, NotRefuted, told_outside}
use Rattle.edi_statuses.proofs.always.Steps.{ComesTo, fetches_some, text_some}
use Rattle.edi_statuses.proofs.always.Ends.{each_shows, effected, of_table, only_shows, showing, stopped}

-- ---- what is not none

not_none : {A B : Type 0} → (A → B) → IsNotNone A → IsNotNone B
not_none f h none = h (λ a. none (f a))

-- another value for one number
abbrev with_value : {B : Type 0} → (ℕ → B) → ℕ → B → ℕ → B
with_value f n b k = if k == n then b else f k

module _ {B : Type 0} (b : B) (P : ℕ → B → Type 0) (each : (k : ℕ) → IsNotNone ((x : B) × P k x)) where
  abbrev AllBelow : ℕ → Type 0
  AllBelow n = (f : ℕ → B) × ((k : ℕ) → k < n → P k (f k))

  one_more : (n : ℕ) → AllBelow n → ((x : B) × P n x) → AllBelow (suc n)
  one_more n so here = (
    with_value so.0 n here.0,
    λ k h. elim (cases_eq k n) [
      | inl same ↦ subst (P k) (sym (ap (λ t. if t then here.0 else so.0 k) (eq-eqb k n same))) (subst (λ m. P m here.0) (sym same) here.1)
      | inr other ↦ subst (P k) (sym (ap (λ t. if t then here.0 else so.0 k) (ne_eqb k n other))) (so.1 k (omega (arith, h, other)))
    ],
  )

  -- for finitely many numbers
  all_below : (n : ℕ) → IsNotNone (AllBelow n)
  all_below zero none = none ((λ k. b), λ k h. absurd (omega (arith, h)))
  all_below (suc n) none = all_below n (λ so. each n (λ here. none (one_more n so here)))

-- ---- branches

decided : (A : Type 0) → IsNotNone ((x : Bool) × Decides x A)
decided A none = none (false, (λ e. absurd (let no : false ≡ true = e in cc), λ a. absurd (none (true, (λ e. a, λ h. refl)))))

report_not_none : (unit : ProgramUnit) → IsNotNone ((text : List ℕ) × IsReport unit text)
report_not_none unit =
    let n : ℕ = length unit.blocks in
    not_none
    (λ so. (report_of so.0 (forks_in_order unit), record { answer = so.0; exact = λ a c ia ic. so.1 a ia.0 c ic.0; is = refl }))
    (all_below (λ k. false) (λ a g. (c : ℕ) → c < n → Decides (g c) (Disjoint unit a c))
    (λ a. all_below false (λ c x. Decides x (Disjoint unit a c)) (λ c. decided (Disjoint unit a c)) n) n)

-- ---- kinds of symbols

kind_small : (s : Symbol) → kind_of s < 51
kind_small (is.Name name) = omega arith
kind_small (is.Numeral value) = omega arith
kind_small (is.Chars []) = omega arith
kind_small (is.Chars (c ∷ [])) = omega arith
kind_small (is.Chars (c ∷ d ∷ cs)) = omega arith
kind_small is.Also = omega arith
kind_small is.And = omega arith
kind_small is.Array = omega arith
kind_small is.Begin = omega arith
kind_small is.Cobegin = omega arith
kind_small is.Const = omega arith
kind_small is.Div = omega arith
kind_small is.Do = omega arith
kind_small is.Else = omega arith
kind_small is.End = omega arith
kind_small is.Enum = omega arith
kind_small is.If = omega arith
kind_small is.In = omega arith
kind_small is.Lib = omega arith
kind_small is.Mod = omega arith
kind_small is.Module = omega arith
kind_small is.Not = omega arith
kind_small is.Or = omega arith
kind_small is.Post = omega arith
kind_small is.Pre = omega arith
kind_small is.Proc = omega arith
kind_small is.Record = omega arith
kind_small is.Set = omega arith
kind_small is.Skip = omega arith
kind_small is.Val = omega arith
kind_small is.Var = omega arith
kind_small is.When = omega arith
kind_small is.While = omega arith
kind_small is.Equal = omega arith
kind_small is.NotEqual = omega arith
kind_small is.Less = omega arith
kind_small is.AtMost = omega arith
kind_small is.Greater = omega arith
kind_small is.AtLeast = omega arith
kind_small is.Plus = omega arith
kind_small is.Minus = omega arith
kind_small is.Star = omega arith
kind_small is.Colon = omega arith
kind_small is.Becomes = omega arith
kind_small is.Comma = omega arith
kind_small is.Semicolon = omega arith
kind_small is.Period = omega arith
kind_small is.Open = omega arith
kind_small is.Close = omega arith
kind_small is.OpenBracket = omega arith
kind_small is.CloseBracket = omega arith

may_below : (before : List Mark) → IsNotNone ((may : ℕ → Bool) × ((k : ℕ) → k < 51 → May before k (may k)))
may_below before = all_below false (May before) (λ k none. none (false, λ m. none (true, m))) 51

-- there is no other kind
none_above : (before : List Mark) (k : ℕ) → 51 ≤ k → MayStand before k → ⊥
none_above before zero h m = absurd (omega (arith, h))
none_above before (suc a) h m = absurd (omega (arith, h, m.1, kind_small m.0.symbol))

may_not_none : (before : List Mark) → IsNotNone ((may : ℕ → Bool) × ((k : ℕ) → May before k (may k)))
may_not_none before =
    not_none
    (λ so. (
      (λ k. if nat_lt k 51 then so.0 k else false),
      λ k. elim (cases_lt k 51) [
        | inl h ↦ subst (May before k) (sym (ap (λ t. if t then so.0 k else false) (lt-ltb k 51 h))) (so.1 k h)
        | inr h ↦ subst (May before k) (sym (ap (λ t. if t then so.0 k else false) (le-ltb k 51 h))) (none_above before k h)
      ],
    ))
    (may_below before)

-- ---- explanations

explained_not_none : (text : List ℕ) (pass : Pass) (why : RefusalKind) (line : ℕ) (known : Result (List Mark × ℕ) LexFault) → AreRefused known pass why line
    → IsNotNone ((told : List ℕ) × IsExplainedBy text why line known told)
explained_not_none text pass why line (Err fault) h none = none (lexical_text text fault, refl)
explained_not_none text pass why line (Ok known) (inl h) none =
    not_none
    (λ so. (_, inl (record { fault = h.fault; is = h.is; may = so.0; exact = so.1; shown_is = refl })))
    (may_not_none (take (index_of h.fault) known.0)) none
explained_not_none text pass why line (Ok known) (inr h) none =
    none (static_text text known.0 why line, inr (record { tree = h.tree; tree_is = h.tree_is; shown_is = refl }))

-- ---- the commands

module _ (c : Command) (files : Contents) (d : Devices) (kernel : KernelLeft) where
  does_not_none : {A : Type 0} (steps : AfterStep A → Type 0) (effect : A → CommandEffect) → ComesTo steps
      → ((a : A) → IsNotNone (MayCome c (effect a) files d kernel)) → IsNotNone (MayCome c (Does steps effect) files d kernel)
  does_not_none steps effect (stops s, h, fine) each none = none (stopped c files d kernel steps effect s fine h)
  does_not_none steps effect (goes a, h, fine) each none = not_none (effected c files d kernel steps effect a h) (each a) none

  reports : (unit : ProgramUnit) → ((text : List ℕ) × IsReport unit text) → MayCome c (IsDone (ShowsReport unit)) files d kernel
  reports unit report = record {
    answer = status.Ok;
    decisive = tt;
    files_after = files;
    devices_after = showing c files d kernel report.0;
    sized = λ h. h;
    shown = report.0;
    left = kernel;
    comes = (refl, (report.0, report.1, only_shows c files d kernel report.0));
    shows = refl;
    each = each_shows c files d kernel report.0;
  }

  accepts_text : (bytes : List ℕ) (unit : ProgramUnit) → IsUnit bytes unit → MayCome c (Explains bytes) files d kernel
  accepts_text bytes unit is = record {
    answer = status.Ok;
    decisive = tt;
    files_after = files;
    devices_after = showing c files d kernel accepted_text;
    sized = λ h. h;
    shown = accepted_text;
    left = kernel;
    comes = (accepted_text, (unit, is, refl), only_shows c files d kernel accepted_text);
    shows = refl;
    each = each_shows c files d kernel accepted_text;
  }

  refuses_text : (bytes : List ℕ) (pass : Pass) (why : RefusalKind) (line : ℕ) → IsFault bytes pass why line
      → ((told : List ℕ) × IsExplainedBy bytes why line (symbols_of bytes) told) → MayCome c (Explains bytes) files d kernel
  refuses_text bytes pass why line fault told = record {
    answer = status.Refused why line;
    decisive = tt;
    files_after = files;
    devices_after = showing c files d kernel told.0;
    sized = λ h. h;
    shown = told.0;
    left = kernel;
    comes = (told.0, ((pass, fault), told.1), only_shows c files d kernel told.0);
    shows = refl;
    each = each_shows c files d kernel told.0;
  }

  explains : (bytes : List ℕ) → IsNotNone (MayCome c (Explains bytes) files d kernel)
  explains bytes = elim (one_thing.some_thing bytes) [
    | inl f ↦ not_none (refuses_text bytes f.0 f.1 f.2 f.3) (explained_not_none bytes f.0 f.1 f.2 (symbols_of bytes) f.3)
    | inr u ↦ λ none. none (accepts_text bytes u.0 u.1)
  ]

pub not_refuted : NotRefuted
not_refuted file files d kernel = (
  not_none (λ may. of_table (words.check file) files d kernel _ may (λ s after shown k h. h))
      (does_not_none (words.check file) files d kernel (TextSteps (told_outside files d) file) (λ a. IsDone (ShowsReport a.1)) (text_some files d file)
      (λ a. not_none (reports (words.check file) files d kernel a.1) (report_not_none a.1))),
  not_none (λ may. of_table (words.explain file) files d kernel _ may (λ s after shown k h. h))
      (does_not_none (words.explain file) files d kernel (Fetches (told_outside files d) file) Explains (fetches_some files d file)
      (λ bytes. explains (words.explain file) files d kernel bytes)),
)
