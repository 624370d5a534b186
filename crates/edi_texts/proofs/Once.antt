-- A text is no two things.
use Rattle.std.proofs.Common.{◌≡◌, ◌⊎◌, ℕ, List, Result, Ok, Err, refl, sym, ap, ◌∙◌, inl, inr}
use Rattle.edi_lex.specs.declared.symbol.Mark.{Mark}
use Rattle.edi_lex.specs.declared.fault.LexFault.{LexFault}
use Rattle.edi_lex.specs.Symbols.{symbols_of}
use Rattle.edi_syntax.proofs.Once.{same_fault, no_tree}
use Rattle.edi_static.specs.declared.faults.StaticKind.{StaticKind}
use Rattle.edi_static.specs.Judged.{Judged, gives, faults}
use Rattle.edi_static.specs.Programs.{resolve_tree}
use Rattle.edi_unit.specs.Tree.{ProgramUnit}
use Rattle.edi_texts.specs.declared.kind.RefusalKind.{RefusalKind}
use Rattle.edi_texts.specs.declared.refusal.Pass.{Pass}
use Rattle.edi_texts.specs.declared.refusal.Refusal.{Refusal}
use Rattle.edi_texts.specs.declared.refusal.Refusal.TheVariants.{At, NoMemory}
use Rattle.edi_texts.specs.Refusals.{syntax_refusal, static_refusal}
use Rattle.edi_texts.specs.Texts.{AreAccepted, AreRefused, HaveStaticFault, HaveSyntaxFault, HaveUnit, IsUnit}
use Rattle.edi_texts.specs.Answers.{Gives, TextAnswers}

-- a refusal is told in one way
refusal_once : (r : Refusal) (p q : Pass) (k l : RefusalKind) (m n : ℕ) → r ≡ At p k m → r ≡ At q l n → (p ≡ q) × (k ≡ l) × (m ≡ n)
refusal_once r p q k l m n a b = let same : At p k m ≡ At q l n = sym a ∙ b in (cc, cc, cc)

-- a tree has one first fault
refusal_of : Judged ProgramUnit → Refusal
refusal_of (faults why line) = static_refusal why line
refusal_of (gives unit) = NoMemory

static_once : (j : Judged ProgramUnit) (v w : StaticKind) (m n : ℕ) → j ≡ faults v m → j ≡ faults w n → static_refusal v m ≡ static_refusal w n
unfolding refusal_of
static_once j v w m n a b = ap refusal_of (sym a ∙ b)

-- and none beside a unit
not_resolved : (j : Judged ProgramUnit) (why : StaticKind) (line : ℕ) (unit : ProgramUnit) → j ≡ faults why line → j ≡ gives unit → ⊥
unfolding refusal_of
not_resolved j why line unit a b = let same : static_refusal why line ≡ NoMemory = ap refusal_of (sym a ∙ b) in absurd (cc)

unit_once : (j : Judged ProgramUnit) (one other : ProgramUnit) → j ≡ gives one → j ≡ gives other → one ≡ other
unit_once j one other a b = let same : gives one ≡ gives other = sym a ∙ b in cc

-- symbols have one fault
symbols_once : (known : List Mark × ℕ) (p q : Pass) (k l : RefusalKind) (m n : ℕ)
    → HaveSyntaxFault known p k m ⊎ HaveStaticFault known p k m → HaveSyntaxFault known q l n ⊎ HaveStaticFault known q l n → (p ≡ q) × (k ≡ l) × (m ≡ n)
symbols_once known p q k l m n (inl a) (inl b) =
    refusal_once (syntax_refusal b.fault) p q k l m n (ap syntax_refusal (sym (same_fault known.0 known.1 a.fault b.fault a.is b.is)) ∙ a.refusal) b.refusal
symbols_once known p q k l m n (inl a) (inr b) = absurd (no_tree known.0 known.1 a.fault b.tree a.is b.tree_is.spells b.tree_is.shallow)
symbols_once known p q k l m n (inr a) (inl b) = absurd (no_tree known.0 known.1 b.fault a.tree b.is a.tree_is.spells a.tree_is.shallow)
symbols_once known p q k l m n (inr a) (inr b) =
    let tree : b.tree ≡ a.tree = a.tree_is.one b.tree b.tree_is.spells in
    let same = static_once (resolve_tree a.tree) a.why b.why a.at b.at a.first (ap resolve_tree (sym tree) ∙ b.first) in
    refusal_once (static_refusal a.why a.at) p q k l m n a.refusal (same ∙ b.refusal)

pub one_fault : (known : Result (List Mark × ℕ) LexFault) (p q : Pass) (k l : RefusalKind) (m n : ℕ) → AreRefused known p k m
    → AreRefused known q l n → (p ≡ q) × (k ≡ l) × (m ≡ n)
one_fault (Err fault) p q k l m n a b = refusal_once _ p q k l m n a b
one_fault (Ok known) p q k l m n a b = symbols_once known p q k l m n a b

-- symbols with a unit have no fault
no_fault : (known : List Mark × ℕ) (p : Pass) (k : RefusalKind) (m : ℕ) (unit : ProgramUnit)
    → HaveSyntaxFault known p k m ⊎ HaveStaticFault known p k m → HaveUnit known unit → ⊥
no_fault known p k m unit (inl a) u = no_tree known.0 known.1 a.fault u.tree a.is u.tree_is.spells u.tree_is.shallow
no_fault known p k m unit (inr a) u =
    let tree : u.tree ≡ a.tree = a.tree_is.one u.tree u.tree_is.spells in
    not_resolved (resolve_tree a.tree) a.why a.at unit a.first (ap resolve_tree (sym tree) ∙ u.resolved)

pub not_both : (known : Result (List Mark × ℕ) LexFault) (p : Pass) (k : RefusalKind) (m : ℕ) (unit : ProgramUnit) → AreRefused known p k m
    → AreAccepted known unit → ⊥
not_both (Err fault) p k m unit a u = u
not_both (Ok known) p k m unit a u = no_fault known p k m unit a u

pub one_unit : (known : Result (List Mark × ℕ) LexFault) (one other : ProgramUnit) → AreAccepted known one → AreAccepted known other → one ≡ other
one_unit (Err fault) one other a b = absurd a
one_unit (Ok known) one other a b =
    let tree : b.tree ≡ a.tree = a.tree_is.one b.tree b.tree_is.spells in
    unit_once (resolve_tree a.tree) one other a.resolved (ap resolve_tree (sym tree) ∙ b.resolved)

-- A call that gives only what a text with a unit has answers exactly.
pub exactly : {A : Type 0} (Is : A → Type 0) (text : List ℕ) (result : Result A Refusal)
    → ((a : A) → Is a → (unit : ProgramUnit) × IsUnit text unit) → Gives Is text result → TextAnswers Is text result
exactly Is text (Ok a) unit_of g = record {
  gives = g;
  refused = λ pass kind line f. absurd (not_both (symbols_of text) pass kind line (unit_of a g).0 f (unit_of a g).1);
  accepted = λ unit u. tt;
}
exactly {A = A} Is text (Err (At pass kind line)) unit_of g = record {
  gives = g;
  refused = λ p k m f.
      let refused : Refusal → Result A Refusal = λ r. Err r in
      inl (ap refused (same_refusal pass p kind k line m (one_fault (symbols_of text) pass p kind k line m g f)));
  accepted = λ unit u. absurd (not_both (symbols_of text) pass kind line unit g u);
} where
  same_refusal : (p q : Pass) (k l : RefusalKind) (m n : ℕ) → (p ≡ q) × (k ≡ l) × (m ≡ n) → At p k m ≡ At q l n
  same_refusal p q k l m n (a, b, c) = cc
exactly Is text (Err NoMemory) unit_of g = record {
  gives = tt;
  refused = λ pass kind line f. inr refl;
  accepted = λ unit u. refl;
}
