-- Clauses, one behind another.
use Rattle.std.proofs.Common.{◌≡◌, ℕ, ◌+◌, ◌-◌, ◌<◌, ◌^◌, List, [], ◌∷◌, ◌++◌, length, drop, refl, sym, ap, subst, ◌∙◌, arith}
use Rattle.std.proofs.Common.{append_assoc}
use Rattle.std.proofs.Math.Dec.{eqb-suc-zero}
use Rattle.std.proofs.lemmas.List.{length-map, length-drop}
use Rattle.std.specs.Prelude.{◌==◌, map}
use Rattle.edi_unit.specs.Tree.{Clause, Clauses, clause_then}
use Rattle.edi_unit.specs.declared.statements.Clause as code_clause
use Rattle.edi_unit.specs.View.{clauses, clause_of}
use Rattle.edi_scheme.specs.Pieces.{Code, code_length, ClauseKind, close_code}
use Rattle.edi_code.specs.Scope.{is_end}
use Rattle.edi_code.specs.Aimed.{Opens}
use Rattle.edi_code.specs.Emits.{Emits}
use Rattle.edi_code.specs.InScope.{clause_length, clauses_length, clause_code, clauses_code}
use Rattle.edi_code.specs.declared.scope.Scope.{Scope}
use Rattle.edi_code.proofs.Aiming.{IsOpen, open_later, opens_then, opens_closed}

none_behind : (cs : List Clause) → (length cs == 0) ≡ is_end (clauses cs)
none_behind [] = refl
none_behind (c ∷ cs) = eqb-suc-zero (length cs)

-- ---- one step of the loops over clauses

-- the words of these clauses
abbrev pub words_in : Scope → ClauseKind → List code_clause.Clause → ℕ
words_in s kind l = clauses_length s kind (clauses (map clause_of l))

-- The clause x stands at a place of a list, and so many words close its list: whether no clause follows, and the words that there are with
-- it and behind it.
pub record ClauseAt (s : Scope) (kind : ClauseKind) (items : List code_clause.Clause) (i b here closes : ℕ) (x : code_clause.Clause)
    (all : List code_clause.Clause → ℕ) : Type 0 where
  pub last : ((b - 1) == 0) ≡ is_end (clauses (map clause_of (drop (i + 1) items)))
  pub closed : closes ≡ code_length (close_code kind 0 (clauses (map clause_of (drop (i + 1) items))))
  pub left : here + (clause_length s (clause_of x) + closes) + words_in s kind (drop (i + 1) items) ≡ all items
  pub room : (given : List code_clause.Clause) → items ≡ given → all given < 2 ^ 32 → here + (clause_length s (clause_of x) + closes) < 2 ^ 32

pub clause_at : (s : Scope) (kind : ClauseKind) (items : List code_clause.Clause) (i b here closes : ℕ) (x : code_clause.Clause)
    (all : List code_clause.Clause → ℕ) → drop i items ≡ x ∷ drop (i + 1) items → b + i ≡ length items → i < length items
    → ((rest : Clauses) → ((b - 1) == 0) ≡ is_end rest → closes ≡ code_length (close_code kind 0 rest))
    → here + words_in s kind (drop i items) ≡ all items → ClauseAt s kind items i b here closes x all
clause_at s kind items i b here closes x all cut count within close sum =
    let behind : List Clause = map clause_of (drop (i + 1) items) in
    let many : b - 1 ≡ length behind = omega (arith, count, within, length-map (drop (i + 1) items) clause_of, length-drop (i + 1) items) in
    let last : ((b - 1) == 0) ≡ is_end (clauses behind) = ap (λ (n : ℕ). n == 0) many ∙ none_behind behind in
    let closed : closes ≡ code_length (close_code kind 0 (clauses behind)) = close (clauses behind) last in
    let whole : here + words_in s kind (x ∷ drop (i + 1) items) ≡ all items = subst (λ l. here + words_in s kind l ≡ all items) cut sum in
    let left : here + (clause_length s (clause_of x) + closes) + words_in s kind (drop (i + 1) items) ≡ all items = omega (arith, whole, closed) in
    record {
      last = last;
      closed = closed;
      left = left;
      room = λ given same small. omega (arith, left, ap all same, small);
    }

-- the first of clauses, and the others
pub clauses_are : (s : Scope) (kind : ClauseKind) (here later target : ℕ) (c : Clause) (cs : Clauses)
    → later ≡ here + clause_length s c + code_length (close_code kind 0 cs) → clauses_code s kind target here (clause_then c cs)
    ≡ (clause_code s here later c ++ close_code kind target cs) ++ clauses_code s kind target later cs
clauses_are s kind here later target c cs is =
    ap (λ (k : ℕ). clause_code s here k c ++ (close_code kind target cs ++ clauses_code s kind target k cs)) (sym is)
    ∙ sym (append_assoc (clause_code s here later c) (close_code kind target cs) (clauses_code s kind target later cs))

-- one clause more, with jumps behind it left open
pub clause_open : (s : Scope) (kind : ClauseKind) (top : ℕ) (first second third old out middle next : List ℕ) (here later : ℕ) (c : Clause) (cs : Clauses)
    (code : ℕ → Code) → later ≡ here + clause_length s c + code_length (close_code kind 0 cs) → Emits out middle (clause_code s here later c)
    → Opens kind top second third middle next (λ t. close_code kind t cs)
    → IsOpen kind top first second old out (λ t. clauses_code s kind t here (clause_then c cs)) code
    → IsOpen kind top first third old next (λ t. clauses_code s kind t later cs) code
clause_open s kind top first second third old out middle next here later c cs code is p q h =
    open_later kind top first second third old out next (λ t. clause_code s here later c ++ close_code kind t cs)
    (λ t. clauses_code s kind t here (clause_then c cs)) (λ t. clauses_code s kind t later cs) code h
    (opens_then kind top second second third out middle next (λ t. clause_code s here later c) (λ t. close_code kind t cs)
    (opens_closed kind top second out middle (clause_code s here later c) (λ t. clause_code s here later c) p (λ t i. refl)) q)
    (λ t. clauses_are s kind here later t c cs is)
