-- The choice of a clause outside of critical phases: conditions are evaluated one after another, until one is true.
use Rattle.std.proofs.Common.{◌≡◌, ℕ, suc, ◌+◌, ◌<◌, ◌≤◌, Bool, true, false, if◌then◌else◌, List, [], ◌∷◌, length, Option, Some, None, refl, sym, subst, ap}
use Rattle.std.proofs.Common.{◌∙◌, arith}
use Rattle.std.specs.Prelude.{not, nat_eq}
use Rattle.edi_unit.specs.Types.{bool_type, size}
use Rattle.edi_unit.specs.Values.{Value, IsOf, is_true}
use Rattle.edi_unit.specs.Tree as tree
use Rattle.edi_unit.specs.Tree.{Expression, Acts, Clauses}
use Rattle.edi_unit.specs.Need.{expression_type, expression_height, acts_height, clauses_height}
use Rattle.edi_unit.specs.Fits.{ExpressionFits, ActsFit, ClausesFit}
use Rattle.edi_meaning.specs.Store.{Shape}
use Rattle.edi_meaning.specs.Evaluation.{World, gives}
use Rattle.edi_meaning.specs.Whole.{levels_of, expression, whole_condition}
use Rattle.edi_meaning.specs.Step.{chosen}
use Rattle.edi_target.specs.Op as op
use Rattle.edi_target.specs.Memory.{word}
use Rattle.edi_target.specs.Effect as effect
use Rattle.edi_scheme.specs.Pieces.{ClauseKind, close_code}
use Rattle.edi_scheme.specs.Stands as code
use Rattle.edi_scheme.proofs.Lengths.{close_length}
use Rattle.edi_scheme.specs.Sites.{Site, statements, nth_list}
use Rattle.edi_follows.specs.values.Words.{IsTable, value_words}
use Rattle.edi_follows.proofs.values.Lengths.{values_are_long}
use Rattle.edi_follows.proofs.values.Alone.{truth_is_word}
use Rattle.edi_follows.proofs.values.Alone.{truth_is_tested}
use Rattle.edi_follows.specs.places.Coded.{Coded, entry}
use Rattle.edi_follows.specs.places.Scene.{Scene, here, base_of, Able, After, Does}
use Rattle.edi_follows.specs.places.Claims.{Pushed}
use Rattle.edi_follows.specs.places.Constructs.{Constructs}
use Rattle.edi_follows.specs.places.Instructions.{Instructed}
use Rattle.edi_follows.proofs.places.Doing.{give, bind, stands_after}
use Rattle.edi_follows.proofs.places.Knot.{expression_does, run_does}
use Rattle.edi_follows.proofs.places.Rises.{one_up, acts_up, codes_up}
use Rattle.edi_follows.proofs.places.Long.{one_long, codes_long, expression_long, acts_long}

word_of_truth : (b : Bool) → nat_eq (effect.truth b) 0 ≡ not b
word_of_truth true = refl
word_of_truth false = refl

-- where the process goes on, without operands, behind a choice
pub record Went (g : Coded) (s : Scene) (F : Shape) (Q : Option (Acts × ℕ) → ℕ → Type 0) (c : Option (Acts × ℕ)) (m : List ℕ) (pc top : ℕ) : Type 0 where
  pub top_is : top ≡ base_of g s F
  pub so : Q c pc

module _ (g : Coded) (s : Scene) (all : Constructs g s) (i : Instructed g s) (F : Shape) (kind : ClauseKind) (target to height : ℕ)
    (Q : Option (Acts × ℕ) → ℕ → Type 0)
    (none : Q None to)
    (place : ℕ → Site)
    (some : (list : Acts) (n pc end next : ℕ) (rest : Clauses) → place n ≡ statements list pc → code.AreActs g.fetched g.unit.types g.unit.blocks (entry g) (here g s F) list pc end →
    code.AreInstructions g.fetched (close_code kind target rest) end next →
    code.AreClauses g.fetched g.unit.types g.unit.blocks (entry g) (here g s F) kind target rest next to →
    ActsFit g.unit.types g.unit.blocks g.fits.headings (here g s F) list →
    acts_height g.unit.types g.unit.blocks (here g s F) list ≤ height → Q (Some (list, n)) pc) where
  abbrev base : ℕ
  base = base_of g s F

  table : IsTable g.unit.types
  table = record { table = g.fits.table; shapes = g.fits.shapes; parts = g.parts }

  -- the word of a condition's value stands above
  pub record Tested (at : ℕ) (b : Bool) (m : List ℕ) (pc top : ℕ) : Type 0 where
    pub pc_is : pc ≡ at
    pub top_is : top ≡ base + 1
    pub tests : nat_eq (word m base) 0 ≡ not b

  -- a value of `bool` above the variables
  tested : (of at : ℕ) (v : Value) (m : List ℕ) (pc top : ℕ) → of ≡ bool_type → Pushed g s of at base v m pc top → Tested at (is_true v) m pc top
  tested of at v m pc top e h =
      let known : bool_type < length g.unit.types = (truth_is_word g.unit.types table (is_true v)).1 in
      let typed : IsOf g.unit.types v bool_type = subst (IsOf g.unit.types v) e h.typed in
      let words : value_words v ≡ effect.truth (is_true v) ∷ [] =
      ap value_words (truth_is_tested g.unit.types table v typed).1 ∙ (truth_is_word g.unit.types table (is_true v)).0 in
      let one : size g.unit.types bool_type ≡ 1 = sym (values_are_long g.unit.types table v bool_type known typed) ∙ ap length words in
      let sized : size g.unit.types of ≡ 1 = ap (size g.unit.types) e ∙ one in
      record {
        pc_is = h.pc_is;
        top_is = h.top_is ∙ ap (λ n. base + n) sized;
        tests = ap (λ n. nat_eq n 0) (i.word_is m [] (effect.truth (is_true v)) base (size g.unit.types of) (h.words ∙ words)) ∙ word_of_truth (is_true v);
      }

  -- a condition
  condition : (e : Expression) (pc at : ℕ) (w : World) (m : List ℕ) →
      code.IsExpression g.fetched g.unit.types g.unit.blocks (entry g) (here g s F) e pc at →
      (expression_type g.unit.types g.unit.blocks (here g s F) e ≡ bool_type) × ExpressionFits g.unit.types g.unit.blocks g.fits.headings (here g s F) e →
      Able g s F w m base (expression_height g.unit.types g.unit.blocks (here g s F) e) 0 →
      Does g s F pc base base 0 w m (Tested at) (whole_condition g.unit s.name (s.size s.name) e w)
  condition e pc at w m st fits able =
      bind g s F pc base base 0 w m (Pushed g s (expression_type g.unit.types g.unit.blocks (here g s F) e) at base) (Tested at)
      (expression g.unit s.name (s.size s.name) (levels_of g.unit s.name (s.size s.name) w.turns) e w) (λ v u. gives (is_true v) u)
      (expression_does g s all (levels_of g.unit s.name (s.size s.name) w.turns) w.turns (run_does g s all w.turns) e F pc at base 0 w m
      (omega arith) st fits.1 able)
      (λ v u m' pc' top' c le within after post.
      give g s F pc' top' base 0 u m' (Tested at) (is_true v) (stands_after g s F w u m m' base c able.stands after) le within
      (tested (expression_type g.unit.types g.unit.blocks (here g s F) e) at v m' pc' top' fits.0 post))

  -- the clauses from number n on stand where they are to stand
  abbrev pub Placed : Clauses → (n pc : ℕ) → Type 0
  Placed cs n pc = (k j : ℕ) → j ≡ n + k → place j ≡ nth_list g.unit.types g.unit.blocks (here g s F) kind cs pc k

  -- the list of the first, and the clauses behind it
  first_placed : (e : Expression) (list : Acts) (cs : Clauses) (n pc end next : ℕ) → Placed (tree.clause_then (tree.clause e list) cs) n pc →
      (c : code.IsClause g.fetched g.unit.types g.unit.blocks (entry g) (here g s F) (tree.clause e list) next pc end) → place n ≡ statements list c.1
  first_placed e list cs n pc end next h c =
      h 0 n (omega arith)
      ∙ ap (statements list) (omega (arith, expression_long g (here g s F) e pc c.0 c.2, one_long g c.0 (op.false_ next) c.1 c.3))

  rest_placed : (e : Expression) (list : Acts) (cs : Clauses) (n pc end next : ℕ) → Placed (tree.clause_then (tree.clause e list) cs) n pc →
      code.IsClause g.fetched g.unit.types g.unit.blocks (entry g) (here g s F) (tree.clause e list) next pc end →
      code.AreInstructions g.fetched (close_code kind target cs) end next → Placed cs (suc n) next
  rest_placed e list cs n pc end next h c close k j is =
      h (suc k) j (omega (arith, is))
      ∙ ap (λ x. nth_list g.unit.types g.unit.blocks (here g s F) kind cs x k) (omega (
        arith,
        expression_long g (here g s F) e pc c.0 c.2,
        one_long g c.0 (op.false_ next) c.1 c.3,
        acts_long g (here g s F) list c.1 end c.4,
        codes_long g (close_code kind target cs) end next close,
        (close_length kind target cs).is,
      ))

  -- the clauses, numbered from n
  pub choice_does : (cs : Clauses) (n pc : ℕ) (w : World) (m : List ℕ) → Placed cs n pc →
      code.AreClauses g.fetched g.unit.types g.unit.blocks (entry g) (here g s F) kind target cs pc to →
      ClausesFit g.unit.types g.unit.blocks g.fits.headings (here g s F) cs →
      clauses_height g.unit.types g.unit.blocks (here g s F) cs ≤ height →
      Able g s F w m base (clauses_height g.unit.types g.unit.blocks (here g s F) cs) 0 →
      Does g s F pc base base 0 w m (Went g s F Q) (chosen g.unit s.name (s.size s.name) cs n w)
  choice_does tree.no_clause n pc w m placed st fits fit able =
      give g s F pc base base 0 w m (Went g s F Q) None able.stands (omega arith) (omega (arith, able.high))
      (record { top_is = refl; so = subst (Q None) (sym st) none })
  choice_does (tree.clause_then (tree.clause e list) cs) n pc w m placed st fits fit able =
      bind g s F pc base base 0 w m (Tested st.2.0) (Went g s F Q) (whole_condition g.unit s.name (s.size s.name) e w)
      (λ holds u. if holds then gives (Some (list, n)) u else chosen g.unit s.name (s.size s.name) cs (suc n) u)
      (condition e pc st.2.0 w m st.2.2 (fits.0.0, fits.0.1)
      (i.able_above F w m base _ base (expression_height g.unit.types g.unit.blocks (here g s F) e) 0 able (omega arith) (omega arith)))
      (λ holds u m' pc' top' c le within after post. tests holds u m' pc' top' c after post
      (choice_does cs (suc n) st.1 u m' (rest_placed e list cs n pc st.0 st.1 placed st.2 st.3) st.4 fits.1 (omega (arith, fit))
      (i.able_then F w u m m' base _ base (clauses_height g.unit.types g.unit.blocks (here g s F) cs) base 0 c able after (omega arith) (omega arith))))
    where
      tests : (holds : Bool) (u : World) (m' : List ℕ) (pc' top' : ℕ) (c : Bool) → After g s F w u m m' base c → Tested st.2.0 holds m' pc' top' →
          Does g s F st.1 base base 0 u m' (Went g s F Q) (chosen g.unit s.name (s.size s.name) cs (suc n) u) →
          Does g s F pc' top' base 0 u m' (Went g s F Q) (if holds then gives (Some (list, n)) u else chosen g.unit s.name (s.size s.name) cs (suc n) u)
      tests holds u m' pc' top' c after post rest =
          i.goes_then (Option (Acts × ℕ)) (Went g s F Q) (if holds then gives (Some (list, n)) u else chosen g.unit s.name (s.size s.name) cs (suc n) u) F
          (op.false_ st.1) pc' st.2.1
          (if nat_eq (word m' base) 0 then st.1 else st.2.1) top' base base 0 u m' (ap g.fetched post.pc_is ∙ st.2.3)
          (i.false_is F m' st.1 st.2.1 (word m' base) pc' base top' 0 ahead (omega arith) post.top_is refl)
          (subst (λ z. Does g s F (if z then st.1 else st.2.1) base base 0 u m' (Went g s F Q)
          (if holds then gives (Some (list, n)) u else chosen g.unit s.name (s.size s.name) cs (suc n) u)) (sym post.tests)
          (both holds rest))
        where
          ahead : pc' < st.1
          ahead = omega (
            arith,
            post.pc_is,
            one_up g st.2.0 (op.false_ st.1) st.2.1 st.2.3,
            acts_up g (here g s F) list st.2.1 st.0 st.2.4,
            codes_up g (close_code kind target cs) st.0 st.1 st.3,
          )

          both : (holds : Bool) → Does g s F st.1 base base 0 u m' (Went g s F Q) (chosen g.unit s.name (s.size s.name) cs (suc n) u) →
              Does g s F (if not holds then st.1 else st.2.1) base base 0 u m' (Went g s F Q)
              (if holds then gives (Some (list, n)) u else chosen g.unit s.name (s.size s.name) cs (suc n) u)
          both true rest =
              give g s F st.2.1 base base 0 u m' (Went g s F Q) (Some (list, n)) (stands_after g s F w u m m' base c able.stands after) (omega arith)
              (omega (arith, able.high))
              (record { top_is = refl; so = some list n st.2.1 st.0 st.1 cs (first_placed e list cs n pc st.0 st.1 placed st.2) st.2.4 st.3 st.4 fits.0.2 (omega (arith, fit)) })
          both false rest = rest
