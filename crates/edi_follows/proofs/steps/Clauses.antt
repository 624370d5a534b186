-- Conditions and their lists: FALSE leads to the next condition, and a list that was executed is left by what closes it.
use Rattle.std.proofs.Common.{◌≡◌, ℕ, ◌+◌, ◌<◌, ◌≤◌, Bool, true, false, not, if◌then◌else◌, List, [], Some, refl, sym, subst, ap, ◌∙◌, arith}
use Rattle.std.specs.Prelude.{nat_eq}
use Rattle.edi_unit.specs.Types.{bool_type, size}
use Rattle.edi_unit.specs.Tree as tree
use Rattle.edi_unit.specs.Tree.{Expression, Act, Acts, Clauses}
use Rattle.edi_unit.specs.Values.{Value, IsOf, is_true}
use Rattle.edi_unit.specs.Need.{expression_type, expression_height, acts_height, clauses_height}
use Rattle.edi_unit.specs.Fits.{ExpressionFits, ActsFit}
use Rattle.edi_meaning.specs.Store.{Shape}
use Rattle.edi_meaning.specs.Evaluation.{World, Evaluation, gives, ◌>>=◌}
use Rattle.edi_meaning.specs.Whole.{expression, acts, first, guarded}
use Rattle.edi_target.specs.Op as op
use Rattle.edi_target.specs.Memory.{word}
use Rattle.edi_target.specs.Effect.{goes}
use Rattle.edi_scheme.specs.Pieces.{once, close_code}
use Rattle.edi_scheme.specs.Stands as code
use Rattle.edi_follows.specs.values.Words.{IsTable}
use Rattle.edi_follows.specs.values.Operated.{word_of, IsAlone}
use Rattle.edi_follows.proofs.values.Alone.{elementary_is_alone, standard_known, bool_elementary, truth_is_tested}
use Rattle.edi_follows.specs.places.Coded.{Coded, entry}
use Rattle.edi_follows.specs.places.Spots.{frames_end}
use Rattle.edi_follows.specs.places.Scene.{Scene, here, Stands, Able, Does, local_at}
use Rattle.edi_follows.specs.places.Claims.{Pushed, Ran, TriedSo, Tried}
use Rattle.edi_follows.specs.places.Constructs.{E, A, As, Cs}
use Rattle.edi_follows.specs.places.Instructions.{Instructed, effect}
use Rattle.edi_follows.proofs.places.Doing.{stands_after, give, bind}
use Rattle.edi_follows.proofs.places.Rises.{one_up, codes_up, acts_up, clauses_up}
use Rattle.edi_follows.proofs.places.Instructed.{instructed}
use Rattle.edi_follows.proofs.places.Binding.{bind_value, at_same}

-- where a clause leaves the process: behind its list, or at the next clause
abbrev GuardedSo : (end next : ℕ) → Bool → (pc : ℕ) → Type 0
GuardedSo end next true pc = pc ≡ end
GuardedSo end next false pc = pc ≡ next

record Guarded (end next t : ℕ) (ran : Bool) (m : List ℕ) (pc top : ℕ) : Type 0 where
  top_is : top ≡ t
  so : GuardedSo end next ran pc

module _ (g : Coded) (s : Scene) (deeper : Acts → World → Evaluation (Unit {0})) (bound : ℕ) where
  i : Instructed g s
  i = instructed g s

  table : IsTable g.unit.types
  table = record { table = g.fits.table; shapes = g.fits.shapes; parts = g.parts }

  abbrev kind_of : Shape → Expression → ℕ
  kind_of F e = expression_type g.unit.types g.unit.blocks (here g s F) e

  abbrev value_of : Expression → World → Evaluation Value
  value_of e w = expression g.unit s.name (s.size s.name) deeper e w

  abbrev list_of : Acts → World → Evaluation (Unit {0})
  list_of as' w = acts g.unit s.name (s.size s.name) deeper as' w

  abbrev first_of : Clauses → World → Evaluation Bool
  first_of cs w = first g.unit s.name (s.size s.name) deeper cs w

  -- ---- the word of a condition

  module _ (F : Shape) (e : Expression) (x : Value) (m : List ℕ) (at t top : ℕ) (is : kind_of F e ≡ bool_type)
      (post : Pushed g s (kind_of F e) at t x m at top) where
    typed : IsOf g.unit.types x bool_type
    typed = subst (IsOf g.unit.types x) is post.typed

    alone : IsAlone g.unit.types x bool_type
    alone = elementary_is_alone g.unit.types table x bool_type (standard_known g.unit.types table 2 (omega arith)) (bool_elementary g.unit.types table) typed

    one_word : size g.unit.types (kind_of F e) ≡ 1
    one_word = ap (size g.unit.types) is ∙ alone.size_is

    word_there : word m t ≡ word_of x
    word_there = i.word_is m [] (word_of x) t (size g.unit.types (kind_of F e)) (post.words ∙ alone.words)

    tested : nat_eq (word_of x) 0 ≡ not (is_true x)
    tested = (truth_is_tested g.unit.types table x typed).0

  -- ---- one clause

  module _ (e : Expression) (as' : Acts) (claim : E g s deeper bound e) (list : As g s deeper bound as')
      (F : Shape) (pc test list_at end next t held : ℕ) (w : World) (m : List ℕ) (less : w.turns ≤ bound) (some : 0 < held)
      (condition : code.IsExpression g.fetched g.unit.types g.unit.blocks (entry g) (here g s F) e pc test)
      (at : g.fetched test ≡ Some (op.false_ next, list_at))
      (body : code.AreActs g.fetched g.unit.types g.unit.blocks (entry g) (here g s F) as' list_at end)
      (is : kind_of F e ≡ bool_type) (fits : ExpressionFits g.unit.types g.unit.blocks g.fits.headings (here g s F) e)
      (fit : ActsFit g.unit.types g.unit.blocks g.fits.headings (here g s F) as') (h : ℕ) (able : Able g s F w m t h held)
      (high : expression_height g.unit.types g.unit.blocks (here g s F) e ≤ h)
      (higher : acts_height g.unit.types g.unit.blocks (here g s F) as' ≤ h) (ahead : test < next) where
    -- behind the condition
    module _ (x : Value) (v : World) (m' : List ℕ) (post : Pushed g s (kind_of F e) test t x m' test (t + size g.unit.types (kind_of F e)))
        (able' : Able g s F v m' t h held) (less' : v.turns ≤ bound) where
      abbrev top : ℕ
      top = t + size g.unit.types (kind_of F e)

      abbrev Goes : ℕ → Type 0
      Goes there = effect g s (op.false_ next) list_at (local_at s F m' test top held) ≡ goes (local_at s F m' there t held)

      goes_to : (b : Bool) → is_true x ≡ b → Goes (if not b then next else list_at)
      goes_to b is_so =
          i.false_is F m' next list_at (word_of x) test t top held ahead able'.low
          (ap (λ n. t + n) (one_word F e x m' test t top is post)) (word_there F e x m' test t top is post)
          ∙ ap (λ k. goes (local_at s F m' (if k then next else list_at) t held)) (tested F e x m' test t top is post ∙ ap not is_so)

      by_truth : (b : Bool) → is_true x ≡ b →
          Does g s F test top t held v m' (Guarded end next t) (if b then (list_of as' v >>= λ _ w. gives true w) else gives false v)
      by_truth true is_so =
          i.goes_then Bool (Guarded end next t) (list_of as' v >>= λ _ w. gives true w) F (op.false_ next) test list_at
          list_at top t t held v m' at (goes_to true is_so)
          (bind g s F list_at t t held v m' (Ran g s end t) (Guarded end next t) (list_of as' v) (λ _ w. gives true w)
          (list F list_at end t held v m' less' some body fit (i.able_above F v m' t h t _ held able' (omega arith) (omega (arith, higher))))
          (λ u z m'' pc'' top'' cl above within after' post'.
          give g s F pc'' top'' t held z m'' (Guarded end next t) true (stands_after g s F v z m' m'' t cl able'.stands after') above within
          (record { top_is = post'.top_is; so = post'.pc_is })))
      by_truth false is_so =
          i.goes_then Bool (Guarded end next t) (gives false v) F (op.false_ next) test list_at next top t t held v m' at (goes_to false is_so)
          (give g s F next t t held v m' (Guarded end next t) false able'.stands (omega arith)
          (omega (arith, able'.high)) (record { top_is = refl; so = refl }))

    guarded_does : Does g s F pc t t held w m (Guarded end next t) (guarded g.unit s.name (s.size s.name) deeper (tree.clause e as') w)
    guarded_does =
        bind_value g s Bool (Guarded end next t) (value_of e w) (λ v w. if is_true v then (list_of as' w >>= λ _ w. gives true w) else gives false w)
        F pc test t t t held (kind_of F e) w m (omega arith)
        (claim F pc test t held w m less condition fits (i.able_above F w m t h t _ held able (omega arith) (omega (arith, high))))
        (λ x v m' c within after post.
        by_truth x v m' post (i.able_then F w v m m' t h t h t held c able after (omega arith) (omega arith))
        (omega (arith, less, after.turns)) (is_true x) refl)

  -- ---- all clauses

  pub no_clause_does : Cs g s deeper bound tree.no_clause
  no_clause_does kind target F pc to t held w m less some stands fits able =
      give g s F pc t t held w m (Tried g s F kind target to t) false able.stands (omega arith)
      (omega (arith, able.high)) (record { top_is = refl; so = stands })

  pub clause_then_does : (e : Expression) (as' : Acts) (cs : Clauses) → E g s deeper bound e → As g s deeper bound as' → Cs g s deeper bound cs →
      Cs g s deeper bound (tree.clause_then (tree.clause e as') cs)
  clause_then_does e as' cs claim list others kind target F pc to t held w m less some stands fits able =
      bind g s F pc t t held w m (Guarded stands.0 stands.1 t) (Tried g s F kind target to t)
      (guarded g.unit s.name (s.size s.name) deeper (tree.clause e as') w)
      (λ ran w. if ran then gives true w else first_of cs w)
      (guarded_does e as' claim list F pc stands.2.0 stands.2.1 stands.0 stands.1 t held w m less some stands.2.2
      stands.2.3 stands.2.4 fits.0.0 fits.0.1 fits.0.2
      (clauses_height g.unit.types g.unit.blocks (here g s F) (tree.clause_then (tree.clause e as') cs)) able (omega arith) (omega arith) ahead)
      (λ ran v m' pc' top' c above within after post.
      by_ran v m' pc' top' (stands_after g s F w v m m' t c able.stands after) above within
      (i.able_then F w v m m' t (clauses_height g.unit.types g.unit.blocks (here g s F) (tree.clause_then (tree.clause e as') cs)) t
      (clauses_height g.unit.types g.unit.blocks (here g s F) cs) t held c able after (omega arith) (omega arith)) (omega (arith, less, after.turns)) ran post)
    where
      ahead : stands.2.0 < stands.1
      ahead =
          omega (
            arith,
            one_up g stands.2.0 (op.false_ stands.1) stands.2.1 stands.2.3,
            acts_up g (here g s F) as' stands.2.1 stands.0 stands.2.4,
            codes_up g (close_code kind target cs) stands.0 stands.1 stands.3,
          )

      by_ran : (v : World) (m' : List ℕ) (pc' top' : ℕ) → Stands g s F v m' → t ≤ top'
          → top' ≤ frames_end s.first F s.name
          → Able g s F v m' t (clauses_height g.unit.types g.unit.blocks (here g s F) cs) held → v.turns ≤ bound →
          (ran : Bool) → Guarded stands.0 stands.1 t ran m' pc' top'
          → Does g s F pc' top' t held v m' (Tried g s F kind target to t)
          (if ran then gives true v else first_of cs v)
      by_ran v m' pc' top' there above within able' less' true post =
          give g s F pc' top' t held v m' (Tried g s F kind target to t) true there above within (record {
            top_is = post.top_is;
            so = (cs, stands.1, subst (λ x. code.AreInstructions g.fetched (close_code kind target cs) x stands.1) (sym post.so) stands.3, stands.4);
          })
      by_ran v m' pc' top' there above within able' less' false post =
          at_same g s Bool (Tried g s F kind target to t) (first_of cs v) F stands.1 pc' t top' t held v m' post.so post.top_is
          (others kind target F stands.1 to t held v m' less' some stands.4 fits.1 able')

  -- ---- what was tried in an `if` and in a loop

  -- the list of an `if` leads behind it
  pub if_does : (cs : Clauses) → Cs g s deeper bound cs → A g s deeper bound (tree.if_act cs)
  if_does cs claim F pc to t held w m less some stands fits able =
      bind g s F pc t t held w m (Tried g s F once to to t) (Ran g s to t) (first_of cs w) (λ _ w. gives tt w)
      (claim once to F pc to t held w m less some stands fits able)
      (λ ran v m' pc' top' c above within after post.
      at_same g s (Unit {0}) (Ran g s to t) (gives tt v) F pc' pc' t top' t held v m' refl post.top_is
      (by_ran v m' pc' (stands_after g s F w v m m' t c able.stands after) (omega (arith, able.high)) ran post.so))
    where
      there : (v : World) (m' : List ℕ) (pc' : ℕ) → Stands g s F v m' → t ≤ frames_end s.first F s.name → pc' ≡ to
          → Does g s F pc' t t held v m' (Ran g s to t) (gives tt v)
      there v m' pc' h high is = give g s F pc' t t held v m' (Ran g s to t) tt h (omega arith) high (record { pc_is = is; top_is = refl })

      behind : (v : World) (m' : List ℕ) (pc' next : ℕ) → Stands g s F v m' → t ≤ frames_end s.first F s.name
          → (rest : Clauses) → code.AreInstructions g.fetched (close_code once to rest) pc' next →
          code.AreClauses g.fetched g.unit.types g.unit.blocks (entry g) (here g s F) once to rest next to
          → Does g s F pc' t t held v m' (Ran g s to t) (gives tt v)
      behind v m' pc' next h high tree.no_clause close others = there v m' pc' h high (close ∙ others)
      behind v m' pc' next h high (tree.clause_then c rest) close others =
          i.goes_then (Unit {0}) (Ran g s to t) (gives tt v) F (op.jump to) pc' next to t t t held v m' close
          (i.jumps F m' to next pc' t held
          (omega (
            arith,
            one_up g pc' (op.jump to) next close,
            clauses_up g (here g s F) once to
                (tree.clause_then c rest) next to others,
          )))
          (there v m' to h high refl)

      by_ran : (v : World) (m' : List ℕ) (pc' : ℕ) → Stands g s F v m' → t ≤ frames_end s.first F s.name → (ran : Bool)
          → TriedSo g s (here g s F) once to to ran pc' → Does g s F pc' t t held v m' (Ran g s to t) (gives tt v)
      by_ran v m' pc' h high true so = behind v m' pc' so.1 h high so.0 so.2 so.3
      by_ran v m' pc' h high false so = there v m' pc' h high so
