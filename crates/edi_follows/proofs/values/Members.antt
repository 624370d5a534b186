-- The members of a set, each joined to it as soon as it is evaluated.
use Rattle.std.proofs.Common.{◌≡◌, ℕ, ◌+◌, ◌<◌, ◌≤◌, Bool, true, false, List, length, max, Option, Some, None, refl, sym, subst, ap, ◌∙◌, arith}
use Rattle.std.specs.Prelude.{IfSome, IsTrue, nat_lt}
use Rattle.std.specs.Option.{option_map}
use Rattle.edi_calls.specs.declared.kinds.Cause.TheVariants as cause
use Rattle.edi_store.specs.Memory.{words_at}
use Rattle.edi_word.specs.SetWords.{IsOrdinalSet, words_of_members}
use Rattle.edi_unit.specs.Types as types
use Rattle.edi_unit.specs.Types.{is_elementary, size}
use Rattle.edi_unit.specs.Tree as tree
use Rattle.edi_unit.specs.Tree.{Expression, Expressions, Acts}
use Rattle.edi_unit.specs.Values.{with_ordinal, ordinal_of}
use Rattle.edi_unit.specs.Need.{expression_type, expression_height, members_height}
use Rattle.edi_meaning.specs.Store.{Shape}
use Rattle.edi_meaning.specs.Evaluation.{World, Evaluation, ◌>>=◌}
use Rattle.edi_meaning.specs.Whole as whole
use Rattle.edi_meaning.specs.Whole.{expression, members_of}
use Rattle.edi_target.specs.Op as op
use Rattle.edi_target.specs.Effect.{Local}
use Rattle.edi_target.specs.Perform as perform
use Rattle.edi_follows.proofs.values.Lengths.{length-words_of_members}
use Rattle.edi_follows.specs.values.Operated.{word_of, joined}
use Rattle.edi_follows.proofs.values.Checks.{member_follows}
use Rattle.edi_follows.specs.places.Coded.{Coded}
use Rattle.edi_follows.specs.places.Spots.{frames_end}
use Rattle.edi_follows.specs.places.Scene.{Scene, here, base_of, Stands, Able, After, Does, local_at}
use Rattle.edi_follows.specs.places.Claims.{PushedSet}
use Rattle.edi_follows.specs.places.Constructs.{E, Ms}
use Rattle.edi_follows.specs.places.Instructions.{Instructed, effect}
use Rattle.edi_follows.proofs.places.Doing.{stands_after, give}
use Rattle.edi_follows.proofs.places.Instructed.{instructed}
use Rattle.edi_follows.proofs.places.Binding.{bind_value, at_same}
use Rattle.edi_follows.proofs.values.Unary.{table_of, known_type, pushes_or_fails, Lone, lone}

joins : (line next x : ℕ) (ws : List ℕ) (l : Local) → perform.joined line next x ws l ≡ pushes_or_fails line next (joined ws x) l
joins line next x ws l = go (nat_lt x 128) refl
  where
    go : (b : Bool) → nat_lt x 128 ≡ b → perform.joined line next x ws l ≡ pushes_or_fails line next (joined ws x) l
    go true e = rw e refl
    go false e = rw e refl

module _ (g : Coded) (s : Scene) (deeper : Acts → World → Evaluation (Unit {0})) (bound : ℕ) where
  i : Instructed g s
  i = instructed g s

  abbrev ts : List types.Shape
  ts = g.unit.types

  pub no_member_does : Ms g s deeper bound tree.no_expression
  no_member_does base line set F pc to t held w m less stands have elementary fits able so_far =
      give g s F pc (t + 8) t held w m (PushedSet g s to t) set able.stands (omega arith) able.high
      (record { pc_is = stands; top_is = refl; words = so_far.words; ordinal = so_far.ordinal })

  -- MEMBER, and the members behind it
  joined_then : (es : Expressions) (line next to pc t top held : ℕ) (p : Option (List ℕ)) (F : Shape) (w : World) (m : List ℕ) →
      Stands g s F w m → g.fetched pc ≡ Some (op.member line, next) → base_of g s F ≤ t → t + 8 ≤ frames_end s.first F s.name →
      effect g s (op.member line) next (local_at s F m pc top held) ≡ pushes_or_fails line next (option_map words_of_members p) (local_at s F m pc t held) →
      IfSome p IsOrdinalSet →
      ((set : List ℕ) (z : World) (m' : List ℕ) → After g s F w z m m' t false → z.turns ≤ w.turns → PushedSet g s next t set m' next (t + 8) →
      Does g s F next (t + 8) t held z m' (PushedSet g s to t) (members_of g.unit s.name (s.size s.name) deeper set es line z)) →
      Does g s F pc top t held w m (PushedSet g s to t) (whole.in_range line p w >>= λ set w. members_of g.unit s.name (s.size s.name) deeper set es line w)
  joined_then es line next to pc t top held None F w m h at low high is ordinals go =
      i.fails_at (List ℕ) (PushedSet g s to t) F (op.member line) pc next top t held w m cause.Range line at is
  joined_then es line next to pc t top held (Some more) F w m h at low high is ordinals go =
      let eight : length (words_of_members more) ≡ 8 = length-words_of_members more in
      let higher : t + length (words_of_members more) ≡ t + 8 = ap (λ n. t + n) eight in
      i.pushes_then (List ℕ) (PushedSet g s to t) (members_of g.unit s.name (s.size s.name) deeper more es line w) F
      (op.member line) pc next top t t held w m (words_of_members more) h at is
      (omega arith) low (omega (arith, high, eight)) (λ m' after words.
      at_same g s (List ℕ) (PushedSet g s to t) (members_of g.unit s.name (s.size s.name) deeper more es line w) F next next (t + 8)
      (t + length (words_of_members more)) t held w m' refl higher
      (go more w m' after (omega arith) (record { pc_is = refl; top_is = refl; words = ap (words_at m' t) (sym eight) ∙ words; ordinal = ordinals })))

  pub member_then_does : (e : Expression) (es : Expressions) → E g s deeper bound e → Ms g s deeper bound es → Ms g s deeper bound (tree.expression_then e es)
  member_then_does e es claim rest base line set F pc to t held w m less stands have elementary fits able so_far =
      let k : ℕ = expression_type ts g.unit.blocks (here g s F) e in
      let up : ℕ = t + 8 in
      let h0 : ℕ = expression_height ts g.unit.blocks (here g s F) e in
      let hs : ℕ = members_height ts g.unit.blocks (here g s F) es in
      bind_value g s (List ℕ) (PushedSet g s to t) (expression g.unit s.name (s.size s.name) deeper e w)
      (λ v w. whole.in_range line (with_ordinal set (ordinal_of v)) w >>= λ set w. members_of g.unit s.name (s.size s.name) deeper set es line w)
      F pc stands.0 up t up held k w m (omega arith)
      (claim F pc stands.0 up held w m less stands.2 fits.0 (i.able_above F w m t (max (8 + h0) hs) up h0 held able (omega arith) (omega arith)))
      (λ v z m' c high after post.
      let h : Stands g s F z m' = stands_after g s F w z m m' up c able.stands after in
      let known : k < length ts = known_type g s deeper bound F w m e able.stands fits.0 in
      let elementary' : IsTrue (is_elementary ts k) = subst (λ n. IsTrue (is_elementary ts n)) (sym have.0) elementary in
      let a : Lone g v m' up k = lone g s v m' up k known elementary' post.typed post.words in
      let stays : words_at m' t 8 ≡ words_of_members set = i.operands_stay F w z m m' t 8 up c able.stands after able.low (omega arith)
      (omega (arith, high)) ∙ so_far.words in
      let follows = member_follows ts (table_of g) v k set known elementary' post.typed so_far.ordinal in
      joined_then es line stands.1 to stands.0 t (up + size ts k) held (with_ordinal set (ordinal_of v)) F z m' h stands.3 able.low (omega (arith, high))
      (i.member_is F m' (words_of_members set) line stands.1 (word_of v) stands.0 t (up + size ts k) held able.low (omega (arith, a.size_is)) stays a.word_is
      ∙ joins line stands.1 (word_of v) (words_of_members set) (local_at s F m' stands.0 t held)
      ∙ ap (λ o. pushes_or_fails line stands.1 o (local_at s F m' stands.0 t held)) follows.0)
      follows.1 (λ more y m'' after' turns so.
      rest base line more F stands.1 to t held y m'' (omega (arith, less, after.turns, turns)) stands.4 have.1 elementary fits.1
      (able_of F y m'' t held able (stands_after g s F z y m' m'' t false h after') hs (omega arith)) so))
    where
      able_of : (F : Shape) (y : World) (m'' : List ℕ) (t held : ℕ) {w : World} {m : List ℕ} {n : ℕ} → Able g s F w m t n held → Stands g s F y m'' →
          (k : ℕ) → k ≤ n → Able g s F y m'' t k held
      able_of F y m'' t held able stands k le = record { stands = stands; low = able.low; high = omega (arith, able.high, le); few = able.few }
