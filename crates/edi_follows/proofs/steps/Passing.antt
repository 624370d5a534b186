-- Calls with their arguments: the arguments are evaluated first, and then the callee is called.
use Rattle.std.proofs.Common.{◌≡◌, ℕ, ◌+◌, true, false, List, length, Option, Some, None, refl, sym, subst, ap, arith}
use Rattle.std.specs.Prelude.{IsSome, unwrap_or}
use Rattle.std.specs.Option.{option_map_or}
use Rattle.edi_unit.specs.declared.expressions.Callee.{Callee}
use Rattle.edi_unit.specs.Types.{int_type, size}
use Rattle.edi_unit.specs.Tree as tree
use Rattle.edi_unit.specs.Tree.{Acts, Arguments}
use Rattle.edi_unit.specs.Values.{Value}
use Rattle.edi_unit.specs.Need.{arguments_height, callee_result, result_words}
use Rattle.edi_unit.specs.Fits.{callee_heading}
use Rattle.edi_unit.specs.Headings.{Formals, heading_formals}
use Rattle.edi_meaning.specs.Store.{Closure, Cell, Shape}
use Rattle.edi_meaning.specs.Evaluation.{World, Evaluation, ◌>>=◌}
use Rattle.edi_meaning.specs.Whole.{meant, function_call, procedure_call, arguments}
use Rattle.edi_follows.specs.places.Coded.{Coded}
use Rattle.edi_follows.specs.places.Spots.{cells_words}
use Rattle.edi_follows.specs.places.Scene.{Scene, here, Does}
use Rattle.edi_follows.specs.places.Claims.{Pushed, Passed, Ran, FunctionClaim, ProcedureClaim}
use Rattle.edi_follows.specs.places.Constructs.{E, Xs, A}
use Rattle.edi_follows.specs.places.Instructions.{Instructed}
use Rattle.edi_follows.proofs.places.Doing.{bind}
use Rattle.edi_follows.proofs.places.Instructed.{instructed}
use Rattle.edi_follows.proofs.places.Binding.{at_same}

module _ (g : Coded) (s : Scene) (deeper : Acts → World → Evaluation (Unit {0})) (bound : ℕ) where
  i : Instructed g s
  i = instructed g s

  abbrev callee_of : Callee → World → Closure
  callee_of c w = meant g.unit s.name (s.size s.name) c w

  abbrev arguments_of : Arguments → World → Evaluation (List Cell)
  arguments_of xs w = arguments g.unit s.name (s.size s.name) deeper xs w

  abbrev asked_by : Shape → Callee → Formals
  asked_by F c = heading_formals (callee_heading g.fits.headings g.unit.blocks (here g s F) c)

  -- a function
  pub apply_does : (c : Callee) (xs : Arguments) (line : ℕ) → Xs g s deeper bound xs → FunctionClaim g s deeper bound
      → E g s deeper bound (tree.apply_of c xs line)
  apply_does c xs line claim function F pc to t held w m less stands fits able = go (callee_result g.unit.blocks (here g s F) c) refl fits.1
    where
      Call : ℕ → Type 0
      Call of = Does g s F pc t t held w m (Pushed g s of to t)
          (arguments_of xs w >>= λ cells w. function_call g.unit s.name (s.size s.name) deeper (callee_of c w) cells line w)

      go : (o : Option ℕ) → callee_result g.unit.blocks (here g s F) c ≡ o → IsSome o → Call (unwrap_or (callee_result g.unit.blocks (here g s F) c) int_type)
      go None e some = let no : false ≡ true = some in absurd (cc)
      go (Some of) e some =
          let result : result_words g.unit.types g.unit.blocks (here g s F) c ≡ size g.unit.types of = ap (λ r. option_map_or (size g.unit.types) r 0) e in
          subst Call (sym (ap (λ r. unwrap_or r int_type) e))
          (bind g s F pc t t held w m (Passed g s F (asked_by F c) stands.0 t) (Pushed g s of to t) (arguments_of xs w)
          (λ cells w. function_call g.unit s.name (s.size s.name) deeper (callee_of c w) cells line w)
          (claim (asked_by F c) F pc stands.0 t held w m less stands.1 fits.2
          (i.able_above F w m t _ t (arguments_height g.unit.types g.unit.blocks (here g s F) 0 xs) held able
          (omega arith) (omega arith)))
          (λ cells v m' pc' top' cl above within after post.
          at_same g s Value (Pushed g s of to t) _ F stands.0 pc' (t + length (cells_words g s.first F cells)) top' t held v m' post.pc_is post.top_is
          (function c of line cells F stands.0 to t held v m' (omega (arith, less, after.turns)) stands.2 fits.0 e
          (i.able_then F w v m m' t _ t (result_words g.unit.types g.unit.blocks (here g s F) c) t held cl able after (omega arith) (omega arith))
          (record { pc_is = refl; top_is = refl; words = post.words; cells_fit = post.cells_fit }))))

  -- a procedure
  pub call_does : (c : Callee) (xs : Arguments) (line : ℕ) → Xs g s deeper bound xs → ProcedureClaim g s deeper bound → A g s deeper bound (tree.call c xs line)
  call_does c xs line claim procedure F pc to t held w m less some stands fits able =
      bind g s F pc t t held w m (Passed g s F (asked_by F c) stands.0 t) (Ran g s to t) (arguments_of xs w)
      (λ cells w. procedure_call g.unit s.name (s.size s.name) deeper (callee_of c w) cells line w)
      (claim (asked_by F c) F pc stands.0 t held w m less stands.1 fits.2 able)
      (λ cells v m' pc' top' cl above within after post.
      at_same g s (Unit {0}) (Ran g s to t) _ F stands.0 pc' (t + length (cells_words g s.first F cells)) top' t held v m' post.pc_is post.top_is
      (procedure c line cells F stands.0 to t held v m' (omega (arith, less, after.turns)) some stands.2 fits.0 fits.1
      (i.able_then F w v m m' t _ t 0 t held cl able after (omega arith) (omega arith))
      (record { pc_is = refl; top_is = refl; words = post.words; cells_fit = post.cells_fit })))
