-- What is passed: one argument, and then the others.
use Rattle.std.proofs.Common.{◌≡◌, ℕ, ◌+◌, ◌≤◌, Bool, List, [], ◌∷◌, ◌++◌, length, refl, ap, ap₂, ◌∙◌, arith, length-append}
use Rattle.std.specs.Prelude.{max}
use Rattle.edi_store.specs.Memory.{words_at}
use Rattle.edi_unit.specs.Types.{Shape}
use Rattle.edi_unit.specs.Tree as tree
use Rattle.edi_unit.specs.Tree.{Argument, Arguments, Acts, Block}
use Rattle.edi_unit.specs.Need.{argument_words, arguments_height}
use Rattle.edi_unit.specs.Fits.{ArgumentsFit}
use Rattle.edi_unit.specs.Headings.{Formals, no_formal, value_then, variable_then, procedure_then}
use Rattle.edi_meaning.specs.Store as meaning
use Rattle.edi_meaning.specs.Store.{Cell, now}
use Rattle.edi_meaning.specs.Evaluation.{World, Evaluation, gives, ◌>>=◌}
use Rattle.edi_meaning.specs.Whole.{argument, arguments}
use Rattle.edi_scheme.specs.Stands as code
use Rattle.edi_follows.proofs.values.Reading.{words_at-append}
use Rattle.edi_follows.specs.places.Coded.{Coded, entry}
use Rattle.edi_follows.specs.places.Spots.{frames_end, cell_words, cells_words}
use Rattle.edi_follows.specs.places.Scene.{Scene, here, Stands, Able, After, Does}
use Rattle.edi_follows.specs.places.Claims.{Passed, CellsFit}
use Rattle.edi_follows.specs.places.Constructs.{Xs}
use Rattle.edi_follows.proofs.places.Doing.{bind_up, give, stands_after}
use Rattle.edi_follows.proofs.places.Binding.{at_same}
use Rattle.edi_follows.proofs.places.Steps.{operands_stay}

-- ---- heights

-- what is as high above fewer words is no higher above more
heights : (types : List Shape) (blocks : List Block) (b n : ℕ) (xs : Arguments) (before all : ℕ) → all ≡ n + before →
    n + arguments_height types blocks b before xs ≤ max n (arguments_height types blocks b all xs)
heights types blocks b n tree.no_argument before all is = omega arith
heights types blocks b n (tree.argument_then x xs) before all is =
    let rest = heights types blocks b n xs (before + argument_words types blocks b x) (all + argument_words types blocks b x) (omega (arith, is)) in
    omega (arith, rest, is)

module _ (g : Coded) (s : Scene) (F : meaning.Shape) where
  -- an argument of so many words, from u on, of which this holds
  pub record Handed (to u n : ℕ) (Good : Cell → Type 0) (c : Cell) (m : List ℕ) (pc top : ℕ) : Type 0 where
    pub pc_is : pc ≡ to
    pub top_is : top ≡ u + n
    pub long : length (cell_words g s.first F c) ≡ n
    pub words : words_at m u n ≡ cell_words g s.first F c
    pub good : Good c

module _ (g : Coded) (s : Scene) (deeper : Acts → World → Evaluation (Unit {0})) (bound : ℕ) where
  -- ---- no argument

  pub no_argument_does : Xs g s deeper bound tree.no_argument
  no_argument_does formals F pc to t held w m turns st fits able = none formals fits
    where
      none : (formals : Formals) → ArgumentsFit g.unit.types g.unit.blocks g.fits.headings (here g s F) tree.no_argument formals →
          Does g s F pc t t held w m (Passed g s F formals to t) (gives [] w)
      none no_formal is =
          give g s F pc t t held w m (Passed g s F no_formal to t) [] able.stands (omega arith) (omega (arith, able.high))
          (record { pc_is = st; top_is = omega arith; words = refl; cells_fit = tt })
      none (value_then u fs) is = absurd is
      none (variable_then u fs) is = absurd is
      none (procedure_then h fs) is = absurd is

  -- ---- an argument, and the others

  module _ (x : Argument) (xs : Arguments) (rest : Xs g s deeper bound xs) (formals others : Formals) (F : meaning.Shape) (pc a to t held : ℕ)
      (w : World) (m : List ℕ) (Good : Cell → Type 0)
      (turns : w.turns ≤ bound)
      (st : code.AreArguments g.fetched g.unit.types g.unit.blocks (entry g) (here g s F) xs a to)
      (fits : ArgumentsFit g.unit.types g.unit.blocks g.fits.headings (here g s F) xs others)
      (able : Able g s F w m t (arguments_height g.unit.types g.unit.blocks (here g s F) 0 (tree.argument_then x xs)) held)
      (both : (c : Cell) (cs : List Cell) → Good c → CellsFit g s F (now F s.name) others cs → CellsFit g s F (now F s.name) formals (c ∷ cs)) where
    abbrev n : ℕ
    n = argument_words g.unit.types g.unit.blocks (here g s F) x

    abbrev height : ℕ
    height = arguments_height g.unit.types g.unit.blocks (here g s F) 0 xs

    -- there is room for the others
    room : t + n ≤ frames_end s.first F s.name → t + n + height ≤ frames_end s.first F s.name
    room up =
        let more = heights g.unit.types g.unit.blocks (here g s F) n xs 0 (0 + n) (omega arith) in
        omega (arith, up, able.high, more)

    -- both together
    together : (c : Cell) (cs : List Cell) (v z : World) (m' m'' : List ℕ) (top : ℕ) (k : Bool) → Stands g s F v m' → After g s F v z m' m'' (t + n) k →
        t + n ≤ frames_end s.first F s.name → Handed g s F a t n Good c m' a (t + n) → Passed g s F others to (t + n) cs m'' to top →
        Passed g s F formals to t (c ∷ cs) m'' to top
    together c cs v z m' m'' top k stood after up first last =
        let one : List ℕ = cell_words g s.first F c in
        let more : List ℕ = cells_words g s.first F cs in
        let long : length (one ++ more) ≡ n + length more = length-append one more ∙ ap (λ j. j + length more) first.long in
        record {
          pc_is = refl;
          top_is = omega (arith, last.top_is, long);
          words =
              ap (words_at m'' t) long ∙ words_at-append m'' t n (length more)
              ∙ ap₂ (λ xs ys. xs ++ ys) (operands_stay g s F v z m' m'' t n (t + n) k stood after able.low (omega arith) up ∙ first.words) last.words;
          cells_fit = both c cs first.good last.cells_fit;
        }

    pub then_does : Does g s F pc t t held w m (Handed g s F a t n Good) (argument g.unit s.name (s.size s.name) deeper x w) →
        Does g s F pc t t held w m (Passed g s F formals to t) (arguments g.unit s.name (s.size s.name) deeper (tree.argument_then x xs) w)
    then_does does =
        bind_up g s Cell F pc t t t held w m (List Cell) (Handed g s F a t n Good) (Passed g s F formals to t)
        (argument g.unit s.name (s.size s.name) deeper x w)
        (λ x w. arguments g.unit s.name (s.size s.name) deeper xs w >>= λ xs w. gives (x ∷ xs) w) (omega arith) does
        (λ c v m' pc' top' k le up after first.
        let at : pc' ≡ a = first.pc_is in
        let up' : t + n ≤ frames_end s.first F s.name = omega (arith, up, first.top_is) in
        let stood : Stands g s F v m' = stands_after g s F w v m m' t k able.stands after in
        at_same g s (List Cell) (Passed g s F formals to t) (arguments g.unit s.name (s.size s.name) deeper xs v >>= λ xs w. gives (c ∷ xs) w) F a pc'
        (t + n) top' t held v m' at first.top_is
        (bind_up g s (List Cell) F a (t + n) t (t + n) held v m' (List Cell) (Passed g s F others to (t + n)) (Passed g s F formals to t)
        (arguments g.unit s.name (s.size s.name) deeper xs v) (λ xs w. gives (c ∷ xs) w) (omega arith)
        (rest others F a to (t + n) held v m' (omega (arith, after.turns, turns)) st fits
        (record { stands = stood; low = omega (arith, able.low); high = room up'; few = able.few }))
        (λ cs z m'' pc'' top'' k' le' up'' later last.
        at_same g s (List Cell) (Passed g s F formals to t) (gives (c ∷ cs) z) F to pc'' top'' top'' t held z m'' last.pc_is refl
        (give g s F to top'' t held z m'' (Passed g s F formals to t) (c ∷ cs) (stands_after g s F v z m' m'' (t + n) k' stood later) (omega (arith, le')) up''
        (together c cs v z m' m'' top'' k' stood later up'
        (record { pc_is = refl; top_is = refl; long = first.long; words = first.words; good = first.good })
        (record { pc_is = refl; top_is = last.top_is; words = last.words; cells_fit = last.cells_fit }))))))
