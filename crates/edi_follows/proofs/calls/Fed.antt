-- What a call of the system is fed with: the words of a value, the address of a variable for the answer, both, or nothing.
use Rattle.std.proofs.Common.{◌≡◌, ℕ, ◌<◌, ◌⊎◌, inl, inr, pos, List, [], ◌∷◌, ◌++◌, length, refl, sym, subst, ap, ◌∙◌}
use Rattle.std.proofs.lemmas.Bool.{cases_lt}
use Rattle.std.proofs.lemmas.List.{append-nil, get_or_past}
use Rattle.edi_calls.specs.Calls.{argument_words, answer_words}
use Rattle.edi_unit.specs.Types.{Shape, int, array_of, int_type, char_type, bool_type}
use Rattle.edi_unit.specs.Values.{ordinal}
use Rattle.edi_unit.specs.Fits.{IsCall, accept, display, print, find, more, read, fresh, write, close, remove}
use Rattle.edi_unit.specs.Headings.{Formals, no_formal, value_then, variable_then}
use Rattle.edi_unit.specs.Fits.{IsTitle}
use Rattle.edi_meaning.specs.Store as meaning
use Rattle.edi_meaning.specs.Store.{Spot, Location, Cell, value, location, procedure, Store, now, put, Older}
use Rattle.edi_meaning.specs.Whole.{words_of_value, words_of_cells, answer_in}
use Rattle.edi_follows.specs.values.Words.{IsTable}
use Rattle.edi_follows.specs.values.Asked.{asked_types}
use Rattle.edi_follows.proofs.values.Given.{arguments_are_words}
use Rattle.edi_follows.specs.places.Coded.{Coded}
use Rattle.edi_follows.specs.places.Spots.{location_address, cells_words, Leads}
use Rattle.edi_follows.specs.places.Scene.{Scene}
use Rattle.edi_follows.specs.places.Claims.{CellsFit}

-- the types of a program's unit
pub table_of : (g : Coded) → IsTable g.unit.types
table_of g = record { table = g.fits.table; shapes = g.fits.shapes; parts = g.parts }

module _ (g : Coded) (s : Scene) (F : meaning.Shape) (cells : List Cell) (number : ℕ) (formals : Formals) where
  -- a call without an answer
  pub record Silent : Type 0 where
    pub types : asked_types formals ≡ []
    pub none : answer_words number ≡ 0
    pub words : cells_words g s.first F cells ≡ words_of_cells cells
    pub long : length (words_of_cells cells) ≡ argument_words number
    pub stays : (store : Store) → answer_in cells [] store ≡ store

  -- a call with one: the address of the variable for it stands behind the words of the other argument
  pub record Answering : Type 0 where
    pub at : Location
    pub of : ℕ
    pub types : asked_types formals ≡ of ∷ []
    pub one : answer_words number ≡ 1
    pub words : cells_words g s.first F cells ≡ words_of_cells cells ++ location_address g s.first F at ∷ []
    pub long : length (words_of_cells cells) ≡ argument_words number
    pub puts : (word : ℕ) (store : Store) → answer_in cells (word ∷ []) store ≡ put store at (ordinal (pos word))
    pub leads : Leads g F at of
    pub older : Older at.spot (now F s.name)

-- ---- by the parameters of the call

module _ (g : Coded) (s : Scene) (F : meaning.Shape) (number : ℕ) where
  abbrev here : Spot
  here = now F s.name

  nothing_fed : (cells : List Cell) → argument_words number ≡ 0 → answer_words number ≡ 0 → CellsFit g s F here no_formal cells →
      Silent g s F cells number no_formal
  nothing_fed [] words answers fit = record { types = refl; none = answers; words = refl; long = sym words; stays = λ store. refl }
  nothing_fed (c ∷ cs) words answers fit = absurd fit

  character_fed : (cells : List Cell) → argument_words number ≡ 1 → answer_words number ≡ 0 → CellsFit g s F here (value_then char_type no_formal) cells →
      Silent g s F cells number (value_then char_type no_formal)
  character_fed [] words answers fit = absurd fit
  character_fed (location l ∷ cs) words answers fit = absurd fit.0
  character_fed (procedure c ∷ cs) words answers fit = absurd fit.0
  character_fed (value v ∷ (c ∷ cs)) words answers fit = absurd fit.1
  character_fed (value v ∷ []) words answers fit =
      let given = (arguments_are_words g.unit.types (table_of g)).0 v fit.0 in
      record {
        types = refl;
        none = answers;
        words = ap (λ l. l ++ []) (sym given.0);
        long = ap length (append-nil (words_of_value v) ∙ given.0) ∙ given.1 ∙ sym words;
        stays = λ store. refl;
      }

  variable_fed : (u : ℕ) (cells : List Cell) → argument_words number ≡ 0 → answer_words number ≡ 1 → CellsFit g s F here (variable_then u no_formal) cells →
      Answering g s F cells number (variable_then u no_formal)
  variable_fed u [] words answers fit = absurd fit
  variable_fed u (value v ∷ cs) words answers fit = absurd fit.0
  variable_fed u (procedure c ∷ cs) words answers fit = absurd fit.0
  variable_fed u (location l ∷ (c ∷ cs)) words answers fit = absurd fit.1
  variable_fed u (location l ∷ []) words answers fit = record {
    at = l;
    of = u;
    types = refl;
    one = answers;
    words = refl;
    long = sym words;
    puts = λ word store. refl;
    leads = fit.0.0;
    older = fit.0.1;
  }

  title_fed : (t : ℕ) (cells : List Cell) → t < length g.unit.types → IsTitle g.unit.types t → argument_words number ≡ 12 → answer_words number ≡ 1 →
      CellsFit g s F here (value_then t (variable_then bool_type no_formal)) cells →
      Answering g s F cells number (value_then t (variable_then bool_type no_formal))
  title_fed t [] known title words answers fit = absurd fit
  title_fed t (location l ∷ cs) known title words answers fit = absurd fit.0
  title_fed t (procedure c ∷ cs) known title words answers fit = absurd fit.0
  title_fed t (value v ∷ []) known title words answers fit = absurd fit.1
  title_fed t (value v ∷ (value x ∷ cs)) known title words answers fit = absurd fit.1.0
  title_fed t (value v ∷ (procedure c ∷ cs)) known title words answers fit = absurd fit.1.0
  title_fed t (value v ∷ (location l ∷ (c ∷ cs))) known title words answers fit = absurd fit.1.1
  title_fed t (value v ∷ (location l ∷ [])) known title words answers fit =
      let given = (arguments_are_words g.unit.types (table_of g)).1 v t known title fit.0 in
      record {
        at = l;
        of = bool_type;
        types = refl;
        one = answers;
        words = ap (λ k. k ++ location_address g s.first F l ∷ []) (sym (append-nil (words_of_value v) ∙ given.0));
        long = ap length (append-nil (words_of_value v) ∙ given.0) ∙ given.1 ∙ sym words;
        puts = λ word store. refl;
        leads = fit.1.0.0;
        older = fit.1.0.1;
      }

-- ---- any call

-- a title's type is in the table
title_known : (g : Coded) (t : ℕ) → IsTitle g.unit.types t → t < length g.unit.types
title_known g t title = elim (cases_lt t (length g.unit.types)) [
  | inl less ↦ less
  | inr past ↦ let never : ◌≡◌ {A = Shape} int (array_of int_type (pos 1) (pos 12) char_type) = sym (get_or_past g.unit.types t int past) ∙ title in absurd (cc)
]

module _
    (g : Coded) (s : Scene) (F : meaning.Shape) (cells : List Cell) (number : ℕ) (formals : Formals)
    (fit : CellsFit g s F (now F s.name) formals cells) where
  silent : (fs : Formals) → formals ≡ fs → (CellsFit g s F (now F s.name) fs cells → Silent g s F cells number fs) →
      Silent g s F cells number formals ⊎ Answering g s F cells number formals
  silent fs d f =
      inl (subst (λ x. Silent g s F cells number x) (sym d) (f (subst (λ x. CellsFit g s F (now F s.name) x cells) d fit)))

  answering : (fs : Formals) → formals ≡ fs → (CellsFit g s F (now F s.name) fs cells → Answering g s F cells number fs) →
      Silent g s F cells number formals ⊎ Answering g s F cells number formals
  answering fs d f =
      inr (subst (λ x. Answering g s F cells number x) (sym d) (f (subst (λ x. CellsFit g s F (now F s.name) x cells) d fit)))

  titled : (t : ℕ) → IsTitle g.unit.types t → formals ≡ value_then t (variable_then bool_type no_formal) → argument_words number ≡ 12 →
      answer_words number ≡ 1 → Silent g s F cells number formals ⊎ Answering g s F cells number formals
  titled t title d words answers =
      answering (value_then t (variable_then bool_type no_formal)) d (title_fed g s F number t cells (title_known g t title) title words answers)

  pub fed : IsCall g.unit.types number formals → Silent g s F cells number formals ⊎ Answering g s F cells number formals
  fed (accept e d) = answering (variable_then char_type no_formal) d (variable_fed g s F number char_type cells (ap argument_words e) (ap answer_words e))
  fed (display e d) = silent (value_then char_type no_formal) d (character_fed g s F number cells (ap argument_words e) (ap answer_words e))
  fed (print e d) = silent (value_then char_type no_formal) d (character_fed g s F number cells (ap argument_words e) (ap answer_words e))
  fed (find t e title d) = titled t title d (ap argument_words e) (ap answer_words e)
  fed (more e d) = answering (variable_then bool_type no_formal) d (variable_fed g s F number bool_type cells (ap argument_words e) (ap answer_words e))
  fed (read e d) = answering (variable_then char_type no_formal) d (variable_fed g s F number char_type cells (ap argument_words e) (ap answer_words e))
  fed (fresh e d) = silent no_formal d (nothing_fed g s F number cells (ap argument_words e) (ap answer_words e))
  fed (write e d) = silent (value_then char_type no_formal) d (character_fed g s F number cells (ap argument_words e) (ap answer_words e))
  fed (close t e title d) = titled t title d (ap argument_words e) (ap answer_words e)
  fed (remove t e title d) = titled t title d (ap argument_words e) (ap answer_words e)
