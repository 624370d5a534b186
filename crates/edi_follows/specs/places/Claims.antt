-- Helper. The claims for the constructs: where the code of a construct stands, and there is room for its height, the machine does for
-- its evaluation what the meaning says.
use Rattle.std.specs.Prelude.{◌≡◌, ℕ, ◌+◌, ◌<◌, ◌≤◌, Bool, true, false, List, [], ◌∷◌, length, sum_by, Some, None, IsTrue}
use Rattle.edi_store.specs.Memory.{words_at}
use Rattle.edi_word.specs.SetWords.{IsOrdinalSet, words_of_members}
use Rattle.edi_unit.specs.declared.expressions.Callee.{Callee}
use Rattle.edi_unit.specs.declared.units.Parameter.TheVariants as slot
use Rattle.edi_unit.specs.Types.{is_elementary, size}
use Rattle.edi_unit.specs.Values.{Value, values, IsOf, AreOf}
use Rattle.edi_unit.specs.Tree.{Expression, Expressions, Links, Place, Parts, Arguments, Act, assign, Acts, Clauses}
use Rattle.edi_unit.specs.Need.{place_type, expression_type, parts_type, links_type, expression_height, members_height, compound_height, links_height}
use Rattle.edi_unit.specs.Need.{place_height, parts_height, arguments_height, act_height, acts_height, clauses_height, callee_result, result_words}
use Rattle.edi_unit.specs.Headings as fits
use Rattle.edi_unit.specs.Fits.{callee_heading}
use Rattle.edi_unit.specs.Headings.{Heading, Formals, no_formal, value_then, variable_then, procedure_then, heading_formals, heading_result}
use Rattle.edi_unit.specs.Fits.{ExpressionFits, ExpressionsFit, LinksFit, PlaceFits, PartsFit, ArgumentsFit, CalleeFits, ActFits, ActsFit, ClausesFit}
use Rattle.edi_unit.specs.Fits.{HaveTypes, AllHaveType}
use Rattle.edi_meaning.specs.Store.{Spot, system_procedure, Cell, Shape, now, Older}
use Rattle.edi_meaning.specs.Evaluation.{World, Evaluation}
use Rattle.edi_meaning.specs.Whole.{Designated, meant, function_call, procedure_call, system_call, expression, expressions, members_of, linked, designated}
use Rattle.edi_meaning.specs.Whole.{parts, arguments, assigned, act, acts, first, levels_of}
use Rattle.edi_target.specs.Memory.{word}
use Rattle.edi_scheme.specs.Pieces.{ClauseKind, close_code}
use Rattle.edi_scheme.specs.Code.{call_code}
use Rattle.edi_scheme.specs.Stands as code
use Rattle.edi_follows.specs.values.Words.{value_words, values_words}
use Rattle.edi_follows.specs.places.Coded.{Coded, entry}
use Rattle.edi_follows.specs.places.Spots.{frames_end, location_address, cells_words, Leads, Holds}
use Rattle.edi_follows.specs.places.Scene.{Scene, here, Able, Does}

module _ (g : Coded) (s : Scene) where
  -- ---- what stands on the operands afterwards, from t on

  -- a value of this type
  pub record Pushed (of to t : ℕ) (v : Value) (m : List ℕ) (pc top : ℕ) : Type 0 where
    pub pc_is : pc ≡ to
    pub top_is : top ≡ t + size g.unit.types of
    pub words : words_at m t (size g.unit.types of) ≡ value_words v
    pub typed : IsOf g.unit.types v of

  -- values of these types
  pub record PushedRow (of : List ℕ) (to t : ℕ) (vs : List Value) (m : List ℕ) (pc top : ℕ) : Type 0 where
    pub pc_is : pc ≡ to
    pub top_is : top ≡ t + sum_by (size g.unit.types) of
    pub words : words_at m t (sum_by (size g.unit.types) of) ≡ values_words (values vs)
    pub typed : AreOf g.unit.types (values vs) of

  -- a set
  pub record PushedSet (to t : ℕ) (set : List ℕ) (m : List ℕ) (pc top : ℕ) : Type 0 where
    pub pc_is : pc ≡ to
    pub top_is : top ≡ t + 8
    pub words : words_at m t 8 ≡ words_of_members set
    pub ordinal : IsOrdinalSet set

  -- the address of a part of a variable of this type
  pub record Pointed (F : Shape) (of to t : ℕ) (d : Designated) (m : List ℕ) (pc top : ℕ) : Type 0 where
    pub pc_is : pc ≡ to
    pub top_is : top ≡ t + 1
    pub address : word m t ≡ location_address g s.first F d.at
    pub leads : Leads g F d.at of
    pub older : Older d.at.spot (now F s.name)
    pub of_is : d.of ≡ of

  -- the cells of arguments are those that a heading asks for
  abbrev pub CellsFit : Shape → Spot → Formals → List Cell → Type 0
  CellsFit F r no_formal [] = Unit {0}
  CellsFit F r no_formal (c ∷ cs) = ⊥
  CellsFit F r (value_then t fs) [] = ⊥
  CellsFit F r (variable_then t fs) [] = ⊥
  CellsFit F r (procedure_then h fs) [] = ⊥
  CellsFit F r (value_then t fs) (c ∷ cs) = Holds g F r (fits.heading no_formal None) (Some (slot.Value t)) c × CellsFit F r fs cs
  CellsFit F r (variable_then t fs) (c ∷ cs) = Holds g F r (fits.heading no_formal None) (Some (slot.Var t)) c × CellsFit F r fs cs
  CellsFit F r (procedure_then h fs) (c ∷ cs) = Holds g F r h (Some (slot.Formal (heading_result h))) c × CellsFit F r fs cs

  pub record Passed (F : Shape) (formals : Formals) (to t : ℕ) (cells : List Cell) (m : List ℕ) (pc top : ℕ) : Type 0 where
    pub pc_is : pc ≡ to
    pub top_is : top ≡ t + length (cells_words g s.first F cells)
    pub words : words_at m t (length (cells_words g s.first F cells)) ≡ cells_words g s.first F cells
    pub cells_fit : CellsFit F (now F s.name) formals cells

  -- nothing
  pub record Ran (to t : ℕ) (u : Unit {0}) (m : List ℕ) (pc top : ℕ) : Type 0 where
    pub pc_is : pc ≡ to
    pub top_is : top ≡ t

  -- nothing; where a list was executed the process is behind it, and these clauses are left
  abbrev pub TriedSo : ℕ → ClauseKind → (target to : ℕ) → Bool → ℕ → Type 0
  TriedSo b kind target to true pc =
      (rest : Clauses) × (next : ℕ) × code.AreInstructions g.fetched (close_code kind target rest) pc next
      × code.AreClauses g.fetched g.unit.types g.unit.blocks (entry g) b kind target rest next to
  TriedSo b kind target to false pc = pc ≡ to

  pub record Tried (F : Shape) (kind : ClauseKind) (target to t : ℕ) (ran : Bool) (m : List ℕ) (pc top : ℕ) : Type 0 where
    pub top_is : top ≡ t
    pub so : TriedSo (here g s F) kind target to ran pc

  -- ---- the claims, where calls and further turns of loops go to `deeper` with at most `bound` turns

  module _ (deeper : Acts → World → Evaluation (Unit {0})) where
    abbrev pub ExpressionAt : ℕ → Expression → Type 0
    ExpressionAt bound e =
        (F : Shape) (pc to t held : ℕ) (w : World) (m : List ℕ) → w.turns ≤ bound →
        code.IsExpression g.fetched g.unit.types g.unit.blocks (entry g) (here g s F) e pc to →
        ExpressionFits g.unit.types g.unit.blocks g.fits.headings (here g s F) e →
        Able g s F w m t (expression_height g.unit.types g.unit.blocks (here g s F) e) held →
        Does g s F pc t t held w m (Pushed (expression_type g.unit.types g.unit.blocks (here g s F) e) to t)
        (expression g.unit s.name (s.size s.name) deeper e w)

    abbrev pub ExpressionClaim : ℕ → Type 0
    ExpressionClaim bound = (e : Expression) → ExpressionAt bound e

    abbrev pub ExpressionsAt : ℕ → Expressions → List ℕ → Type 0
    ExpressionsAt bound es of =
        (F : Shape) (pc to t held : ℕ) (w : World) (m : List ℕ) → w.turns ≤ bound →
        code.AreExpressions g.fetched g.unit.types g.unit.blocks (entry g) (here g s F) es pc to →
        HaveTypes g.unit.types g.unit.blocks g.fits.headings (here g s F) es of →
        ExpressionsFit g.unit.types g.unit.blocks g.fits.headings (here g s F) es →
        Able g s F w m t (compound_height g.unit.types g.unit.blocks (here g s F) 0 es) held →
        Does g s F pc t t held w m (PushedRow of to t) (expressions g.unit s.name (s.size s.name) deeper es w)

    abbrev pub ExpressionsClaim : ℕ → Type 0
    ExpressionsClaim bound = (es : Expressions) (of : List ℕ) → ExpressionsAt bound es of

    -- the set so far stands above t; the members are of its base type, which is elementary
    abbrev pub MembersAt : ℕ → Expressions → ℕ → ℕ → List ℕ → Type 0
    MembersAt bound es base line set =
        (F : Shape) (pc to t held : ℕ) (w : World) (m : List ℕ) → w.turns ≤ bound →
        code.AreMembers g.fetched g.unit.types g.unit.blocks (entry g) (here g s F) line es pc to →
        AllHaveType g.unit.types g.unit.blocks g.fits.headings (here g s F) base es →
        IsTrue (is_elementary g.unit.types base) →
        ExpressionsFit g.unit.types g.unit.blocks g.fits.headings (here g s F) es →
        Able g s F w m t (members_height g.unit.types g.unit.blocks (here g s F) es) held →
        PushedSet pc t set m pc (t + 8) →
        Does g s F pc (t + 8) t held w m (PushedSet to t) (members_of g.unit s.name (s.size s.name) deeper set es line w)

    abbrev pub MembersClaim : ℕ → Type 0
    MembersClaim bound = (es : Expressions) (base line : ℕ) (set : List ℕ) → MembersAt bound es base line set

    -- the left operand stands above t, within the frame
    abbrev pub LinksAt : ℕ → Links → ℕ → Value → Type 0
    LinksAt bound ls of v =
        (F : Shape) (pc to t held : ℕ) (w : World) (m : List ℕ) → w.turns ≤ bound →
        code.AreLinks g.fetched g.unit.types g.unit.blocks (entry g) (here g s F) of ls pc to →
        LinksFit g.unit.types g.unit.blocks g.fits.headings (here g s F) of ls →
        of < length g.unit.types →
        Able g s F w m t (links_height g.unit.types g.unit.blocks (here g s F) of ls) held →
        t + size g.unit.types of ≤ frames_end s.first F s.name →
        Pushed of pc t v m pc (t + size g.unit.types of) →
        Does g s F pc (t + size g.unit.types of) t held w m (Pushed (links_type of ls) to t) (linked g.unit s.name (s.size s.name) deeper v ls w)

    abbrev pub LinksClaim : ℕ → Type 0
    LinksClaim bound = (ls : Links) (of : ℕ) (v : Value) → LinksAt bound ls of v

    abbrev pub PlaceAt : ℕ → Place → Type 0
    PlaceAt bound v =
        (F : Shape) (pc to t held : ℕ) (w : World) (m : List ℕ) → w.turns ≤ bound →
        code.IsPlace g.fetched g.unit.types g.unit.blocks (entry g) (here g s F) v pc to →
        PlaceFits g.unit.types g.unit.blocks g.fits.headings (here g s F) v →
        Able g s F w m t (place_height g.unit.types g.unit.blocks (here g s F) v) held →
        Does g s F pc t t held w m (Pointed F (place_type g.unit.types g.unit.blocks (here g s F) v) to t) (designated g.unit s.name (s.size s.name) deeper v w)

    abbrev pub PlaceClaim : ℕ → Type 0
    PlaceClaim bound = (v : Place) → PlaceAt bound v

    -- the address of the variable stands above t, within the frame
    abbrev pub PartsAt : ℕ → Parts → Designated → ℕ → Type 0
    PartsAt bound ps d of =
        (F : Shape) (pc to t held : ℕ) (w : World) (m : List ℕ) → w.turns ≤ bound →
        code.AreParts g.fetched g.unit.types g.unit.blocks (entry g) (here g s F) of ps pc to →
        PartsFit g.unit.types g.unit.blocks g.fits.headings (here g s F) of ps →
        Able g s F w m t (parts_height g.unit.types g.unit.blocks (here g s F) ps) held →
        t + 1 ≤ frames_end s.first F s.name →
        Pointed F of pc t d m pc (t + 1) →
        Does g s F pc (t + 1) t held w m (Pointed F (parts_type g.unit.types of ps) to t) (parts g.unit s.name (s.size s.name) deeper d ps w)

    abbrev pub PartsClaim : ℕ → Type 0
    PartsClaim bound = (ps : Parts) (d : Designated) (of : ℕ) → PartsAt bound ps d of

    abbrev pub ArgumentsAt : ℕ → Arguments → Formals → Type 0
    ArgumentsAt bound xs formals =
        (F : Shape) (pc to t held : ℕ) (w : World) (m : List ℕ) → w.turns ≤ bound →
        code.AreArguments g.fetched g.unit.types g.unit.blocks (entry g) (here g s F) xs pc to →
        ArgumentsFit g.unit.types g.unit.blocks g.fits.headings (here g s F) xs formals →
        Able g s F w m t (arguments_height g.unit.types g.unit.blocks (here g s F) 0 xs) held →
        Does g s F pc t t held w m (Passed F formals to t) (arguments g.unit s.name (s.size s.name) deeper xs w)

    abbrev pub ArgumentsClaim : ℕ → Type 0
    ArgumentsClaim bound = (xs : Arguments) (formals : Formals) → ArgumentsAt bound xs formals

    -- the arguments stand above t
    abbrev pub FunctionAt : ℕ → Callee → ℕ → ℕ → List Cell → Type 0
    FunctionAt bound c of line cells =
        (F : Shape) (pc to t held : ℕ) (w : World) (m : List ℕ) → w.turns ≤ bound →
        code.AreInstructions g.fetched (call_code g.unit.types g.unit.blocks (entry g) (here g s F) c line) pc to →
        CalleeFits g.unit.blocks (here g s F) c → callee_result g.unit.blocks (here g s F) c ≡ Some of →
        Able g s F w m t (result_words g.unit.types g.unit.blocks (here g s F) c) held →
        Passed F (heading_formals (callee_heading g.fits.headings g.unit.blocks (here g s F) c)) pc t cells m pc (t + length (cells_words g s.first F cells)) →
        Does g s F pc (t + length (cells_words g s.first F cells)) t held w m (Pushed of to t)
        (function_call g.unit s.name (s.size s.name) deeper (meant g.unit s.name (s.size s.name) c w) cells line w)

    abbrev pub FunctionClaim : ℕ → Type 0
    FunctionClaim bound = (c : Callee) (of line : ℕ) (cells : List Cell) → FunctionAt bound c of line cells

    abbrev pub ProcedureAt : ℕ → Callee → ℕ → List Cell → Type 0
    ProcedureAt bound c line cells =
        (F : Shape) (pc to t held : ℕ) (w : World) (m : List ℕ) → w.turns ≤ bound → 0 < held →
        code.AreInstructions g.fetched (call_code g.unit.types g.unit.blocks (entry g) (here g s F) c line) pc to →
        CalleeFits g.unit.blocks (here g s F) c → callee_result g.unit.blocks (here g s F) c ≡ None →
        Able g s F w m t 0 held →
        Passed F (heading_formals (callee_heading g.fits.headings g.unit.blocks (here g s F) c)) pc t cells m pc (t + length (cells_words g s.first F cells)) →
        Does g s F pc (t + length (cells_words g s.first F cells)) t held w m (Ran to t)
        (procedure_call g.unit s.name (s.size s.name) deeper (meant g.unit s.name (s.size s.name) c w) cells line w)

    abbrev pub ProcedureClaim : ℕ → Type 0
    ProcedureClaim bound = (c : Callee) (line : ℕ) (cells : List Cell) → ProcedureAt bound c line cells

    -- a call of the system, by a procedure parameter
    abbrev pub SystemAt : ℕ → Callee → ℕ → List Cell → ℕ → Type 0
    SystemAt bound c line cells number =
        (F : Shape) (pc to t held : ℕ) (w : World) (m : List ℕ) → w.turns ≤ bound →
        code.AreInstructions g.fetched (call_code g.unit.types g.unit.blocks (entry g) (here g s F) c line) pc to →
        CalleeFits g.unit.blocks (here g s F) c → callee_result g.unit.blocks (here g s F) c ≡ None →
        Able g s F w m t 0 held →
        Passed F (heading_formals (callee_heading g.fits.headings g.unit.blocks (here g s F) c)) pc t cells m pc (t + length (cells_words g s.first F cells)) →
        meant g.unit s.name (s.size s.name) c w ≡ system_procedure number →
        Does g s F pc (t + length (cells_words g s.first F cells)) t held w m (Ran to t) (system_call number cells line w)

    abbrev pub SystemClaim : ℕ → Type 0
    SystemClaim bound = (c : Callee) (line : ℕ) (cells : List Cell) (number : ℕ) → SystemAt bound c line cells number

    -- an assignment, which has no need of a critical phase
    abbrev pub AssignAt : ℕ → Place → Expression → Type 0
    AssignAt bound v e =
        (F : Shape) (pc to t held : ℕ) (w : World) (m : List ℕ) → w.turns ≤ bound →
        code.IsAct g.fetched g.unit.types g.unit.blocks (entry g) (here g s F) (assign v e) pc to →
        ActFits g.unit.types g.unit.blocks g.fits.headings (here g s F) (assign v e) →
        Able g s F w m t (act_height g.unit.types g.unit.blocks (here g s F) (assign v e)) held →
        Does g s F pc t t held w m (Ran to t) (assigned g.unit s.name (s.size s.name) deeper v e w)

    abbrev pub AssignClaim : ℕ → Type 0
    AssignClaim bound = (v : Place) (e : Expression) → AssignAt bound v e

    abbrev pub ActAt : ℕ → Act → Type 0
    ActAt bound a =
        (F : Shape) (pc to t held : ℕ) (w : World) (m : List ℕ) → w.turns ≤ bound → 0 < held →
        code.IsAct g.fetched g.unit.types g.unit.blocks (entry g) (here g s F) a pc to →
        ActFits g.unit.types g.unit.blocks g.fits.headings (here g s F) a →
        Able g s F w m t (act_height g.unit.types g.unit.blocks (here g s F) a) held →
        Does g s F pc t t held w m (Ran to t) (act g.unit s.name (s.size s.name) deeper a w)

    abbrev pub ActClaim : ℕ → Type 0
    ActClaim bound = (a : Act) → ActAt bound a

    abbrev pub ActsAt : ℕ → Acts → Type 0
    ActsAt bound as' =
        (F : Shape) (pc to t held : ℕ) (w : World) (m : List ℕ) → w.turns ≤ bound → 0 < held →
        code.AreActs g.fetched g.unit.types g.unit.blocks (entry g) (here g s F) as' pc to →
        ActsFit g.unit.types g.unit.blocks g.fits.headings (here g s F) as' →
        Able g s F w m t (acts_height g.unit.types g.unit.blocks (here g s F) as') held →
        Does g s F pc t t held w m (Ran to t) (acts g.unit s.name (s.size s.name) deeper as' w)

    abbrev pub ActsClaim : ℕ → Type 0
    ActsClaim bound = (as' : Acts) → ActsAt bound as'

    abbrev pub FirstAt : ℕ → Clauses → ClauseKind → ℕ → Type 0
    FirstAt bound cs kind target =
        (F : Shape) (pc to t held : ℕ) (w : World) (m : List ℕ) → w.turns ≤ bound → 0 < held →
        code.AreClauses g.fetched g.unit.types g.unit.blocks (entry g) (here g s F) kind target cs pc to →
        ClausesFit g.unit.types g.unit.blocks g.fits.headings (here g s F) cs →
        Able g s F w m t (clauses_height g.unit.types g.unit.blocks (here g s F) cs) held →
        Does g s F pc t t held w m (Tried F kind target to t) (first g.unit s.name (s.size s.name) deeper cs w)

    abbrev pub FirstClaim : ℕ → Type 0
    FirstClaim bound = (cs : Clauses) (kind : ClauseKind) (target : ℕ) → FirstAt bound cs kind target

  -- a list of statements one level deeper, with fewer than n turns
  abbrev pub DeeperClaim : (Acts → World → Evaluation (Unit {0})) → ℕ → Type 0
  DeeperClaim deeper n =
      (as' : Acts) (F : Shape) (pc to t held : ℕ) (w : World) (m : List ℕ) → w.turns < n → 0 < held →
      code.AreActs g.fetched g.unit.types g.unit.blocks (entry g) (here g s F) as' pc to →
      ActsFit g.unit.types g.unit.blocks g.fits.headings (here g s F) as' →
      Able g s F w m t (acts_height g.unit.types g.unit.blocks (here g s F) as') held →
      Does g s F pc t t held w m (Ran to t) (deeper as' w)

  -- WHOLE: each level does what it means
  abbrev pub RunClaim : Type 0
  RunClaim = (n : ℕ) → DeeperClaim (levels_of g.unit s.name (s.size s.name) n) n
