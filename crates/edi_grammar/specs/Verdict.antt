-- Words of contracts. What the place where a parser stops says of all texts of the grammar.
use Rattle.std.specs.Prelude.{◌≡◌, ℕ, ◌<◌, true, List, [], ◌∷◌, ◌++◌}
use Rattle.edi_grammar.specs.Grammar.{Part, Item, mark, plain, Grammar, Derives, ends_in}
use Rattle.edi_grammar.specs.Parser.{Why, complete, wrong, too_deep}

module _ {N S : Type 0} (g : Grammar N S) where
  -- in these items the symbol s stands right behind the symbols u, and opens a level beyond the limit
  abbrev pub IsTooDeep : ℕ → List S → S → List (Item S) → Type 0
  IsTooDeep limit u s items = (before after : List (Item S)) × (items ≡ before ++ mark s ∷ after) × (plain before ≡ u) × (g.opens (g.kind s) ≡ true)
      × (limit < ends_in g after)

  -- how the symbols go on behind those before the stop: in no way in particular, with the symbol in hand, or not at all
  abbrev pub GoesOn : Why → List S → List S → Type 0
  GoesOn complete r more = more ≡ []
  GoesOn wrong r more = Unit {0}
  GoesOn too_deep r more = (s : S) × (rest later : List S) × (r ≡ s ∷ rest) × (more ≡ s ∷ later)

  -- these parts may be a text that begins with the symbols u and goes on so
  abbrev pub Lives : Why → List (Part N) → List S → List S → Type 0
  Lives y x u r = (n : ℕ) × (more : List S) × (items : List (Item S)) × (plain items ≡ u ++ more) × GoesOn y r more × Derives g n x items

  -- what holds of a text that goes on with the symbol s in hand: there is none, or that symbol is too deep in it
  abbrev pub Blocked : Why → ℕ → List S → S → List (Item S) → Type 0
  Blocked complete limit u s items = Unit {0}
  Blocked wrong limit u s items = ⊥
  Blocked too_deep limit u s items = IsTooDeep limit u s items

  -- that holds of each text that begins with the symbols u and the symbol in hand
  abbrev pub Blocks : Why → ℕ → List (Part N) → List S → List S → Type 0
  Blocks y limit x u r = (s : S) (more later : List S) (n : ℕ) (items : List (Item S)) → r ≡ s ∷ more → plain items ≡ u ++ s ∷ later → Derives g n x items
      → Blocked y limit u s items

  -- in no text is one of these first symbols too deep
  abbrev pub Shallow : ℕ → List (Part N) → List S → Type 0
  Shallow limit x before = (u v : List S) (s : S) (n : ℕ) (items : List (Item S)) → before ≡ u ++ s ∷ v → Derives g n x items → IsTooDeep limit u s items → ⊥

  -- The symbols before the stop begin a text, and nothing in them is too deep. With the symbol in hand they begin none, or
  -- that symbol is too deep in each; or they are a whole text.
  pub record Verdict (y : Why) (limit : ℕ) (x : List (Part N)) (words r : List S) : Type 0 where
    pub before : List S
    pub cut : words ≡ before ++ r
    pub lives : Lives y x before r
    pub blocks : Blocks y limit x before r
    pub shallow : Shallow limit x before
