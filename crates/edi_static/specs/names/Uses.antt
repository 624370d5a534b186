-- Words of contracts. Each name that is used in an expression or a statement is one of these names. The name of a field belongs to its record,
-- and does not count here.
use Rattle.std.specs.Prelude.{ℕ, Bool, false, ◌||◌, IsTrue, List, [], ◌∷◌}
use Rattle.std.specs.Str.{bytes_eq}
use Rattle.edi_tree.specs.declared.names.Name.{Name}
use Rattle.edi_tree.specs.declared.constants.Constant.{Constant}
use Rattle.edi_tree.specs.declared.constants.Constant.TheVariants as constant
use Rattle.edi_tree.specs.declared.expressions.Root.{Root}
use Rattle.edi_tree.specs.declared.expressions.Root.TheVariants as root
use Rattle.edi_tree.specs.Tree.{StatementList}
use Rattle.edi_static.specs.Leaves.{LeafFacts, ListHolds}

-- the name is one of these
abbrev pub is_among : List (List ℕ) → List ℕ → Bool
is_among [] name = false
is_among (known ∷ more) name = bytes_eq name known || is_among more name

abbrev pub NameKnown : List (List ℕ) → Name → Type 0
NameKnown names name = IsTrue (is_among names name.text)

abbrev pub ConstantKnown : List (List ℕ) → Constant → Type 0
ConstantKnown names (constant.Numeral n) = Unit {0}
ConstantKnown names (constant.Char c) = Unit {0}
ConstantKnown names (constant.Name name n) = NameKnown names name

abbrev pub RootKnown : List (List ℕ) → Root → Type 0
RootKnown names (root.Name name) = NameKnown names name
RootKnown names (root.Val name) = NameKnown names name

abbrev pub known_by : List (List ℕ) → LeafFacts
known_by names = record {
  OfNumeral = λ n. Unit {0};
  OfChars = λ s. Unit {0};
  OfConstant = ConstantKnown names;
  Called = λ name P. NameKnown names name × P;
  Rooted = λ r P. RootKnown names r × P;
  Forked = λ bs P. P;
}

abbrev pub ListKnown : List (List ℕ) → StatementList → Type 0
ListKnown names s = ListHolds (known_by names) s
