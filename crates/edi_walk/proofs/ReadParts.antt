-- What is read at once, construct by construct.
use Rattle.std.proofs.Common.{◌≡◌, ℕ, ℤ, true, false, List, [], ◌∷◌, ◌+◌, drop, Option, Some, None, Result, Ok, Err, refl, sym, subst, ap, ◌∙◌}
use Rattle.std.specs.Prelude.{map, option_map, if◌then◌else◌, IfOk, OnErr}
use Rattle.edi_calls.specs.State.{Traced}
use Rattle.edi_unit.specs.Tree as tree
use Rattle.edi_unit.specs.Tree.{Acts, Expression, Link, Links, Place, Part, Parts}
use Rattle.edi_unit.specs.declared.expressions.Operator.{Operator}
use Rattle.edi_unit.specs.Types.{is_ordinal_of, shape_at}
use Rattle.edi_unit.specs.Values.{Value, ordinal, apply, decides, negation, sign}
use Rattle.edi_unit.specs.View.{expression_of, link_of, links, part_of, parts_of, place_of, unit_of}
use Rattle.edi_unit.specs.View as view
use Rattle.edi_unit.specs.declared.expressions.Link as code_link
use Rattle.edi_unit.specs.declared.expressions.Part as code_part
use Rattle.edi_unit.specs.declared.expressions.Place as code_place
use Rattle.edi_meaning.specs.Evaluation.{World, Evaluation, gives, ◌>>=◌}
use Rattle.edi_meaning.specs.Store.{get}
use Rattle.edi_meaning.specs.Whole.{Designated, element_of, in_range, linked, operated, parts, part, named, expression, designated}
use Rattle.edi_walk.specs.declared.data.Target as code_target
use Rattle.edi_walk.specs.declared.evaluation.Evaluation as code
use Rattle.edi_walk.specs.declared.hurdle.Hurdle.{Hurdle}
use Rattle.edi_walk.specs.declared.hurdle.Hurdle.TheVariants as hurdle
use Rattle.edi_walk.specs.Data.{designated_of, location_of}
use Rattle.edi_walk.specs.Machine.{world_of}
use Rattle.edi_walk.specs.Memory.{store_of}
use Rattle.edi_walk.proofs.Layers.{link_seen, place_seen}
use Rattle.edi_walk.specs.Reads.{Construct, Reads, ReadsElement, ReadsLink, ReadsPart, ReadsParts, ReadsPlace, ReadsValue}

-- ---- one thing after another

module _ {A B T U : Type 0} (of : T → A) (to : U → B) (m : Construct A) (k : (Acts → World → Evaluation (Unit {0})) → A → World → Evaluation B) (here : code.Evaluation) where
  abbrev pub both : Construct B
  both deeper w = m deeper w >>= k deeper

  -- what stands before the first stands before both
  pub stopped : (h : Hurdle) → Reads of m (Err h) here → Reads to both (Err h) here
  stopped (hurdle.Range line) r = λ deeper system. ap (λ x. x >>= k deeper) (r deeper system)
  stopped hurdle.Frames r = tt

  -- the first is read, and then what follows it
  pub onward : (x : T) (result : Result U Hurdle) → Reads of m (Ok x) here → Reads to (λ deeper. k deeper (of x)) result here → Reads to both result here
  onward x (Ok y) r s = λ deeper system. ap (λ x. x >>= k deeper) (r deeper system) ∙ s deeper system
  onward x (Err (hurdle.Range line)) r s = λ deeper system. ap (λ x. x >>= k deeper) (r deeper system) ∙ s deeper system
  onward x (Err hurdle.Frames) r s = tt

-- what is given here
pub given_here : {A T : Type 0} (of : T → A) (a : A) (x : T) (here : code.Evaluation) → of x ≡ a → Reads of (λ _. gives a) (Ok x) here
given_here of a x here e deeper system = ap (λ b. gives b (world_of here system)) (sym e)

-- the same is read where the two make the same here
pub moved : {A T : Type 0} (of : T → A) (m n : Construct A) (result : Result T Hurdle) (here : code.Evaluation) →
    ((deeper : Acts → World → Evaluation (Unit {0})) (system : Traced) → m deeper (world_of here system) ≡ n deeper (world_of here system)) →
    Reads of n result here → Reads of m result here
moved of m n (Ok x) here e r = λ deeper system. e deeper system ∙ r deeper system
moved of m n (Err (hurdle.Range line)) here e r = λ deeper system. e deeper system ∙ r deeper system
moved of m n (Err hurdle.Frames) here e r = tt

-- ---- what may be out of range

pub ranged_so : (o : Option ℤ) (v : Option Value) (line : ℕ) (result : Result ℤ Hurdle) (here : code.Evaluation) → option_map ordinal o ≡ v →
    IfOk result (λ n. o ≡ Some n) → OnErr result ((o ≡ None) × (result ≡ Err (hurdle.Range line))) →
    Reads ordinal (λ _. in_range line v) result here
ranged_so o v line (Ok n) here e ok err = λ deeper system.
    ap (λ x. in_range line x (world_of here system)) (sym e ∙ ap (option_map ordinal) ok)
ranged_so o v line (Err h) here e ok err =
    subst (λ r. Reads ordinal (λ _. in_range line v) r here) (sym err.1)
    (λ deeper system. ap (λ x. in_range line x (world_of here system)) (sym e ∙ ap (option_map ordinal) err.0))

-- ---- operators

module _ (here : code.Evaluation) (n : ℤ) (o : Operator) (e : Expression) (line : ℕ) where
  -- the left operand alone decides
  pub decided_so : (m : ℤ) → m ≡ n → decides o (ordinal n) ≡ true → ReadsLink n (tree.link o e line) (Ok m) here
  decided_so m q d deeper system = rw (d, q) refl

  abbrev right_of : Construct Value
  right_of deeper = expression (unit_of here.unit.now) here.name.items here.size deeper e

  abbrev whole_link : Construct Value
  whole_link deeper = operated (unit_of here.unit.now) here.name.items here.size deeper (ordinal n) (tree.link o e line)

  -- it does not
  undecided : decides o (ordinal n) ≡ false → (deeper : Acts → World → Evaluation (Unit {0})) (system : Traced) →
      whole_link deeper (world_of here system) ≡ (right_of deeper (world_of here system) >>= λ u w. in_range line (apply o (ordinal n) u) w)
  undecided d deeper system = rw d refl

  pub operated_so : (m : ℤ) (a : Option ℤ) (result : Result ℤ Hurdle) → decides o (ordinal n) ≡ false → ReadsValue e (Ok m) here →
      option_map ordinal a ≡ apply o (ordinal n) (ordinal m) → IfOk result (λ k. a ≡ Some k) →
      OnErr result ((a ≡ None) × (result ≡ Err (hurdle.Range line))) → ReadsLink n (tree.link o e line) result here
  operated_so m a result d r q ok err =
      moved ordinal whole_link (λ deeper w. right_of deeper w >>= λ u w. in_range line (apply o (ordinal n) u) w) result here (undecided d)
      (onward ordinal ordinal right_of (λ deeper u w. in_range line (apply o (ordinal n) u) w) here m result r
      (ranged_so a (apply o (ordinal n) (ordinal m)) line result here q ok err))

  pub operated_stops : (h : Hurdle) → decides o (ordinal n) ≡ false → ReadsValue e (Err h) here → ReadsLink n (tree.link o e line) (Err h) here
  operated_stops h d r =
      moved ordinal whole_link (λ deeper w. right_of deeper w >>= λ u w. in_range line (apply o (ordinal n) u) w) (Err h) here (undecided d)
      (stopped ordinal ordinal right_of (λ deeper u w. in_range line (apply o (ordinal n) u) w) here h r)

-- ---- lists

module _ (here : code.Evaluation) (e : Expression) (items : List code_link.Link) where
  abbrev links_from : ℤ → List code_link.Link → Construct Value
  links_from n ls deeper = linked (unit_of here.unit.now) here.name.items here.size deeper (ordinal n) (links (map link_of ls))

  abbrev whole_chain : Construct Value
  whole_chain deeper = expression (unit_of here.unit.now) here.name.items here.size deeper (tree.chain e (links (map link_of items)))

  -- the whole chain makes what the operators that are left make from here
  abbrev pub ChainLeft : (left : ℤ) → (i : ℕ) → Type 0
  ChainLeft left i =
      (deeper : Acts → World → Evaluation (Unit {0})) (system : Traced) →
      whole_chain deeper (world_of here system) ≡ links_from left (drop i items) deeper (world_of here system)

  abbrev behind_link : List code_link.Link → (Acts → World → Evaluation (Unit {0})) → Value → World → Evaluation Value
  behind_link ls deeper v = linked (unit_of here.unit.now) here.name.items here.size deeper v (links (map link_of ls))

  abbrev first_of : Construct Value
  first_of deeper = expression (unit_of here.unit.now) here.name.items here.size deeper e

  pub chain_begun : (n : ℤ) → ReadsValue e (Ok n) here → ChainLeft n 0
  chain_begun n r deeper system = ap (λ m. m >>= behind_link items deeper) (r deeper system)

  pub chain_stopped : (h : Hurdle) → ReadsValue e (Err h) here → ReadsValue (tree.chain e (links (map link_of items))) (Err h) here
  chain_stopped h r = stopped ordinal ordinal first_of (behind_link items) here h r

  pub link_done : (left n : ℤ) (i : ℕ) (x : code_link.Link) → drop i items ≡ x ∷ drop (i + 1) items → ChainLeft left i → ReadsLink left (link_of x) (Ok n) here →
      ChainLeft n (i + 1)
  link_done left n i x d h r deeper system =
      h deeper system
      ∙ ap (λ ls. links_from left ls deeper (world_of here system)) d
      ∙ ap (λ m. m >>= behind_link (drop (i + 1) items) deeper) (r deeper system)

  pub link_stops : (left : ℤ) (i : ℕ) (x : code_link.Link) (h : Hurdle) → drop i items ≡ x ∷ drop (i + 1) items → ChainLeft left i →
      ReadsLink left (link_of x) (Err h) here → ReadsValue (tree.chain e (links (map link_of items))) (Err h) here
  link_stops left i x h d l r =
      moved ordinal whole_chain (links_from left (x ∷ drop (i + 1) items)) (Err h) here
      (λ deeper system. l deeper system ∙ ap (λ ls. links_from left ls deeper (world_of here system)) d)
      (stopped ordinal ordinal (λ deeper. operated (unit_of here.unit.now) here.name.items here.size deeper (ordinal left) (link_of x))
      (behind_link (drop (i + 1) items)) here h r)

  pub links_done : (left m : ℤ) (i : ℕ) → drop i items ≡ [] → m ≡ left → ChainLeft left i →
      ReadsValue (tree.chain e (links (map link_of items))) (Ok m) here
  links_done left m i d q l deeper system =
      l deeper system
      ∙ ap (λ ls. links_from left ls deeper (world_of here system)) d
      ∙ ap (λ n. gives (ordinal n) (world_of here system)) (sym q)

  -- the same of the list that the items are
  pub links_over : (left m : ℤ) (i : ℕ) (xs : List code_link.Link) → items ≡ xs → drop i items ≡ [] → m ≡ left → ChainLeft left i →
      ReadsValue (tree.chain e (links (map link_of xs))) (Ok m) here
  links_over left m i xs is d q l = subst (λ ys. ReadsValue (tree.chain e (links (map link_of ys))) (Ok m) here) is (links_done left m i d q l)

module _ (here : code.Evaluation) (first : Designated) (items : List code_part.Part) where
  abbrev parts_from : Designated → List code_part.Part → Construct Designated
  parts_from d ps deeper = parts (unit_of here.unit.now) here.name.items here.size deeper d (view.parts (map part_of ps))

  abbrev pub PartsLeft : (now : Designated) → (i : ℕ) → Type 0
  PartsLeft now i =
      (deeper : Acts → World → Evaluation (Unit {0})) (system : Traced) →
      parts_from first items deeper (world_of here system) ≡ parts_from now (drop i items) deeper (world_of here system)

  abbrev behind_part : List code_part.Part → (Acts → World → Evaluation (Unit {0})) → Designated → World → Evaluation Designated
  behind_part ps deeper d = parts (unit_of here.unit.now) here.name.items here.size deeper d (view.parts (map part_of ps))

  pub part_done : (now new : Designated) (i : ℕ) (x : code_part.Part) → drop i items ≡ x ∷ drop (i + 1) items → PartsLeft now i →
      ReadsPart now new (part_of x) (Ok tt) here → PartsLeft new (i + 1)
  part_done now new i x d h r deeper system =
      h deeper system
      ∙ ap (λ ps. parts_from now ps deeper (world_of here system)) d
      ∙ ap (λ m. m >>= behind_part (drop (i + 1) items) deeper) (r deeper system)

  pub part_stops : (now new last : Designated) (i : ℕ) (x : code_part.Part) (h : Hurdle) → drop i items ≡ x ∷ drop (i + 1) items → PartsLeft now i →
      ReadsPart now new (part_of x) (Err h) here → ReadsParts first last (view.parts (map part_of items)) (Err h) here
  part_stops now new last i x h d l r =
      moved {T = Unit {0}} (λ _. last) (parts_from first items) (parts_from now (x ∷ drop (i + 1) items)) (Err h) here
      (λ deeper system. l deeper system ∙ ap (λ ps. parts_from now ps deeper (world_of here system)) d)
      (stopped {T = Unit {0}} {U = Unit {0}} (λ _. new) (λ _. last)
      (λ deeper. part (unit_of here.unit.now) here.name.items here.size deeper now (part_of x)) (behind_part (drop (i + 1) items)) here h r)

  pub parts_done : (now : Designated) (i : ℕ) → drop i items ≡ [] → PartsLeft now i → ReadsParts first now (view.parts (map part_of items)) (Ok tt) here
  parts_done now i d l deeper system =
      l deeper system ∙ ap (λ ps. parts_from now ps deeper (world_of here system)) d

-- ---- places

module _ (here : code.Evaluation) (place : code_place.Place) (d : Designated)
    (e : d ≡ named (unit_of here.unit.now) here.name.items here.size place.levels place.variable (store_of here.memory)) where
  -- a variable, and then its parts
  place_is : (deeper : Acts → World → Evaluation (Unit {0})) (system : Traced) →
      designated (unit_of here.unit.now) here.name.items here.size deeper (place_of place) (world_of here system)
      ≡ parts (unit_of here.unit.now) here.name.items here.size deeper d (parts_of place.parts) (world_of here system)
  place_is deeper system =
      ap (λ v. designated (unit_of here.unit.now) here.name.items here.size deeper v (world_of here system)) (place_seen place)
      ∙ ap (λ n. parts (unit_of here.unit.now) here.name.items here.size deeper n (parts_of place.parts) (world_of here system)) (sym e)

  pub place_so : (t : code_target.Target) → ReadsParts d (designated_of t) (parts_of place.parts) (Ok tt) here → ReadsPlace (place_of place) (Ok t) here
  place_so t r deeper system = place_is deeper system ∙ r deeper system

  pub place_stops : (last : Designated) (h : Hurdle) → ReadsParts d last (parts_of place.parts) (Err h) here → ReadsPlace (place_of place) (Err h) here
  place_stops last (hurdle.Range line) r = λ deeper system. place_is deeper system ∙ r deeper system
  place_stops last hurdle.Frames r = tt

-- ---- what one more operation makes of an ordinal that was read

module _ (here : code.Evaluation) (e : Expression) where
  abbrev read_of : Construct Value
  read_of deeper = expression (unit_of here.unit.now) here.name.items here.size deeper e

  abbrev behind_value : (Value → World → Evaluation Value) → (Acts → World → Evaluation (Unit {0})) → Value → World → Evaluation Value
  behind_value k deeper = k

  -- the operation of the construct round an expression
  pub then_so : (k : Value → World → Evaluation Value) (n : ℤ) (result : Result ℤ Hurdle) → ReadsValue e (Ok n) here → Reads ordinal (λ _. k (ordinal n)) result here →
      Reads ordinal (λ deeper w. read_of deeper w >>= k) result here
  then_so k n result r s = onward ordinal ordinal read_of (behind_value k) here n result r s

  pub then_stops : (k : Value → World → Evaluation Value) (h : Hurdle) → ReadsValue e (Err h) here → Reads ordinal (λ deeper w. read_of deeper w >>= k) (Err h) here
  then_stops k h r = stopped ordinal ordinal read_of (behind_value k) here h r

  pub not_so : (n m : ℤ) → ordinal m ≡ negation (ordinal n) → ReadsValue e (Ok n) here → ReadsValue (tree.not_of e) (Ok m) here
  not_so n m q r = then_so (λ v w. gives (negation v) w) n (Ok m) r (given_here ordinal (negation (ordinal n)) m here q)

  pub not_stops : (h : Hurdle) → ReadsValue e (Err h) here → ReadsValue (tree.not_of e) (Err h) here
  not_stops h r = then_stops (λ v w. gives (negation v) w) h r

  pub sign_so : (line : ℕ) (n : ℤ) (o : Option ℤ) (result : Result ℤ Hurdle) → option_map ordinal o ≡ sign (ordinal n) → IfOk result (λ m. o ≡ Some m) →
      OnErr result ((o ≡ None) × (result ≡ Err (hurdle.Range line))) → ReadsValue e (Ok n) here → ReadsValue (tree.sign_of e line) result here
  sign_so line n o result q ok err r = then_so (λ v w. in_range line (sign v) w) n result r (ranged_so o (sign (ordinal n)) line result here q ok err)

  pub sign_stops : (line : ℕ) (h : Hurdle) → ReadsValue e (Err h) here → ReadsValue (tree.sign_of e line) (Err h) here
  sign_stops line h r = then_stops (λ v w. in_range line (sign v) w) h r

  abbrev converting : (of line : ℕ) → Value → World → Evaluation Value
  converting of line v w = in_range line (Rattle.edi_unit.specs.Values.converted (shape_at (unit_of here.unit.now).types of) v) w

  pub convert_so : (of line : ℕ) (n m : ℤ) → m ≡ n → is_ordinal_of (shape_at (unit_of here.unit.now).types of) n ≡ true → ReadsValue e (Ok n) here →
      ReadsValue (tree.convert of e line) (Ok m) here
  convert_so of line n m q fits r =
      then_so (converting of line) n (Ok m) r
      (λ deeper system. ap (λ b. in_range line (if b then Some (ordinal n) else None) (world_of here system)) fits
      ∙ ap (λ k. gives (ordinal k) (world_of here system)) (sym q))

  pub convert_fails : (of line : ℕ) (n : ℤ) → is_ordinal_of (shape_at (unit_of here.unit.now).types of) n ≡ false → ReadsValue e (Ok n) here →
      ReadsValue (tree.convert of e line) (Err (hurdle.Range line)) here
  convert_fails of line n fits r =
      then_so (converting of line) n (Err (hurdle.Range line)) r
      (λ deeper system. ap (λ b. in_range line (if b then Some (ordinal n) else None) (world_of here system)) fits)

  pub convert_stops : (of line : ℕ) (h : Hurdle) → ReadsValue e (Err h) here → ReadsValue (tree.convert of e line) (Err h) here
  convert_stops of line h r = then_stops (converting of line) h r

  -- an index
  pub index_so : (line : ℕ) (old new : Designated) (n : ℤ) (result : Result (Unit {0}) Hurdle) → ReadsValue e (Ok n) here → ReadsElement old new n line result here →
      ReadsPart old new (tree.index e line) result here
  index_so line old new n result r s =
      onward {T = ℤ} {U = Unit {0}} ordinal (λ _. new) read_of
      (λ deeper v w. element_of (shape_at (unit_of here.unit.now).types old.of) line old.at v w) here n result r s

  pub index_stops : (line : ℕ) (old new : Designated) (h : Hurdle) → ReadsValue e (Err h) here → ReadsPart old new (tree.index e line) (Err h) here
  index_stops line old new h r =
      stopped {T = ℤ} {U = Unit {0}} ordinal (λ _. new) read_of
      (λ deeper v w. element_of (shape_at (unit_of here.unit.now).types old.of) line old.at v w) here h r

-- the ordinal that a variable holds
pub load_so : (here : code.Evaluation) (v : Place) (t : code_target.Target) (n : ℤ) → get (store_of here.memory) (location_of t.at) ≡ ordinal n →
    ReadsPlace v (Ok t) here → ReadsValue (tree.load v) (Ok n) here
load_so here v t n q r =
    onward {T = code_target.Target} {U = ℤ} designated_of ordinal (λ deeper. designated (unit_of here.unit.now) here.name.items here.size deeper v)
    (λ deeper d w. gives (get w.store d.at) w) here t (Ok n) r (λ deeper system. ap (λ x. gives x (world_of here system)) q)

pub load_stops : (here : code.Evaluation) (v : Place) (h : Hurdle) → ReadsPlace v (Err h) here → ReadsValue (tree.load v) (Err h) here
load_stops here v h r =
    stopped {T = code_target.Target} {U = ℤ} designated_of ordinal (λ deeper. designated (unit_of here.unit.now) here.name.items here.size deeper v)
    (λ deeper d w. gives (get w.store d.at) w) here h r

-- the ordinal that stands there, or none
pub loaded_so : (here : code.Evaluation) (v : Place) (t : code_target.Target) (result : Result ℤ Hurdle) →
    IfOk result (λ n. get (store_of here.memory) (location_of t.at) ≡ ordinal n) → OnErr result (result ≡ Err hurdle.Frames) →
    ReadsPlace v (Ok t) here → ReadsValue (tree.load v) result here
loaded_so here v t (Ok n) q err r = load_so here v t n q r
loaded_so here v t (Err h) q err r = subst (λ x. ReadsValue (tree.load v) x here) (sym err) tt

-- ---- operators of a chain

pub link_decided : (here : code.Evaluation) (n m : ℤ) (l : code_link.Link) → m ≡ n → decides l.operator (ordinal n) ≡ true → ReadsLink n (link_of l) (Ok m) here
link_decided here n m l q d =
    subst (λ k. ReadsLink n k (Ok m) here) (sym (link_seen l)) (decided_so here n l.operator (expression_of l.right) l.line m q d)

pub link_operated : (here : code.Evaluation) (n m : ℤ) (l : code_link.Link) (a : Option ℤ) (result : Result ℤ Hurdle) → decides l.operator (ordinal n) ≡ false →
    ReadsValue (expression_of l.right) (Ok m) here → option_map ordinal a ≡ apply l.operator (ordinal n) (ordinal m) → IfOk result (λ k. a ≡ Some k) →
    OnErr result ((a ≡ None) × (result ≡ Err (hurdle.Range l.line))) → ReadsLink n (link_of l) result here
link_operated here n m l a result d r q ok err =
    subst (λ k. ReadsLink n k result here) (sym (link_seen l))
    (operated_so here n l.operator (expression_of l.right) l.line m a result d r q ok err)

pub link_unread : (here : code.Evaluation) (n : ℤ) (l : code_link.Link) (h : Hurdle) → decides l.operator (ordinal n) ≡ false →
    ReadsValue (expression_of l.right) (Err h) here → ReadsLink n (link_of l) (Err h) here
link_unread here n l h d r =
    subst (λ k. ReadsLink n k (Err h) here) (sym (link_seen l)) (operated_stops here n l.operator (expression_of l.right) l.line h d r)

-- the same operands in other words
pub applied : (o : Operator) (n m k l : ℤ) (a : Option ℤ) → option_map ordinal a ≡ apply o (ordinal k) (ordinal l) → k ≡ n → l ≡ m →
    option_map ordinal a ≡ apply o (ordinal n) (ordinal m)
applied o n m k l a q kn lm = q ∙ ap (λ x. apply o (ordinal x) (ordinal l)) kn ∙ ap (λ x. apply o (ordinal n) (ordinal x)) lm
