-- Headings of one and of two parameters.
use Rattle.std.proofs.Common.{◌≡◌, ◌≢◌, ℕ, suc, Bool, true, false, ◌&&◌, ◌==◌, List, [], ◌∷◌, length, map, get_or, Option, Some, None, refl, ap, sym, ◌∙◌}
use Rattle.std.proofs.Common.{arith}
use Rattle.std.proofs.lemmas.List.{length-map}
use Rattle.edi_unit.specs.Types.{Shape, bool_type}
use Rattle.edi_unit.specs.Headings.{Heading, heading, heading_formals, heading_result, Formals, no_formal, value_then, variable_then, procedure_then}
use Rattle.edi_static.specs.declared.headings.Formal as code_formal
use Rattle.edi_static.specs.Environment.{same_formals, same_heading, same_result, no_heading}
use Rattle.edi_static.specs.Programs.{is_titled}
use Rattle.edi_static.specs.Views.{One, value, variable, procedure, formals, formal_of, same_one}
use Rattle.edi_sema.specs.Calls.{takes_title}

and_false : (b : Bool) → (b && false) ≡ false
and_false true = refl
and_false false = refl

pub and_true : (b : Bool) → (b && true) ≡ b
and_true true = refl
and_true false = refl

-- a heading without parameters
no_length : (fs : List One) → false ≡ (suc (length fs) == 0)
no_length fs = grind arith

no_one : (fs : List One) → same_formals (formals fs) no_formal ≡ (length fs == 0)
no_one [] = refl
no_one (value t ∷ fs) = no_length fs
no_one (variable t ∷ fs) = no_length fs
no_one (procedure h ∷ fs) = no_length fs

nothing : (h : Heading) (fs : List One) → formals fs ≡ heading_formals h → same_heading h no_heading ≡ ((length fs == 0) && same_result (heading_result h) None)
nothing (heading gs r) fs e = ap (λ gs. same_formals gs no_formal && same_result r None) (sym e) ∙ ap (λ b. b && same_result r None) (no_one fs)

-- a heading of one parameter
only_one : (f g : One) → same_formals (formals (f ∷ [])) (formals (g ∷ [])) ≡ same_one f g
only_one (value s) (value t) = and_true (s == t)
only_one (variable s) (variable t) = and_true (s == t)
only_one (procedure g) (procedure h) = and_true (same_heading g h)
only_one f g = refl

in_one : (h : Heading) (f g : One) → formals (f ∷ []) ≡ heading_formals h → same_heading h (heading (formals (g ∷ [])) None)
    ≡ (same_one f g && same_result (heading_result h) None)
in_one (heading gs r) f g e =
    ap (λ gs. same_formals gs (formals (g ∷ [])) && same_result r None) (sym e) ∙ ap (λ b. b && same_result r None) (only_one f g)

pub one_stated : (h : Heading) (fs : List code_formal.Formal) (x : code_formal.Formal) (g : One) → formals (map formal_of fs) ≡ heading_formals h →
    length fs ≡ 1 → x ≡ get_or fs 0 x → same_heading h (heading (formals (g ∷ [])) None) ≡ (same_one (formal_of x) g && same_result (heading_result h) None)
one_stated h [] x g e n i = absurd (omega arith)
one_stated h (a ∷ []) x g e n i = in_one h (formal_of a) g e ∙ ap (λ f. same_one (formal_of f) g && same_result (heading_result h) None) (sym i)
one_stated h (a ∷ b ∷ fs) x g e n i = absurd (omega arith)

more_than_none : (f : One) (fs : List One) → same_formals (formals (f ∷ fs)) no_formal ≡ false
more_than_none (value t) fs = refl
more_than_none (variable t) fs = refl
more_than_none (procedure h) fs = refl

and_more : (b : Bool) (f : One) (fs : List One) → (b && same_formals (formals (f ∷ fs)) no_formal) ≡ false
and_more b f fs = ap (λ c. b && c) (more_than_none f fs) ∙ and_false b

not_one_of : (fs : List One) (g : One) → length fs ≢ 1 → same_formals (formals fs) (formals (g ∷ [])) ≡ false
not_one_of [] (value t) n = refl
not_one_of [] (variable t) n = refl
not_one_of [] (procedure h) n = refl
not_one_of (f ∷ []) g n = absurd (n refl)
not_one_of (value s ∷ f ∷ fs) (value t) n = and_more (s == t) f fs
not_one_of (value s ∷ f ∷ fs) (variable t) n = refl
not_one_of (value s ∷ f ∷ fs) (procedure t) n = refl
not_one_of (variable s ∷ f ∷ fs) (value t) n = refl
not_one_of (variable s ∷ f ∷ fs) (variable t) n = and_more (s == t) f fs
not_one_of (variable s ∷ f ∷ fs) (procedure t) n = refl
not_one_of (procedure s ∷ f ∷ fs) (value t) n = refl
not_one_of (procedure s ∷ f ∷ fs) (variable t) n = refl
not_one_of (procedure s ∷ f ∷ fs) (procedure t) n = and_more (same_heading s t) f fs

pub not_one : (h : Heading) (fs : List code_formal.Formal) (g : One) → formals (map formal_of fs) ≡ heading_formals h → length fs ≢ 1 →
    same_heading h (heading (formals (g ∷ [])) None) ≡ false
not_one (heading gs r) fs g e n =
    ap (λ gs. same_formals gs (formals (g ∷ [])) && same_result r None) (sym e)
    ∙ ap (λ b. b && same_result r None) (not_one_of (map formal_of fs) g (λ e. n (grind (arith, e, length-map fs formal_of))))

pub with_result : (h g : Heading) → same_result (heading_result h) (heading_result g) ≡ false → same_heading h g ≡ false
with_result (heading fs r) (heading gs s) e = ap (λ b. same_formals fs gs && b) e ∙ and_false (same_formals fs gs)

pub bare_stated : (h : Heading) (fs : List code_formal.Formal) → formals (map formal_of fs) ≡ heading_formals h → same_result (heading_result h) None ≡ true →
    same_heading h no_heading ≡ (length fs == 0)
bare_stated h fs e n =
    nothing h (map formal_of fs) e ∙ (ap (λ b. (length (map formal_of fs) == 0) && b) n
    ∙ (and_true (length (map formal_of fs) == 0) ∙ ap (λ n. n == 0) (length-map fs formal_of)))

-- ---- a title and a variable

two : (types : List Shape) (f g : One) (r : Option ℕ) →
    is_titled types (heading (formals (f ∷ g ∷ [])) r) ≡ ((takes_title types f && same_one g (variable bool_type)) && same_result r None)
two types (value t) (variable b) None = sym (and_true (takes_title types (value t) && (b == bool_type)))
two types (value t) (variable b) (Some r) = sym (and_false (takes_title types (value t) && (b == bool_type)))
two types (value t) (value b) r = sym (ap (λ b. b && same_result r None) (and_false (takes_title types (value t))))
two types (value t) (procedure b) r = sym (ap (λ b. b && same_result r None) (and_false (takes_title types (value t))))
two types (variable t) g r = refl
two types (procedure t) g r = refl

pub titled_stated : (types : List Shape) (h : Heading) (fs : List code_formal.Formal) (x y : code_formal.Formal)
    → formals (map formal_of fs) ≡ heading_formals h →
    length fs ≡ 2 → x ≡ get_or fs 0 x → y ≡ get_or fs 1 y →
    is_titled types h ≡ ((takes_title types (formal_of x) && same_one (formal_of y) (variable bool_type)) && same_result (heading_result h) None)
titled_stated types h [] x y e n i j = absurd (omega arith)
titled_stated types h (a ∷ []) x y e n i j = absurd (omega arith)
titled_stated types (heading gs r) (a ∷ b ∷ []) x y e n i j =
    ap (λ gs. is_titled types (heading gs r)) (sym e)
    ∙ (two types (formal_of a) (formal_of b) r
    ∙ (ap (λ f. (takes_title types (formal_of f) && same_one (formal_of b) (variable bool_type)) && same_result r None) (sym i)
    ∙ ap (λ f. (takes_title types (formal_of x) && same_one (formal_of f) (variable bool_type)) && same_result r None) (sym j)))
titled_stated types h (a ∷ b ∷ c ∷ fs) x y e n i j = absurd (omega arith)

not_two_of : (types : List Shape) (fs : List One) (r : Option ℕ) → length fs ≢ 2 → is_titled types (heading (formals fs) r) ≡ false
not_two_of types [] r n = refl
not_two_of types (value t ∷ []) r n = refl
not_two_of types (value t ∷ value u ∷ fs) r n = refl
not_two_of types (value t ∷ procedure u ∷ fs) r n = refl
not_two_of types (value t ∷ variable u ∷ []) r n = absurd (n refl)
not_two_of types (value t ∷ variable u ∷ value v ∷ fs) r n = refl
not_two_of types (value t ∷ variable u ∷ variable v ∷ fs) r n = refl
not_two_of types (value t ∷ variable u ∷ procedure v ∷ fs) r n = refl
not_two_of types (variable t ∷ fs) r n = refl
not_two_of types (procedure t ∷ fs) r n = refl

pub not_two : (types : List Shape) (h : Heading) (fs : List code_formal.Formal) → formals (map formal_of fs) ≡ heading_formals h → length fs ≢ 2
    → is_titled types h ≡ false
not_two types (heading gs r) fs e n =
    ap (λ gs. is_titled types (heading gs r)) (sym e) ∙ not_two_of types (map formal_of fs) r (λ e. n (grind (arith, e, length-map fs formal_of)))

pub with_no_result : (b : Bool) (h : Heading) → same_result (heading_result h) None ≡ true → (b && same_result (heading_result h) None) ≡ b
with_no_result b h e = ap (λ c. b && c) e ∙ and_true b

titled_result : (types : List Shape) (gs : Formals) (r : Option ℕ) → same_result r None ≡ false → is_titled types (heading gs r) ≡ false
titled_result types no_formal r e = refl
titled_result types (variable_then t gs) r e = refl
titled_result types (procedure_then t gs) r e = refl
titled_result types (value_then t no_formal) r e = refl
titled_result types (value_then t (value_then u gs)) r e = refl
titled_result types (value_then t (procedure_then u gs)) r e = refl
titled_result types (value_then t (variable_then u no_formal)) None e = absurd (cc)
titled_result types (value_then t (variable_then u no_formal)) (Some s) e = refl
titled_result types (value_then t (variable_then u (value_then v gs))) r e = refl
titled_result types (value_then t (variable_then u (variable_then v gs))) r e = refl
titled_result types (value_then t (variable_then u (procedure_then v gs))) r e = refl

pub not_titled : (types : List Shape) (h : Heading) → same_result (heading_result h) None ≡ false → is_titled types h ≡ false
not_titled types (heading gs r) e = titled_result types gs r e

no_title_of : (types : List Shape) (f : One) (fs : List One) (r : Option ℕ) → takes_title types f ≡ false → is_titled types (heading (formals (f ∷ fs)) r)
    ≡ false
no_title_of types (variable t) fs r e = refl
no_title_of types (procedure t) fs r e = refl
no_title_of types (value t) [] r e = refl
no_title_of types (value t) (value u ∷ fs) r e = refl
no_title_of types (value t) (procedure u ∷ fs) r e = refl
no_title_of types (value t) (variable u ∷ []) None e = ap (λ b. b && (u == bool_type)) e
no_title_of types (value t) (variable u ∷ []) (Some s) e = refl
no_title_of types (value t) (variable u ∷ value v ∷ fs) r e = refl
no_title_of types (value t) (variable u ∷ variable v ∷ fs) r e = refl
no_title_of types (value t) (variable u ∷ procedure v ∷ fs) r e = refl

pub no_title : (types : List Shape) (h : Heading) (fs : List code_formal.Formal) (x : code_formal.Formal) → formals (map formal_of fs) ≡ heading_formals h →
    x ≡ get_or fs 0 x → takes_title types (formal_of x) ≡ false → is_titled types h ≡ false
no_title types (heading gs r) [] x e i n = ap (λ gs. is_titled types (heading gs r)) (sym e)
no_title types (heading gs r) (a ∷ fs) x e i n =
    ap (λ gs. is_titled types (heading gs r)) (sym e) ∙ no_title_of types (formal_of a) (map formal_of fs) r
    (ap (λ f. takes_title types (formal_of f)) (sym i) ∙ n)
