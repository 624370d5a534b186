-- The parameters of headings as lists.
use Rattle.std.proofs.Common.{◌≡◌, suc, List, [], ◌∷◌, ◌++◌, length, map, refl, ap, ◌∙◌}
use Rattle.std.proofs.lemmas.List.{length-map, map-append}
use Rattle.edi_unit.specs.Headings.{value_then, variable_then, procedure_then}
use Rattle.edi_static.specs.declared.headings.Formal as code_formal
use Rattle.edi_static.specs.Environment.{formals_append, formals_count, parameters_of}
use Rattle.edi_static.specs.Views.{One, value, variable, procedure, formals, formal_of, parameter_of}

parameters_listed : (fs : List One) → map parameter_of fs ≡ parameters_of (formals fs)
parameters_listed [] = refl
parameters_listed (value t ∷ fs) = ap (λ ps. parameter_of (value t) ∷ ps) (parameters_listed fs)
parameters_listed (variable t ∷ fs) = ap (λ ps. parameter_of (variable t) ∷ ps) (parameters_listed fs)
parameters_listed (procedure h ∷ fs) = ap (λ ps. parameter_of (procedure h) ∷ ps) (parameters_listed fs)

twice : (fs : List code_formal.Formal) → map (λ f. parameter_of (formal_of f)) fs ≡ map parameter_of (map formal_of fs)
twice [] = refl
twice (f ∷ fs) = ap (λ ps. parameter_of (formal_of f) ∷ ps) (twice fs)

-- what a block keeps of the parameters
pub kept : (fs : List code_formal.Formal) → map (λ f. parameter_of (formal_of f)) fs ≡ parameters_of (formals (map formal_of fs))
kept fs = twice fs ∙ parameters_listed (map formal_of fs)

-- one more parameter, and how many there are
one_more : (fs : List One) (f : One) → formals (fs ++ f ∷ []) ≡ formals_append (formals fs) (formals (f ∷ []))
one_more [] (value t) = refl
one_more [] (variable t) = refl
one_more [] (procedure h) = refl
one_more (value t ∷ fs) f = ap (value_then t) (one_more fs f)
one_more (variable t ∷ fs) f = ap (variable_then t) (one_more fs f)
one_more (procedure h ∷ fs) f = ap (procedure_then h) (one_more fs f)

counted : (fs : List One) → formals_count (formals fs) ≡ length fs
counted [] = refl
counted (value t ∷ fs) = ap suc (counted fs)
counted (variable t ∷ fs) = ap suc (counted fs)
counted (procedure h ∷ fs) = ap suc (counted fs)

pub parameters_counted : (fs : List code_formal.Formal) → formals_count (formals (map formal_of fs)) ≡ length fs
parameters_counted fs = counted (map formal_of fs) ∙ length-map fs formal_of

pub more_formals : (fs : List code_formal.Formal) (f : code_formal.Formal) → formals (map formal_of (fs ++ f ∷ [])) ≡ formals_append
    (formals (map formal_of fs)) (formals (formal_of f ∷ []))
more_formals fs f = ap formals (map-append formal_of fs (f ∷ [])) ∙ one_more (map formal_of fs) (formal_of f)
