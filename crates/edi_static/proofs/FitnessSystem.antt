-- The parameters of a program are calls of the system, and no two are the same call.
use Rattle.std.proofs.Common.{◌≡◌, ℕ, zero, suc, ◌<◌, nat_lt, ℤ, pos, Bool, true, false, not, ◌&&◌, ◌||◌, ◌==◌, if◌then◌else◌, cond, List, [], ◌∷◌, ◌++◌}
use Rattle.std.proofs.Common.{length, Option, Some, None, All, IsTrue, IfSome, is_some, refl, sym, ap, subst, ◌∙◌, arith}
use Rattle.std.proofs.lemmas.Bool.{eqb-true, and_parts, or_parts, true≢false}
use Rattle.std.proofs.lemmas.Bool.Decides.{Decides-int_eq}
use Rattle.std.proofs.lemmas.List.Elements.{All-nil, All-cons}
use Rattle.std.proofs.lemmas.List.{get_or_append_left, get_or_past}
use Rattle.std.proofs.lemmas.List.Kept.{AllPairs-cons}
use Rattle.std.proofs.lemmas.Slice.Eq.{bytes_eq-Decides}
use Rattle.std.specs.Prelude.{◌≢◌, AllPairs, slice_index, codes, drop}
use Rattle.std.specs.Ordering.{int_eq}
use Rattle.std.specs.Str.{bytes_eq}
use Rattle.std.specs.Map.{lookup}
use Rattle.edi_scope.specs.declared.entity.Entity.{Entity}
use Rattle.edi_scope.specs.declared.entity.Entity.TheVariants as entity
use Rattle.edi_scope.specs.Scope.{Scope, declared, outside, with_name}
use Rattle.edi_tree.specs.declared.names.Name.{Name}
use Rattle.edi_tree.specs.Tree as text
use Rattle.edi_unit.specs.declared.units.Parameter.TheVariants as slot
use Rattle.edi_unit.specs.Types.{Shape, int, char, bool, enumeration, record_of, array_of, set_of, shape_at, int_type, char_type, bool_type}
use Rattle.edi_unit.specs.Tree.{ProgramUnit}
use Rattle.edi_unit.specs.Need.{block_at}
use Rattle.edi_unit.specs.Fits.{IsTitle}
use Rattle.edi_unit.specs.Headings.{Heading, heading, Formals, no_formal, value_then, variable_then, procedure_then, heading_result, heading_formals}
use Rattle.edi_unit.specs.Fits.{IsCall, accept, display, print, find, more, read, fresh, write, close, remove, CallsFit}
use Rattle.edi_static.specs.declared.faults.StaticKind.{StaticKind}
use Rattle.edi_static.specs.declared.faults.StaticKind.TheVariants as kind
use Rattle.edi_static.specs.Judged.{Judged, gives, faults}
use Rattle.edi_static.specs.Environment.{Environment, declare, enter, no_heading, heading_at, same_heading, formals_append, parameters_of}
use Rattle.edi_static.specs.Headings.{Headed, with_result, heading_parts, more_parameters}
use Rattle.edi_static.specs.Fitting.{rest_of}
use Rattle.edi_static.specs.Programs.{is_title_shape, is_titled, gives_char, gives_bool, takes_char, system_calls, number_of_call, call_with, call_of}
use Rattle.edi_static.specs.Programs.{calls_of_more, calls_of, program_heading}
use Rattle.edi_static.proofs.Judging.{Gives, bind, behind}
use Rattle.edi_static.proofs.Fitness.{asked_at, variable_heading, headings_of}
use Rattle.edi_static.proofs.FitnessOperators.{never}
use Rattle.edi_static.proofs.FitnessCalls.{same_heading_is}
use Rattle.edi_static.proofs.FitnessScopes.{also, always, with_known, Follows, only_procedures, Behind, more_new}

-- ---- the calls by number

-- the name of the call of a number
abbrev pub title_of : ℕ → List ℕ
title_of n =
    if n == 1 then codes "accept" else
    if n == 2 then codes "display" else
    if n == 3 then codes "print" else
    if n == 4 then codes "find" else
    if n == 5 then codes "more" else
    if n == 6 then codes "read" else
    if n == 7 then codes "fresh" else
    if n == 8 then codes "write" else
    if n == 9 then codes "close" else codes "remove"

title_shape : (shape : Shape) → is_title_shape shape ≡ true → shape ≡ array_of int_type (pos 1) (pos 12) char_type
title_shape (array_of i lo hi e) h =
    let p = and_parts (i == int_type && int_eq lo (pos 1) && int_eq hi (pos 12)) (e == char_type) h in
    let q = and_parts (i == int_type && int_eq lo (pos 1)) (int_eq hi (pos 12)) p.0 in
    let r = and_parts (i == int_type) (int_eq lo (pos 1)) q.0 in
    ap (λ n. array_of n lo hi e) (eqb-true i int_type r.0)
    ∙ ap (λ n. array_of int_type n hi e) ((Decides-int_eq lo (pos 1)).0 r.1)
    ∙ ap (λ n. array_of int_type (pos 1) n e) ((Decides-int_eq hi (pos 12)).0 q.1)
    ∙ ap (array_of int_type (pos 1) (pos 12)) (eqb-true e char_type p.1)
title_shape int h = never h
title_shape char h = never h
title_shape bool h = never h
title_shape (enumeration n) h = never h
title_shape (record_of fs) h = never h
title_shape (set_of b) h = never h

-- a title, and a variable for the answer
abbrev Titled : List Shape → Heading → Type 0
Titled types asks = (t : ℕ) × IsTitle types t × (asks ≡ heading (value_then t (variable_then bool_type no_formal)) None)

titled : (types : List Shape) (asks : Heading) → is_titled types asks ≡ true → Titled types asks
titled types (heading (value_then t (variable_then b no_formal)) None) h =
    let p = and_parts (is_title_shape (shape_at types t)) (b == bool_type) h in
    (t, title_shape (shape_at types t) p.0, ap (λ n. heading (value_then t (variable_then n no_formal)) None) (eqb-true b bool_type p.1))
titled types (heading (value_then t (variable_then b no_formal)) (Some r)) h = never h
titled types (heading (value_then t (variable_then b (value_then u fs))) r) h = never h
titled types (heading (value_then t (variable_then b (variable_then u fs))) r) h = never h
titled types (heading (value_then t (variable_then b (procedure_then g fs))) r) h = never h
titled types (heading (value_then t no_formal) r) h = never h
titled types (heading (value_then t (value_then u fs)) r) h = never h
titled types (heading (value_then t (procedure_then g fs)) r) h = never h
titled types (heading no_formal r) h = never h
titled types (heading (variable_then t fs) r) h = never h
titled types (heading (procedure_then g fs) r) h = never h

-- the call of a number, with this heading and this name
abbrev pub IsNamed : List Shape → Heading → List ℕ → ℕ → Type 0
IsNamed types asks name n = IsCall types n (heading_formals asks) × (heading_result asks ≡ None) × (name ≡ title_of n)

choose_row : (P : ℕ → Type 0) (found is : Bool) (k : ℕ) (o : Option ℕ) → (found ≡ true → is ≡ true → P k) → IfSome o P
    → IfSome (if found then (if is then Some k else None) else o) P
choose_row P true true k o h j = h refl refl
choose_row P true false k o h j = tt
choose_row P false is k o h j = j

named_so : (title name : List ℕ) → bytes_eq title name ≡ true → name ≡ title
named_so title name e = sym ((bytes_eq-Decides title name).0 e)

-- a row of the table of calls whose heading is this one
plain_row : (types : List Shape) (asks : Heading) (name : List ℕ) (row : Heading) (n : ℕ) (o : Option ℕ) →
    (heading_formals asks ≡ heading_formals row → IsCall types n (heading_formals asks)) → heading_result row ≡ None → IfSome o (IsNamed types asks name)
    → IfSome (if bytes_eq (title_of n) name then (if same_heading asks row then Some n else None) else o) (IsNamed types asks name)
plain_row types asks name row n o call none rest =
    choose_row (IsNamed types asks name) (bytes_eq (title_of n) name) (same_heading asks row) n o
    (λ f i. let e = same_heading_is asks row i in (call (ap heading_formals e), ap heading_result e ∙ none, named_so (title_of n) name f)) rest

-- a row of a call with a title
titled_row : (types : List Shape) (asks : Heading) (name : List ℕ) (n : ℕ) (o : Option ℕ) → ((t : ℕ) → IsTitle types t →
    heading_formals asks ≡ value_then t (variable_then bool_type no_formal) → IsCall types n (heading_formals asks)) → IfSome o (IsNamed types asks name)
    → IfSome (if bytes_eq (title_of n) name then (if is_titled types asks then Some n else None) else o) (IsNamed types asks name)
titled_row types asks name n o call rest =
    choose_row (IsNamed types asks name) (bytes_eq (title_of n) name) (is_titled types asks) n o
    (λ f i. let t = titled types asks i in (call t.0 t.1 (ap heading_formals t.2), ap heading_result t.2, named_so (title_of n) name f)) rest

number_fits : (types : List Shape) (asks : Heading) (name : List ℕ) → IfSome (number_of_call (system_calls types asks) name) (IsNamed types asks name)
number_fits types asks name =
    plain_row types asks name gives_char 1 _ (accept refl) refl
    (plain_row types asks name takes_char 2 _ (display refl) refl
    (plain_row types asks name takes_char 3 _ (print refl) refl
    (titled_row types asks name 4 _ (λ t is. find t refl is)
    (plain_row types asks name gives_bool 5 _ (more refl) refl
    (plain_row types asks name gives_char 6 _ (read refl) refl
    (plain_row types asks name no_heading 7 _ (fresh refl) refl
    (plain_row types asks name takes_char 8 _ (write refl) refl
    (titled_row types asks name 9 _ (λ t is. close t refl is)
    (titled_row types asks name 10 None (λ t is. remove t refl is) tt)))))))))

call_with_fits : (P : ℕ → Type 0) (name : Name) (o : Option ℕ) → IfSome o P → Gives P (call_with name o)
call_with_fits P name None h = tt
call_with_fits P name (Some n) h = h

-- ---- the calls of parameters

-- the calls of these parameters, of other names than those that are known
abbrev pub CallsOf : List Shape → (List ℕ → Bool) → Formals → List ℕ → Type 0
CallsOf types known no_formal [] = Unit {0}
CallsOf types known no_formal (n ∷ ns) = ⊥
CallsOf types known (procedure_then asks fs) [] = ⊥
CallsOf types known (procedure_then asks fs) (n ∷ ns) =
    IsCall types n (heading_formals asks) × (heading_result asks ≡ None) × (known (title_of n) ≡ false) × CallsOf types (with_known (title_of n) known) fs ns
CallsOf types known (value_then t fs) ns = ⊥
CallsOf types known (variable_then t fs) ns = ⊥

calls_follow : (types : List Shape) (known : List ℕ → Bool) (ps : text.MoreParams) (fs : Formals) → Follows known ps fs → Gives (CallsOf types known fs)
    (calls_of_more types ps fs)
calls_follow types known text.no_param fs h = subst (λ fs. CallsOf types known fs []) (sym h) tt
calls_follow types known (text.next_param (text.procedure_param (text.heading name hs r)) ps) fs h =
    subst (λ fs. Gives (CallsOf types known fs) (calls_of_more types (text.next_param (text.procedure_param (text.heading name hs r)) ps) fs)) (sym h.2)
    (bind (IsNamed types h.0 name.text) (CallsOf types known (procedure_then h.0 h.1))
    (call_of types (text.procedure_param (text.heading name hs r)) (procedure_then h.0 h.1)) _
    (call_with_fits (IsNamed types h.0 name.text) name (number_of_call (system_calls types h.0) name.text) (number_fits types h.0 name.text))
    (λ n k.
    bind (CallsOf types (with_known (title_of n) known) h.1) (CallsOf types known (procedure_then h.0 h.1)) (calls_of_more types ps h.1) _
    (calls_follow types (with_known (title_of n) known) ps h.1 (subst (λ title. Follows (with_known title known) ps h.1) k.2 h.4))
    (λ ns j. (k.0, k.1, subst (λ title. known title ≡ false) k.2 h.3, j))))
calls_follow types known (text.next_param (text.value_param (text.group first names of)) ps) fs h = tt
calls_follow types known (text.next_param (text.var_param (text.group first names of)) ps) fs h = tt

-- no call is among those of other parameters
or_right : (b c : Bool) → c ≡ true → (b || c) ≡ true
or_right true c h = refl
or_right false c h = h

or_left : (b c : Bool) → b ≡ true → (b || c) ≡ true
or_left true c h = refl
or_left false c h = never h

others : (types : List Shape) (n : ℕ) (known : List ℕ → Bool) (fs : Formals) (ns : List ℕ) → known (title_of n) ≡ true → CallsOf types known fs ns
    → All (λ m. n ≢ m) ns
others types n known no_formal [] h k = All-nil (λ m. n ≢ m)
others types n known no_formal (m ∷ ns) h k = absurd k
others types n known (value_then t fs) ns h k = absurd k
others types n known (variable_then t fs) ns h k = absurd k
others types n known (procedure_then asks fs) [] h k = absurd k
others types n known (procedure_then asks fs) (m ∷ ns) h k =
    All-cons (λ m. n ≢ m) m ns
    (λ e. let c : true ≡ false = sym h ∙ (ap (λ k. known (title_of k)) e ∙ k.2) in absurd (true≢false c))
    (others types n (with_known (title_of m) known) fs ns (or_right (bytes_eq (title_of n) (title_of m)) (known (title_of n)) h) k.3)

calls_distinct : (types : List Shape) (known : List ℕ → Bool) (fs : Formals) (ns : List ℕ) → CallsOf types known fs ns → AllPairs (λ m n. m ≢ n) ns
calls_distinct types known no_formal [] k = λ i j d lt within. absurd (omega (arith, within))
calls_distinct types known no_formal (n ∷ ns) k = absurd k
calls_distinct types known (value_then t fs) ns k = absurd k
calls_distinct types known (variable_then t fs) ns k = absurd k
calls_distinct types known (procedure_then asks fs) [] k = absurd k
calls_distinct types known (procedure_then asks fs) (n ∷ ns) k =
    AllPairs-cons (λ m n. m ≢ n) n ns
    (others types n (with_known (title_of n) known) fs ns
    (or_left (bytes_eq (title_of n) (title_of n)) (known (title_of n)) ((bytes_eq-Decides (title_of n) (title_of n)).1 refl))
    k.3)
    (calls_distinct types (with_known (title_of n) known) fs ns k.3)

calls_procedures : (types : List Shape) (known : List ℕ → Bool) (fs : Formals) (ns : List ℕ) → CallsOf types known fs ns → All (λ p. p ≡ slot.Formal None)
    (parameters_of fs)
calls_procedures types known no_formal [] k = All-nil (λ p. p ≡ slot.Formal None)
calls_procedures types known no_formal (n ∷ ns) k = absurd k
calls_procedures types known (value_then t fs) ns k = absurd k
calls_procedures types known (variable_then t fs) ns k = absurd k
calls_procedures types known (procedure_then asks fs) [] k = absurd k
calls_procedures types known (procedure_then asks fs) (n ∷ ns) k =
    All-cons (λ p. p ≡ slot.Formal None) (slot.Formal (heading_result asks)) (parameters_of fs) (ap slot.Formal k.1)
    (calls_procedures types (with_known (title_of n) known) fs ns k.3)

calls_many : (types : List Shape) (known : List ℕ → Bool) (fs : Formals) (ns : List ℕ) → CallsOf types known fs ns → length (parameters_of fs) ≡ length ns
calls_many types known no_formal [] k = refl
calls_many types known no_formal (n ∷ ns) k = absurd k
calls_many types known (value_then t fs) ns k = absurd k
calls_many types known (variable_then t fs) ns k = absurd k
calls_many types known (procedure_then asks fs) [] k = absurd k
calls_many types known (procedure_then asks fs) (n ∷ ns) k = ap suc (calls_many types (with_known (title_of n) known) fs ns k.3)

calls_each : (types : List Shape) (known : List ℕ → Bool) (fs : Formals) (ns : List ℕ) → CallsOf types known fs ns → (i : ℕ) → i < length ns
    → IsCall types (slice_index ns i) (heading_formals (asked_at fs i))
calls_each types known no_formal [] k i lt = absurd (omega (arith, lt))
calls_each types known no_formal (n ∷ ns) k i lt = absurd k
calls_each types known (value_then t fs) ns k i lt = absurd k
calls_each types known (variable_then t fs) ns k i lt = absurd k
calls_each types known (procedure_then asks fs) [] k i lt = absurd k
calls_each types known (procedure_then asks fs) (n ∷ ns) k zero lt = k.0
calls_each types known (procedure_then asks fs) (n ∷ ns) k (suc i) lt =
    calls_each types (with_known (title_of n) known) fs ns k.3 i (omega (arith, lt))

-- ---- programs

abbrev pub none_known : List ℕ → Bool
none_known name = false

-- the calls of a program that has this heading
abbrev pub AreCalls : List Shape → Heading → List ℕ → Type 0
AreCalls types asks ns = (fs : Formals) × (asks ≡ heading fs None) × CallsOf types none_known fs ns

-- the calls of a unit whose program has this heading
pub calls_fit : (unit : ProgramUnit) (headings : List Heading) (asks : Heading) → heading_at headings 0 ≡ asks
    → (block_at unit.blocks 0).parameters ≡ parameters_of (heading_formals asks) → AreCalls unit.types asks unit.calls → CallsFit unit (headings_of headings)
calls_fit unit headings asks is kept h =
    let named : (block_at unit.blocks 0).parameters ≡ parameters_of h.0 = kept ∙ ap (λ g. parameters_of (heading_formals g)) h.1 in
    let at : heading_at headings 0 ≡ heading h.0 None = is ∙ h.1 in
    record {
      procedures = subst (λ ps. All (λ p. p ≡ slot.Formal None) ps) (sym named) (calls_procedures unit.types none_known h.0 unit.calls h.2);
      as_many = ap length named ∙ calls_many unit.types none_known h.0 unit.calls h.2;
      each =
          (λ i lt.
          subst (λ g. IsCall unit.types (slice_index unit.calls i) (heading_formals (variable_heading g i))) (sym at)
          (calls_each unit.types none_known h.0 unit.calls h.2 i lt));
      distinct = calls_distinct unit.types none_known h.0 unit.calls h.2;
    }

-- a group among the parameters of a program is refused
group_faults : (P : List ℕ → Type 0) (types : List Shape) (ps : text.MoreParams) (fs : Formals) → only_procedures ps ≡ false
    → Gives P (calls_of_more types ps fs)
group_faults P types text.no_param fs e = absurd (true≢false e)
group_faults P types (text.next_param (text.procedure_param h) ps) fs e =
    behind P (call_of types (text.procedure_param h) fs) _ (λ n.
    bind (λ ns. ⊥) P (calls_of_more types ps (rest_of fs)) _ (group_faults (λ ns. ⊥) types ps (rest_of fs) e) (λ ns k. absurd k))
group_faults P types (text.next_param (text.value_param (text.group first names of)) ps) fs e = tt
group_faults P types (text.next_param (text.var_param (text.group first names of)) ps) fs e = tt

-- what the rules on a program's heading give, with any types
abbrev pub GivesCalls : text.Heading → Headed → Type 0
GivesCalls h headed = (types : List Shape) → Gives (AreCalls types headed.asks) (program_heading types h headed.asks)

params_calls : (name : Name) (p : text.Param) (ps : text.MoreParams) (env : Environment) (only : Bool) → only_procedures (text.next_param p ps) ≡ only
    → Gives (GivesCalls (text.heading name (text.params p ps) None)) (heading_parts 0 (text.heading name (text.params p ps) None) env)
params_calls name p ps env true e =
    bind (Behind none_known (text.next_param p ps) no_formal) (GivesCalls (text.heading name (text.params p ps) None))
    (more_parameters 0 0 (text.next_param p ps) (record { env = enter false env; formals = no_formal })) (with_result None)
    (more_new none_known 0 0 (text.next_param p ps) (record { env = enter false env; formals = no_formal }) e (λ name k. never k))
    (λ l b types.
    also (CallsOf types none_known l.formals) (AreCalls types (heading l.formals None)) (calls_of_more types (text.next_param p ps) l.formals)
    (calls_follow types none_known (text.next_param p ps) l.formals (subst (Follows none_known (text.next_param p ps)) (sym b.1) b.2))
    (λ ns c. (l.formals, refl, c)))
params_calls name p ps env false e =
    always (GivesCalls (text.heading name (text.params p ps) None)) (heading_parts 0 (text.heading name (text.params p ps) None) env)
    (λ headed types. group_faults (AreCalls types headed.asks) types (text.next_param p ps) (heading_formals headed.asks) e)

pub heading_calls : (h : text.Heading) (env : Environment) → Gives (GivesCalls h) (heading_parts 0 h env)
heading_calls (text.heading name ps (Some r)) env =
    always (GivesCalls (text.heading name ps (Some r))) (heading_parts 0 (text.heading name ps (Some r)) env) (λ headed types. tt)
heading_calls (text.heading name text.no_params None) env = λ types. (no_formal, refl, tt)
heading_calls (text.heading name (text.params p ps) None) env = params_calls name p ps env (only_procedures (text.next_param p ps)) refl

-- ---- with more types

array_int : (i e : ℕ) (lo hi : ℤ) → int ≡ array_of i lo hi e → ⊥
array_int i e lo hi h = absurd (cc)

title_there : (types added : List Shape) (t : ℕ) (inside : Bool) → nat_lt t (length types) ≡ inside → IsTitle types t → IsTitle (types ++ added) t
title_there types added t true e h = get_or_append_left types added int t (grind (arith, e)) ∙ h
title_there types added t false e h =
    absurd (array_int int_type char_type (pos 1) (pos 12) (sym (get_or_past types t int (grind (arith, e))) ∙ h))

title_more : (types added : List Shape) (t : ℕ) → IsTitle types t → IsTitle (types ++ added) t
title_more types added t h = title_there types added t (nat_lt t (length types)) refl h

-- the calls stay what they are where types are added
call_more : (types added : List Shape) (n : ℕ) (fs : Formals) → IsCall types n fs → IsCall (types ++ added) n fs
call_more types added n fs (accept e f) = accept e f
call_more types added n fs (display e f) = display e f
call_more types added n fs (print e f) = print e f
call_more types added n fs (find t e title f) = find t e (title_more types added t title) f
call_more types added n fs (more e f) = more e f
call_more types added n fs (read e f) = read e f
call_more types added n fs (fresh e f) = fresh e f
call_more types added n fs (write e f) = write e f
call_more types added n fs (close t e title f) = close t e (title_more types added t title) f
call_more types added n fs (remove t e title f) = remove t e (title_more types added t title) f

calls_later : (types added : List Shape) (known : List ℕ → Bool) (fs : Formals) (ns : List ℕ) → CallsOf types known fs ns → CallsOf (types ++ added) known fs ns
calls_later types added known no_formal [] k = tt
calls_later types added known no_formal (n ∷ ns) k = absurd k
calls_later types added known (value_then t fs) ns k = absurd k
calls_later types added known (variable_then t fs) ns k = absurd k
calls_later types added known (procedure_then asks fs) [] k = absurd k
calls_later types added known (procedure_then asks fs) (n ∷ ns) k =
    (call_more types added n (heading_formals asks) k.0, k.1, k.2, calls_later types added (with_known (title_of n) known) fs ns k.3)

pub are_calls_later : (types added : List Shape) (asks : Heading) (ns : List ℕ) → AreCalls types asks ns → AreCalls (types ++ added) asks ns
are_calls_later types added asks ns h = (h.0, h.1, calls_later types added none_known h.0 ns h.2)
