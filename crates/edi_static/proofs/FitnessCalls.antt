-- What the rules on calls and their arguments give fits.
use Rattle.std.proofs.Common.{◌≡◌, ℕ, suc, Bool, true, false, ◌&&◌, ◌==◌, Option, Some, None, IsTrue, refl, sym, ap, subst, ◌∙◌, arith}
use Rattle.std.proofs.lemmas.Bool.{eqb-true, and_parts}
use Rattle.std.specs.Prelude.{unwrap_or}
use Rattle.std.specs.Option.{IsSome}
use Rattle.edi_scope.specs.declared.entity.Entity.{Entity}
use Rattle.edi_scope.specs.declared.entity.Entity.TheVariants as entity
use Rattle.edi_tree.specs.declared.names.Name.{Name}
use Rattle.edi_tree.specs.Tree as text
use Rattle.edi_unit.specs.Types.{int_type}
use Rattle.edi_unit.specs.Tree as unit
use Rattle.edi_unit.specs.Need.{block_at, slot_result, expression_type}
use Rattle.edi_unit.specs.Fits.{is_procedure}
use Rattle.edi_unit.specs.Headings.{Heading, heading, Formals, no_formal, value_then, variable_then, procedure_then, heading_formals}
use Rattle.edi_unit.specs.Fits.{ExpressionFits, ArgumentsFit}
use Rattle.edi_static.specs.declared.faults.StaticKind.TheVariants as kind
use Rattle.edi_static.specs.Judged.{Judged, gives}
use Rattle.edi_static.specs.Environment.{Environment, here, look_up, same_result, same_heading, same_formals, formals_count}
use Rattle.edi_static.specs.Operators.{Typed}
use Rattle.edi_static.specs.Fitting.{Called, Use, constructs, calls, halts, neither, use_of, is_function, takes_so_many, rest_of, variable_argument}
use Rattle.edi_static.specs.Fitting.{is_variable_alone, name_alone, passed, invoked, as_variable, rooted_value}
use Rattle.edi_static.specs.Expressions.{used_alone, alone, procedure_argument, argument}
use Rattle.edi_static.proofs.Judging.{Gives, bind, behind, ruled}
use Rattle.edi_static.proofs.Fitness.{headings_of, slot_of, EntitySits, Sits, TypedFits, CalledFits, UseFits}
use Rattle.edi_static.proofs.FitnessNames.{look_up_sits, heading_is}
use Rattle.edi_static.proofs.FitnessOperators.{never}
use Rattle.edi_static.proofs.FitnessMade.{empty_fits}
use Rattle.edi_static.proofs.FitnessPlaces.{at_round, near_round, RootedFits, as_variable_fits, rooted_value_fits}

-- ---- headings of one shape are equal

pub same_result_is : (r s : Option ℕ) → same_result r s ≡ true → r ≡ s
same_result_is None None e = refl
same_result_is (Some s) (Some t) e = ap (λ n. Some n) (eqb-true s t e)
same_result_is None (Some t) e = never e
same_result_is (Some s) None e = never e

mutual
  pub same_heading_is : (g h : Heading) → same_heading g h ≡ true → g ≡ h
  same_heading_is (heading fs r) (heading gs s) e =
      let p = and_parts (same_formals fs gs) (same_result r s) e in
      ap (λ hs. heading hs r) (same_formals_is fs gs p.0) ∙ ap (heading gs) (same_result_is r s p.1)

  pub same_formals_is : (fs gs : Formals) → same_formals fs gs ≡ true → fs ≡ gs
  same_formals_is no_formal no_formal e = refl
  same_formals_is (value_then s fs) (value_then t gs) e =
      let p = and_parts (s == t) (same_formals fs gs) e in
      ap (λ u. value_then u fs) (eqb-true s t p.0) ∙ ap (value_then t) (same_formals_is fs gs p.1)
  same_formals_is (variable_then s fs) (variable_then t gs) e =
      let p = and_parts (s == t) (same_formals fs gs) e in
      ap (λ u. variable_then u fs) (eqb-true s t p.0) ∙ ap (variable_then t) (same_formals_is fs gs p.1)
  same_formals_is (procedure_then g fs) (procedure_then h gs) e =
      let p = and_parts (same_heading g h) (same_formals fs gs) e in
      ap (λ u. procedure_then u fs) (same_heading_is g h p.0) ∙ ap (procedure_then h) (same_formals_is fs gs p.1)
  same_formals_is no_formal (value_then t gs) e = never e
  same_formals_is no_formal (variable_then t gs) e = never e
  same_formals_is no_formal (procedure_then h gs) e = never e
  same_formals_is (value_then s fs) no_formal e = never e
  same_formals_is (value_then s fs) (variable_then t gs) e = never e
  same_formals_is (value_then s fs) (procedure_then h gs) e = never e
  same_formals_is (variable_then s fs) no_formal e = never e
  same_formals_is (variable_then s fs) (value_then t gs) e = never e
  same_formals_is (variable_then s fs) (procedure_then h gs) e = never e
  same_formals_is (procedure_then g fs) no_formal e = never e
  same_formals_is (procedure_then g fs) (value_then t gs) e = never e
  same_formals_is (procedure_then g fs) (variable_then t gs) e = never e

-- ---- what is called

pub use_fits : (env : Environment) → Sits env → (means : Entity) → EntitySits env means → UseFits env (use_of env means)
use_fits env s (entity.Types t) h = h
use_fits env s (entity.Procedure b) h = record {
  callee =
      (near_round env s (block_at env.blocks b).up h.2, h.0, h.1, at_round env s (block_at env.blocks b).up h.2);
  asks = heading_is env s b h.0;
  result = (s.stand b h.0).result;
}
use_fits env s (entity.Formal b v shape) h = record {
  callee =
      (near_round env s b h.0, subst (λ n. IsTrue (is_procedure (slot_of env.blocks n v))) (sym (at_round env s b h.0)) h.1);
  asks = ap (λ n. headings_of env.headings n v) (at_round env s b h.0) ∙ h.4;
  result = ap (λ n. slot_result (slot_of env.blocks n v)) (at_round env s b h.0) ∙ h.2;
}
use_fits env s entity.Halt h = tt
use_fits env s (entity.Constant of n) h = tt
use_fits env s (entity.Variable b v of) h = tt

-- the arguments fit these parameters
abbrev pub ListFits : Environment → Formals → unit.Arguments → Type 0
ListFits env fs xs = ArgumentsFit env.types env.blocks (headings_of env.headings) (here env) xs fs

pub none_fit : (env : Environment) (fs : Formals) → formals_count fs ≡ 0 → ListFits env fs unit.no_argument
none_fit env no_formal e = tt
none_fit env (value_then t fs) e = absurd (omega (arith, e))
none_fit env (variable_then t fs) e = absurd (omega (arith, e))
none_fit env (procedure_then h fs) e = absurd (omega (arith, e))

pub invoked_fits : (env : Environment) (line : ℕ) (c : Called) (xs : unit.Arguments) → CalledFits env c → is_function c.asks ≡ true
    → ListFits env (heading_formals c.asks) xs
    → TypedFits env (invoked line c xs)
invoked_fits env line c xs k f h = record {
  has_type = ap (λ r. unwrap_or r int_type) k.result;
  fits = (k.callee, subst IsSome (sym k.result) f, subst (λ asks. ListFits env (heading_formals asks) xs) (sym k.asks) h);
}

-- ---- a name alone

used_alone_fits : (env : Environment) → Sits env → (line : ℕ) (u : Use) (means : Entity) → UseFits env u → EntitySits env means
    → Gives (TypedFits env) (used_alone env line u means)
used_alone_fits env s line (constructs of) means u h = empty_fits env line of u
used_alone_fits env s line (calls c) means u h =
    ruled (TypedFits env) (is_function c.asks && takes_so_many c.asks 0) kind.Call line _ (λ e.
    let p = and_parts (is_function c.asks) (takes_so_many c.asks 0) e in
    invoked_fits env line c unit.no_argument u p.0 (none_fit env (heading_formals c.asks) (eqb-true (formals_count (heading_formals c.asks)) 0 p.1)))
used_alone_fits env s line halts means u h = tt
used_alone_fits env s line neither (entity.Constant of n) u h = record { has_type = refl; fits = h }
used_alone_fits env s line neither (entity.Variable b v of) u h =
    bind (RootedFits env) (TypedFits env) (as_variable env line (entity.Variable b v of)) (λ r. gives (rooted_value r))
    (as_variable_fits env s line (entity.Variable b v of) h) (λ r k. rooted_value_fits env r k)
used_alone_fits env s line neither (entity.Types t) u h = tt
used_alone_fits env s line neither (entity.Procedure b) u h = tt
used_alone_fits env s line neither (entity.Formal b v shape) u h = tt
used_alone_fits env s line neither entity.Halt u h = tt

pub alone_fits : (env : Environment) → Sits env → (name : Name) → Gives (TypedFits env) (alone env name)
alone_fits env s name =
    bind (EntitySits env) (TypedFits env) (look_up env name) _ (look_up_sits env s name) (λ means h.
    used_alone_fits env s name.line (use_of env means) means (use_fits env s means h) h)

-- ---- arguments

-- the argument fits the first of these parameters
abbrev pub ArgumentFits : Environment → Formals → unit.Argument → Type 0
ArgumentFits env fs a = (xs : unit.Arguments) → ListFits env (rest_of fs) xs → ListFits env fs (unit.argument_then a xs)

variable_argument_fits : (env : Environment) (line of : ℕ) (fs : Formals) (is_alone : Bool) (x : unit.Expression) (has : ℕ)
    → expression_type env.types env.blocks (here env) x ≡ has
    → ExpressionFits env.types env.blocks (headings_of env.headings) (here env) x
    → Gives (ArgumentFits env (variable_then of fs)) (variable_argument line of is_alone x has)
variable_argument_fits env line of fs true (unit.load p) has t f =
    ruled (ArgumentFits env (variable_then of fs)) (has == of) kind.Call line _ (λ e xs rest. (t ∙ eqb-true has of e, f, rest))
variable_argument_fits env line of fs true (unit.constant u n) has t f = tt
variable_argument_fits env line of fs true (unit.not_of x) has t f = tt
variable_argument_fits env line of fs true (unit.sign_of x l) has t f = tt
variable_argument_fits env line of fs true (unit.chain x ls) has t f = tt
variable_argument_fits env line of fs true (unit.make u es l) has t f = tt
variable_argument_fits env line of fs true (unit.convert u x l) has t f = tt
variable_argument_fits env line of fs true (unit.apply_of c xs l) has t f = tt
variable_argument_fits env line of fs false x has t f = tt

passed_fits : (env : Environment) (line : ℕ) (asked : Heading) (fs : Formals) (u : Use) → UseFits env u → Gives (ArgumentFits env (procedure_then asked fs))
    (passed line asked u)
passed_fits env line asked fs (calls c) u =
    ruled (ArgumentFits env (procedure_then asked fs)) (same_heading c.asks asked) kind.Call line _
    (λ e xs rest. (u.asks ∙ same_heading_is c.asks asked e, u.callee, rest))
passed_fits env line asked fs (constructs of) u = tt
passed_fits env line asked fs halts u = tt
passed_fits env line asked fs neither u = tt

procedure_argument_fits : (env : Environment) → Sits env → (line : ℕ) (asked : Heading) (fs : Formals) (o : Option Name) (judged : Judged Typed)
    → Gives (ArgumentFits env (procedure_then asked fs)) (procedure_argument env line asked o judged)
procedure_argument_fits env s line asked fs (Some name) judged =
    bind (EntitySits env) (ArgumentFits env (procedure_then asked fs)) (look_up env name) _ (look_up_sits env s name) (λ means h.
    passed_fits env line asked fs (use_of env means) (use_fits env s means h))
procedure_argument_fits env s line asked fs None judged = behind (ArgumentFits env (procedure_then asked fs)) judged _ (λ _. tt)

pub argument_fits : (env : Environment) → Sits env → (line : ℕ) (e : text.Expr) (judged : Judged Typed) (fs : Formals) → Gives (TypedFits env) judged
    → Gives (ArgumentFits env fs) (argument env line e judged fs)
argument_fits env s line e judged no_formal h = tt
argument_fits env s line e judged (value_then of fs) h =
    bind (TypedFits env) (ArgumentFits env (value_then of fs)) judged _ h (λ v k.
    ruled (ArgumentFits env (value_then of fs)) (v.of == of) kind.Call line _ (λ e xs rest. (k.has_type ∙ eqb-true v.of of e, k.fits, rest)))
argument_fits env s line e judged (variable_then of fs) h =
    bind (TypedFits env) (ArgumentFits env (variable_then of fs)) judged _ h (λ v k.
    variable_argument_fits env line of fs (is_variable_alone e) v.what v.of k.has_type k.fits)
argument_fits env s line e judged (procedure_then asked fs) h = procedure_argument_fits env s line asked fs (name_alone e) judged

-- one parameter fewer
pub rest_count : (fs : Formals) (n : ℕ) → formals_count fs ≡ suc n → formals_count (rest_of fs) ≡ n
rest_count no_formal n e = absurd (omega (arith, e))
rest_count (value_then t fs) n e = omega (arith, e)
rest_count (variable_then t fs) n e = omega (arith, e)
rest_count (procedure_then h fs) n e = omega (arith, e)
